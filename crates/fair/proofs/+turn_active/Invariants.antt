use Rattle.fair.proofs.+turn_active.Given as goal

abbrev pub decreases-turn_active : goal.decreases-turn_active
decreases-turn_active l = l.class
