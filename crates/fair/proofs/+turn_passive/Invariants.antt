use Rattle.fair.proofs.+turn_passive.Given as goal

abbrev pub decreases-turn_passive : goal.decreases-turn_passive
decreases-turn_passive l = l.class
