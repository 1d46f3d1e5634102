use Rattle.fair.proofs.+raise_from.Given as goal

abbrev pub decreases-raise_from : goal.decreases-raise_from
decreases-raise_from l = l.class
