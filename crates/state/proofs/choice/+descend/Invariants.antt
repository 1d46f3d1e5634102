use Rattle.state.proofs.choice.+descend.Given as goal

-- the measure is the steps that are left
abbrev pub decreases-descend : goal.decreases-descend
decreases-descend l = l.depth
