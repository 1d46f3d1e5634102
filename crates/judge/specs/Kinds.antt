-- Request 4, "Judge the competitor's box from its log": what a record is found to be, and what a log is judged as.
-- Assumes nothing.
use Rattle.std.specs.Prelude.{Result, Ok}
use Rattle.judge.specs.declared.Flaw.{Flaw}
use Rattle.judge.specs.declared.Rejection.{Rejection}

-- a record is right, or what is wrong with it
abbrev pub Finding : Type 0
Finding = Result Unit Flaw

abbrev pub no_flaw : Finding
no_flaw = Ok tt

-- a log is accepted, or why not
abbrev pub Judgement : Type 0
Judgement = Result Unit Rejection

abbrev pub accepted : Judgement
accepted = Ok tt
