-- What each call promises, what the state's readers answer, and runs of calls.
pub mod Promises
pub mod Asked
pub mod Runs
-- What the inner steps promise one another: no public promise cites these.
pub mod StepsArriving
pub mod StepsDeparting
