-- What the steps promise to the scheduler and one another: no host's promise cites these.
pub mod Steps
pub mod StepsResting
pub mod StepsWaking
