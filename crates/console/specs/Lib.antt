-- What is promised of files that are read.
pub mod Trees
