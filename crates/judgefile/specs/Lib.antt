-- What the function for hosts in C promises.
pub mod Promises
