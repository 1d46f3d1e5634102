-- What the exported functions promise: a tree as words, the answers as numbers, and what each call promises; apart from these, a file that comes in bursts.
pub mod Words
pub mod Numbers
pub mod Promises
pub mod Bursts
