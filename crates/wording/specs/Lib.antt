pub mod Letters
pub mod Words
pub mod Numbers
pub mod Decimal
pub mod Theorems
