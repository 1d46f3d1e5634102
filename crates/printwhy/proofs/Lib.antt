pub mod One
pub mod WhyBack
pub mod WhyLineOne
