pub mod Grammar
pub mod PartsOf
pub mod RateLimits
pub mod Rates
pub mod Scaled
pub mod Sizes
pub mod Text
