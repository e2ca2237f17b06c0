pub mod Order
pub mod Unknown
pub mod FirstVersion
pub mod Loose
pub mod Norm
pub mod Rewriting
