pub mod Numerals
pub mod Handles
pub mod HexTexts
pub mod HexNumbers
pub mod Ipv6
pub mod Mac
pub mod Inverse
