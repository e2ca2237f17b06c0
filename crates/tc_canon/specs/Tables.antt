-- The tables of attributes: types, words and classes of value. A comment next to a row names its attributes in order.
-- The operator of a row says how its word is written: `at` and `from` write the type itself, `nested` the type with
-- the nested flag.
pub mod Statistics
pub mod Actions
pub mod Flower
pub mod Options
pub mod Messages
