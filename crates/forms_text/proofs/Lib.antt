pub mod Readable
mod Written
mod WrittenJson
pub mod ReadJson
mod ReadableValues
pub mod ShownReadable
mod Texts
mod Unread
mod Floats
mod Alike
mod MadeAgain
