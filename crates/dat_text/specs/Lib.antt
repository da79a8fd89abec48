pub mod DatText
pub mod Lines
pub mod Text
pub mod Reading
pub mod Kinds
pub mod Drafts
pub mod Laws
