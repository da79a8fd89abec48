pub mod Edits
pub mod Texts
pub mod Laws
pub mod Reading
pub mod Changing
pub mod Examples
