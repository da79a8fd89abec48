pub mod Commands
pub mod Words
pub mod Forms
pub mod Grammar
pub mod Laws
