pub mod Causes
pub mod Told
pub mod Pieces
pub mod Calls
pub mod Files
pub mod MemShelf
pub mod MemSink
pub mod Examples
