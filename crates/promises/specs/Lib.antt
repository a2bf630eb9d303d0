pub mod Causes
pub mod Quoted
pub mod Versions
pub mod Strips
pub mod Promises
