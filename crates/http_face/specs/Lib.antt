pub mod Heads
pub mod Routes
pub mod Asks
pub mod Replies
pub mod Found
pub mod Table
pub mod Parameters
