pub mod Slots
pub mod Bodies
pub mod Places
pub mod Borders
pub mod Numbers
pub mod Ordered
pub mod SlotTables
