pub mod JournalFolds
pub mod Made
