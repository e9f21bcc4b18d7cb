pub mod EntryLoop
