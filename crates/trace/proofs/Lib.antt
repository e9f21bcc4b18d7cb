pub mod AskingLaws
pub mod DrawLaws
pub mod FetchLaws
pub mod Opening
pub mod SafeLists
pub mod WaitLaws
