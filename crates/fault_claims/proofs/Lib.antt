pub mod CardNamed
pub mod CardRefused
pub mod CardRun
pub mod FigureRules
pub mod Forms
pub mod Reading
pub mod RecordNamed
pub mod Says
