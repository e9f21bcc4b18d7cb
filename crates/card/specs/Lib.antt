pub mod Card
pub mod CardLaws
pub mod Read
pub mod ReadLaws
