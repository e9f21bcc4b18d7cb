pub mod Tracks
pub mod TracksLaws
