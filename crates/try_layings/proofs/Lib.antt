mod Ordering
mod Pairs
