pub mod Read
pub mod Alike
pub mod Rows
pub mod Privacy
pub mod Unread
pub mod Pair
