pub mod Internal
pub mod JudgeFile
pub mod Searches
