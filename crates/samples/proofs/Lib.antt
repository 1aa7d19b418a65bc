pub mod Worked
pub mod Starred
pub mod Later
pub mod Mapped
