pub mod Grammar
pub mod Claims
pub mod Places
