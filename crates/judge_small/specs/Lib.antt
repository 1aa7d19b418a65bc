pub mod Printed
pub mod Located
pub mod Internal
