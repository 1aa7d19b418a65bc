-- What is known of the rules by their numbers.
pub mod Laws
