pub mod Words
pub mod Orders
pub mod States
pub mod Text
pub mod Private
