pub mod Table
pub mod Sample
