pub mod Catalogue
pub mod Remainder
pub mod Table
