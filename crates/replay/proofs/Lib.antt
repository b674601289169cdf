pub mod Tombstones
pub mod Listings
pub mod Searches
pub mod Choices
pub mod Starts
pub mod Orders
pub mod Examples
pub mod Only
