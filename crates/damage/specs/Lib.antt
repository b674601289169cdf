pub mod Log
pub mod Damage
pub mod Newest
pub mod Small
pub mod Torn
pub mod Examples
pub mod Stretches
