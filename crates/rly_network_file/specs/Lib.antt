pub mod Ids
pub mod IdsText
pub mod NetworkText
pub mod Picture
pub mod Written
