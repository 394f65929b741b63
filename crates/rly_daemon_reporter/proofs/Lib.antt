pub mod Dues
pub mod LastSeat
