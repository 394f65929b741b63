pub mod ShelfCalls
pub mod Wanted
