pub mod Gates
pub mod CountedDisk
pub mod Program
pub mod Helpers
pub mod FileLook
