pub mod Endpoints
pub mod Keys
pub mod Draft
pub mod HelpersDraft
pub mod PathText
pub mod DocumentPaths
