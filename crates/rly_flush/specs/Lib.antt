pub mod HelpersFlusher
pub mod FlusherHistory
pub mod RoundWatch
