pub mod FetchReads
