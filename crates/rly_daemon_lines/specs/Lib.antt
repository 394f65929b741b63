pub mod Lines
pub mod Grammar
pub mod Text
pub mod PlayedText
pub mod HelpersLineReader
pub mod HelpersOutflow
pub mod HelpersAnswers
pub mod HelpersPlay
