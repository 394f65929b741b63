pub mod PairSteps
pub mod HelpersStation
