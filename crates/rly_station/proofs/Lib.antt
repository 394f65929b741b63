pub mod CountedWorkers
pub mod LinesApart
