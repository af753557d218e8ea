-- What a mesh of a job promises.
pub mod Jobs
