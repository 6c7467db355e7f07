pub use Rattle.and_step_laws.specs.Runs
pub mod Asked
pub mod Items
pub mod Sides
pub mod Trails
pub mod Writes
