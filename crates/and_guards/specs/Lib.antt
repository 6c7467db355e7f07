pub use Rattle.and_branch_laws.specs.Goals
pub mod Guards
pub mod Sides
