pub mod ForkedTrees
