pub mod OwnVariables
