pub mod KeptTables
