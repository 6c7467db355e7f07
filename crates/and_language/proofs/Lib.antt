pub mod EachClause
pub mod OwnVariables
pub mod Bytes
pub mod WrittenNames
pub mod RuleNames
pub mod NumberedTexts
