mod WrittenLines
mod Counted
mod Agreed
mod Traced
