mod Blanks
mod Owed
