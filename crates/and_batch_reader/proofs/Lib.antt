mod Judged
mod Asked
