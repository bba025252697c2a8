-- how the numbers of a script are read
pub mod Scan
-- what is read from the front of a text
pub mod Words
-- the lines of a script
pub mod Lines
-- what the programs that play load and stream calls read and print
pub mod Session
