-- Laws that the functions' proofs cite.
pub mod Scanning
pub mod Lists
pub mod Phones
pub mod Reading
