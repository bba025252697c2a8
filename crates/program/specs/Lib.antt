-- The program on values: the rooms and what they hold, the calls, and lists of calls; what is said of them. All of it is to be believed.
pub mod Rooms
pub mod Lent
pub mod Calls
pub mod Session
pub mod Keeping
pub mod Played
pub mod Loud
pub mod Habit
pub mod Examples
