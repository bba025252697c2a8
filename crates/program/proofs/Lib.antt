-- Laws of the rings and of the waiting changes; then the claim over every list of calls: what holds between the program and the keeping
-- machine, that both refuse alike, that each call keeps it, and `keeps`; then what follows of single frames, and of the rooms' lengths.
pub mod Pushed
pub mod WaitingRooms
pub mod InOrder
pub mod Facts
pub mod Waiting
pub mod Sound
pub mod Steps
pub mod Moves
pub mod Fresh
pub mod Returned
pub mod Keeps
pub mod Never18
pub mod Loud
pub mod Quiet
pub mod Habit
pub mod Tight
pub mod Heard
