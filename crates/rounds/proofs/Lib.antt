-- silence_weighting: laws that the proofs of several functions cite.
pub mod SilenceRefusals
pub mod Tables
pub mod Walk
pub mod Phones
pub mod Marks
pub mod Calls
pub mod Chained
-- nearest_voice: `Patterns`: which bits are finite, and may become floats. `Order`: no distance is a NaN, and how distances compare. `Least`: the least of them, found turn by turn. `Nearest`: the theorems that every other voice is at least as far, and what each answer says.
pub mod Patterns
pub mod VoiceRefusals
pub mod Least
pub mod Order
pub mod Nearest
-- trigger_steps: the laws that the proofs of the functions cite, here and of the round.
mod Frames
pub mod Steps
