-- The vocabulary that definitions are written in. All of it is to be believed; its laws stand in proofs/.
pub mod Loop
pub mod Lists
pub mod Refusal
pub mod Ring
-- words of inner contracts
pub mod Inner
