-- basics: laws of rows after the functions here, and of a ring's places as code comes to them: for their callers.
pub mod Rows
pub mod Places
-- packed_matrix: laws of packed columns, of sums of rows, and of a room of just n places.
pub mod Packing
pub mod Products
pub mod Rooms
pub mod Square
-- linear: laws of the solver: Cholesky's factor and its two solves, and the conjugate gradient's turns.
pub mod Cells
pub mod Turns
