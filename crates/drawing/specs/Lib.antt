-- The definitions of `drawing`: what each pixel of a picture chooses, the pictures that the code draws, which candidates its pixels took, what its steps
-- promise, and the drawn picture at full precision.
pub mod Drawing
pub mod Lent
pub mod Positions
pub mod Turns
pub mod Finished
