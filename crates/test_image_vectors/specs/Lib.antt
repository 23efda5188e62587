-- `Said` has what is said of images, `Vector` where a vector leads. Assumes nothing.
pub mod Said
pub mod Vector
