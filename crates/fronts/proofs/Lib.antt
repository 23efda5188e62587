-- Laws of masks, of fronts on the stack, of those of the root and of a child, of bytes within fronts, and of reading ahead. Assumes
-- nothing.
pub mod MaskLaws
pub mod Fronts
pub mod RootFronts
pub mod WithinLaws
pub mod MarkLaws
pub mod NextFronts
pub mod AheadLaws
