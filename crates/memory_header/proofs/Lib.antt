-- `Numbers`, `HeaderBytes`: what is written is read back; `HeaderFacts`: what a sound header tells; `Opening`: what opening
-- answers. Assumes nothing.
pub mod Numbers
pub mod HeaderBytes
pub mod HeaderFacts
pub mod Opening
