-- `Scratch` has what a set asks of its places, `Buffer` what the contracts cite, `Holding` what a user's invariant is. Assumes nothing.
pub mod Scratch
pub mod Buffer
pub mod Holding
