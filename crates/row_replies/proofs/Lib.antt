-- `PlaceReplies` has how long replies are, and one place more. Assumes nothing.
pub mod PlaceReplies
