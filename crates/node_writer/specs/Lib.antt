-- `Images` has what the writer of an image is asked and leaves. Assumes nothing.
pub mod Images
