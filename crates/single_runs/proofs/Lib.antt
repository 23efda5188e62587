-- Laws of steps, and of runs without and with a suffix. Assumes nothing.
pub mod StepLaws
pub mod RunLaws
pub mod SingleLaws
