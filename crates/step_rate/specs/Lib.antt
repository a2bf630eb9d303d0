pub mod StepRate
