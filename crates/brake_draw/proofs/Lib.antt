mod FirstSteps
mod Drawing
