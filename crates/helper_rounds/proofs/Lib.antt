mod Writing
mod Fit
mod Turns
