mod Nowhere
mod Files
mod Updates
