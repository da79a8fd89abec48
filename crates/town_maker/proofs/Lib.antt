mod Rows
mod Drawing
mod Members
mod Corners
mod Facts
mod Ways
mod Soundness
