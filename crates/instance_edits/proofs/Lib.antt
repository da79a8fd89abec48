mod Pairs
mod Numbers
mod Lines
mod Unique
mod Known
mod Steps
mod Changes
mod ExampleTexts
