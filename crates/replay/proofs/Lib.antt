mod Lines
mod Passed
mod Public
mod Reading
