mod Bounds
mod Words
