mod Parts
mod Rounds
mod Closings
