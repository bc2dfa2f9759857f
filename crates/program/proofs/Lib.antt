pub mod Closing
mod Falling
mod Nearness
mod FallingThrough
mod Fits
mod Formed
mod Forming
mod Judging
mod Keeping
mod Lining
mod Naming
mod NearNames
mod Oks
mod Rooms
mod Standing
mod Steps
mod Texts
