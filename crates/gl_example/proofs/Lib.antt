mod Sounds
mod Pushes
