mod Uses
mod Turns
mod Ends
mod Said
mod Readings
mod Parses
