mod Blanks
mod Lines
