mod Led
mod Releasing
mod Widening
mod Written
