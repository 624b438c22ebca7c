mod Local
mod Ending
mod Linking
mod Stepping
