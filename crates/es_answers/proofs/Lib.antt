mod Each
mod Traced
mod Rows
