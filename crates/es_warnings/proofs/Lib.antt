mod Examples
mod Noting
mod Telling
