pub mod CallerLemmas
mod Held
mod Looked
mod Places
