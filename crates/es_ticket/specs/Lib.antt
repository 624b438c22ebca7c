pub mod NoTable
pub mod Numbered
pub mod Views
pub mod Stakes
pub mod Owned
