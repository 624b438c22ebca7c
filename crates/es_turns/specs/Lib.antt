pub mod Faults
pub mod Answer
pub mod Failing
pub mod Lines
pub mod Told
pub mod Known
pub mod Tracing
