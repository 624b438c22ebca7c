pub mod Holding
pub mod Looking
pub mod Ports
pub mod Totals
pub mod Counts
pub mod Registered
pub mod Tallies
pub mod LedgerTotals
