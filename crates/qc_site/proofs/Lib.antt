mod Accesses
mod GrantFits
mod HeldFits
pub mod OfBytes
pub mod RestoredFit
mod Renewals
pub mod PairRenewals
mod RenewedPair
mod RenewedHalves
mod Rests
mod Faults
mod PairMounts
mod Rows
mod Backs
mod Places
mod Verdicts
pub mod Replicas
mod Again
mod Found
mod Logs
mod Refusals
mod Checkpoints
pub mod Since
pub mod Calls
