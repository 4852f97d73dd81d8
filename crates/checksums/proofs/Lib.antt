-- What the nine checksum bytes tell, proved.
mod Totals
mod Followed
pub mod Told
pub mod Bench
