-- What `store` leaves.
pub mod Store
