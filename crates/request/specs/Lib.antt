-- The rules of the transfer request.
pub mod Request
