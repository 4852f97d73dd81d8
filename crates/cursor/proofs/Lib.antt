-- Laws of the cursor that this crate and its callers use.
pub mod Cases
pub mod Clear
