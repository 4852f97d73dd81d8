-- Laws for whoever calls from C.
pub mod Laws
