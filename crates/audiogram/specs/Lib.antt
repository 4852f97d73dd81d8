-- An audiogram's picture: each pixel's palette entry, and where the pixels lie.
pub mod Picture
pub mod Places
pub mod Entry
