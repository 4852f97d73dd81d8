-- What the measured loop's proof cites.
pub mod Loop
