-- Lines cut out of input that comes in pieces.
pub mod Input
