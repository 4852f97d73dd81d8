-- The register file by value.
-- The register map: what stands at each word address, and the rules of each place.
pub mod File
pub mod Map
