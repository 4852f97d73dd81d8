-- The owner's demands, one file each, a tick by the rules, the calls that they speak of, and the totals as counts.
pub mod Asked
pub mod Demand1
pub mod ByTheRules
pub mod Demand2
pub mod Demand3
pub mod Counted
