pub mod Tests
pub mod Chains
pub mod Results
