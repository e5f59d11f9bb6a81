-- sizes, pages and bytes
pub mod Limits
pub mod Layout
pub mod Tests
pub mod Memory
pub mod Statistics
-- features and queues; what the status and features are refused for
pub mod Features
pub mod Queues
pub mod FirstRefusal
pub mod Status
-- what guests are asked to give
pub mod Targets
