-- The laws of the waves, each file leaning on those above it.
pub mod SumLaws
pub mod LinkLaws
-- Chains.
pub mod ChainLaws
-- The working copy of the links and amounts.
pub mod CopyLaws
-- Ways as rows of bits.
pub mod WayLaws
-- The set that drains.
pub mod FirstMarks
pub mod JoinLaws
pub mod GrowLaws
pub mod DrainLaws
-- Sends and waves.
pub mod BoundLaws
pub mod SendLaws
pub mod SafeLaws
pub mod FlowLaws
pub mod ApartLaws
pub mod WaveLaws
pub mod TideLaws
pub mod HeavyLaws
