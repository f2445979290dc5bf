-- The laws of the definitions, each file leaning on those above it. docs/MATHEMATICS.md goes through them.
-- Sums over places and over sets.
pub mod SumOrder
pub mod Sums
pub mod Totals
-- Links: no cycle, and ranks.
pub mod Reaching
pub mod Cycles
-- Sets: which are the same, which are eligible, which one is the one.
pub mod SameSets
pub mod Eligible
pub mod Unique
-- The balance rule, and what drains.
pub mod BalanceLaw
pub mod Draining
pub mod BalanceRule
pub mod SameClaims
-- Rounds.
pub mod Rounds
pub mod LastRound
pub mod RoundSets
pub mod RoundCount
-- Refusals: which one is given.
pub mod Verdicts
pub mod Orders
pub mod Small
pub mod Admitted
pub mod FewLinks
pub mod GivenSurvey
pub mod Standing
pub mod SmallAnswers
pub mod AnswersOne
pub mod ReaderOne
-- The drawings, decided by tests that compute.
pub mod Deciding
pub mod AllSets
pub mod SetTests
pub mod ComputedVerdicts
pub mod ClaimTests
pub mod Claims
pub mod ChooserOne
pub mod Drawings
