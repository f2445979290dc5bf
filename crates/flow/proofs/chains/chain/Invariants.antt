-- `flow::chains::chain` meets its contract. The invariant: the links from k on are in their chains. Assumes nothing.
use Rattle.flow.specs.Copies.{end_in}
use Rattle.flow.proofs.ChainLaws.{Chaining}
use Rattle.flow.proofs.chains.chain.Given as goal

abbrev pub invariant-loop-k : goal.invariant-loop-k
invariant-loop-k l = Chaining l.n l.e l.end (end_in l.ends l.end) l.initial.chains l.k l.chains
