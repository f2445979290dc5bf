use mathlib.Core.Path.{refl}
use native.Mathlib.Omega.{arith}
use Rattle.flow.proofs.ChainLaws.{chain_more}
use Rattle.flow.proofs.chains.chain.Goals as goal

pub loop-k-preserved : goal.loop-k-preserved
loop-k-preserved c = rw c.end_in.ensures (chain_more c.requires refl (omega arith) c.loop-k.invariant)
