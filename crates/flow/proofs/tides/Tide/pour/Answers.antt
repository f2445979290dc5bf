use native.Mathlib.Omega.{arith}
use Rattle.std.proofs.Common.{rules}
use Rattle.flow.proofs.WaveLaws.{pour_turnable, pour_on, pour_done}
use Rattle.flow.proofs.tides.Tide.pour.Goals as goal

pub turn-sent-requires : goal.turn-sent-requires
turn-sent-requires c = pour_turnable c.requires c.loop-i.invariant.pouring (omega arith) (omega arith)

pub loop-i-preserved : goal.loop-i-preserved
loop-i-preserved c = record { pouring = pour_on c.requires c.loop-i.invariant.pouring (omega arith) (omega arith) c.turn-sent.ensures.turned; same = search rules }

pub returns-clause-poured : goal.returns-clause-poured
returns-clause-poured c = pour_done c.requires (omega arith) c.loop-i.invariant.pouring
