-- `flow::heavy::heaviest` meets its contract: what was copied and halved, what the waves left, the marks flipped and the amounts written, by `heavy_law`. Assumes nothing.
use native.Mathlib.Omega.{arith}
use Rattle.flow.proofs.HeavyLaws.{heavy_copyable, heavy_ask, heavy_puttable, heavy_law}
use Rattle.flow.proofs.heavy.heaviest.Goals as goal

pub copy_ends-requires : goal.copy_ends-requires
copy_ends-requires c = heavy_copyable c.requires

pub settle-requires : goal.settle-requires
settle-requires c = heavy_ask c.requires c.copy_ends.ensures c.halve.ensures

pub put_amounts-requires : goal.put_amounts-requires
put_amounts-requires c = heavy_puttable c.requires c.copy_ends.ensures c.halve.ensures (omega arith) c.settle.ensures

pub returns : goal.returns
returns c = heavy_law c.requires c.copy_ends.ensures c.halve.ensures c.settle.ensures c.flip_all.ensures c.put_amounts.ensures
