-- `flow::drains::Queue::grow` meets its contract: who begins it is taken out of all, and then it grows. Assumes nothing.
use native.Mathlib.Omega.{arith}
use Rattle.bits.proofs.BitLaws.{full_bit}
use Rattle.flow.proofs.JoinLaws.{placed_most}
use Rattle.flow.proofs.GrowLaws.{others_begun}
use Rattle.flow.proofs.drains.Queue.grow.Goals as goal

pub others_of-requires : goal.others_of-requires
others_of-requires c = record {
  few = omega (arith, placed_most c.requires.placed, c.requires.few);
  order_long = omega (arith, placed_most c.requires.placed, c.requires.order_long);
  group = λ i h. omega (arith, c.requires.placed.group i h, c.requires.few);
  room = omega arith;
}

pub grow_into-requires : goal.grow_into-requires
grow_into-requires c = record {
  growable = c.requires;
  who = others_begun c.requires.few c.requires.placed full_bit c.others_of.ensures;
  room = omega
      (arith, c.others_of.ensures.long);
}
