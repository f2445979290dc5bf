use Rattle.balance.proofs.Adding.{added_none, add_asks, added_more}
use Rattle.balance.proofs.balances.Balances.add_amounts.Goals as goal

pub loop-k-init : goal.loop-k-init
loop-k-init c = record { from = added_none; to = added_none }

pub add_at-requires : goal.add_at-requires
add_at-requires c = add_asks c.requires.from c.loop-k-test.true c.loop-k.invariant.from c.link-link.ensures.from c.amount_at-amount.ensures

pub add_at-requires-in-loop-k : goal.add_at-requires-in-loop-k
add_at-requires-in-loop-k c = add_asks c.requires.to c.loop-k-test.true c.loop-k.invariant.to c.link-link.ensures.to c.amount_at-amount.ensures

pub loop-k-preserved : goal.loop-k-preserved
loop-k-preserved c =
    let link = c.link-link.ensures in
    let amount = c.amount_at-amount.ensures in
    record {
      from = added_more (c.requires.from.within c.loop-k.k c.loop-k-test.true) c.loop-k.invariant.from link.from amount c.add_at.ensures;
      to = added_more (c.requires.to.within c.loop-k.k c.loop-k-test.true) c.loop-k.invariant.to link.to amount c.add_at-in-loop-k.ensures;
    }
