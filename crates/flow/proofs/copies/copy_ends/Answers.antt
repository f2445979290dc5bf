use mathlib.Core.Path.{◌∙◌}
use native.Mathlib.Omega.{arith}
use Rattle.flow.proofs.LinkLaws.{end_from, end_to}
use Rattle.flow.proofs.CopyLaws.{copied_more}
use Rattle.flow.proofs.copies.copy_ends.Goals as goal

pub overflow_cast-ends : goal.overflow_cast-ends
overflow_cast-ends c = record { fits = omega (arith, c.link-link.ensures.from, end_from c.args.links.now c.loop-k.k, c.requires.from c.loop-k.k c.loop-k-test.true) }

pub overflow_cast-ends-in-loop-k : goal.overflow_cast-ends-in-loop-k
overflow_cast-ends-in-loop-k c = record { fits = omega (arith, c.link-link.ensures.to, end_to c.args.links.now c.loop-k.k, c.requires.to c.loop-k.k c.loop-k-test.true) }

pub loop-k-preserved : goal.loop-k-preserved
loop-k-preserved c = copied_more (omega arith) (c.link-link.ensures.from ∙ end_from _ _) (c.link-link.ensures.to ∙ end_to _ _) c.loop-k.invariant
