use native.Mathlib.Omega.{arith}
use mathlib.Core.Path.{◌≡◌}
use Rattle.survey.specs.Words.{marked_set}
use Rattle.printing.proofs.NumberLaws.{numbers_none, numbers_step}
use Rattle.printing.proofs.text.Page.put_numbers.Goals as goal

pub loop-g-init : goal.loop-g-init
loop-g-init c = numbers_none c.args.self.now (marked_set c.args.marks.now) (omega (arith, c.requires.room))

pub loop-g-preserved : goal.loop-g-preserved
loop-g-preserved c = numbers_step (marked_set c.args.marks.now) c.loop-g.g (omega (arith, c.requires.few)) c.loop-g.invariant c.put_number.ensures

pub returns : goal.returns
returns c = let done : c.loop-g.g ≡ c.args.n = omega arith in rw done at c.loop-g.invariant.puts
