-- `text::Page::put_named` meets its contract. The word, and then the number. Assumes nothing.
use native.Mathlib.Omega.{arith}
use Rattle.printing.proofs.DecimalLaws.{decimal_short}
use Rattle.printing.proofs.PutLaws.{puts_then}
use Rattle.printing.proofs.text.Page.put_named.Goals as goal

pub returns : goal.returns
returns c = record {
  puts = puts_then c.put_text.ensures c.put_decimal.ensures;
  short = omega (arith, c.put_text.ensures.end, c.put_decimal.ensures.end, decimal_short c.args.x c.ranges.x.fits);
}
