-- `text::Page::put_survey_line` meets its contract. Its parts, one after the other. Assumes nothing.
use native.Mathlib.Omega.{arith}
use Rattle.printing.proofs.PutLaws.{puts_then}
use Rattle.printing.proofs.text.Page.put_survey_line.Goals as goal

pub returns : goal.returns
returns c = record { puts = puts_then (puts_then c.put_named.ensures.puts c.put_named-2.ensures.puts) c.put_byte.ensures; short = omega arith }
