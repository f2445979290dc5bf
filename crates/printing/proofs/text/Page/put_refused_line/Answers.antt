-- `text::Page::put_refused_line` meets its contract. Its parts, one after the other. Assumes nothing.
use Rattle.printing.proofs.PutLaws.{puts_then}
use Rattle.printing.proofs.text.Page.put_refused_line.Goals as goal

pub returns : goal.returns
returns c = puts_then (puts_then c.put_named.ensures.puts (rw c.place_number.ensures at c.put_named-2.ensures.puts)) c.put_byte.ensures
