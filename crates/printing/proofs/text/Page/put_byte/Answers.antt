-- `text::Page::put_byte` meets its contract. Assumes nothing.
use mathlib.Core.Path.{refl}
use Rattle.printing.proofs.PutLaws.{written_byte, puts_written}
use Rattle.printing.proofs.text.Page.put_byte.Goals as goal

pub returns : goal.returns
returns c = puts_written refl c.requires refl (written_byte c.args.self.now.out.now c.args.self.now.at c.args.byte)
