-- `text::Page::put_text` meets its contract. The text is copied to its place. Assumes nothing.
use mathlib.Core.Path.{refl}
use Rattle.printing.proofs.PutLaws.{written_part, puts_written}
use Rattle.printing.proofs.text.Page.put_text.Goals as goal

pub returns : goal.returns
returns c = puts_written refl c.requires refl
    (rw c.copy_from_slice.ensures.after (written_part c.args.self.now.out.now c.args.self.now.at c.args.text.now c.requires))
