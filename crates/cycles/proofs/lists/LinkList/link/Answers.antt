-- `cycles::lists::LinkList::link` meets its contract. What stands at the place of link k. Assumes nothing.
use Rattle.cycles.proofs.ListLaws.{link_in_lem}
use native.Mathlib.Omega.{arith}
use Rattle.cycles.proofs.lists.LinkList.link.Goals as goal

pub link-requires : goal.link-requires
link-requires c = c.args.self.fit _ (omega (arith, c.requires))

pub returns : goal.returns
returns c = rw (link_in_lem c.args.self _ c.requires) c.link.ensures
