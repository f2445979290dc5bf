-- What stands at a place of a list of links, and that the ends of links that hold are groups.
use Prim.Native.Nat.{ℕ, ◌<◌}
use mathlib.Core.Path.{◌≡◌}
use borrow.Author.Tests.{lt-ltb}
use Rattle.survey.specs.Words.{link_at}
use Rattle.survey.specs.Sound.{Inside}
use Rattle.cycles.specs.declared.lists.LinkList.{LinkList}
use Rattle.cycles.specs.Lists.{link_in, links_in, LinksHold}
use Rattle.cycles.proofs.Into.{inside}

pub link_in_lem : (list : LinkList) (k : ℕ) → k < list.e → link_in list k ≡ link_at list.entries.bytes.now list.entries.stand k
unfolding link_in
link_in_lem list k h = rw (lt-ltb k list.e h)

pub ends_inside : {list : LinkList} → LinksHold list → Inside (links_in list)
ends_inside {list} h = inside (links_in list) h.ends
