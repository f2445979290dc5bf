-- What stands at a place of a list of groups.
use Prim.Native.Nat.{ℕ, ◌<◌}
use mathlib.Core.Path.{◌≡◌}
use borrow.Author.Tests.{lt-ltb}
use Rattle.survey.specs.Words.{group_at}
use Rattle.admit.specs.declared.lists.GroupList.{GroupList}
use Rattle.admit.specs.Groups.{group_in}

pub group_in_lem : (list : GroupList) (g : ℕ) → g < list.n → group_in list g ≡ group_at list.entries.bytes.now list.entries.stand g
unfolding group_in
group_in_lem list g h = rw (lt-ltb g list.n h)
