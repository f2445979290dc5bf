-- A list of links, as the cycle test reads it.
use Rattle.std.specs.Prelude.{ℕ, ◌≤◌}
use Rattle.std.specs.Coded.{le_prop}
use mathlib.Core.HLevel.{⊥_prop}
use Rattle.survey.specs.Limits.{group_limit, link_limit}
use Rattle.survey.specs.Survey.{Link, Survey}
use Rattle.survey.specs.Words.{link_at, up_to}
use Rattle.survey.specs.Refusals.{Fault, Clear}
use Rattle.survey.specs.Faults.{bad_end, bad_order}
use Rattle.cycles.specs.declared.lists.LinkList.{LinkList}

-- the links of a list, and nothing past them
unfoldable pub link_in : LinkList → ℕ → Link
link_in list = up_to list.e (record { from = 0; to = 0 }) (link_at list.entries.bytes.now list.entries.stand)

-- The survey that has these links and empty groups, for what is said of links alone.
abbrev pub links_in : LinkList → Survey
links_in list = record { n = list.n; e = list.e; group = λ g. record { dead = 0; live = 0 }; link = link_in list }

-- What the cycle test leans on: the sizes are in range, and rows 9 and 10 are clear.
pub record LinksHold (list : LinkList) : Type 0 where
  pub groups : list.n ≤ group_limit
  pub links : list.e ≤ link_limit
  pub ends : Clear (bad_end (links_in list))
  pub order : Clear (bad_order (links_in list))

-- That can be so in one way.
clear_prop : (f : Fault) → IsProp (Clear f)
clear_prop f = λ a b i. record { none = λ k l h. ⊥_prop (a.none k l h) (b.none k l h) i }

pub links_hold_prop : (list : LinkList) → IsProp (LinksHold list)
links_hold_prop list =
    λ a b i. record {
      groups = le_prop a.groups b.groups i;
      links = le_prop a.links b.links i;
      ends = clear_prop _ a.ends b.ends i;
      order = clear_prop _ a.order b.order i;
    }
