-- A list of groups, as admission reads it.
use Rattle.std.specs.Prelude.{ℕ}
use Rattle.survey.specs.Survey.{Group, Survey}
use Rattle.survey.specs.Words.{group_at, up_to}
use Rattle.admit.specs.declared.lists.GroupList.{GroupList}

-- the groups of a list, and nothing past them
unfoldable pub group_in : GroupList → ℕ → Group
group_in list = up_to list.n (record { dead = 0; live = 0 }) (group_at list.entries.bytes.now list.entries.stand)

-- The survey that has these groups and no link, for what is said of groups alone.
abbrev pub groups_in : GroupList → Survey
groups_in list = record { n = list.n; e = 0; group = group_in list; link = λ k. record { from = 0; to = 0 } }
