-- What the waves change, as the code has it.
use Rattle.std.specs.Prelude.{◌≡◌}
use Rattle.flow.specs.declared.drains.Queue.{Queue}
use Rattle.flow.specs.declared.tides.Tide.{Tide}

-- the four lists stand where they stood
abbrev pub SameTide : Tide → Tide → Type 0
SameTide a b =
    (b.amounts.ghost_name ≡ a.amounts.ghost_name) × (b.excess.ghost_name ≡ a.excess.ghost_name) × (b.lack.ghost_name ≡ a.lack.ghost_name)
    × (b.ways.ghost_name ≡ a.ways.ghost_name)

-- the queue is of as many groups, and its two lists stand where they stood
abbrev pub SameQueue : Queue → Queue → Type 0
SameQueue a b = (b.n ≡ a.n) × (b.t.ghost_name ≡ a.t.ghost_name) × (b.order.ghost_name ≡ a.order.ghost_name)
