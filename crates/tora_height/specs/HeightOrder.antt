-- The order of heights and of reference levels, and the direction of a link.
use Rattle.std.specs.Prelude.{◌≡◌, ◌<ℤ◌, ◌<◌, ◌⊎◌, Option, None, Some}
use Rattle.std.specs.Ordering.{nat_cmp, int_cmp, ordering_then}
use Rattle.std.specs.declared.cmp.Ordering.{Ordering}
use Rattle.std.specs.declared.cmp.Ordering.TheVariants.{Less, Equal, Greater}
use Rattle.tora_height.specs.declared.level.Level.{Level}
use Rattle.tora_height.specs.declared.direction.Direction.{Direction}
use Rattle.tora_height.specs.declared.direction.Direction.TheVariants as Link
use Rattle.tora_height.specs.Height.{Quintuple, level_of}

-- levels are compared by time, then originator, then reflection bit
abbrev pub IsLowerLevel : Level → Level → Type 0
IsLowerLevel a b =
    (a.tau < b.tau)
    ⊎ ((a.tau ≡ b.tau) × (a.oid < b.oid))
    ⊎ ((a.tau ≡ b.tau) × (a.oid ≡ b.oid) × (a.r < b.r))

-- heights are compared by level, then delta, then node
abbrev pub IsLower : Quintuple → Quintuple → Type 0
IsLower a b =
    IsLowerLevel (level_of a) (level_of b)
    ⊎ ((level_of a ≡ level_of b) × (a.delta <ℤ b.delta))
    ⊎ ((level_of a ≡ level_of b) × (a.delta ≡ b.delta) × (a.id < b.id))

-- the order of levels, computed part by part
abbrev pub level_cmp : Level → Level → Ordering
level_cmp a b = ordering_then (nat_cmp a.tau b.tau) (ordering_then (nat_cmp a.oid b.oid) (nat_cmp a.r b.r))

-- the order of heights, computed part by part
abbrev pub height_cmp : Quintuple → Quintuple → Ordering
height_cmp a b =
    ordering_then (nat_cmp a.tau b.tau)
    (ordering_then (nat_cmp a.oid b.oid)
    (ordering_then (nat_cmp a.r b.r)
    (ordering_then (int_cmp a.delta b.delta) (nat_cmp a.id b.id))))

-- the direction of a link, by how the neighbour's height compares to the own height
abbrev pub direction_by : Ordering → Direction
direction_by Less = Link.Down
direction_by Equal = Link.Undirected
direction_by Greater = Link.Up

-- the direction of a link, from the own height and the neighbour's entry; either may be NULL
abbrev pub link_status : Option Quintuple → Option Quintuple → Direction
link_status own None = Link.Undirected
link_status None (Some entry) = Link.Down
link_status (Some own) (Some entry) = direction_by (height_cmp entry own)
