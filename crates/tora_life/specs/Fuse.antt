-- A fuse: a number of calls succeed, and then one call fails, or all following calls fail.
use Rattle.std.specs.Prelude.{ℕ, ◌-◌, Bool, false, ◌==◌, if◌then◌else◌, Option, Some, None}
use Rattle.tora_life.specs.declared.fuse.Fuse.{Fuse}
use Rattle.tora_life.specs.declared.fuse.FuseMode.{FuseMode}
use Rattle.tora_life.specs.declared.fuse.FuseMode.TheVariants.{Once, Always}

-- the next call fails; the number says how many calls succeed before, and None means that no call will fail
abbrev pub is_blown_at : Option ℕ → Bool
is_blown_at None = false
is_blown_at (Some n) = n == 0

abbrev pub left_blown : FuseMode → Option ℕ
left_blown Once = None
left_blown Always = Some 0

-- the number of calls that succeed, after the next call
abbrev pub left_after : FuseMode → Option ℕ → Option ℕ
left_after mode None = None
left_after mode (Some n) = if n == 0 then left_blown mode else Some (n - 1)

-- the fuse fails the next call
abbrev pub is_blown : Fuse → Bool
is_blown f = is_blown_at f.left

-- a fuse after the next call
abbrev pub after_call : Fuse → Fuse
after_call f = record f { left = left_after f.mode f.left }
