use Rattle.std.proofs.Common.{◌≡◌, take}
use Rattle.tora_core.proofs.copies.copied_views.Given as goal

-- the copies so far
abbrev pub invariant-loop-view : goal.invariant-loop-view
invariant-loop-view l = l.copies.items ≡ take l.view-index l.views
