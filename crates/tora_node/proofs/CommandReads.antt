-- The reads of commands.
use Rattle.std.proofs.Common.{◌≡◌, ◌⊎◌, inl, inr, ℕ, ◌+◌, List, [], ◌∷◌, Option, Some, None, Result, Ok, Err, refl}
use Rattle.tora_lane.specs.Ports.{InEnd}
use Rattle.tora_lines.specs.Reads.{Given, AreReads, HasRead}
use Rattle.tora_lines.proofs.ReadLaws.{nothing_read, read_more}
use Rattle.tora_node.specs.declared.commands.CommandsEnd.{CommandsEnd}
use Rattle.tora_node.specs.declared.commands.CommandsEnd.TheVariants as Ends
use Rattle.tora_node.specs.declared.commands.Line.{Line}
use Rattle.tora_node.specs.CommandRuns.{AreReadBy}
use Rattle.tora_node.specs.CommandSteps.{PutsAll, ReadsOnce}

-- some reads lead from one reader to another, and none failed
abbrev pub HaveRead : {R : Type 0} → (R → Given → R → Type 0) → R → R → Type 0
HaveRead did_read old new = (count : ℕ) × HasRead did_read old new count

pub none_read : {R : Type 0} (did_read : R → Given → R → Type 0) (old : R) → HaveRead did_read old old
none_read did_read old = (0, nothing_read did_read old)

pub read_once : {R : Type 0} (did_read : R → Given → R → Type 0) (old before new : R) (n : ℕ) → HaveRead did_read old before → ReadsOnce did_read before new (Ok n) → HaveRead did_read old new
read_once did_read old before new n h call = (h.0 + 1, read_more did_read old before new h.0 call.0 h.1 call.1 call.2)

-- a line is quit, or the port returned Gone
pub read_to_line : {R : Type 0} (did_read : R → Given → R → Type 0) (old before new : R) (n : ℕ) {C : Type 0} (tell : C → ℕ → C → Type 0) (text chunk : List ℕ) (mid after : InEnd × C) (next : Line) (end : CommandsEnd)
    → HaveRead did_read old before → ReadsOnce did_read before new (Ok n) → PutsAll tell text chunk mid after next (Some end) → AreReadBy did_read old new end
read_to_line did_read old before new n tell text chunk mid after next Ends.Quit h call p = let r = (read_once did_read old before new n h call).1 in (r.reads, r.are, r.none)
read_to_line did_read old before new n tell text chunk mid after next Ends.End h call p = absurd p
read_to_line did_read old before new n tell text chunk mid after next Ends.Read h call p = absurd p
read_to_line did_read old before new n tell text chunk mid after next Ends.Gone h call p = let r = (read_once did_read old before new n h call).1 in (r.reads, r.are, inl r.none)

-- the last read gave nothing, or failed
pub read_to_end : {R : Type 0} (did_read : R → Given → R → Type 0) (old before new : R) (end : CommandsEnd) → HaveRead did_read old before → ReadsOnce did_read before new (Err end) → AreReadBy did_read old new end
read_to_end did_read old before new Ends.Quit h call = absurd call
read_to_end did_read old before new Ends.End h call = (Ok [] ∷ h.1.reads, (before, h.1.are, call), (h.1.reads, refl, h.1.none))
read_to_end did_read old before new Ends.Read h call = (Err call.0 ∷ h.1.reads, (before, h.1.are, call.1), (call.0, h.1.reads, refl, call.2, h.1.none))
read_to_end did_read old before new Ends.Gone h call = absurd call

-- after the last read the port returned Gone
pub read_to_gone : {R : Type 0} (did_read : R → Given → R → Type 0) (old before new : R) (end : CommandsEnd) → HaveRead did_read old before → ReadsOnce did_read before new (Err end) → AreReadBy did_read old new Ends.Gone
read_to_gone did_read old before new Ends.Quit h call = absurd call
read_to_gone did_read old before new Ends.End h call = (Ok [] ∷ h.1.reads, (before, h.1.are, call), inl (tt, h.1.none))
read_to_gone did_read old before new Ends.Read h call = (Err call.0 ∷ h.1.reads, (before, h.1.are, call.1), inr (call.0, h.1.reads, refl, call.2, h.1.none))
read_to_gone did_read old before new Ends.Gone h call = absurd call
