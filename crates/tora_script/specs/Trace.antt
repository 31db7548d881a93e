-- The state of a trace between two events, and the effect of each event.
use Rattle.std.specs.Prelude.{◌≡◌, ℕ, ◌+◌, ◌==◌, ◌&&◌, Bool, true, false, if◌then◌else◌, List, [], ◌∷◌, ◌++◌, map}
use Rattle.std.specs.Prelude.{filter_map, fold, slice_get, slice_set, Option, Some, None}
use Rattle.std.specs.List.{position}
use Rattle.tora_frame.specs.declared.parts.Body.{Body}
use Rattle.tora_frame.specs.declared.parts.Body.TheVariants.{Hello, Data, Ack}
use Rattle.tora_script.specs.declared.trace.counts.FrameCounts.{FrameCounts}
use Rattle.tora_script.specs.TraceRecords.{frames_record}
use Rattle.tora_core.specs.declared.erasure.Erasure.{Erasure}
use Rattle.tora_core.specs.declared.errors.CoreError.{CoreError}
use Rattle.tora_script.specs.CoreCopies.{CopyState, Told, copy_refusal, first_copy, copy_restarted, restart_records}

pub record TraceState : Type 0 where
  pub copies : List CopyState  -- a copy of each node's core
  pub counts : FrameCounts  -- the counts of datagrams since the last record of them
  pub text : List ℕ  -- the records that the caller has not taken yet

-- ---- datagrams

abbrev pub no_frames : FrameCounts
no_frames = record { hellos = 0; datas = 0; acks = 0; losts = 0 }

-- one more if the condition holds
abbrev pub one_more : Bool → ℕ → ℕ
one_more true n = n + 1
one_more false n = n

abbrev pub with_body : Body → FrameCounts → FrameCounts
with_body Hello c = record c { hellos = c.hellos + 1 }
with_body (Data n a packets) c = record c { datas = c.datas + 1 }
with_body (Ack a) c = record c { acks = c.acks + 1 }

-- one more datagram, which is not delivered if its link is parted
abbrev pub with_frame : Bool → Body → FrameCounts → FrameCounts
with_frame is_parted body c = record (with_body body c) { losts = one_more is_parted (with_body body c).losts }

-- no datagram was sent
abbrev pub has_none : FrameCounts → Bool
has_none c = (c.hellos == 0) && (c.datas == 0) && (c.acks == 0)

-- ---- the effect of each event on a trace

abbrev pub with_text : TraceState → List ℕ → TraceState
with_text s more = record s { text = s.text ++ more }

abbrev pub frames_told : TraceState → ℕ → TraceState
frames_told s t = record s { counts = no_frames; text = s.text ++ frames_record t s.counts }

-- a record of the datagrams since the last such record, unless there are none
abbrev pub after_frames : TraceState → ℕ → TraceState
after_frames s t = if has_none s.counts then s else frames_told s t

-- ---- cores

-- the neighbours of a node; each link end is its node and its neighbour
abbrev pub peer_of : ℕ → ℕ × ℕ → Option ℕ
peer_of n e = if e.0 == n then Some e.1 else None

abbrev pub neighbours_in : List (ℕ × ℕ) → ℕ → List ℕ
neighbours_in ends n = filter_map (peer_of n) ends

-- how a node treats erased levels: the last choice of a single node holds
abbrev pub chosen_by : ℕ → Erasure → ℕ × Erasure → Erasure
chosen_by n erasure choice = if choice.0 == n then choice.1 else erasure

abbrev pub chosen : Erasure → List (ℕ × Erasure) → ℕ → Erasure
chosen erasure choices n = fold (chosen_by n) erasure choices

abbrev pub first_copy_of : Erasure → List (ℕ × Erasure) → List (ℕ × ℕ) → List ℕ → ℕ → CopyState
first_copy_of erasure choices ends destinations n =
    first_copy (chosen erasure choices n) n (neighbours_in ends n) destinations

abbrev pub refusal_or : Option CoreError → Option CoreError → Option CoreError
refusal_or (Some error) other = Some error
refusal_or None other = other

-- the first refusal of these, in order
abbrev pub first_refusal : (ℕ → Option CoreError) → List ℕ → Option CoreError
first_refusal refusal [] = None
first_refusal refusal (n ∷ ns) = refusal_or (refusal n) (first_refusal refusal ns)

-- why a node's core has no copy
abbrev pub refusal_of : List (ℕ × ℕ) → List ℕ → ℕ → Option CoreError
refusal_of ends destinations n = copy_refusal n (neighbours_in ends n) destinations

-- why there is no trace: the cause for the first node whose core has no copy
abbrev pub trace_refusal : List ℕ → List (ℕ × ℕ) → List ℕ → Option CoreError
trace_refusal nodes ends destinations = first_refusal (refusal_of ends destinations) nodes

-- a trace of these nodes and link ends without a record; all nodes have this treatment of erased levels, except those
-- with a choice
abbrev pub first_trace : Erasure → List (ℕ × Erasure) → List ℕ → List (ℕ × ℕ) → List ℕ → TraceState
first_trace erasure choices nodes ends destinations = record {
  copies =
      map (first_copy_of erasure choices ends destinations) nodes;
  counts = no_frames;
  text = [];
}

abbrev pub is_copy_of : ℕ → CopyState → Bool
is_copy_of n c = c.core.me == n

-- the node of a copy
abbrev pub owner_of : CopyState → ℕ
owner_of c = c.core.me

abbrev pub owners_of : List CopyState → List ℕ
owners_of copies = map owner_of copies

-- replaces the copy at an index, and the text
abbrev pub with_told : TraceState → ℕ → Told → TraceState
with_told s at told = record s { copies = slice_set s.copies at told.0; text = told.1 }

-- A change was applied to the first copy of the core of n, if there is one, and to the text.
abbrev pub TellsAt : ℕ → TraceState → (Told → Told) → TraceState → Option ℕ → Type 0
TellsAt n old change new None = new ≡ old
TellsAt n old change new (Some at) = (copy : CopyState) × (slice_get old.copies at ≡ Some copy)
    × (new ≡ with_told old at (change (copy, old.text)))

abbrev pub Tells : ℕ → TraceState → (Told → Told) → TraceState → Type 0
Tells n old change new = TellsAt n old change new (position (is_copy_of n) old.copies)

abbrev pub after_restart : ℕ → Told → Told
after_restart t told = (copy_restarted told.0, told.1 ++ restart_records t told.0)
