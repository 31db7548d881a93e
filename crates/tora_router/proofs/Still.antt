-- An end that has no frame due stays as it is.
use Rattle.std.proofs.Common.{◌≡◌, ℕ, Bool, true, false, Option, Some, None, if◌then◌else◌, true≢false, refl, ap}
use Rattle.std.specs.Prelude.{is_some}
use Rattle.tora_frame.specs.FrameParts.{FrameParts}
use Rattle.tora_frame.specs.declared.parts.Body.TheVariants.{Hello, Ack}
use Rattle.tora_frame.specs.declared.parts.Version.TheVariants.{One}
use Rattle.tora_arq.specs.declared.life.Life.{Life}
use Rattle.tora_arq.specs.declared.phase.Phase.{Phase}
use Rattle.tora_arq.specs.declared.phase.Phase.TheVariants.{Closed, Unbound, Bound}
use Rattle.tora_arq.specs.Settings.{Settings}
use Rattle.tora_arq.specs.SendQueue.{DueBatch}
use Rattle.tora_arq.specs.LinkEnd.{EndState, data_version, is_hello_due, is_old_hello_due, frame_sent, after_hello, after_old_hello, on_transmit_due, due_of, on_transmit_in, on_transmit, frame_due, after_transmit}

-- the first of two frames that is due, or else another one
abbrev first_of : Bool → FrameParts × EndState → Bool → FrameParts × EndState → Option FrameParts × EndState → Option FrameParts × EndState
first_of is_old old is_due due other =
    if is_old then (Some old.0, old.1) else if is_due then (Some due.0, due.1) else other

behind : (e : EndState) (is_old is_due : Bool) (old due : FrameParts × EndState) (other : Option FrameParts × EndState)
    → (other.0 ≡ None → other.1 ≡ e) → (first_of is_old old is_due due other).0 ≡ None → (first_of is_old old is_due due other).1 ≡ e
behind e true is_due old due other h n = absurd (true≢false (ap is_some n))
behind e false true old due other h n = absurd (true≢false (ap is_some n))
behind e false false old due other h n = h n

-- an ACK if one is owed, or else nothing
abbrev ack_or_none : Settings → EndState → Life → Bool → Option FrameParts × EndState
ack_or_none s e life owes =
    if owes then (Some (frame_sent s (data_version e) life.own life.peer (Ack e.accepted)), record e { owes_ack = false }) else (None, e)

module _ (s : Settings) (e : EndState) (now : ℕ) where
  ack : (life : Life) (owes : Bool) → (ack_or_none s e life owes).0 ≡ None → (ack_or_none s e life owes).1 ≡ e
  ack life true n = absurd (true≢false (ap is_some n))
  ack life false n = refl

  body : (life : Life) (due : Option DueBatch) → (on_transmit_due s e life due).0 ≡ None → (on_transmit_due s e life due).1 ≡ e
  body life (Some due) n = absurd (true≢false (ap is_some n))
  body life None n = ack life e.owes_ack n

  in_phase : (phase : Phase) → (on_transmit_in s e now phase).0 ≡ None → (on_transmit_in s e now phase).1 ≡ e
  unfolding on_transmit_in
  in_phase Closed n = refl
  in_phase (Unbound own) n =
      behind e (is_old_hello_due e) (is_hello_due s e now) (frame_sent s One own e.heard Hello, after_old_hello e) (frame_sent s s.version own e.heard Hello, after_hello s e now) (None, e) (λ _. refl) n
  in_phase (Bound life) n =
      behind e (is_old_hello_due e) (is_hello_due s e now) (frame_sent s One life.own life.peer Hello, after_old_hello e) (frame_sent s s.version life.own life.peer Hello, after_hello s e now)
      (on_transmit_due s e life (due_of s e now)) (body life (due_of s e now)) n

  pub nothing_sent : frame_due s e now ≡ None → after_transmit s e now ≡ e
  unfolding on_transmit
  nothing_sent n = in_phase e.phase n
