-- A turn is made of its stages.
use Rattle.std.proofs.Common.{◌≡◌, ℕ, ◌≤◌, Bool, false, List, [], ◌∷◌, ◌++◌, length, Option, None, Result, Ok, Err, refl, sym, ap, ◌∙◌, subst, IsTrue}
use Rattle.std.proofs.lemmas.List.{append-nil}
use Rattle.std.specs.Prelude.{map}
use Rattle.tora_frame.specs.FrameParts.{FrameParts}
use Rattle.tora_frame.specs.FrameGrammar.{frame_spelling}
use Rattle.tora_arq.specs.declared.link_event.LinkEvent.{LinkEvent}
use Rattle.tora_arq.specs.LinkEnd.{EndState, bound_life, after_tick}
use Rattle.tora_arq.specs.LinkFacts.{list_of}
use Rattle.tora_arq.specs.EndRange.{LinkEndView, link_end_of}
use Rattle.tora_seat.specs.declared.TheConstants.{MOST_CARGOES}
use Rattle.tora_seat.specs.declared.cargo.Cargo.{Cargo}
use Rattle.tora_neighbour.specs.declared.ending.BrokenAt.{BrokenAt}
use Rattle.tora_neighbour.specs.declared.ending.BrokenAt.TheVariants.{Send, Receive}
use Rattle.tora_neighbour.specs.declared.intake.Intake.{Intake}
use Rattle.tora_neighbour.specs.declared.wire.WireError.{WireError}
use Rattle.tora_neighbour.specs.Intake.{Reading, came_in}
use Rattle.tora_seat.specs.Between.{after_cut_of_bound}
use Rattle.tora_neighbour.specs.Turns.{Turn, came_of, IsTurn, IsLastTurn, IsOpening, Tells, is_beat_due, after_opening, after_cargoes}
use Rattle.tora_neighbour.specs.declared.ending.Ending.TheVariants.{Broken, Refused}
use Rattle.tora_neighbour.specs.Traffic.{Outside, Traffic, Came, AreDrawn, entries_of}
use Rattle.tora_neighbour.specs.Causes.{IsExchange}

abbrev pub turn_of : ℕ → Option ℕ → List Cargo → List FrameParts → List (Result (Unit {0}) WireError) → Option (Result (Option ℕ) WireError) → List ℕ → Option Intake → List LinkEvent → Option LinkEvent → Bool → Turn
turn_of now opened cargoes sent answers answer buffer intake told refused beat =
    record { now = now; opened = opened; cargoes = cargoes; sent = sent; answers = answers; answer = answer; buffer = buffer; intake = intake; told = told; refused = refused; beat = beat }

-- what one turn exchanges
pub traffic_of : (o n : Outside) (t : Turn)
    → AreDrawn o.drawn (list_of t.opened) n.drawn
    → n.puts ≡ o.puts ++ entries_of t
    → n.takes ≡ o.takes ++ t.cargoes
    → (IsTrue n.tells → IsTrue o.tells)
    → (IsTrue n.tells → n.tries ≡ o.tries ++ map frame_spelling t.sent)
    → (IsTrue n.tells → Came o.coming (list_of (came_of t)) n.coming)
    → Traffic o (t ∷ []) n
traffic_of o n t drawn puts takes tells tries came = record {
  drawn = subst (λ (ns : List ℕ). AreDrawn o.drawn ns n.drawn) (sym (append-nil (list_of t.opened))) drawn;
  puts = puts ∙ ap (λ xs. o.puts ++ xs) (sym (append-nil (entries_of t)));
  takes = takes ∙ ap (λ xs. o.takes ++ xs) (sym (append-nil t.cargoes));
  tells = tells;
  tries = λ yes. tries yes ∙ ap (λ xs. o.tries ++ map frame_spelling xs) (sym (append-nil t.sent));
  came = λ yes. subst (λ (fs : List Reading). Came o.coming fs n.coming) (sym (append-nil (list_of (came_of t)))) (came yes);
}

module _ (v one : LinkEndView) (now : ℕ) (opened : Option ℕ) (cargoes : List Cargo) (opening : IsOpening v.state opened) (most : length cargoes ≤ MOST_CARGOES)
    (begun : one ≡ link_end_of v.settings (after_cargoes (after_tick v.settings (after_opening v.state opened now) now) cargoes)) where
  pub whole_turn : (frames : List FrameParts) (answers : List (Result (Unit {0}) WireError)) (answer : Option (Result (Option ℕ) WireError)) (buffer : List ℕ) (intake : Option Intake) (two after : EndState) (told : List LinkEvent) (beat : Bool)
      → IsExchange one.settings one.state now frames (came_in answer buffer) intake (Ok tt) two
      → Tells two told None after
      → IsTurn v.settings v.state (turn_of now opened cargoes frames answers answer buffer intake told None beat) after
  whole_turn frames answers answer buffer intake two after told beat exchanged tells =
      let x = subst (λ (u : LinkEndView). IsExchange u.settings u.state now frames (came_in answer buffer) intake (Ok tt) two) begun exchanged in record {
        begins = record { opening = opening; most = most; due = x.0 };
        none_due = x.1;
        heard = x.2;
        tells = subst (λ (e : EndState). Tells e told None after) x.3 tells;
        accepted = refl;
      }

  pub refused_turn : (frames : List FrameParts) (answers : List (Result (Unit {0}) WireError)) (answer : Option (Result (Option ℕ) WireError)) (last_beat : Option ℕ) (buffer : List ℕ) (intake : Option Intake) (two after : EndState) (told : List LinkEvent) (refused : Option LinkEvent)
      → IsExchange one.settings one.state now frames (came_in answer buffer) intake (Ok tt) two
      → Tells two told refused after
      → (refused ≡ None → IsTrue (is_beat_due last_beat now))
      → IsLastTurn v.settings last_beat v.state (turn_of now opened cargoes frames answers answer buffer intake told refused false) Refused after
  refused_turn frames answers answer last_beat buffer intake two after told refused exchanged tells due =
      let x = subst (λ (u : LinkEndView). IsExchange u.settings u.state now frames (came_in answer buffer) intake (Ok tt) two) begun exchanged in record {
        begins = record { opening = opening; most = most; due = x.0 };
        none_due = x.1;
        heard = x.2;
        tells = subst (λ (e : EndState). Tells e told refused after) x.3 tells;
        no_beat = refl;
        due = due;
      }

  pub broken_turn : (at : BrokenAt) (frames : List FrameParts) (answers : List (Result (Unit {0}) WireError)) (answer : Option (Result (Option ℕ) WireError)) (last_beat : Option ℕ) (buffer : List ℕ) (intake : Option Intake) (two after : EndState) (told : List LinkEvent) (refused : Option LinkEvent)
      → IsExchange one.settings one.state now frames (came_in answer buffer) intake (Err at) two
      → Tells (after_cut_of_bound two (bound_life two)) told refused after
      → IsLastTurn v.settings last_beat v.state (turn_of now opened cargoes frames answers answer buffer intake told refused false) (Broken at) after
  broken_turn Send frames answers answer last_beat buffer intake two after told refused exchanged tells =
      let x = subst (λ (u : LinkEndView). IsExchange u.settings u.state now frames (came_in answer buffer) intake (Err Send) two) begun exchanged in record {
        begins = record { opening = opening; most = most; due = x.0 };
        broken = record { nothing_came = x.1; nothing_heard = x.2; tells = subst (λ (e : EndState). Tells (after_cut_of_bound e (bound_life e)) told refused after) x.3 tells; no_beat = refl };
      }
  broken_turn Receive frames answers answer last_beat buffer intake two after told refused exchanged tells =
      let x = subst (λ (u : LinkEndView). IsExchange u.settings u.state now frames (came_in answer buffer) intake (Err Receive) two) begun exchanged in record {
        begins = record { opening = opening; most = most; due = x.0 };
        none_due = x.1;
        broken = record { nothing_came = x.2; nothing_heard = x.3; tells = subst (λ (e : EndState). Tells (after_cut_of_bound e (bound_life e)) told refused after) x.4 tells; no_beat = refl };
      }
