-- Turns one after another, and what they exchange.
use Rattle.std.proofs.Common.{◌≡◌, ℕ, List, [], ◌∷◌, ◌++◌, Option, refl, sym, ap, ◌∙◌, subst, append_assoc}
use Rattle.std.proofs.lemmas.List.{append-nil, map-append}
use Rattle.std.proofs.lemmas.Grind.{flat_map-append}
use Rattle.std.specs.List.{flat_map}
use Rattle.std.specs.Prelude.{map}
use Rattle.tora_frame.specs.FrameGrammar.{frame_spelling, frame_reading}
use Rattle.tora_arq.specs.Settings.{Settings}
use Rattle.tora_arq.specs.LinkEnd.{EndState}
use Rattle.tora_arq.specs.LinkFacts.{list_of}
use Rattle.tora_neighbour.specs.Turns.{Turn, came_of, IsTurn, AreTurns, AreBeats, AreRead, ticks_of, is_beat_due, beat_after, tally_after}
use Rattle.tora_neighbour.specs.Traffic.{Outside, Traffic, Came, AreDrawn, entries_of, numbers_opened, frames_sent, readings_come}
use Rattle.tora_neighbour.specs.declared.tally.Tally.{Tally}
use Rattle.tora_neighbour.specs.Intake.{Reading}
use Rattle.tora_neighbour.specs.Tally.{counted_in}

pub turns_more : (s : Settings) (e : EndState) (ts : List Turn) (mid : EndState) (t : Turn) (after : EndState) → AreTurns s e ts mid → IsTurn s mid t after → AreTurns s e (ts ++ t ∷ []) after
turns_more s e [] mid t after run turn = (after, subst (λ (x : EndState). IsTurn s x t after) run turn, refl)
turns_more s e (u ∷ ts) mid t after run turn = (run.0, run.1, turns_more s run.0 ts mid t after run.2 turn)

-- a list that grew by the items of some turns grows by those of further turns
behind : {A B : Type 0} (g : B → List A) (a b c : List A) (ts us : List B) → b ≡ a ++ flat_map g ts → c ≡ b ++ flat_map g us → c ≡ a ++ flat_map g (ts ++ us)
behind g a b c ts us first second =
    second ∙ ap (λ xs. xs ++ flat_map g us) first ∙ append_assoc a (flat_map g ts) (flat_map g us) ∙ ap (λ xs. a ++ xs) (sym (flat_map-append g ts us))

pub drawn_more : (a : ℕ) (xs : List ℕ) (b : ℕ) (ys : List ℕ) (c : ℕ) → AreDrawn a xs b → AreDrawn b ys c → AreDrawn a (xs ++ ys) c
drawn_more a [] b ys c first second = subst (λ (n : ℕ). AreDrawn n ys c) first second
drawn_more a (x ∷ xs) b ys c first second = (first.0, drawn_more x xs b ys c first.1 second)

pub came_more : (a b c : List (List ℕ)) (xs ys : List Reading) → Came a xs b → Came b ys c → Came a (xs ++ ys) c
came_more a b c xs ys first second = record {
  given = first.given ++ second.given;
  coming_is = first.coming_is ∙ ap (λ ds. first.given ++ ds) second.coming_is ∙ sym (append_assoc first.given second.given c);
  readings_are = (λ i. first.readings_are i ++ second.readings_are i) ∙ sym (map-append frame_reading first.given second.given);
}

pub traffic_more : (a b c : Outside) (ts us : List Turn) → Traffic a ts b → Traffic b us c → Traffic a (ts ++ us) c
traffic_more a b c ts us first second = record {
  drawn = subst (λ (ns : List ℕ). AreDrawn a.drawn ns c.drawn) (sym (flat_map-append (λ t. list_of t.opened) ts us))
      (drawn_more a.drawn (numbers_opened ts) b.drawn (numbers_opened us) c.drawn first.drawn second.drawn);
  puts = behind entries_of a.puts b.puts c.puts ts us first.puts second.puts;
  takes = behind (λ t. t.cargoes) a.takes b.takes c.takes ts us first.takes second.takes;
  tells = λ yes. first.tells (second.tells yes);
  tries = λ yes.
      second.tries yes
      ∙ ap (λ xs. xs ++ map frame_spelling (frames_sent us)) (first.tries (second.tells yes))
      ∙ append_assoc a.tries (map frame_spelling (frames_sent ts)) (map frame_spelling (frames_sent us))
      ∙ ap (λ xs. a.tries ++ xs) (sym (map-append frame_spelling (frames_sent ts) (frames_sent us)) ∙ ap (map frame_spelling) (sym (flat_map-append (λ t. t.sent) ts us)));
  came = λ yes. subst (λ (rs : List Reading). Came a.coming rs c.coming) (sym (flat_map-append (λ t. list_of (came_of t)) ts us))
      (came_more a.coming b.coming c.coming (readings_come ts) (readings_come us) (first.came (second.tells yes)) (second.came yes));
}

-- without a turn nothing is exchanged
pub no_traffic : (a : Outside) → Traffic a [] a
no_traffic a = record {
  drawn = refl;
  puts = sym (append-nil a.puts);
  takes = sym (append-nil a.takes);
  tells = λ yes. yes;
  tries = λ yes. sym (append-nil a.tries);
  came = λ yes. record { given = []; coming_is = refl; readings_are = refl };
}

pub beats_more : (last : Option ℕ) (ts : List Turn) (mid : Option ℕ) (t : Turn) (after : Option ℕ) → AreBeats last ts mid → t.beat ≡ is_beat_due mid t.now → after ≡ beat_after mid t → AreBeats last (ts ++ t ∷ []) after
beats_more last [] mid t after beats due is = (due ∙ ap (λ m. is_beat_due m t.now) beats, is ∙ ap (λ m. beat_after m t) beats)
beats_more last (u ∷ ts) mid t after beats due is = (beats.0, beats_more (beat_after last u) ts mid t after beats.1 due is)

pub tally_more : (first : Tally) (ts : List Turn) (mid : Tally) (t : Turn) (after : Tally) → mid ≡ tally_after first ts → after ≡ counted_in t.intake mid → after ≡ tally_after first (ts ++ t ∷ [])
tally_more first [] mid t after so one = one ∙ ap (counted_in t.intake) so
tally_more first (u ∷ ts) mid t after so one = tally_more (counted_in u.intake first) ts mid t after so one

pub read_more : {C : Type 0} (tell : C → ℕ → C → Type 0) (first : C) (ts : List Turn) (mid : C) (t : Turn) (after : C)
    → AreRead tell first (ticks_of ts) mid → tell mid t.now after → AreRead tell first (ticks_of (ts ++ t ∷ [])) after
read_more tell first [] mid t after so one = (after, subst (λ x. tell x t.now after) so one, refl)
read_more tell first (u ∷ ts) mid t after so one = (so.0, so.1, read_more tell so.0 ts mid t after so.2 one)
