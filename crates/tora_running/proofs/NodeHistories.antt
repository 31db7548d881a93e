-- The contract of `run_node` gives histories of parts for the threads of its links.
use Rattle.std.proofs.Common.{◌∙◌, refl, sym, ap, ℕ, List, [], ◌∷◌, ◌++◌, map, None}
use Rattle.tora_arq.specs.LinkEnd.{first_end}
use Rattle.tora_arq.specs.Settings.{settings_of}
use Rattle.tora_arq.specs.declared.times.TheConstants.Times.{STANDARD}
use Rattle.tora_frame.specs.declared.parts.Version.TheVariants.{Two}
use Rattle.tora_neighbour.specs.declared.tally.Tally.{Tally}
use Rattle.tora_node.specs.LinkRuns.{name_of, IsLinkRun, AreLinkRuns, AreFaultless}
use Rattle.tora_running.specs.Histories.{parts_of_turns, parts_of_last}
use Rattle.tora_node.specs.WholeRuns.{LinkExchanged}
use Rattle.tora_seat.specs.declared.cargo.Cargo.{Cargo}
use Rattle.tora_running.specs.Nodes.{HasHistory, HasExchanged, HaveHistories, HearsItsWire}
use Rattle.tora_running.proofs.ThreadHistories.{run_is}
use Rattle.tora_running.proofs.ThreadExchanges.{run_exchanges}

module _ (me : ℕ) where
  abbrev history_of : (k : ℕ) (fault : _) (tally : Tally) → IsLinkRun me k fault tally → HasHistory me k tally
  history_of k fault tally h =
      let run = run_is (settings_of Two me k STANDARD) first_end h.turns h.last h.ending h.after h.runs in
      record {
        parts = parts_of_turns h.turns ++ parts_of_last h.ending h.last;
        between = run.0;
        made = run.1;
        turns = h.turns ++ h.last ∷ [];
        exchange = run_exchanges (settings_of Two me k STANDARD) first_end h.turns h.last h.ending h.after h.runs;
        tally_is = h.tally_is;
      }

  -- the datagrams that the parts of a link receive
  pub hears : (k : ℕ) (fault : _) (tally : Tally) → (h : IsLinkRun me k fault tally) → HearsItsWire me k tally (h.turns ++ h.last ∷ [])
  hears k fault tally h =
      let past = history_of k fault tally h in
      record { history = past; turns_are = refl; heard = past.exchange.heard }

  -- the histories of a node that ended without a fault
  pub faultless_have : (ks : List ℕ) (tallies : List Tally) → AreFaultless (map (name_of me) ks) tallies → HaveHistories me ks tallies
  faultless_have [] [] h = tt
  faultless_have [] (tally ∷ tallies) h = absurd h
  faultless_have (k ∷ ks) [] h = absurd h
  faultless_have (k ∷ ks) (tally ∷ tallies) h = (history_of k None tally h.0, faultless_have ks tallies h.1)

  -- the histories of any other node whose threads were started
  pub runs_have : (ks : List ℕ) (outcomes : _) → AreLinkRuns (map (name_of me) ks) outcomes → HaveHistories me ks (map (λ o. o.tally) outcomes)
  runs_have [] [] h = tt
  runs_have [] (outcome ∷ outcomes) h = absurd h
  runs_have (k ∷ ks) [] h = absurd h
  runs_have (k ∷ ks) (outcome ∷ outcomes) h = (history_of k outcome.fault outcome.tally h.0, runs_have ks outcomes h.1)

  -- what a link exchanged with the core
  pub exchanged_has : (xs : List _) (place peer : ℕ) (outcome : _) → LinkExchanged me xs place peer outcome → HasExchanged me xs place peer outcome.tally
  exchanged_has xs place peer outcome h =
      let past = history_of peer outcome.fault outcome.tally h.run in
      record {
        history = past;
        left = h.left;
        put = past.exchange.put ∙ sym h.items;
        waiting = h.waiting;
        taken = ap (λ (l : List Cargo). l ++ h.waiting) past.exchange.cargoes ∙ h.cargoes;
      }
