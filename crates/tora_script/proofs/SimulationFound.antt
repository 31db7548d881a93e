-- A line of a simulation file that is read has the written form of what it is read as.
use Rattle.std.proofs.Common.{◌≡◌, ℕ, ◌+◌, ◌≤◌, ◌⊎◌, inl, inr, Bool, true, false, cond, leb, ◌==◌, codes, List, [], ◌∷◌, ◌++◌, length, Option, None, Some, Result, Ok, Err, is_some, refl, ap, ◌∙◌, arith, option_map}
use Rattle.std.specs.Result.{result_ok}
use Rattle.std.specs.Fmt.{decimal}
use Rattle.std.proofs.lemmas.Bool.{and_parts, eqb-true}
use Rattle.std.proofs.lemmas.Bool.Decides.{nat_tests}
use Rattle.std.proofs.lemmas.List.{nil_from_length}
use Rattle.hex.specs.Hex.{decode_of}
use Rattle.hex.specs.declared.error.FromHexError.{FromHexError}
use Rattle.tora_packet.specs.PacketParts.{IsId}
use Rattle.tora_arq.specs.declared.life.Life.{Life}
use Rattle.tora_world.specs.declared.event.Event.{Event}
use Rattle.tora_world.specs.declared.event.Event.TheVariants.{Need, Tick, Open, Pull, Transmit, Deliver, Pump, CoreTurn, Arm, Restart}
use Rattle.tora_world.specs.declared.call.Call.{Call}
use Rattle.tora_world.specs.declared.call.Call.TheVariants as Fails
use Rattle.tora_script.specs.declared.parse.TheConstants.{MOST_ROUNDS}
use Rattle.tora_script.specs.declared.script_line.SimulationLine.{SimulationLine}
use Rattle.tora_script.specs.declared.script_line.SimulationLine.TheVariants.{Happens, Rounds, Part, Mend, Heights, Sent, Taken, Exact, Walk, Rest}
use Rattle.tora_lines.specs.Words.{cut, number_of, id_of, list_of, is_dash}
use Rattle.tora_lines.specs.Fronts.{after, or_else, ◌>>=◌}
use Rattle.tora_lines.specs.WordGrammar.{SpellsId}
use Rattle.tora_script.specs.SimulationLines.{is_word, pair_of, life_number_from, life_number_of, life_of, lane_of, call_of, torn_of, rounds_from, rounds_of, for_pair, for_lane, for_id, deliver_of, arm_of, restart_of, end_event_of, node_event_of, walk_line_of, order_line_of, first_of_two, simulation_line_of, dests_of, link_of}
use Rattle.tora_script.specs.SimulationGrammar.{SpellsPair, IsLifeNumber, SpellsLane, call_text, SpellsTorn, SpellsEvent, SpellsSimulationLine, SpellsDests, SpellsLink}
use Rattle.tora_lines.proofs.Grammar.{number_prints}
use Rattle.tora_lines.proofs.WordLaws.{some_is, bind_some, id_found, after_found, cut_found, dash_found, or_else_some}
use Rattle.tora_lines.proofs.ListLaws.{list_found}

-- ---- words

pub word_found : (word text : List ℕ) → is_word word text ≡ true → text ≡ word
unfolding is_word
word_found word text h =
    let p = and_parts (length text == length word) (is_some (after word text)) h in
    let len = eqb-true _ _ p.0 in
    elim (after word text) as (λ r. after word text ≡ r → is_some r ≡ true → text ≡ word) [
      | None ↦ λ e g. absurd cc
      | Some rest ↦ λ e g.
          let whole = after_found word text rest e in
          let none : rest ≡ [] = nil_from_length rest (omega (arith, len, ap length whole, length_of word rest)) in
          whole ∙ ap (λ (t : List ℕ). word ++ t) none ∙ front word
    ] refl p.1
  where
    length_of : (a b : List ℕ) → length (a ++ b) ≡ length a + length b
    length_of [] b = omega arith
    length_of (x ∷ a) b = omega (arith, length_of a b)

    front : (a : List ℕ) → a ++ [] ≡ a
    front [] = refl
    front (x ∷ a) = ap (λ (t : List ℕ). x ∷ t) (front a)

-- the two parts of a text, before and after the first blank
pub record IsCut (text a b : List ℕ) : Type 0 where
  pub text_is : text ≡ a ++ 32 ∷ b

pub at_blank : (text a b a' b' : List ℕ) → cut 32 text ≡ Some (a, b) → a ≡ a' → b ≡ b' → text ≡ a' ++ 32 ∷ b'
at_blank text a b a' b' h e f = cut_found text a b h ∙ ap (λ (t : List ℕ). t ++ 32 ∷ b) e ∙ ap (λ (t : List ℕ). a' ++ 32 ∷ t) f

pair_found : (text : List ℕ) (p : ℕ × ℕ) → pair_of text ≡ Some p → (text ≡ decimal p.0 ++ 32 ∷ decimal p.1) × IsId p.0 × IsId p.1
unfolding pair_of
pair_found text p h =
    let a = bind_some (cut 32 text) (λ a. id_of a.0 >>= (λ n. id_of a.1 >>= (λ k. Some (n, k)))) p h in
    let n = bind_some (id_of a.0.0) (λ n. id_of a.0.1 >>= (λ k. Some (n, k))) p a.2 in
    let k = bind_some (id_of a.0.1) (λ k. Some (n.0, k)) p n.2 in
    let first = id_found a.0.0 n.0 n.1 in
    let second = id_found a.0.1 k.0 k.1 in
    rw (← some_is (n.0, k.0) p k.2) (at_blank text a.0.0 a.0.1 (decimal n.0) (decimal k.0) a.1 first.0 second.0, first.1, second.1)

pair_spelled : {A : Type 0} (make : ℕ → ℕ → A) (word text rest : List ℕ) (o : A) → text ≡ word ++ rest → for_pair make rest ≡ Some o → (p : ℕ × ℕ) × SpellsPair word text p.0 p.1 × (make p.0 p.1 ≡ o)
unfolding for_pair
pair_spelled {A} make word text rest o t h =
    let p = bind_some (pair_of rest) (λ p. Some (make p.0 p.1)) o h in
    let q = pair_found rest p.0 p.1 in
    (p.0, record { first = q.1; second = q.2; text_is = t ∙ ap (λ (x : List ℕ). word ++ x) q.0 }, some_is (make p.0.0 p.0.1) o p.2)

pub id_spelled : {A : Type 0} (make : ℕ → A) (word text rest : List ℕ) (o : A) → text ≡ word ++ rest → for_id make rest ≡ Some o → (n : ℕ) × SpellsId word text n × (make n ≡ o)
unfolding for_id
id_spelled make word text rest o t h =
    let n = bind_some (id_of rest) (λ n. Some (make n)) o h in
    let q = id_found rest n.0 n.1 in
    (n.0, record { id = q.1; text_is = t ∙ ap (λ (x : List ℕ). word ++ x) q.0 }, some_is (make n.0) o n.2)

-- ---- sessions

life_number_from_found : (m n : ℕ) → life_number_from m ≡ Some n → (m ≡ n) × IsLifeNumber n
life_number_from_found m n h = grind (arith, nat_tests)

life_number_found : (text : List ℕ) (n : ℕ) → life_number_of text ≡ Some n → (text ≡ decimal n) × IsLifeNumber n
unfolding life_number_of
life_number_found text n h =
    let m = bind_some (number_of text) life_number_from n h in
    let p = number_prints text m.0 m.1 in
    let q = life_number_from_found m.0 n m.2 in
    (p.0 ∙ ap decimal q.0, q.1)

abbrev life_made : ℕ → ℕ → Life
life_made own peer = record { own = own; peer = peer }

life_found : (text : List ℕ) (life : Life) → life_of text ≡ Some life → (text ≡ decimal life.own ++ 32 ∷ decimal life.peer) × IsLifeNumber life.own × IsLifeNumber life.peer
unfolding life_of
life_found text life h =
    let a = bind_some (cut 32 text) (λ a. life_number_of a.0 >>= (λ own. life_number_of a.1 >>= (λ peer. Some (life_made own peer)))) life h in
    let own = bind_some (life_number_of a.0.0) (λ own. life_number_of a.0.1 >>= (λ peer. Some (life_made own peer))) life a.2 in
    let peer = bind_some (life_number_of a.0.1) (λ peer. Some (life_made own.0 peer)) life own.2 in
    let first = life_number_found a.0.0 own.0 own.1 in
    let second = life_number_found a.0.1 peer.0 peer.1 in
    rw (← some_is (life_made own.0 peer.0) life peer.2) (at_blank text a.0.0 a.0.1 (decimal own.0) (decimal peer.0) a.1 first.0 second.0, first.1, second.1)

abbrev Lane : Type 0
Lane = ℕ × ℕ × Life

lane_found : (text : List ℕ) (p : Lane) → lane_of text ≡ Some p → (text ≡ decimal p.0 ++ 32 ∷ (decimal p.1 ++ 32 ∷ (decimal p.2.own ++ 32 ∷ decimal p.2.peer))) × IsId p.0 × IsId p.1 × IsLifeNumber p.2.own × IsLifeNumber p.2.peer
unfolding lane_of
lane_found text p h =
    let a = bind_some (cut 32 text) (λ a. id_of a.0 >>= (λ n. cut 32 a.1 >>= (λ b. id_of b.0 >>= (λ k. life_of b.1 >>= (λ life. Some (n, k, life)))))) p h in
    let n = bind_some (id_of a.0.0) (λ n. cut 32 a.0.1 >>= (λ b. id_of b.0 >>= (λ k. life_of b.1 >>= (λ life. Some (n, k, life))))) p a.2 in
    let b = bind_some (cut 32 a.0.1) (λ b. id_of b.0 >>= (λ k. life_of b.1 >>= (λ life. Some (n.0, k, life)))) p n.2 in
    let k = bind_some (id_of b.0.0) (λ k. life_of b.0.1 >>= (λ life. Some (n.0, k, life))) p b.2 in
    let life = bind_some (life_of b.0.1) (λ life. Some (n.0, k.0, life)) p k.2 in
    let first = id_found a.0.0 n.0 n.1 in
    let second = id_found b.0.0 k.0 k.1 in
    let third = life_found b.0.1 life.0 life.1 in
    let rest = at_blank a.0.1 b.0.0 b.0.1 (decimal k.0) (decimal life.0.own ++ 32 ∷ decimal life.0.peer) b.1 second.0 third.0 in
    rw (← some_is (n.0, k.0, life.0) p life.2)
    (at_blank text a.0.0 a.0.1 (decimal n.0) (decimal k.0 ++ 32 ∷ (decimal life.0.own ++ 32 ∷ decimal life.0.peer)) a.1 first.0 rest, first.1, second.1, third.1, third.2)

lane_spelled : {A : Type 0} (make : ℕ → ℕ → Life → A) (word text rest : List ℕ) (o : A) → text ≡ word ++ rest → for_lane make rest ≡ Some o → (p : Lane) × SpellsLane word text p.0 p.1 p.2 × (make p.0 p.1 p.2 ≡ o)
unfolding for_lane
lane_spelled make word text rest o t h =
    let p = bind_some (lane_of rest) (λ p. Some (make p.0 p.1 p.2)) o h in
    let q = lane_found rest p.0 p.1 in
    (p.0, record { first = q.1; second = q.2; own = q.3; peer = q.4; text_is = t ∙ ap (λ (x : List ℕ). word ++ x) q.0 }, some_is (make p.0.0 p.0.1 p.0.2) o p.2)

-- ---- calls and torn bytes

pub call_found : (text : List ℕ) (call : Call) → call_of text ≡ Some call → text ≡ call_text call
unfolding call_of
call_found text call h =
    pick (is_word (codes "send-lost") text) Fails.SendLost _ (λ e. word_found (codes "send-lost") text e)
    (λ h1. pick (is_word (codes "send-gone") text) Fails.SendGone _ (λ e. word_found (codes "send-gone") text e)
    (λ h2. pick (is_word (codes "receive") text) Fails.Receive _ (λ e. word_found (codes "receive") text e)
    (λ h3. pick (is_word (codes "read") text) Fails.Read _ (λ e. word_found (codes "read") text e)
    (λ h4. pick (is_word (codes "write") text) Fails.Write _ (λ e. word_found (codes "write") text e)
    (λ h5. pick (is_word (codes "sync") text) Fails.Sync _ (λ e. word_found (codes "sync") text e) (λ h6. absurd cc) h5) h4) h3) h2) h1) h
  where
    pick : (b : Bool) (c : Call) (other : Option Call) → (b ≡ true → text ≡ call_text c) → (other ≡ Some call → text ≡ call_text call) → cond b (Some c) other ≡ Some call → text ≡ call_text call
    pick true c other here there h = rw (← some_is c call h) (here refl)
    pick false c other here there h = there h

torn_found : (word : List ℕ) (torn : Option (List ℕ)) → torn_of word ≡ Some torn → SpellsTorn word torn
unfolding torn_of
torn_found word torn h = chosen (is_dash word) (length word == 32) (decode_of word) torn refl refl refl h
  where
    chosen : (dash full : Bool) (r : Result (List ℕ) FromHexError) (torn : Option (List ℕ)) → is_dash word ≡ dash → (length word == 32) ≡ full → decode_of word ≡ r
        → cond dash (Some None) (cond full (option_map (λ bytes. Some bytes) (result_ok r)) None) ≡ Some torn → SpellsTorn word torn
    chosen true full r torn d f e h = rw (← some_is None torn h) (dash_found word d)
    chosen false true (Ok bytes) torn d f e h = rw (← some_is (Some bytes) torn h) (eqb-true _ _ f, e)
    chosen false true (Err x) torn d f e h = absurd cc
    chosen false false r torn d f e h = absurd cc

-- ---- events

arm_found : (text rest : List ℕ) (o : Event) → text ≡ codes "arm " ++ rest → arm_of rest ≡ Some o → SpellsEvent text o
unfolding arm_of
arm_found text rest o t h =
    let a = bind_some (cut 32 rest) (λ a. id_of a.0 >>= (λ n. call_of a.1 >>= (λ call. Some (Arm n call)))) o h in
    let n = bind_some (id_of a.0.0) (λ n. call_of a.0.1 >>= (λ call. Some (Arm n call))) o a.2 in
    let call = bind_some (call_of a.0.1) (λ call. Some (Arm n.0 call)) o n.2 in
    let first = id_found a.0.0 n.0 n.1 in
    let whole = at_blank rest a.0.0 a.0.1 (decimal n.0) (call_text call.0) a.1 first.0 (call_found a.0.1 call.0 call.1) in
    rw (← some_is (Arm n.0 call.0) o call.2) (record { id = first.1; text_is = t ∙ ap (λ (x : List ℕ). codes "arm " ++ x) whole })

restart_found : (text rest : List ℕ) (o : Event) → text ≡ codes "restart " ++ rest → restart_of rest ≡ Some o → SpellsEvent text o
unfolding restart_of
restart_found text rest o t h =
    let a = bind_some (cut 32 rest) (λ a. id_of a.0 >>= (λ n. torn_of a.1 >>= (λ torn. Some (Restart n torn)))) o h in
    let n = bind_some (id_of a.0.0) (λ n. torn_of a.0.1 >>= (λ torn. Some (Restart n torn))) o a.2 in
    let torn = bind_some (torn_of a.0.1) (λ torn. Some (Restart n.0 torn)) o n.2 in
    let first = id_found a.0.0 n.0 n.1 in
    let whole = at_blank rest a.0.0 a.0.1 (decimal n.0) a.0.1 a.1 first.0 refl in
    rw (← some_is (Restart n.0 torn.0) o torn.2) (record { id = first.1; word = a.0.1; spelled = torn_found a.0.1 torn.0 torn.1; text_is = t ∙ ap (λ (x : List ℕ). codes "restart " ++ x) whole })

deliver_found : (text rest : List ℕ) (o : Event) → text ≡ codes "deliver " ++ rest → deliver_of rest ≡ Some o → SpellsEvent text o
unfolding deliver_of
deliver_found text rest o t h =
    let i = bind_some (number_of rest) (λ i. Some (Deliver i)) o h in
    let p = number_prints rest i.0 i.1 in
    rw (← some_is (Deliver i.0) o i.2) (record { below = p.1; text_is = t ∙ ap (λ (x : List ℕ). codes "deliver " ++ x) p.0 })

tick_found : (text : List ℕ) (o : Event) → cond (is_word (codes "tick") text) (Some Tick) None ≡ Some o → SpellsEvent text o
tick_found text o h =
    elim (is_word (codes "tick") text) as (λ b. is_word (codes "tick") text ≡ b → cond b (Some Tick) None ≡ Some o → SpellsEvent text o) [
      | true ↦ λ e g. rw (← some_is Tick o g) (word_found (codes "tick") text e)
      | false ↦ λ e g. absurd cc
    ] refl h

abbrev or_pump : List ℕ → Option Event
or_pump text = or_else (after (codes "pump ") text) (for_pair Pump) None

abbrev or_transmit : List ℕ → Option Event
or_transmit text = or_else (after (codes "transmit ") text) (for_pair Transmit) (or_pump text)

abbrev or_pull : List ℕ → Option Event
or_pull text = or_else (after (codes "pull ") text) (for_pair Pull) (or_transmit text)

or_pump_found : (text : List ℕ) (o : Event) → or_pump text ≡ Some o → SpellsEvent text o
or_pump_found text o h =
    elim (or_else_some (codes "pump ") text (for_pair Pump) None o h) [
      | inl p ↦ let q = pair_spelled Pump (codes "pump ") text p.0 o p.1 p.2 in rw (← q.2) q.1
      | inr g ↦ absurd cc
    ]

or_transmit_found : (text : List ℕ) (o : Event) → or_transmit text ≡ Some o → SpellsEvent text o
or_transmit_found text o h =
    elim (or_else_some (codes "transmit ") text (for_pair Transmit) (or_pump text) o h) [
      | inl p ↦ let q = pair_spelled Transmit (codes "transmit ") text p.0 o p.1 p.2 in rw (← q.2) q.1
      | inr g ↦ or_pump_found text o g
    ]

or_pull_found : (text : List ℕ) (o : Event) → or_pull text ≡ Some o → SpellsEvent text o
or_pull_found text o h =
    elim (or_else_some (codes "pull ") text (for_pair Pull) (or_transmit text) o h) [
      | inl p ↦ let q = pair_spelled Pull (codes "pull ") text p.0 o p.1 p.2 in rw (← q.2) q.1
      | inr g ↦ or_transmit_found text o g
    ]

end_event_found : (text : List ℕ) (o : Event) → end_event_of text ≡ Some o → SpellsEvent text o
unfolding end_event_of
end_event_found text o h =
    elim (or_else_some (codes "open ") text (for_pair Open) (or_pull text) o h) [
      | inl p ↦ let q = pair_spelled Open (codes "open ") text p.0 o p.1 p.2 in rw (← q.2) q.1
      | inr g ↦ or_pull_found text o g
    ]

abbrev or_tick : List ℕ → Option Event
or_tick text = cond (is_word (codes "tick") text) (Some Tick) None

abbrev or_restart : List ℕ → Option Event
or_restart text = or_else (after (codes "restart ") text) restart_of (or_tick text)

abbrev or_arm : List ℕ → Option Event
or_arm text = or_else (after (codes "arm ") text) arm_of (or_restart text)

abbrev or_turn : List ℕ → Option Event
or_turn text = or_else (after (codes "turn ") text) (for_id CoreTurn) (or_arm text)

abbrev or_deliver : List ℕ → Option Event
or_deliver text = or_else (after (codes "deliver ") text) deliver_of (or_turn text)

or_restart_found : (text : List ℕ) (o : Event) → or_restart text ≡ Some o → SpellsEvent text o
or_restart_found text o h =
    elim (or_else_some (codes "restart ") text restart_of (or_tick text) o h) [
      | inl p ↦ restart_found text p.0 o p.1 p.2
      | inr g ↦ tick_found text o g
    ]

or_arm_found : (text : List ℕ) (o : Event) → or_arm text ≡ Some o → SpellsEvent text o
or_arm_found text o h =
    elim (or_else_some (codes "arm ") text arm_of (or_restart text) o h) [
      | inl p ↦ arm_found text p.0 o p.1 p.2
      | inr g ↦ or_restart_found text o g
    ]

or_turn_found : (text : List ℕ) (o : Event) → or_turn text ≡ Some o → SpellsEvent text o
or_turn_found text o h =
    elim (or_else_some (codes "turn ") text (for_id CoreTurn) (or_arm text) o h) [
      | inl p ↦ let q = id_spelled CoreTurn (codes "turn ") text p.0 o p.1 p.2 in rw (← q.2) q.1
      | inr g ↦ or_arm_found text o g
    ]

or_deliver_found : (text : List ℕ) (o : Event) → or_deliver text ≡ Some o → SpellsEvent text o
or_deliver_found text o h =
    elim (or_else_some (codes "deliver ") text deliver_of (or_turn text) o h) [
      | inl p ↦ deliver_found text p.0 o p.1 p.2
      | inr g ↦ or_turn_found text o g
    ]

node_event_found : (text : List ℕ) (o : Event) → node_event_of text ≡ Some o → SpellsEvent text o
unfolding node_event_of
node_event_found text o h =
    elim (or_else_some (codes "need ") text (for_pair Need) (or_deliver text) o h) [
      | inl p ↦ let q = pair_spelled Need (codes "need ") text p.0 o p.1 p.2 in rw (← q.2) q.1
      | inr g ↦ or_deliver_found text o g
    ]

-- ---- lines

rounds_found : (text rest : List ℕ) (o : SimulationLine) → text ≡ codes "rounds " ++ rest → rounds_of rest ≡ Some o → SpellsSimulationLine text o
unfolding rounds_of
rounds_found text rest o t h =
    let r = bind_some (number_of rest) rounds_from o h in
    let p = number_prints rest r.0 r.1 in
    let q = few r.0 o r.2 in
    rw (← q.1) (q.0, record { below = p.1; text_is = t ∙ ap (λ (x : List ℕ). codes "rounds " ++ x) p.0 })
  where
    few : (r : ℕ) (o : SimulationLine) → rounds_from r ≡ Some o → (r ≤ MOST_ROUNDS) × (Rounds r ≡ o)
    few r o h =
        elim (leb r MOST_ROUNDS) as (λ b. leb r MOST_ROUNDS ≡ b → cond b (Some (Rounds r)) None ≡ Some o → (r ≤ MOST_ROUNDS) × (Rounds r ≡ o)) [
          | true ↦ λ e g. (grind (arith, nat_tests, e), some_is (Rounds r) o g)
          | false ↦ λ e g. absurd cc
        ] refl h

abbrev or_taken : List ℕ → Option SimulationLine
or_taken text = or_else (after (codes "taken ") text) (for_lane Taken) (walk_line_of text)

abbrev or_sent : List ℕ → Option SimulationLine
or_sent text = or_else (after (codes "sent ") text) (for_lane Sent) (or_taken text)

abbrev or_heights : List ℕ → Option SimulationLine
or_heights text = or_else (after (codes "heights ") text) (for_id Heights) (or_sent text)

abbrev or_mend : List ℕ → Option SimulationLine
or_mend text = or_else (after (codes "mend ") text) (for_pair Mend) (or_heights text)

abbrev or_part : List ℕ → Option SimulationLine
or_part text = or_else (after (codes "part ") text) (for_pair Part) (or_mend text)

abbrev or_rest : List ℕ → Option SimulationLine
or_rest text = cond (is_word (codes "rest") text) (Some Rest) None

abbrev or_walk : List ℕ → Option SimulationLine
or_walk text = or_else (after (codes "walk ") text) (for_pair Walk) (or_rest text)

rest_found : (text : List ℕ) (o : SimulationLine) → or_rest text ≡ Some o → SpellsSimulationLine text o
rest_found text o h =
    elim (is_word (codes "rest") text) as (λ b. is_word (codes "rest") text ≡ b → cond b (Some Rest) None ≡ Some o → SpellsSimulationLine text o) [
      | true ↦ λ e g. rw (← some_is Rest o g) (word_found (codes "rest") text e)
      | false ↦ λ e g. absurd cc
    ] refl h

or_walk_found : (text : List ℕ) (o : SimulationLine) → or_walk text ≡ Some o → SpellsSimulationLine text o
or_walk_found text o h =
    elim (or_else_some (codes "walk ") text (for_pair Walk) (or_rest text) o h) [
      | inl p ↦ let q = pair_spelled Walk (codes "walk ") text p.0 o p.1 p.2 in rw (← q.2) q.1
      | inr g ↦ rest_found text o g
    ]

walk_line_found : (text : List ℕ) (o : SimulationLine) → walk_line_of text ≡ Some o → SpellsSimulationLine text o
unfolding walk_line_of
walk_line_found text o h =
    elim (or_else_some (codes "exact ") text (for_id Exact) (or_walk text) o h) [
      | inl p ↦ let q = id_spelled Exact (codes "exact ") text p.0 o p.1 p.2 in rw (← q.2) q.1
      | inr g ↦ or_walk_found text o g
    ]

or_taken_found : (text : List ℕ) (o : SimulationLine) → or_taken text ≡ Some o → SpellsSimulationLine text o
or_taken_found text o h =
    elim (or_else_some (codes "taken ") text (for_lane Taken) (walk_line_of text) o h) [
      | inl p ↦ let q = lane_spelled Taken (codes "taken ") text p.0 o p.1 p.2 in rw (← q.2) q.1
      | inr g ↦ walk_line_found text o g
    ]

or_sent_found : (text : List ℕ) (o : SimulationLine) → or_sent text ≡ Some o → SpellsSimulationLine text o
or_sent_found text o h =
    elim (or_else_some (codes "sent ") text (for_lane Sent) (or_taken text) o h) [
      | inl p ↦ let q = lane_spelled Sent (codes "sent ") text p.0 o p.1 p.2 in rw (← q.2) q.1
      | inr g ↦ or_taken_found text o g
    ]

or_heights_found : (text : List ℕ) (o : SimulationLine) → or_heights text ≡ Some o → SpellsSimulationLine text o
or_heights_found text o h =
    elim (or_else_some (codes "heights ") text (for_id Heights) (or_sent text) o h) [
      | inl p ↦ let q = id_spelled Heights (codes "heights ") text p.0 o p.1 p.2 in rw (← q.2) q.1
      | inr g ↦ or_sent_found text o g
    ]

or_mend_found : (text : List ℕ) (o : SimulationLine) → or_mend text ≡ Some o → SpellsSimulationLine text o
or_mend_found text o h =
    elim (or_else_some (codes "mend ") text (for_pair Mend) (or_heights text) o h) [
      | inl p ↦ let q = pair_spelled Mend (codes "mend ") text p.0 o p.1 p.2 in rw (← q.2) q.1
      | inr g ↦ or_heights_found text o g
    ]

or_part_found : (text : List ℕ) (o : SimulationLine) → or_part text ≡ Some o → SpellsSimulationLine text o
or_part_found text o h =
    elim (or_else_some (codes "part ") text (for_pair Part) (or_mend text) o h) [
      | inl p ↦ let q = pair_spelled Part (codes "part ") text p.0 o p.1 p.2 in rw (← q.2) q.1
      | inr g ↦ or_mend_found text o g
    ]

order_line_found : (text : List ℕ) (o : SimulationLine) → order_line_of text ≡ Some o → SpellsSimulationLine text o
unfolding order_line_of
order_line_found text o h =
    elim (or_else_some (codes "rounds ") text rounds_of (or_part text) o h) [
      | inl p ↦ rounds_found text p.0 o p.1 p.2
      | inr g ↦ or_part_found text o g
    ]

-- the first of two options that has a value
first_found : (a b : Option SimulationLine) (o : SimulationLine) → first_of_two a b ≡ Some o → (a ≡ Some o) ⊎ (b ≡ Some o)
first_found (Some x) b o h = inl h
first_found None b o h = inr h

happens_found : (read : Option Event) (o : SimulationLine) → option_map (λ event. Happens event) read ≡ Some o → (event : Event) × (read ≡ Some event) × (Happens event ≡ o)
happens_found (Some event) o h = (event, refl, some_is (Happens event) o h)
happens_found None o h = absurd cc

pub simulation_line_found : (text : List ℕ) (o : SimulationLine) → simulation_line_of text ≡ Some o → SpellsSimulationLine text o
unfolding simulation_line_of
simulation_line_found text o h =
    elim (first_found (option_map (λ event. Happens event) (end_event_of text)) (first_of_two (option_map (λ event. Happens event) (node_event_of text)) (order_line_of text)) o h) [
      | inl p ↦ let q = happens_found (end_event_of text) o p in rw (← q.2) (end_event_found text q.0 q.1)
      | inr g ↦ elim (first_found (option_map (λ event. Happens event) (node_event_of text)) (order_line_of text) o g) [
        | inl p ↦ let q = happens_found (node_event_of text) o p in rw (← q.2) (node_event_found text q.0 q.1)
        | inr e ↦ order_line_found text o e
      ]
    ]

-- ---- the lines before the simulation runs

pub dests_found : (text dests : List ℕ) → dests_of text ≡ Some dests → SpellsDests text dests
unfolding dests_of
dests_found text dests h =
    let rest = bind_some (after (codes "dests ") text) list_of dests h in
    let p = list_found rest.0 dests rest.2 in
    record { ids = p.1; text_is = after_found (codes "dests ") text rest.0 rest.1 ∙ ap (λ (x : List ℕ). codes "dests " ++ x) p.0 }

pub link_found : (text : List ℕ) (p : ℕ × ℕ) → link_of text ≡ Some p → SpellsLink text p
unfolding link_of
link_found text p h =
    let rest = bind_some (after (codes "link ") text) pair_of p h in
    let q = pair_found rest.0 p rest.2 in
    record { first = q.1; second = q.2; text_is = after_found (codes "link ") text rest.0 rest.1 ∙ ap (λ (x : List ℕ). codes "link " ++ x) q.0 }
