-- A line of a simulation file that has a written form is read as that form says.
use Rattle.std.proofs.Common.{◌≡◌, ℕ, ◌<◌, ◌≤◌, ◌^◌, Bool, true, false, ◌&&◌, ltb, leb, ◌==◌, codes, List, ◌∷◌, ◌++◌, length, Option, None, Some, refl, ap, ◌∙◌, arith}
use Rattle.std.specs.Fmt.{decimal}
use Rattle.std.proofs.lemmas.Bool.{lt-ltb, le-leb}
use Rattle.std.proofs.lemmas.Bool.Decides.{nat_tests}
use Rattle.tora_packet.specs.PacketParts.{IsId}
use Rattle.tora_frame.specs.declared.parts.TheConstants.{GREATEST_NUMBER}
use Rattle.tora_arq.specs.declared.life.Life.{Life}
use Rattle.tora_world.specs.declared.event.Event.{Event}
use Rattle.tora_world.specs.declared.event.Event.TheVariants.{Need, Tick, Open, Pull, Transmit, Deliver, Pump, CoreTurn, Arm, Restart}
use Rattle.tora_world.specs.declared.call.Call.{Call}
use Rattle.tora_world.specs.declared.call.Call.TheVariants as Fails
use Rattle.tora_script.specs.declared.parse.TheConstants.{MOST_ROUNDS}
use Rattle.tora_script.specs.declared.script_line.SimulationLine.{SimulationLine}
use Rattle.tora_script.specs.declared.script_line.SimulationLine.TheVariants.{Happens, Rounds, Part, Mend, Heights, Sent, Taken, Exact, Walk, Rest}
use Rattle.tora_lines.specs.Fronts.{after}
use Rattle.tora_script.specs.SimulationLines.{is_word, pair_of, life_number_of, life_of, lane_of, call_of, torn_of, rounds_of, for_pair, for_lane, for_id, deliver_of, arm_of, restart_of, end_event_of, node_event_of, walk_line_of, order_line_of, simulation_line_of, dests_of, link_of}
use Rattle.tora_script.specs.SimulationGrammar.{IsLifeNumber, call_text, SpellsTorn, SpellsEvent, SpellsSimulationLine, SpellsDests, SpellsLink}
use Rattle.tora_lines.proofs.Grammar.{number_again}
use Rattle.tora_lines.proofs.WordLaws.{id_here, after_here, no_blank, cut_here}
use Rattle.tora_lines.proofs.ListLaws.{list_here}

pub small : (n : ℕ) → IsId n → n < 2 ^ 64
small n h = omega (arith, h.1)

pair_here : (n k : ℕ) → IsId n → IsId k → pair_of (decimal n ++ 32 ∷ decimal k) ≡ Some (n, k)
unfolding pair_of
pair_here n k p q = rw (cut_here (decimal n) (decimal k) (no_blank n (small n p)), id_here n p, id_here k q) refl

life_number_here : (n : ℕ) → IsLifeNumber n → life_number_of (decimal n) ≡ Some n
unfolding life_number_of
life_number_here n h =
    let below : n < 2 ^ 64 = omega (arith, h.1) in
    let low : ltb 0 n ≡ true = lt-ltb _ _ h.0 in
    let high : leb n GREATEST_NUMBER ≡ true = le-leb _ _ h.1 in
    rw (number_again n below, low, high) refl

life_here : (life : Life) → IsLifeNumber life.own → IsLifeNumber life.peer → life_of (decimal life.own ++ 32 ∷ decimal life.peer) ≡ Some life
unfolding life_of
life_here life p q =
    let below : life.own < 2 ^ 64 = omega (arith, p.1) in
    rw (cut_here (decimal life.own) (decimal life.peer) (no_blank life.own below), life_number_here life.own p, life_number_here life.peer q) refl

lane_here : (n k : ℕ) (life : Life) → IsId n → IsId k → IsLifeNumber life.own → IsLifeNumber life.peer
    → lane_of (decimal n ++ 32 ∷ (decimal k ++ 32 ∷ (decimal life.own ++ 32 ∷ decimal life.peer))) ≡ Some (n, k, life)
unfolding lane_of
lane_here n k life p q r s =
    rw (
      cut_here (decimal n) (decimal k ++ 32 ∷ (decimal life.own ++ 32 ∷ decimal life.peer)) (no_blank n (small n p)),
      id_here n p,
      cut_here (decimal k) (decimal life.own ++ 32 ∷ decimal life.peer) (no_blank k (small k q)),
      id_here k q,
      life_here life r s,
    ) refl

call_here : (call : Call) → call_of (call_text call) ≡ Some call
unfolding call_of is_word after
call_here Fails.SendLost = refl
call_here Fails.SendGone = refl
call_here Fails.Receive = refl
call_here Fails.Read = refl
call_here Fails.Write = refl
call_here Fails.Sync = refl

torn_here : (word : List ℕ) (torn : Option (List ℕ)) → SpellsTorn word torn → torn_of word ≡ Some torn
unfolding torn_of
torn_here word None h = ap torn_of h
torn_here word (Some bytes) h =
    let long : (length word == 1) ≡ false = grind (arith, nat_tests, h.0) in
    let full : (length word == 32) ≡ true = grind (arith, nat_tests, h.0) in
    rw (long, full, h.1) refl

not_word : (word text : List ℕ) → after word text ≡ None → is_word word text ≡ false
unfolding is_word
not_word word text h = rw h (and_false (length text == length word))
  where
    and_false : (b : Bool) → (b && false) ≡ false
    and_false true = refl
    and_false false = refl

-- ---- different first words: a line with this word is read only by the reader for it

open_reads : (rest : List ℕ) (e : Event) → for_pair Open rest ≡ Some e → simulation_line_of (codes "open " ++ rest) ≡ Some (Happens e)
unfolding simulation_line_of end_event_of after
open_reads rest e h = rw h refl

pull_reads : (rest : List ℕ) (e : Event) → for_pair Pull rest ≡ Some e → simulation_line_of (codes "pull " ++ rest) ≡ Some (Happens e)
unfolding simulation_line_of end_event_of after
pull_reads rest e h = rw h refl

transmit_reads : (rest : List ℕ) (e : Event) → for_pair Transmit rest ≡ Some e → simulation_line_of (codes "transmit " ++ rest) ≡ Some (Happens e)
unfolding simulation_line_of end_event_of after
transmit_reads rest e h = rw h refl

pump_reads : (rest : List ℕ) (e : Event) → for_pair Pump rest ≡ Some e → simulation_line_of (codes "pump " ++ rest) ≡ Some (Happens e)
unfolding simulation_line_of end_event_of after
pump_reads rest e h = rw h refl

need_reads : (rest : List ℕ) (e : Event) → for_pair Need rest ≡ Some e → simulation_line_of (codes "need " ++ rest) ≡ Some (Happens e)
unfolding simulation_line_of end_event_of node_event_of after
need_reads rest e h = rw h refl

deliver_reads : (rest : List ℕ) (e : Event) → deliver_of rest ≡ Some e → simulation_line_of (codes "deliver " ++ rest) ≡ Some (Happens e)
unfolding simulation_line_of end_event_of node_event_of after
deliver_reads rest e h = rw h refl

turn_reads : (rest : List ℕ) (e : Event) → for_id CoreTurn rest ≡ Some e → simulation_line_of (codes "turn " ++ rest) ≡ Some (Happens e)
unfolding simulation_line_of end_event_of node_event_of after
turn_reads rest e h = rw h refl

arm_reads : (rest : List ℕ) (e : Event) → arm_of rest ≡ Some e → simulation_line_of (codes "arm " ++ rest) ≡ Some (Happens e)
unfolding simulation_line_of end_event_of node_event_of after
arm_reads rest e h = rw h refl

restart_reads : (rest : List ℕ) (e : Event) → restart_of rest ≡ Some e → simulation_line_of (codes "restart " ++ rest) ≡ Some (Happens e)
unfolding simulation_line_of end_event_of node_event_of after
restart_reads rest e h = rw h refl

tick_here : simulation_line_of (codes "tick") ≡ Some (Happens Tick)
unfolding simulation_line_of end_event_of node_event_of is_word after
tick_here = refl

rounds_reads : (rest : List ℕ) (line : SimulationLine) → rounds_of rest ≡ Some line → simulation_line_of (codes "rounds " ++ rest) ≡ Some line
unfolding simulation_line_of end_event_of node_event_of order_line_of after
rounds_reads rest line h =
    let other : after (codes "tick") (codes "rounds " ++ rest) ≡ None = refl in
    rw (not_word (codes "tick") (codes "rounds " ++ rest) other, h) refl

part_reads : (rest : List ℕ) (line : SimulationLine) → for_pair Part rest ≡ Some line → simulation_line_of (codes "part " ++ rest) ≡ Some line
unfolding simulation_line_of end_event_of node_event_of order_line_of after
part_reads rest line h =
    let other : after (codes "tick") (codes "part " ++ rest) ≡ None = refl in
    rw (not_word (codes "tick") (codes "part " ++ rest) other, h) refl

mend_reads : (rest : List ℕ) (line : SimulationLine) → for_pair Mend rest ≡ Some line → simulation_line_of (codes "mend " ++ rest) ≡ Some line
unfolding simulation_line_of end_event_of node_event_of order_line_of after
mend_reads rest line h =
    let other : after (codes "tick") (codes "mend " ++ rest) ≡ None = refl in
    rw (not_word (codes "tick") (codes "mend " ++ rest) other, h) refl

heights_reads : (rest : List ℕ) (line : SimulationLine) → for_id Heights rest ≡ Some line → simulation_line_of (codes "heights " ++ rest) ≡ Some line
unfolding simulation_line_of end_event_of node_event_of order_line_of after
heights_reads rest line h =
    let other : after (codes "tick") (codes "heights " ++ rest) ≡ None = refl in
    rw (not_word (codes "tick") (codes "heights " ++ rest) other, h) refl

sent_reads : (rest : List ℕ) (line : SimulationLine) → for_lane Sent rest ≡ Some line → simulation_line_of (codes "sent " ++ rest) ≡ Some line
unfolding simulation_line_of end_event_of node_event_of order_line_of after
sent_reads rest line h =
    let other : after (codes "tick") (codes "sent " ++ rest) ≡ None = refl in
    rw (not_word (codes "tick") (codes "sent " ++ rest) other, h) refl

taken_reads : (rest : List ℕ) (line : SimulationLine) → for_lane Taken rest ≡ Some line → simulation_line_of (codes "taken " ++ rest) ≡ Some line
unfolding simulation_line_of end_event_of node_event_of order_line_of after
taken_reads rest line h =
    let other : after (codes "tick") (codes "taken " ++ rest) ≡ None = refl in
    rw (not_word (codes "tick") (codes "taken " ++ rest) other, h) refl

exact_reads : (rest : List ℕ) (line : SimulationLine) → for_id Exact rest ≡ Some line → simulation_line_of (codes "exact " ++ rest) ≡ Some line
unfolding simulation_line_of end_event_of node_event_of order_line_of walk_line_of after
exact_reads rest line h =
    let other : after (codes "tick") (codes "exact " ++ rest) ≡ None = refl in
    rw (not_word (codes "tick") (codes "exact " ++ rest) other, h) refl

walk_reads : (rest : List ℕ) (line : SimulationLine) → for_pair Walk rest ≡ Some line → simulation_line_of (codes "walk " ++ rest) ≡ Some line
unfolding simulation_line_of end_event_of node_event_of order_line_of walk_line_of after
walk_reads rest line h =
    let other : after (codes "tick") (codes "walk " ++ rest) ≡ None = refl in
    rw (not_word (codes "tick") (codes "walk " ++ rest) other, h) refl

rest_here : simulation_line_of (codes "rest") ≡ Some Rest
unfolding simulation_line_of end_event_of node_event_of order_line_of walk_line_of is_word after
rest_here = refl

-- ---- the result of each reader

for_pair_here : {A : Type 0} (make : ℕ → ℕ → A) (n k : ℕ) → IsId n → IsId k → for_pair make (decimal n ++ 32 ∷ decimal k) ≡ Some (make n k)
unfolding for_pair
for_pair_here make n k p q = rw (pair_here n k p q) refl

pub for_id_here : {A : Type 0} (make : ℕ → A) (n : ℕ) → IsId n → for_id make (decimal n) ≡ Some (make n)
unfolding for_id
for_id_here make n h = rw (id_here n h) refl

for_lane_here : {A : Type 0} (make : ℕ → ℕ → Life → A) (n k : ℕ) (life : Life) → IsId n → IsId k → IsLifeNumber life.own → IsLifeNumber life.peer
    → for_lane make (decimal n ++ 32 ∷ (decimal k ++ 32 ∷ (decimal life.own ++ 32 ∷ decimal life.peer))) ≡ Some (make n k life)
unfolding for_lane
for_lane_here make n k life p q r s = rw (lane_here n k life p q r s) refl

deliver_here : (i : ℕ) → i < 2 ^ 64 → deliver_of (decimal i) ≡ Some (Deliver i)
unfolding deliver_of
deliver_here i h = rw (number_again i h) refl

rounds_here : (r : ℕ) → r ≤ MOST_ROUNDS → r < 2 ^ 64 → rounds_of (decimal r) ≡ Some (Rounds r)
unfolding rounds_of
rounds_here r few h = let within : leb r MOST_ROUNDS ≡ true = le-leb _ _ few in rw (number_again r h, within) refl

arm_here : (n : ℕ) (call : Call) → IsId n → arm_of (decimal n ++ 32 ∷ call_text call) ≡ Some (Arm n call)
unfolding arm_of
arm_here n call h = rw (cut_here (decimal n) (call_text call) (no_blank n (small n h)), id_here n h, call_here call) refl

restart_here : (n : ℕ) (word : List ℕ) (torn : Option (List ℕ)) → IsId n → SpellsTorn word torn → restart_of (decimal n ++ 32 ∷ word) ≡ Some (Restart n torn)
unfolding restart_of
restart_here n word torn h s = rw (cut_here (decimal n) word (no_blank n (small n h)), id_here n h, torn_here word torn s) refl

-- ---- lines

event_here : (text : List ℕ) (e : Event) → SpellsEvent text e → simulation_line_of text ≡ Some (Happens e)
event_here text (Need n d) s = ap simulation_line_of s.text_is ∙ need_reads _ _ (for_pair_here Need n d s.first s.second)
event_here text Tick s = ap simulation_line_of s ∙ tick_here
event_here text (Open n k) s = ap simulation_line_of s.text_is ∙ open_reads _ _ (for_pair_here Open n k s.first s.second)
event_here text (Pull n k) s = ap simulation_line_of s.text_is ∙ pull_reads _ _ (for_pair_here Pull n k s.first s.second)
event_here text (Transmit n k) s = ap simulation_line_of s.text_is ∙ transmit_reads _ _ (for_pair_here Transmit n k s.first s.second)
event_here text (Deliver i) s = ap simulation_line_of s.text_is ∙ deliver_reads _ _ (deliver_here i s.below)
event_here text (Pump n k) s = ap simulation_line_of s.text_is ∙ pump_reads _ _ (for_pair_here Pump n k s.first s.second)
event_here text (CoreTurn n) s = ap simulation_line_of s.text_is ∙ turn_reads _ _ (for_id_here CoreTurn n s.id)
event_here text (Arm n call) s = ap simulation_line_of s.text_is ∙ arm_reads _ _ (arm_here n call s.id)
event_here text (Restart n torn) s = ap simulation_line_of s.text_is ∙ restart_reads _ _ (restart_here n s.word torn s.id s.spelled)

pub simulation_line_here : (text : List ℕ) (line : SimulationLine) → SpellsSimulationLine text line → simulation_line_of text ≡ Some line
simulation_line_here text (Happens event) s = event_here text event s
simulation_line_here text (Rounds r) s = ap simulation_line_of s.1.text_is ∙ rounds_reads _ _ (rounds_here r s.0 s.1.below)
simulation_line_here text (Part a b) s = ap simulation_line_of s.text_is ∙ part_reads _ _ (for_pair_here Part a b s.first s.second)
simulation_line_here text (Mend a b) s = ap simulation_line_of s.text_is ∙ mend_reads _ _ (for_pair_here Mend a b s.first s.second)
simulation_line_here text (Heights d) s = ap simulation_line_of s.text_is ∙ heights_reads _ _ (for_id_here Heights d s.id)
simulation_line_here text (Sent a b life) s = ap simulation_line_of s.text_is ∙ sent_reads _ _ (for_lane_here Sent a b life s.first s.second s.own s.peer)
simulation_line_here text (Exact d) s = ap simulation_line_of s.text_is ∙ exact_reads _ _ (for_id_here Exact d s.id)
simulation_line_here text (Walk n d) s = ap simulation_line_of s.text_is ∙ walk_reads _ _ (for_pair_here Walk n d s.first s.second)
simulation_line_here text Rest s = ap simulation_line_of s ∙ rest_here
simulation_line_here text (Taken b a life) s = ap simulation_line_of s.text_is ∙ taken_reads _ _ (for_lane_here Taken b a life s.first s.second s.own s.peer)

pub dests_here : (text dests : List ℕ) → SpellsDests text dests → dests_of text ≡ Some dests
unfolding dests_of
dests_here text dests s = ap dests_of s.text_is ∙ rw (after_here (codes "dests ") _) (list_here dests s.ids)

pub link_here : (text : List ℕ) (p : ℕ × ℕ) → SpellsLink text p → link_of text ≡ Some p
unfolding link_of
link_here text p s = ap link_of s.text_is ∙ rw (after_here (codes "link ") _) (pair_here p.0 p.1 s.first s.second)
