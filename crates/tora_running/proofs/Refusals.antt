-- A need is refused only for a destination that is not in the table.
use Rattle.std.proofs.Common.{◌≡◌, ℕ, suc, Bool, true, false, true≢false, List, [], ◌∷◌, ◌++◌, length, Result, Ok, Err, sym, ap, ap₂, ◌∙◌, subst}
use Rattle.tora_arq.specs.declared.times.Times.{Times}
use Rattle.tora_arq.specs.EndRange.{link_end_of}
use Rattle.tora_core.specs.declared.errors.StepError.{StepError}
use Rattle.tora_core.specs.declared.errors.StepError.TheVariants as Fault
use Rattle.tora_core.specs.CoreRun.{CoreView, has_destination}
use Rattle.tora_seat.specs.declared.answer.Answer.{Answer}
use Rattle.tora_seat.specs.declared.answer.Answer.TheVariants as Says
use Rattle.tora_seat.specs.declared.item.Item.{Item}
use Rattle.tora_seat.specs.declared.what.What.{What}
use Rattle.tora_seat.specs.declared.what.What.TheVariants as Told
use Rattle.tora_seat.specs.Serving.{SeatState, Serving, serving_of}
use Rattle.tora_router.specs.Router.{RouterState, all_put, need_item, need_result, item_at, result_of}
use Rattle.tora_world.specs.Topology.{Topology, neighbours_of, other_ends, is_node}
use Rattle.tora_running.specs.Network.{Network, Part, first_network, after_part, after_parts, settings_at, neighbours_at, IsRun}
use Rattle.tora_running.specs.Network.Part.{Asks}
use Rattle.tora_running.specs.Laws as running
use Rattle.tora_running.specs.Hosts.{Hosts}
use Rattle.tora_running.specs.RouterLaws.{IsNetworkOf, CoresFollow, RefusesOnlyUnknown}
use Rattle.tora_running.proofs.Answered.{all_stay}
use Rattle.tora_running.proofs.Neighbours.{ascending_again, as_many}
use Rattle.tora_running.proofs.Nodes.{parts-append, run-append}
use Rattle.tora_running.proofs.PartsOfCalls.{put_here, numbered}

abbrev is_ok : {A B : Type 0} → Result A B → Bool
is_ok (Ok x) = true
is_ok (Err e) = false

abbrev error_or : {A B : Type 0} → B → Result A B → B
error_or e (Ok x) = e
error_or e (Err f) = f

abbrev need_in : ℕ → What → ℕ
need_in n (Told.Need d) = d
need_in n (Told.Up life) = n
need_in n (Told.Packet life packet) = n
need_in n (Told.Down life reason) = n
need_in n Told.Beat = n
need_in n (Told.Cut k) = n
need_in n Told.Show = n
need_in n (Told.Status status) = n
need_in n Told.Quit = n

was_refused : (answer : Answer) (error : StepError) → result_of answer ≡ Err error → answer ≡ Says.Refused error
was_refused Says.Nothing error e = absurd (true≢false (ap is_ok e))
was_refused (Says.Refused other) error e = ap Says.Refused (ap (error_or error) e)
was_refused Says.Show error e = absurd (true≢false (ap is_ok e))
was_refused Says.Quit error e = absurd (true≢false (ap is_ok e))

module _ (t : Topology) (times : Times) (hosts : Hosts) (parts : List Part) (run : IsRun (first_network t times) parts) (is : IsNetworkOf t times hosts (after_parts parts (first_network t times))) (follow : CoresFollow t hosts) where
  abbrev w : Network
  w = after_parts parts (first_network t times)

  module _ (n d now : ℕ) (here : is_node t n ≡ true) where
    abbrev r : RouterState
    r = (hosts n).router

    abbrev ks : List ℕ
    ks = neighbours_at w n

    abbrev ask : Part
    ask = Asks n now (Told.Need d)

    abbrev item : Item
    item = record { seat = length ks; number = suc (w.counts n (length ks)); now = now; what = Told.Need d }

    asked : IsRun (first_network t times) (parts ++ ask ∷ [])
    asked = run-append parts (ask ∷ []) (first_network t times) run ((ap (λ (x : Topology). is_node x n) is.topology ∙ here, tt), tt)

    -- the neighbours of the core
    near : r.seat.core.neighbours ≡ ks
    near = ap (λ (c : CoreView). c.neighbours) (follow n) ∙ all_stay _ (hosts n).history.inputs ∙ ascending_again (other_ends n t.links) ∙ ap (λ (x : Topology). neighbours_of x n) (sym is.topology)

    many : length r.links ≡ length ks
    many = as_many (λ k. link_end_of (settings_at w n k) (w.ends n k)) ks r.links (is.ends n)

    same : serving_of all_put r.seat.core.neighbours r.seat (need_item r d now) ≡ serving_of all_put ks (w.seats n) item
    same =
        ap₂ (λ (js : List ℕ) (x : SeatState). serving_of all_put js x (need_item r d now)) near (sym (is.seats n))
        ∙ ap (λ (place : ℕ). serving_of all_put ks (w.seats n) (item_at place now (Told.Need d))) many
        ∙ sym (numbered all_put ks (w.seats n) (length ks) (suc (w.counts n (length ks))) now (Told.Need d))

    refused : running.RefusesOnlyNeeds (after_part w ask) → (error : StepError) → need_result r d now ≡ Err error → (has_destination d r.seat.core.views ≡ false) × (error ≡ Fault.UnknownDestination)
    refused law error e =
        let waits : (after_part w ask).items n ≡ item ∷ [] = put_here w.items n (w.items n ++ item ∷ []) ∙ ap (λ (xs : List Item). xs ++ item ∷ []) (is.items n) in
        let x = law n all_put item [] error waits (ap (λ (v : Serving). v.answer) (sym same) ∙ was_refused (serving_of all_put r.seat.core.neighbours r.seat (need_item r d now)).answer error e) in
        (ap₂ (λ (c : ℕ) (y : SeatState). has_destination c y.core.views) (ap (need_in d) x.1) (sym (is.seats n)) ∙ x.2, x.3)

  pub refuses_only_unknown : running.EveryNetwork (λ t times w. running.RefusesOnlyNeeds w) → RefusesOnlyUnknown t hosts
  refuses_only_unknown law n d now error here e =
      refused n d now here (subst running.RefusesOnlyNeeds (parts-append parts (ask n d now here ∷ []) (first_network t times)) (law t times (parts ++ ask n d now here ∷ []) (asked n d now here))) error e
