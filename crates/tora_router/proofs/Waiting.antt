-- Each served event lowers the number of waiting events by one.
use Rattle.std.proofs.Common.{◌≡◌, ◌+◌, ◌≤◌, ℕ, zero, suc, Bool, true, false, true≢false, List, [], ◌∷◌, ◌++◌, length, drop, Option, Some, None, Err, Ok, if◌then◌else◌, refl, sym, ap, ◌∙◌, subst, arith, length-append}
use Rattle.std.specs.Prelude.{is_some, not, nat_le, slice_get, Result}
use Rattle.tora_packet.specs.declared.Packet.{Packet}
use Rattle.tora_frame.specs.declared.parts.TheConstants.{GREATEST_NUMBER}
use Rattle.tora_arq.specs.declared.TheConstants.{QUEUE_PLACES}
use Rattle.tora_arq.specs.declared.life.Life.{Life}
use Rattle.tora_arq.specs.declared.link_event.LinkEvent.{LinkEvent}
use Rattle.tora_arq.specs.declared.link_event.LinkEvent.TheVariants.{Down}
use Rattle.tora_arq.specs.declared.phase.Phase.{Phase}
use Rattle.tora_arq.specs.declared.phase.Phase.TheVariants.{Closed, Unbound, Bound}
use Rattle.tora_arq.specs.declared.reason.Reason.{Reason}
use Rattle.tora_arq.specs.declared.reason.Reason.TheVariants as Because
use Rattle.tora_arq.specs.declared.submit_error.SubmitError.{SubmitError}
use Rattle.tora_arq.specs.declared.submit_error.SubmitError.TheVariants as Refusal
use Rattle.tora_arq.specs.Lives.{is_same_life}
use Rattle.tora_arq.specs.SendQueue.{untried}
use Rattle.tora_arq.specs.LinkEnd.{EndState, after_end, on_submit_in, on_submit, after_submit, after_cut_in, after_cut}
use Rattle.tora_seat.specs.declared.cargo.Cargo.{Cargo}
use Rattle.tora_seat.specs.declared.cargo.Cargo.TheVariants as Gives
use Rattle.tora_seat.specs.declared.item.Item.{Item}
use Rattle.tora_seat.specs.Between.{after_cargo, what_of}
use Rattle.tora_seat.specs.Offers.{place_of}
use Rattle.tora_seat.specs.Serving.{Offer}
use Rattle.tora_router.specs.declared.link.Link.{Link}
use Rattle.tora_router.specs.Links.{given, polled, at_place, first_in, found_at, event_of, may_end, waits, waiting}
use Rattle.tora_router.specs.Router.{RouterState, serving, after_offers, item_at, after_item, after_event, after_first_event}

-- ---- a cargo that is passed in

end_waits : (e : EndState) (life : Life) (reason : Reason) → e.phase ≡ Bound life → waits (after_end e life reason) ≤ waits e
end_waits e life reason q =
    let one : may_end e.phase ≡ 1 = ap may_end q in
    omega (arith, one, length-append e.events (Down life reason ∷ []))

submit_waits : (e : EndState) (life : Life) (packet : Packet) (phase : Phase) → e.phase ≡ phase → waits (on_submit_in e life packet phase).1 ≤ waits e
submit_waits e life packet Closed q = omega arith
submit_waits e life packet (Unbound own) q = omega arith
submit_waits e life packet (Bound current) q = go (is_same_life life current) (nat_le GREATEST_NUMBER (e.acknowledged + length e.queue)) (nat_le QUEUE_PLACES (length e.queue))
  where
    step : Bool → Bool → Bool → Result (Unit {0}) SubmitError × EndState
    step same spent full =
        if not same then (Err (Refusal.WrongLife packet), e)
        else if spent then (Err Refusal.Spent, after_end e current Because.Spent)
        else if full then (Err Refusal.Full, after_end e current Because.Full)
        else (Ok tt, record e { queue = e.queue ++ untried packet ∷ [] })

    go : (same spent full : Bool) → waits (step same spent full).1 ≤ waits e
    go false spent full = omega arith
    go true true full = end_waits e current Because.Spent q
    go true false true = end_waits e current Because.Full q
    go true false false = omega arith

cut_waits : (e : EndState) (life : Life) (phase : Phase) → e.phase ≡ phase → waits (after_cut_in e life phase) ≤ waits e
cut_waits e life Closed q = omega arith
cut_waits e life (Unbound own) q = omega arith
cut_waits e life (Bound current) q = go (is_same_life life current)
  where
    go : (same : Bool) → waits (if same then after_end e current Because.Cut else e) ≤ waits e
    go true = end_waits e current Because.Cut q
    go false = omega arith

given_waits : (cargo : Cargo) (e : EndState) → waits (after_cargo e cargo) ≤ waits e
unfolding on_submit after_cut
given_waits (Gives.Packet life packet) e = submit_waits e life packet e.phase refl
given_waits (Gives.Cut life) e = cut_waits e life e.phase refl

at_place_waits : (f : Link → Link) (place : ℕ) (links : List Link) → ((link : Link) → waits (f link).end.state ≤ waits link.end.state) → waiting (at_place f place links) ≤ waiting links
at_place_waits f place [] h = omega arith
at_place_waits f zero (link ∷ links) h = omega (arith, h link)
at_place_waits f (suc place) (link ∷ links) h = omega (arith, at_place_waits f place links h)

pub offers_wait : (ks : List ℕ) (offers : List Offer) (links : List Link) → waiting (after_offers ks offers links) ≤ waiting links
offers_wait ks [] links = omega arith
offers_wait ks (o ∷ offers) links =
    omega (arith, offers_wait ks offers (at_place (given o.cargo) (place_of o.to ks) links), at_place_waits (given o.cargo) (place_of o.to ks) links (λ link. given_waits o.cargo link.end.state))

-- ---- an event that is taken

drop_one : {A : Type 0} (x : A) (xs : List A) → slice_get xs 0 ≡ Some x → length (drop 1 xs) + 1 ≡ length xs
drop_one x [] e = absurd (true≢false (sym (ap is_some e)))
drop_one x (y ∷ xs) e = omega arith

abbrev value_or : {A : Type 0} → A → Option A → A
value_or x None = x
value_or x (Some y) = y

pub poll_waits : (links : List Link) (found : ℕ × LinkEvent) → first_in event_of links ≡ Some found → waiting (at_place (polled found.1) found.0 links) + 1 ≡ waiting links
poll_waits [] found e = absurd (true≢false (sym (ap is_some e)))
poll_waits (link ∷ links) found e = go (event_of link) refl (first_in event_of links) refl e (λ further t. poll_waits links further t)
  where
    goal : ℕ × LinkEvent → Type 0
    goal f = waiting (at_place (polled f.1) f.0 (link ∷ links)) + 1 ≡ waiting (link ∷ links)

    go : (here : Option LinkEvent) → event_of link ≡ here → (there : Option (ℕ × LinkEvent)) → first_in event_of links ≡ there → found_at here there ≡ Some found
        → ((further : ℕ × LinkEvent) → first_in event_of links ≡ Some further → waiting (at_place (polled further.1) further.0 links) + 1 ≡ waiting links) → goal found
    go (Some event) h there t q more =
        let one : length (drop 1 link.end.state.events) + 1 ≡ length link.end.state.events = drop_one event link.end.state.events h in
        let here : goal (0, event) = omega (arith, one) in
        subst goal (ap (value_or found) q) here
    go None h (Some further) t q more =
        let less : waiting (at_place (polled further.1) further.0 links) + 1 ≡ waiting links = more further t in
        let here : goal (suc further.0, further.1) = omega (arith, less) in
        subst goal (ap (value_or found) q) here
    go None h None t q more = absurd (true≢false (sym (ap is_some q)))

pub event_waits : (now : ℕ) (r : RouterState) (found : ℕ × LinkEvent) → first_in event_of r.links ≡ Some found → waiting (after_first_event now r).links + 1 ≤ waiting r.links
unfolding after_first_event after_item
event_waits now r found e =
    let links : List Link = at_place (polled found.1) found.0 r.links in
    let offers : List Offer = (serving (record r { links = links }) (item_at found.0 now (what_of found.1))).offers in
    let less : waiting (after_offers r.seat.core.neighbours offers links) ≤ waiting links = offers_wait r.seat.core.neighbours offers links in
    let one : waiting links + 1 ≡ waiting r.links = poll_waits r.links found e in
    let both : waiting (after_event now r (Some found)).links + 1 ≤ waiting r.links = omega (arith, less, one) in
    subst (λ o. waiting (after_event now r o).links + 1 ≤ waiting r.links) (sym e) both
