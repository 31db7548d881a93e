-- Items that are served over the links of a router.
use Rattle.std.proofs.Common.{◌≡◌, ◌+◌, ℕ, zero, suc, List, [], ◌∷◌, ◌++◌, None, refl, sym, ap, ◌∙◌, arith}
use Rattle.tora_seat.specs.declared.item.Item.{Item}
use Rattle.tora_seat.specs.Offers.{AreOffered, Follows}
use Rattle.tora_seat.specs.Rows.{SeatView, state_of, serving_at}
use Rattle.tora_seat.specs.Serving.{Answers, Offer, Serving, serving_of}
use Rattle.tora_router.specs.declared.link.Link.{Link}
use Rattle.tora_router.specs.Links.{first_in, event_of}
use Rattle.tora_router.specs.Router.{RouterView, RouterState, router_of, TakesCargo, all_put, after_offers, after_item, after_event, after_first_event, after_events}

pub takes_all : (ks : List ℕ) (links : List Link) (offers : List Offer) (after : List Link) → AreOffered TakesCargo ks links offers after → after ≡ after_offers ks offers links
takes_all ks links [] after h = h
takes_all ks links (o ∷ offers) after h = takes_all ks h.0 offers after h.2 ∙ ap (after_offers ks offers) h.1.1

pub follows_all : (ks : List ℕ) (links : List Link) (offers : List Offer) (after : List Link) (before : List Offer) → AreOffered TakesCargo ks links offers after → Follows all_put before offers
follows_all ks links [] after before h = tt
follows_all ks links (o ∷ offers) after before h = (sym h.1.0, follows_all ks h.0 offers after (before ++ o ∷ []) h.2)

module _ (r : RouterView) (item : Item) (seat : SeatView) (links : List Link) (offers : List Offer)
    (o : AreOffered TakesCargo r.seat.core.neighbours r.links offers links)
    (served : (answers : Answers) → Follows answers [] offers → serving_of answers r.seat.core.neighbours (state_of r.seat) item ≡ serving_at item.now seat offers) where
  pub is_serving : serving_of all_put r.seat.core.neighbours (state_of r.seat) item ≡ serving_at item.now seat offers
  is_serving = served all_put (follows_all r.seat.core.neighbours r.links offers links [] o)

  pub item_served : router_of (record r { seat = seat; links = links }) ≡ after_item (router_of r) item
  unfolding after_item
  item_served =
      ap (λ (ls : List Link). record (router_of r) { seat = state_of seat; links = ls }) (takes_all r.seat.core.neighbours r.links offers links o)
      ∙ sym (ap (λ (v : Serving). record (router_of r) { seat = v.seat; links = after_offers r.seat.core.neighbours v.offers r.links }) is_serving)

-- if no event waits, nothing more is served
pub none_left : (now : ℕ) (r : RouterState) → first_in event_of r.links ≡ None → after_first_event now r ≡ r
unfolding after_first_event
none_left now r e = ap (after_event now r) e

pub events_over : (more count total now : ℕ) (r : RouterState) → total ≡ more + count → first_in event_of (after_events count now r).links ≡ None → after_events total now r ≡ after_events count now r
events_over zero count total now r t e =
    let s : total ≡ count = omega (arith, t) in
    ap (λ n. after_events n now r) s
events_over (suc more) count total now r t e =
    let s : total ≡ suc (more + count) = omega (arith, t) in
    ap (λ n. after_events n now r) s ∙ ap (after_first_event now) (events_over more count (more + count) now r refl e) ∙ none_left now (after_events count now r) e
