-- A turn does not change the ends of other nodes.
use Rattle.std.proofs.Common.{◌≡◌, ℕ, ◌+◌, ◌<◌, List, [], ◌∷◌, ◌++◌, slice_get, Option, Some, None, MatchOption, ap, ◌∙◌, subst}
use Rattle.std.specs.Prelude.{⊤}
use Rattle.tora_seat.specs.declared.item.Item.{Item}
use Rattle.tora_seat.specs.declared.stepped.Stepped.{Stepped}
use Rattle.tora_seat.specs.Offers.{AreOffered, place_of}
use Rattle.tora_seat.specs.Serving.{Offer}
use Rattle.tora_sim.specs.Lanes.{LanesView, DidOffer, AreOthersKept, after_offer_at}
use Rattle.tora_sim.specs.Links.{LinkView}
use Rattle.tora_sim.specs.Nodes.{NodeView}
use Rattle.tora_sim.specs.Turns.{IsServed, IsNoted}
use Rattle.tora_sim.proofs.EachItem.{set_other}
use Rattle.tora_sim.proofs.Served.{lanes_stay}

offers_leave : (ks : List ℕ) (first count : ℕ) (offers : List Offer) (lanes after : LanesView) → lanes.first ≡ first → lanes.count ≡ count → AreOffered DidOffer ks lanes offers after → AreOthersKept lanes.links after.links first count
offers_leave ks first count [] lanes after f n e at away = ap (λ (v : LanesView). slice_get v.links at) e
offers_leave ks first count (o ∷ offers) lanes after f n (between, did, rest) at away =
    let here : lanes.first + place_of o.to ks ≡ first + place_of o.to ks = ap (λ (m : ℕ). m + place_of o.to ks) f in
    let within : place_of o.to ks < count = subst (λ (m : ℕ). place_of o.to ks < m) n did.within in
    offers_leave ks first count offers between after (ap (λ (v : LanesView). v.first) did.lanes ∙ f) (ap (λ (v : LanesView). v.count) did.lanes ∙ n) rest at away
    ∙ ap (λ (v : LanesView). slice_get v.links at) did.lanes
    ∙ set_other lanes.links (lanes.first + place_of o.to ks) at (after_offer_at did.link o.cargo o.put) (λ q. away (place_of o.to ks) within (q ∙ here))

noted_leaves : (first count : ℕ) (lanes : LanesView) (seat : ℕ) (stepped : Option Stepped) (links : List LinkView) → lanes.first ≡ first → lanes.count ≡ count → MatchOption stepped ⊤ (λ _. seat < lanes.count) → IsNoted lanes seat stepped links
    → AreOthersKept lanes.links links first count
noted_leaves first count lanes seat None links f n w e at away = ap (λ (xs : List LinkView). slice_get xs at) e
noted_leaves first count lanes seat (Some p) links f n lt (link, there, is) at away =
    ap (λ (xs : List LinkView). slice_get xs at) is
    ∙ set_other lanes.links (lanes.first + seat) at (record link { steps = link.steps ++ record { life = p.life; packet = p.packet } ∷ [] }) (λ q. away seat (subst (λ (m : ℕ). seat < m) n lt) (q ∙ ap (λ (m : ℕ). m + seat) f))

pub served_leaves : (x y : NodeView) (v lanes : LanesView) (item : Item) (stepped : Option Stepped) (links : List LinkView) (first count : ℕ) → v.first ≡ first → v.count ≡ count → IsServed x v item y lanes → MatchOption stepped ⊤ (λ _. item.seat < lanes.count) → IsNoted lanes item.seat stepped links
    → AreOthersKept v.links links first count
served_leaves x y v lanes item stepped links first count f n s w e at away =
    let stay = lanes_stay x.seat.core.neighbours s.offers v lanes s.offered in
    noted_leaves first count lanes item.seat stepped links (stay.0 ∙ f) (stay.1 ∙ n) w e at away
    ∙ offers_leave x.seat.core.neighbours first count s.offers v lanes f n s.offered at away
