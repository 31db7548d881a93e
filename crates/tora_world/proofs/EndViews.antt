-- The view of a world that the invariant uses.
use Rattle.std.proofs.Common.{◌≡◌, ℕ, suc, Bool, true, false, List, [], ◌∷◌, ◌++◌, map, length, Option, Some, None, nat_eq, if◌then◌else◌, refl, sym, ap, ◌∙◌, append_assoc, eqb-true, true≢false, ◌||◌}
use Rattle.std.specs.Prelude.{slice_get}
use Rattle.tora_core.specs.Numbers.{has_number}
use Rattle.tora_arq.specs.declared.life.Life.{Life}
use Rattle.tora_arq.specs.declared.link_event.LinkEvent.{LinkEvent}
use Rattle.tora_arq.specs.declared.link_event.LinkEvent.TheVariants.{Up, Deliver, Down}
use Rattle.tora_arq.specs.Settings.{Settings}
use Rattle.tora_arq.specs.LinkEnd.{EndState}
use Rattle.tora_arq.specs.LinkFacts.{LinkCall, after_call, IsPossible, events_left, events_queued}
use Rattle.tora_life.specs.LifeRun.{LifeDisk}
use Rattle.tora_seat.specs.declared.what.What.{What}
use Rattle.tora_seat.specs.declared.what.What.TheVariants as Tells
use Rattle.tora_seat.specs.declared.item.Item.{Item}
use Rattle.tora_seat.specs.declared.cargo.Cargo.{Cargo}
use Rattle.tora_seat.specs.declared.cargo.Cargo.TheVariants as Gives
use Rattle.tora_seat.specs.Serving.{Parcel}
use Rattle.tora_world.specs.Lists.{parcels_in, parcel_of}
use Rattle.tora_seat.specs.Between.{what_of}
use Rattle.tora_world.specs.World.{World, settings, neighbours}
use Rattle.tora_seat.specs.Offers.{place_of}
use Rattle.tora_world.specs.Layers.{LinkLaws}
use Rattle.tora_world.proofs.Invariant.{Arrival, EndView, arrival_of}
use Rattle.tora_world.proofs.Invariant.Arrival.{LifeComes, PacketComes, OtherComes}
use Rattle.tora_world.proofs.Moves.{called}

abbrev pub arrival_in : What → Arrival
arrival_in (Tells.Up l) = LifeComes l
arrival_in (Tells.Packet l p) = PacketComes l p
arrival_in (Tells.Down l r) = OtherComes
arrival_in Tells.Beat = OtherComes
arrival_in (Tells.Need d) = OtherComes
arrival_in (Tells.Cut k) = OtherComes
arrival_in Tells.Show = OtherComes
arrival_in (Tells.Status status) = OtherComes
arrival_in Tells.Quit = OtherComes

-- the arrival that an item is, if it is from this neighbour
abbrev pub arrivals_in : ℕ → Option ℕ → What → List Arrival
arrivals_in k (Some j) x = if nat_eq j k then arrival_in x ∷ [] else []
arrivals_in k None x = []

abbrev pub arrivals_of : List ℕ → ℕ → List Item → List Arrival
arrivals_of ks k [] = []
arrivals_of ks k (i ∷ is) = arrivals_in k (slice_get ks i.seat) i.what ++ arrivals_of ks k is

abbrev pub view_of : Settings → EndState → LifeDisk → Option Life → List Arrival → List Cargo → List Cargo → List Parcel → EndView
view_of s e file current arrivals cargoes put steps = record {
  settings = s;
  endpoint = e;
  file = file;
  current = current;
  coming = arrivals ++ map arrival_of e.events;
  out = parcels_in cargoes;
  sent = parcels_in put;
  taken = steps;
}

abbrev pub end_views : World → ℕ → ℕ → EndView
end_views w n k = view_of (settings w n k) (w.ends n k) (w.files n k) ((w.seats n).current k) (arrivals_of (neighbours w n) k (w.items n)) (w.cargoes n k) (w.put n k) (w.steps n k)

pub map-append : {A B : Type 0} (f : A → B) (xs ys : List A) → map f (xs ++ ys) ≡ map f xs ++ map f ys
map-append f [] ys = refl
map-append f (x ∷ xs) ys = ap (λ zs. f x ∷ zs) (map-append f xs ys)

-- a call that polls no event
pub end_view_call : (laws : LinkLaws) (s : Settings) (e : EndState) (file : LifeDisk) (current : Option Life) (arrivals : List Arrival) (cargoes cargoes' put : List Cargo) (steps : List Parcel) (call : LinkCall) →
    IsPossible e call → events_left e call ≡ e.events →
    view_of s (after_call s e call) file current arrivals cargoes' put steps ≡ called (view_of s e file current arrivals cargoes put steps) call (parcels_in cargoes')
end_view_call laws s e file current arrivals cargoes cargoes' put steps call ok left =
    ap (λ c. record (view_of s (after_call s e call) file current arrivals cargoes' put steps) { coming = c })
    (ap (λ xs. arrivals ++ map arrival_of xs) (laws.behind s e call ok ∙ ap (λ ys. ys ++ events_queued s e call) left)
    ∙ ap (λ xs. arrivals ++ xs) (map-append arrival_of e.events (events_queued s e call))
    ∙ sym (append_assoc arrivals (map arrival_of e.events) (map arrival_of (events_queued s e call))))

pub arrivals-append : (ks : List ℕ) (k : ℕ) (is js : List Item) → arrivals_of ks k (is ++ js) ≡ arrivals_of ks k is ++ arrivals_of ks k js
arrivals-append ks k [] js = refl
arrivals-append ks k (i ∷ is) js = ap (λ xs. arrivals_in k (slice_get ks i.seat) i.what ++ xs) (arrivals-append ks k is js) ∙ sym (append_assoc (arrivals_in k (slice_get ks i.seat) i.what) (arrivals_of ks k is) (arrivals_of ks k js))

pub parcels-append : (cs ds : List Cargo) → parcels_in (cs ++ ds) ≡ parcels_in cs ++ parcels_in ds
parcels-append [] ds = refl
parcels-append (Gives.Packet l p ∷ cs) ds = ap (λ xs. parcel_of l p ∷ xs) (parcels-append cs ds)
parcels-append (Gives.Cut l ∷ cs) ds = parcels-append cs ds

-- the seat of the commands is not the seat of a link
pub none_past : (xs : List ℕ) → slice_get xs (length xs) ≡ None
none_past [] = refl
none_past (x ∷ xs) = none_past xs

-- the seat of a neighbour is at the neighbour's place
pub at_place : (k : ℕ) (ks : List ℕ) → has_number k ks ≡ true → slice_get ks (place_of k ks) ≡ Some k
at_place k [] h = absurd (true≢false (sym h))
at_place k (j ∷ js) h = go (λ i. at_place k js i) (nat_eq j k) refl
  where
    go : (has_number k js ≡ true → slice_get js (place_of k js) ≡ Some k) → (b : Bool) → nat_eq j k ≡ b → slice_get (j ∷ js) (place_of k (j ∷ js)) ≡ Some k
    go again true e = ap (λ t. slice_get (j ∷ js) (if t then 0 else suc (place_of k js))) e ∙ ap Some (eqb-true j k e)
    go again false e = ap (λ t. slice_get (j ∷ js) (if t then 0 else suc (place_of k js))) e ∙ again (ap (λ t. t || has_number k js) (sym e) ∙ h)

pub arrival_what : (v : LinkEvent) → arrival_in (what_of v) ≡ arrival_of v
arrival_what (Up l) = refl
arrival_what (Deliver l p) = refl
arrival_what (Down l r) = refl
