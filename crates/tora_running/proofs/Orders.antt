-- A run of parts is an order of the threads' histories that keeps queues, datagrams and numbers.
use Rattle.std.proofs.Common.{◌≡◌, ℕ, Bool, true, false, true≢false, List, [], ◌∷◌, nat_eq, if◌then◌else◌, ◌&&◌, refl, sym, ap, ap₂, ◌∙◌, subst, eqb-true}
use Rattle.std.proofs.lemmas.Bool.{and_parts, eq-eqb}
use Rattle.tora_arq.specs.Settings.{Settings}
use Rattle.tora_arq.specs.LinkEnd.{EndState, first_end}
use Rattle.tora_seat.specs.Serving.{SeatState}
use Rattle.tora_world.specs.Topology.{Topology, neighbours_of}
use Rattle.tora_world.specs.World.{first_seat}
use Rattle.tora_node.specs.CoreRuns.{ServedItem, serving_told}
use Rattle.tora_running.specs.Parts.{LinkPart, end_after, IsPossible}
use Rattle.tora_running.specs.Network.{Network, Part, settings_at, neighbours_at, with_part, after_part, MayBe, IsRun}
use Rattle.tora_running.specs.Network.Part.{Starts, OfLink, Serves, Asks}
use Rattle.tora_running.specs.Orders.{Lives, with_start, with_first, link_lives, core_lives, WereMade, WereServed, AllWere, AreHistories, MayCome, IsOrder}
use Rattle.tora_running.proofs.LinkHistories.{beside_ends, beside_seats, beside_topology, part_settings}

-- a history follows the definition of one end, or of one seat
abbrev Made : Settings → EndState → Lives LinkPart → Type 0
Made s e l = WereMade s e l.present × AllWere (WereMade s first_end) l.later

abbrev Served : List ℕ → SeatState → SeatState → Lives ServedItem → Type 0
Served ks first s l = WereServed ks s l.present × AllWere (WereServed ks first) l.later

here : (n k : ℕ) → (nat_eq n n && nat_eq k k) ≡ true
here n k = ap₂ (λ x y. x && y) (eq-eqb n n refl) (eq-eqb k k refl)

-- ---- what a part leaves unchanged

ends_are : (w : Network) (m j : ℕ) (part : LinkPart) (n k : ℕ) → (after_part w (OfLink m j part)).ends n k ≡ (if nat_eq n m && nat_eq k j then end_after (settings_at w m j) (w.ends m j) part else w.ends n k)
ends_are w m j part n k = ap (λ (f : ℕ → ℕ → EndState). f n k) (beside_ends (with_part w m j part) m j part)

-- the end after a part, if it is the part's own end
own_end : (w : Network) (m j : ℕ) (part : LinkPart) (n k : ℕ) (b : Bool) → (nat_eq n m && nat_eq k j) ≡ b →
    (if b then end_after (settings_at w m j) (w.ends m j) part else w.ends n k) ≡ (if b then end_after (settings_at w n k) (w.ends n k) part else w.ends n k)
own_end w m j part n k true q =
    ap₂ (λ x y. end_after (settings_at w x y) (w.ends x y) part) (sym (eqb-true n m (and_parts (nat_eq n m) (nat_eq k j) q).0)) (sym (eqb-true k j (and_parts (nat_eq n m) (nat_eq k j) q).1))
own_end w m j part n k false q = refl

end_is : (w : Network) (m j : ℕ) (part : LinkPart) (n k : ℕ) → (after_part w (OfLink m j part)).ends n k ≡ (if nat_eq n m && nat_eq k j then end_after (settings_at w n k) (w.ends n k) part else w.ends n k)
end_is w m j part n k = ends_are w m j part n k ∙ own_end w m j part n k (nat_eq n m && nat_eq k j) refl

own_seat : (w : Network) (m : ℕ) (x : ServedItem) (n : ℕ) (b : Bool) → nat_eq n m ≡ b →
    (if b then (serving_told (neighbours_at w m) (w.seats m) x).seat else w.seats n) ≡ (if b then (serving_told (neighbours_at w n) (w.seats n) x).seat else w.seats n)
own_seat w m x n true q = ap (λ y. (serving_told (neighbours_at w y) (w.seats y) x).seat) (sym (eqb-true n m q))
own_seat w m x n false q = refl

started_seat : (w : Network) (m n : ℕ) (b : Bool) → nat_eq n m ≡ b → (if b then first_seat w.topology m else w.seats n) ≡ (if b then first_seat w.topology n else w.seats n)
started_seat w m n true q = ap (λ y. first_seat w.topology y) (sym (eqb-true n m q))
started_seat w m n false q = refl

-- ---- from histories to the parts after the first one, and back

module _ (s : Settings) (e : EndState) where
  made_started : (b : Bool) (l : Lives LinkPart) → Made s e (if b then with_start l else l) → Made s (if b then first_end else e) l
  made_started true l h = h.1
  made_started false l h = h

  started_made : (b : Bool) (l : Lives LinkPart) → Made s (if b then first_end else e) l → Made s e (if b then with_start l else l)
  started_made true l h = ((e, refl), h)
  started_made false l h = h

  made_on : (part : LinkPart) (b : Bool) (l : Lives LinkPart) → Made s e (if b then with_first part l else l) → Made s (if b then end_after s e part else e) l
  made_on part true l h = ((h.0.0, h.0.1.1), h.1)
  made_on part false l h = h

  on_made : (part : LinkPart) (b : Bool) (l : Lives LinkPart) → (b ≡ true → IsPossible s e part) → Made s (if b then end_after s e part else e) l → Made s e (if b then with_first part l else l)
  on_made part true l possible h = ((h.0.0, (possible refl, h.0.1)), h.1)
  on_made part false l possible h = h

module _ (ks : List ℕ) (first s : SeatState) where
  served_started : (b : Bool) (l : Lives ServedItem) → Served ks first s (if b then with_start l else l) → Served ks first (if b then first else s) l
  served_started true l h = h.1
  served_started false l h = h

  started_served : (b : Bool) (l : Lives ServedItem) → Served ks first (if b then first else s) l → Served ks first s (if b then with_start l else l)
  started_served true l h = ((s, refl), h)
  started_served false l h = h

  served_on : (x : ServedItem) (b : Bool) (l : Lives ServedItem) → Served ks first s (if b then with_first x l else l) → Served ks first (if b then (serving_told ks s x).seat else s) l
  served_on x true l h = ((h.0.0, h.0.1.1), h.1)
  served_on x false l h = h

  on_served : (x : ServedItem) (b : Bool) (l : Lives ServedItem) → (b ≡ true → (serving_told ks s x).offers ≡ x.offers) → Served ks first (if b then (serving_told ks s x).seat else s) l → Served ks first s (if b then with_first x l else l)
  on_served x true l told h = ((h.0.0, (told refl, h.0.1)), h.1)
  on_served x false l told h = h

-- a part of a link does not change a core, nor the effect of a start on it
core_beside : (w : Network) (m j : ℕ) (part : LinkPart) (n : ℕ) (l : Lives ServedItem) →
    Served (neighbours_at (after_part w (OfLink m j part)) n) (first_seat (after_part w (OfLink m j part)).topology n) ((after_part w (OfLink m j part)).seats n) l ≡ Served (neighbours_at w n) (first_seat w.topology n) (w.seats n) l
core_beside w m j part n l =
    ap (λ (t : Topology). Served (neighbours_of t n) (first_seat t n) ((after_part w (OfLink m j part)).seats n) l) (beside_topology (with_part w m j part) m j part)
    ∙ ap (λ (f : ℕ → SeatState). Served (neighbours_at w n) (first_seat w.topology n) (f n) l) (beside_seats (with_part w m j part) m j part)

-- ---- the parts after the first one have histories, too

later : (w : Network) (part : Part) (parts : List Part) → AreHistories w (part ∷ parts) → AreHistories (after_part w part) parts
later w (Starts m) parts h = record {
  links = λ n k. made_started (settings_at w n k) (w.ends n k) (nat_eq n m) (link_lives n k parts) (h.links n k);
  cores = λ n. subst (λ x. Served (neighbours_at w n) (first_seat w.topology n) x (core_lives n parts)) (sym (started_seat w m n (nat_eq n m) refl)) (served_started (neighbours_at w n) (first_seat w.topology n) (w.seats n) (nat_eq n m) (core_lives n parts) (h.cores n));
}
later w (Asks m now what) parts h = record { links = h.links; cores = h.cores }
later w (OfLink m j part) parts h = record {
  links = λ n k.
      subst (λ s. Made s ((after_part w (OfLink m j part)).ends n k) (link_lives n k parts)) (sym (part_settings w (OfLink m j part) n k))
      (subst (λ e. Made (settings_at w n k) e (link_lives n k parts)) (sym (end_is w m j part n k))
      (made_on (settings_at w n k) (w.ends n k) part (nat_eq n m && nat_eq k j) (link_lives n k parts) (h.links n k)));
  cores = λ n. subst (λ (x : Type 0). x) (sym (core_beside w m j part n (core_lives n parts))) (h.cores n);
}
later w (Serves m item offers) parts h = record {
  links = h.links;
  cores = λ n. subst (λ x. Served (neighbours_at w n) (first_seat w.topology n) x (core_lives n parts)) (sym (own_seat w m (record { item = item; offers = offers }) n (nat_eq n m) refl)) (served_on (neighbours_at w n) (first_seat w.topology n) (w.seats n) (record { item = item; offers = offers }) (nat_eq n m) (core_lives n parts) (h.cores n));
}

-- if this part is allowed, and so are the following ones, all are
earlier : (w : Network) (part : Part) (parts : List Part) → MayBe w part → AreHistories (after_part w part) parts → AreHistories w (part ∷ parts)
earlier w (Starts m) parts may h = record {
  links = λ n k. started_made (settings_at w n k) (w.ends n k) (nat_eq n m) (link_lives n k parts) (h.links n k);
  cores = λ n. started_served (neighbours_at w n) (first_seat w.topology n) (w.seats n) (nat_eq n m) (core_lives n parts)
      (subst (λ x. Served (neighbours_at w n) (first_seat w.topology n) x (core_lives n parts)) (started_seat w m n (nat_eq n m) refl) (h.cores n));
}
earlier w (Asks m now what) parts may h = record { links = h.links; cores = h.cores }
earlier w (OfLink m j part) parts may h = record {
  links = λ n k. on_made (settings_at w n k) (w.ends n k) part (nat_eq n m && nat_eq k j) (link_lives n k parts) (possible n k)
      (subst (λ e. Made (settings_at w n k) e (link_lives n k parts)) (end_is w m j part n k)
      (subst (λ s. Made s ((after_part w (OfLink m j part)).ends n k) (link_lives n k parts)) (part_settings w (OfLink m j part) n k) (h.links n k)));
  cores = λ n. subst (λ (x : Type 0). x) (core_beside w m j part n (core_lives n parts)) (h.cores n);
}
  where
    possible : (n k : ℕ) → (nat_eq n m && nat_eq k j) ≡ true → IsPossible (settings_at w n k) (w.ends n k) part
    possible n k q =
        subst (λ x. IsPossible (settings_at w n x) (w.ends n x) part) (sym (eqb-true k j (and_parts (nat_eq n m) (nat_eq k j) q).1))
        (subst (λ x. IsPossible (settings_at w x j) (w.ends x j) part) (sym (eqb-true n m (and_parts (nat_eq n m) (nat_eq k j) q).0)) may.1)
earlier w (Serves m item offers) parts may h = record {
  links = h.links;
  cores = λ n. on_served (neighbours_at w n) (first_seat w.topology n) (w.seats n) x (nat_eq n m) (core_lives n parts) (told n)
      (subst (λ s. Served (neighbours_at w n) (first_seat w.topology n) s (core_lives n parts)) (own_seat w m x n (nat_eq n m) refl) (h.cores n));
}
  where
    x : ServedItem
    x = record { item = item; offers = offers }

    told : (n : ℕ) → nat_eq n m ≡ true → (serving_told (neighbours_at w n) (w.seats n) x).offers ≡ offers
    told n q = subst (λ y. (serving_told (neighbours_at w y) (w.seats y) x).offers ≡ offers) (sym (eqb-true n m q)) may.2

-- ---- both directions

-- the first part is allowed by its thread's definition and by the order
first_may : (w : Network) (part : Part) (parts : List Part) → AreHistories w (part ∷ parts) → MayCome w part → MayBe w part
first_may w (Starts m) parts h may = may
first_may w (Asks m now what) parts h may = may
first_may w (OfLink m j part) parts h may = (may.0, possible (nat_eq m m && nat_eq j j) (here m j) (h.links m j), may.1)
  where
    possible : (b : Bool) → b ≡ true → Made (settings_at w m j) (w.ends m j) (if b then with_first part (link_lives m j parts) else link_lives m j parts) → IsPossible (settings_at w m j) (w.ends m j) part
    possible true q made = made.0.1.0
    possible false q made = absurd (true≢false (sym q))
first_may w (Serves m item offers) parts h may = (may.0, may.1, told (nat_eq m m) (eq-eqb m m refl) (h.cores m))
  where
    x : ServedItem
    x = record { item = item; offers = offers }

    told : (b : Bool) → b ≡ true → Served (neighbours_at w m) (first_seat w.topology m) (w.seats m) (if b then with_first x (core_lives m parts) else core_lives m parts) → (serving_told (neighbours_at w m) (w.seats m) x).offers ≡ offers
    told true q served = served.0.1.0
    told false q served = absurd (true≢false (sym q))

pub orders_run : (parts : List Part) (w : Network) → AreHistories w parts → IsOrder w parts → IsRun w parts
orders_run [] w h order = tt
orders_run (part ∷ parts) w h order = (first_may w part parts h order.0, orders_run parts (after_part w part) (later w part parts h) order.1)

may_come : (w : Network) (part : Part) → MayBe w part → MayCome w part
may_come w (Starts n) may = may
may_come w (OfLink n k part) may = (may.0, may.2)
may_come w (Serves n item offers) may = (may.0, may.1)
may_come w (Asks n now what) may = may

pub runs_order : (parts : List Part) (w : Network) → IsRun w parts → AreHistories w parts × IsOrder w parts
runs_order [] w run = (record { links = λ n k. ((w.ends n k, refl), tt); cores = λ n. ((w.seats n, refl), tt) }, tt)
runs_order (part ∷ parts) w run =
    let rest = runs_order parts (after_part w part) run.1 in
    (earlier w part parts run.0 rest.0, (may_come w part run.0, rest.1))
