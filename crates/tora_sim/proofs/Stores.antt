-- The stored data and the functions of the world that it represents, after a change of one link end or one node.
use Rattle.std.proofs.Common.{◌≡◌, ℕ, zero, suc, ◌<◌, ◌≤◌, ◌+◌, Bool, true, false, ◌&&◌, ◌⊎◌, inl, inr, List, [], ◌∷◌, ◌++◌, map, length, get_or, set, slice_get, Option, Some, None, refl, sym, ap, ap₂, ◌∙◌, subst, arith, cond, find, is_some, if◌then◌else◌, nat_eq, eqb-true, eq-eqb, true≢false}
use Rattle.std.proofs.lemmas.Bool.{cases_Bool, and_parts}
use Rattle.std.proofs.lemmas.Bool.Decides.{nat_tests}
use Rattle.std.proofs.lemmas.List.{get_or-set_same, get_or-set_other, length-set, length-map}
use Rattle.std.proofs.lemmas.Option.{get_or_from_slice_get, slice_get_within}
use mathlib.Core.Path.{fun_ext}
use Rattle.tora_frame.specs.FrameParts.{FrameParts}
use Rattle.tora_arq.specs.declared.times.Times.{Times}
use Rattle.tora_arq.specs.Settings.{settings_of}
use Rattle.tora_seat.specs.Offers.{place_of}
use Rattle.tora_world.specs.Topology.{erasure_at, version_at, Topology, is_node, is_link, neighbours_of}
use Rattle.tora_core.specs.Kept.{destinations_of}
use Rattle.tora_world.specs.LinkMachine.{put_at}
use Rattle.tora_seat.specs.Serving.{put_one}
use Rattle.tora_sim.specs.Keyed.{IsFirst, IsOrdered}
use Rattle.tora_sim.specs.Links.{LinkView, is_at, key_of}
use Rattle.tora_sim.specs.Nodes.{NodeView, is_of}
use Rattle.tora_sim.specs.Store.{state_of, IsStore, IsLinkOf, IsNodeOf, IsOfLink, EachOf, AreEndsOf, link_at, node_at}
use Rattle.tora_sim.specs.Links as Links
use Rattle.tora_sim.specs.Nodes as Nodes
use Rattle.tora_sim.proofs.Keys.{found, found_after, other_after}

-- ---- an item that is found

pub record IsFound {A : Type 0} (p : A → Bool) (xs : List A) (x : A) : Type 0 where
  pub place : ℕ
  pub there : slice_get xs place ≡ Some x
  pub passes : p x ≡ true

pub is_found : {A : Type 0} → (p : A → Bool) (xs : List A) (x : A) → find p xs ≡ Some x → IsFound p xs x
is_found p [] x e = absurd (let y : None ≡ Some x = e in cc)
is_found {A} p (y ∷ ys) x e = go (cases_Bool (p y)) (is_found p ys x)
  where
    go : (p y ≡ true) ⊎ (p y ≡ false) → (find p ys ≡ Some x → IsFound p ys x) → IsFound p (y ∷ ys) x
    go (inl t) again =
        let same : Some y ≡ Some x = sym (ap (λ b. cond b (Some y) (find p ys)) t) ∙ e in
        let is : y ≡ x = cc in
        record { place = zero; there = same; passes = subst (λ z. p z ≡ true) is t }
    go (inr f) again =
        let h = again (sym (ap (λ b. cond b (Some y) (find p ys)) f) ∙ e) in
        record { place = suc h.place; there = h.there; passes = h.passes }

-- ---- what holds of each item

pub each_set : {A : Type 0} → (P : A → Type 0) (xs : List A) (i : ℕ) (new : A) → EachOf P xs → P new → EachOf P (set xs i new)
each_set P [] i new h p = h
each_set P (x ∷ xs) zero new h p = go
  where
    go : EachOf P (new ∷ xs)
    go zero y e = let is : new ≡ y = cc in subst P is p
    go (suc j) y e = h (suc j) y e
each_set P (x ∷ xs) (suc i) new h p = go (each_set P xs i new (λ m z q. h (suc m) z q) p)
  where
    go : EachOf P (set xs i new) → EachOf P (x ∷ set xs i new)
    go again zero y e = h zero y e
    go again (suc j) y e = again j y e

pub each_push : {A : Type 0} → (P : A → Type 0) (xs : List A) (new : A) → EachOf P xs → P new → EachOf P (xs ++ new ∷ [])
each_push P [] new h p zero y e = let is : new ≡ y = cc in subst P is p
each_push P [] new h p (suc j) y e = absurd (let z : None ≡ Some y = e in cc)
each_push P (x ∷ xs) new h p zero y e = h zero y e
each_push P (x ∷ xs) new h p (suc j) y e = each_push P xs new (λ m z q. h (suc m) z q) p j y e

pub each_map : {A : Type 0} → (P : A → Type 0) (f : A → A) → ((x : A) → P x → P (f x)) → (xs : List A) → EachOf P xs → EachOf P (map f xs)
each_map P f k [] h j y e = h j y e
each_map P f k (x ∷ xs) h zero y e = let is : f x ≡ y = cc in subst P is (k x (h zero x refl))
each_map P f k (x ∷ xs) h (suc j) y e = each_map P f k xs (λ m z q. h (suc m) z q) j y e

-- ---- the order of items is kept if an item is replaced by one with the same number

-- the new item is in the same order to the others as the old one
pub record StandsAs {A : Type 0} (Before : A → A → Type 0) (x new : A) : Type 0 where
  pub after : (y : A) → Before y x → Before y new
  pub before : (y : A) → Before x y → Before new y

pub ordered_set : {A : Type 0} → (Before : A → A → Type 0) (xs : List A) (i : ℕ) (x new : A) → slice_get xs i ≡ Some x → StandsAs Before x new → IsOrdered Before xs → IsOrdered Before (set xs i new)
ordered_set {A} Before xs i x new e s h a b d lt within = go (cases_Bool (nat_eq a i)) (cases_Bool (nat_eq b i))
  where
    inside : b < length xs
    inside = subst (λ m. b < m) (length-set xs i new) within

    at : i < length xs
    at = slice_get_within xs i x e

    other : (j : ℕ) → nat_eq j i ≡ false → get_or (set xs i new) j d ≡ get_or xs j d
    other j q = get_or-set_other xs i j new d (λ same. true≢false (sym (eq-eqb j i same) ∙ q))

    same : (j : ℕ) → nat_eq j i ≡ true → get_or (set xs i new) j d ≡ new
    same j q = subst (λ m. get_or (set xs i new) m d ≡ new) (sym (eqb-true j i q)) (get_or-set_same xs i new d at)

    was : (j : ℕ) → nat_eq j i ≡ true → get_or xs j d ≡ x
    was j q = subst (λ m. get_or xs m d ≡ x) (sym (eqb-true j i q)) (get_or_from_slice_get xs i x d e)

    before : Before (get_or xs a d) (get_or xs b d)
    before = h a b d lt inside

    go : (nat_eq a i ≡ true) ⊎ (nat_eq a i ≡ false) → (nat_eq b i ≡ true) ⊎ (nat_eq b i ≡ false) → Before (get_or (set xs i new) a d) (get_or (set xs i new) b d)
    go (inl p) (inl q) = absurd (let u = eqb-true a i p in let v = eqb-true b i q in omega arith)
    go (inl p) (inr q) =
        subst (λ (z : A). Before z (get_or (set xs i new) b d)) (sym (same a p)) (subst (λ (z : A). Before new z) (sym (other b q))
        (s.before (get_or xs b d) (subst (λ (z : A). Before z (get_or xs b d)) (was a p) before)))
    go (inr p) (inl q) =
        subst (λ (z : A). Before (get_or (set xs i new) a d) z) (sym (same b q)) (subst (λ (z : A). Before z new) (sym (other a p))
        (s.after (get_or xs a d) (subst (λ (z : A). Before (get_or xs a d) z) (was b q) before)))
    go (inr p) (inr q) =
        subst (λ (z : A). Before z (get_or (set xs i new) b d)) (sym (other a p)) (subst (λ (z : A). Before (get_or xs a d) z) (sym (other b q)) before)

pub ordered_map : {A : Type 0} → (Before : A → A → Type 0) (f : A → A) → ((x y : A) → Before x y → Before (f x) (f y)) → (xs : List A) → IsOrdered Before xs → IsOrdered Before (map f xs)
ordered_map {A} Before f k xs h a b d lt within =
    let inside : b < length xs = subst (λ m. b < m) (length-map xs f) within in
    let at : (j : ℕ) → j < length xs → get_or (map f xs) j d ≡ f (get_or xs j d) = λ j less. got xs j less in
    subst (λ (z : A). Before z (get_or (map f xs) b d)) (sym (at a (omega arith))) (subst (λ (z : A). Before (f (get_or xs a d)) z) (sym (at b inside)) (k (get_or xs a d) (get_or xs b d) (h a b d lt inside)))
  where
    got : (ys : List A) (j : ℕ) → j < length ys → get_or (map f ys) j d ≡ f (get_or ys j d)
    got [] j less = absurd (omega arith)
    got (y ∷ ys) zero less = refl
    got (y ∷ ys) (suc j) less = got ys j (omega arith)

-- an item that is read after one item was replaced is the new one, or was there before
pub set_read : {A : Type 0} → (xs : List A) (i : ℕ) (new : A) (j : ℕ) (x : A) → slice_get (set xs i new) j ≡ Some x → ((j ≡ i) × (new ≡ x)) ⊎ (slice_get xs j ≡ Some x)
set_read [] i new j x e = inr e
set_read (y ∷ ys) zero new zero x e = inl (refl, cc)
set_read (y ∷ ys) zero new (suc j) x e = inr e
set_read (y ∷ ys) (suc i) new zero x e = inr e
set_read (y ∷ ys) (suc i) new (suc j) x e = elim (set_read ys i new j x e) [ inl h ↦ inl (ap suc h.0, h.1) | inr h ↦ inr h ]

-- ---- one link end

turned : (a b : ℕ) → nat_eq a b ≡ nat_eq b a
turned a b = grind (arith, nat_tests)

-- the new end has the same key and index
pub record IsSameLink (x new : LinkView) : Type 0 where
  pub node : new.node ≡ x.node
  pub peer : new.peer ≡ x.peer
  pub seat : new.seat ≡ x.seat
  pub settings : new.settings ≡ x.settings
  pub pulled : x.pulled ≤ length x.put → new.pulled ≤ length new.put

pub map_read : (f : LinkView → LinkView) (links : List LinkView) (j : ℕ) (link : LinkView) → slice_get (map f links) j ≡ Some link → (old : LinkView) × (slice_get links j ≡ Some old) × (f old ≡ link)
map_read f [] j link e = absurd (let z : None ≡ Some link = e in cc)
map_read f (x ∷ links) zero link e = (x, refl, cc)
map_read f (x ∷ links) (suc j) link e = map_read f links j link e

-- the ends of a node stay adjacent if each end is changed in place
pub ends_map : (t : Topology) (links : List LinkView) (f : LinkView → LinkView) → ((x : LinkView) → IsSameLink x (f x)) → (y : NodeView) → AreEndsOf t links y → AreEndsOf t (map f links) y
ends_map t links f same y h = record {
  within = subst (λ m. y.first + y.count ≤ m) (sym (length-map links f)) h.within;
  at = λ place k link e q.
      let o = map_read f links (y.first + place) link q in
      let told = h.at place k o.0 e o.1 in
      (ap (λ (z : LinkView). z.node) (sym o.2) ∙ (same o.0).node ∙ told.0, ap (λ (z : LinkView). z.peer) (sym o.2) ∙ (same o.0).peer ∙ told.1);
}

-- functions over link ends are the same if each of their values is
pub each_at : {A : Type 0} (read : ℕ → ℕ → Option LinkView → A) (xs ys : ℕ → ℕ → Option LinkView)
    → ((a b : ℕ) → ◌≡◌ {A = ℕ → ℕ → A} (λ m j. read a b (xs m j)) (λ m j. read a b (ys m j)))
    → ◌≡◌ {A = ℕ → ℕ → A} (λ a b. read a b (xs a b)) (λ a b. read a b (ys a b))
each_at {A} read xs ys same = fun_ext (λ a. fun_ext (λ b. ap (λ (g : ℕ → ℕ → A). g a b) (same a b)))

-- the keys are kept if an end is replaced by one with the same key
pub keys_set : (links : List LinkView) (i : ℕ) (x new : LinkView) → slice_get links i ≡ Some x → key_of new ≡ key_of x → map key_of (set links i new) ≡ map key_of links
keys_set [] i x new e q = refl
keys_set (z ∷ links) zero x new e q = let is : z ≡ x = cc in ap (λ (key : ℕ × ℕ). key ∷ map key_of links) (q ∙ ap key_of (sym is))
keys_set (z ∷ links) (suc i) x new e q = ap (λ (keys : List (ℕ × ℕ)). key_of z ∷ keys) (keys_set links i x new e q)

-- the keys are kept if each end is changed in place
pub keys_map : (f : LinkView → LinkView) → ((x : LinkView) → key_of (f x) ≡ key_of x) → (links : List LinkView) → map key_of (map f links) ≡ map key_of links
keys_map f same [] = refl
keys_map f same (x ∷ links) = ap₂ (λ (key : ℕ × ℕ) (keys : List (ℕ × ℕ)). key ∷ keys) (same x) (keys_map f same links)

module _ (n k : ℕ) (links : List LinkView) (i : ℕ) (x new : LinkView) (first : IsFirst (is_at n k) links i) (there : slice_get links i ≡ Some x) (same : IsSameLink x new) where
  here : is_at n k x ≡ true
  here = subst (λ z. is_at n k z ≡ true) (get_or_from_slice_get links i x x there) (first.here x)

  pub link_there : link_at links n k ≡ Some x
  link_there = found (is_at n k) links i x first there

  new_at : (a b : ℕ) → is_at a b new ≡ is_at a b x
  new_at a b = ap₂ (λ y z. nat_eq y a && nat_eq z b) same.node same.peer

  found_now : (a b : ℕ) → link_at (set links i new) a b ≡ put_at (link_at links) n k (Some new) a b
  found_now a b = go (cases_Bool (nat_eq a n && nat_eq b k))
    where
      q : (x.node ≡ n) × (x.peer ≡ k)
      q = let h = and_parts _ _ here in (eqb-true x.node n h.0, eqb-true x.peer k h.1)

      go : ((nat_eq a n && nat_eq b k) ≡ true) ⊎ ((nat_eq a n && nat_eq b k) ≡ false) → link_at (set links i new) a b ≡ put_at (link_at links) n k (Some new) a b
      go (inl t) =
          let w = and_parts _ _ t in
          subst (λ y. link_at (set links i new) y b ≡ Some new) (sym (eqb-true a n w.0)) (subst (λ z. link_at (set links i new) n z ≡ Some new) (sym (eqb-true b k w.1)) (found_after (is_at n k) links i new first (new_at n k ∙ here)))
          ∙ sym (ap (λ c. if c then Some new else link_at links a b) t)
      go (inr f) =
          let off : is_at a b x ≡ false = ap₂ (λ y z. nat_eq y a && nat_eq z b) q.0 q.1 ∙ ap₂ (λ y z. y && z) (turned n a) (turned k b) ∙ f in
          other_after (is_at a b) links i x new there off (new_at a b ∙ off)
          ∙ sym (ap (λ c. if c then Some new else link_at links a b) f)

  -- a function of each end changes only at this one
  pub link_changes : {A : Type 0} → (f : Option LinkView → A) → ◌≡◌ {A = ℕ → ℕ → A} (λ a b. f (link_at (set links i new) a b)) (put_at (λ a b. f (link_at links a b)) n k (f (Some new)))
  link_changes {A} f = fun_ext (λ a. fun_ext (λ b. ap f (found_now a b) ∙ go a b (nat_eq a n && nat_eq b k)))
    where
      go : (a b : ℕ) (c : Bool) → f (if c then Some new else link_at links a b) ≡ (if c then f (Some new) else f (link_at links a b))
      go a b true = refl
      go a b false = refl

  -- a function with the same value for the old and the new end does not change
  pub link_stays : {A : Type 0} → (f : Option LinkView → A) → f (Some new) ≡ f (Some x) → ◌≡◌ {A = ℕ → ℕ → A} (λ a b. f (link_at (set links i new) a b)) (λ a b. f (link_at links a b))
  link_stays {A} f e = fun_ext (λ a. fun_ext (λ b. ap f (found_now a b) ∙ go a b (cases_Bool (nat_eq a n && nat_eq b k))))
    where
      go : (a b : ℕ) → ((nat_eq a n && nat_eq b k) ≡ true) ⊎ ((nat_eq a n && nat_eq b k) ≡ false) → f (put_at (link_at links) n k (Some new) a b) ≡ f (link_at links a b)
      go a b (inl t) =
          let w = and_parts _ _ t in
          ap (λ c. f (if c then Some new else link_at links a b)) t ∙ e
          ∙ ap f (sym link_there ∙ ap₂ (λ y z. link_at links y z) (sym (eqb-true a n w.0)) (sym (eqb-true b k w.1)))
      go a b (inr r) = ap (λ c. f (if c then Some new else link_at links a b)) r

  pub link_set : (t : Topology) (times : Times) → IsLinkOf t times x → IsLinkOf t times new
  link_set t times h = record {
    settings = same.settings ∙ h.settings ∙ ap₂ (λ y z. settings_of (version_at t y) y z times) (sym same.node) (sym same.peer);
    seat = same.seat ∙ h.seat ∙ ap₂ (λ y z. place_of y (neighbours_of t z)) (sym same.peer) (sym same.node);
    home = ap (is_node t) same.node ∙ h.home;
    back = ap₂ (λ y z. is_link t y z) same.peer same.node ∙ h.back;
    pulled = same.pulled h.pulled;
  }

  still_there : (a b : ℕ) → is_some (link_at links a b) ≡ is_some (link_at (set links i new) a b)
  still_there a b = sym (ap (λ (g : ℕ → ℕ → Bool). g a b) (link_stays is_some refl))

  pub rising_set : Links.AreRising links → Links.AreRising (set links i new)
  rising_set h = ordered_set Links.ComesBefore links i x new there stands h
    where
      stands : StandsAs Links.ComesBefore x new
      stands = record {
        after = λ y b. elim b [ inl lt ↦ inl (subst (λ m. y.node < m) (sym same.node) lt) | inr p ↦ inr (p.0 ∙ sym same.node, subst (λ m. y.peer < m) (sym same.peer) p.1) ];
        before = λ y b. elim b [ inl lt ↦ inl (subst (λ m. m < y.node) (sym same.node) lt) | inr p ↦ inr (same.node ∙ p.0, subst (λ m. m < y.peer) (sym same.peer) p.1) ];
      }

  -- at each index there was an end with the same key
  was : (j : ℕ) (link : LinkView) → slice_get (set links i new) j ≡ Some link → (old : LinkView) × (slice_get links j ≡ Some old) × (old.node ≡ link.node) × (old.peer ≡ link.peer)
  was j link q = elim (set_read links i new j link q) [ inl e ↦ (x, ap (slice_get links) e.0 ∙ there, sym same.node ∙ ap (λ (z : LinkView). z.node) e.1, sym same.peer ∙ ap (λ (z : LinkView). z.peer) e.1) | inr e ↦ (link, e, refl, refl) ]

  pub ends_set : (t : Topology) (y : NodeView) → AreEndsOf t links y → AreEndsOf t (set links i new) y
  ends_set t y h = record {
    within = subst (λ m. y.first + y.count ≤ m) (sym (length-set links i new)) h.within;
    at = λ place k link e q.
        let o = was (y.first + place) link q in
        let told = h.at place k o.0 e o.1 in
        (sym o.2 ∙ told.0, sym o.3 ∙ told.1);
  }

  pub store_set : (t : Topology) (times : Times) (clock : ℕ) (nodes : List NodeView) (ds : List FrameParts) → IsStore (state_of t times clock nodes links ds) → IsStore (state_of t times clock nodes (set links i new) ds)
  store_set t times clock nodes ds h = record {
    nodes = h.nodes;
    links = λ a b. h.links a b ∙ still_there a b;
    keys = keys_set links i x new there (ap₂ (λ (a b : ℕ). (a, b)) same.node same.peer) ∙ h.keys;
    rising_nodes = h.rising_nodes;
    rising_links = rising_set h.rising_links;
    each_node = h.each_node;
    each_link = each_set (IsLinkOf t times) links i new h.each_link (link_set t times (h.each_link i x there));
    each_ends = λ m y q. ends_set t y (h.each_ends m y q);
    each_datagram = h.each_datagram;
  }

-- ---- one node

pub record IsSameNode (x new : NodeView) : Type 0 where
  pub node : new.node ≡ x.node
  pub first : new.first ≡ x.first
  pub count : new.count ≡ x.count
  pub me : new.seat.core.me ≡ x.seat.core.me
  pub erasure : new.seat.core.erasure ≡ x.seat.core.erasure
  pub neighbours : new.seat.core.neighbours ≡ x.seat.core.neighbours
  pub destinations : destinations_of new.seat.core.views ≡ destinations_of x.seat.core.views
  pub seats : length new.counts ≡ length x.counts

module _ (n : ℕ) (nodes : List NodeView) (i : ℕ) (x new : NodeView) (first : IsFirst (is_of n) nodes i) (there : slice_get nodes i ≡ Some x) (same : IsSameNode x new) where
  here_node : is_of n x ≡ true
  here_node = subst (λ z. is_of n z ≡ true) (get_or_from_slice_get nodes i x x there) (first.here x)

  pub node_there : node_at nodes n ≡ Some x
  node_there = found (is_of n) nodes i x first there

  node_now : (a : ℕ) → is_of a new ≡ is_of a x
  node_now a = ap (λ y. nat_eq y a) same.node

  found_node : (a : ℕ) → node_at (set nodes i new) a ≡ put_one (node_at nodes) n (Some new) a
  found_node a = go (cases_Bool (nat_eq a n))
    where
      go : (nat_eq a n ≡ true) ⊎ (nat_eq a n ≡ false) → node_at (set nodes i new) a ≡ put_one (node_at nodes) n (Some new) a
      go (inl t) =
          subst (λ y. node_at (set nodes i new) y ≡ Some new) (sym (eqb-true a n t)) (found_after (is_of n) nodes i new first (node_now n ∙ here_node))
          ∙ sym (ap (λ c. if c then Some new else node_at nodes a) t)
      go (inr f) =
          let off : is_of a x ≡ false = ap (λ y. nat_eq y a) (eqb-true x.node n here_node) ∙ turned n a ∙ f in
          other_after (is_of a) nodes i x new there off (node_now a ∙ off)
          ∙ sym (ap (λ c. if c then Some new else node_at nodes a) f)

  pub node_changes : {A : Type 0} → (f : Option NodeView → A) → ◌≡◌ {A = ℕ → A} (λ a. f (node_at (set nodes i new) a)) (put_one (λ a. f (node_at nodes a)) n (f (Some new)))
  node_changes {A} f = fun_ext (λ a. ap f (found_node a) ∙ go a (nat_eq a n))
    where
      go : (a : ℕ) (c : Bool) → f (if c then Some new else node_at nodes a) ≡ (if c then f (Some new) else f (node_at nodes a))
      go a true = refl
      go a false = refl

  pub node_changes_by : {A : Type 0} → (f : ℕ → Option NodeView → A) → ◌≡◌ {A = ℕ → A} (λ a. f a (node_at (set nodes i new) a)) (put_one (λ a. f a (node_at nodes a)) n (f n (Some new)))
  node_changes_by {A} f = fun_ext (λ a. ap (f a) (found_node a) ∙ go a (cases_Bool (nat_eq a n)))
    where
      go : (a : ℕ) → (nat_eq a n ≡ true) ⊎ (nat_eq a n ≡ false) → f a (put_one (node_at nodes) n (Some new) a) ≡ put_one (λ m. f m (node_at nodes m)) n (f n (Some new)) a
      go a (inl t) =
          ap (λ c. f a (if c then Some new else node_at nodes a)) t ∙ ap (λ m. f m (Some new)) (eqb-true a n t)
          ∙ sym (ap (λ c. if c then f n (Some new) else f a (node_at nodes a)) t)
      go a (inr r) =
          ap (λ c. f a (if c then Some new else node_at nodes a)) r
          ∙ sym (ap (λ c. if c then f n (Some new) else f a (node_at nodes a)) r)

  -- a function of each node and its number does not change
  pub node_stays_by : {A : Type 0} → (f : ℕ → Option NodeView → A) → f n (Some new) ≡ f n (Some x) → ◌≡◌ {A = ℕ → A} (λ a. f a (node_at (set nodes i new) a)) (λ a. f a (node_at nodes a))
  node_stays_by {A} f e = fun_ext (λ a. ap (f a) (found_node a) ∙ go a (cases_Bool (nat_eq a n)))
    where
      go : (a : ℕ) → (nat_eq a n ≡ true) ⊎ (nat_eq a n ≡ false) → f a (put_one (node_at nodes) n (Some new) a) ≡ f a (node_at nodes a)
      go a (inl t) =
          let is : a ≡ n = eqb-true a n t in
          ap (λ c. f a (if c then Some new else node_at nodes a)) t
          ∙ subst (λ m. f m (Some new) ≡ f m (node_at nodes m)) (sym is) (e ∙ ap (f n) (sym node_there))
      go a (inr r) = ap (λ c. f a (if c then Some new else node_at nodes a)) r

  pub node_stays : {A : Type 0} → (f : Option NodeView → A) → f (Some new) ≡ f (Some x) → ◌≡◌ {A = ℕ → A} (λ a. f (node_at (set nodes i new) a)) (λ a. f (node_at nodes a))
  node_stays f e = node_stays_by (λ a o. f o) e

  pub node_set : (t : Topology) → IsNodeOf t x → IsNodeOf t new
  node_set t h = record {
    count = same.count ∙ h.count ∙ ap (λ y. length (neighbours_of t y)) (sym same.node);
    seats = same.seats ∙ h.seats ∙ ap suc (sym same.count);
    me = same.me ∙ h.me ∙ sym same.node;
    erasure = same.erasure ∙ h.erasure ∙ ap (erasure_at t) (sym same.node);
    neighbours = same.neighbours ∙ h.neighbours ∙ ap (neighbours_of t) (sym same.node);
    destinations = same.destinations ∙ h.destinations;
  }

  pub ends_of_set : (t : Topology) (links : List LinkView) → AreEndsOf t links x → AreEndsOf t links new
  ends_of_set t links h = record {
    within = subst (λ m. m ≤ length links) (sym (ap₂ (λ a b. a + b) same.first same.count)) h.within;
    at = λ place k link e q.
        let told = h.at place k link (ap (λ y. slice_get (neighbours_of t y) place) (sym same.node) ∙ e) (ap (λ a. slice_get links (a + place)) (sym same.first) ∙ q) in
        (told.0 ∙ sym same.node, told.1);
  }

  pub rising_node_set : Nodes.AreRising nodes → Nodes.AreRising (set nodes i new)
  rising_node_set h = ordered_set Nodes.ComesBefore nodes i x new there stands h
    where
      stands : StandsAs Nodes.ComesBefore x new
      stands = record {
        after = λ y lt. subst (λ m. y.node < m) (sym same.node) lt;
        before = λ y lt. subst (λ m. m < y.node) (sym same.node) lt;
      }

  pub store_set_node : (t : Topology) (times : Times) (clock : ℕ) (links : List LinkView) (ds : List FrameParts) → IsStore (state_of t times clock nodes links ds) → IsStore (state_of t times clock (set nodes i new) links ds)
  store_set_node t times clock links ds h = record {
    nodes = λ a. h.nodes a ∙ sym (ap (λ (g : ℕ → Bool). g a) (node_stays is_some refl));
    links = h.links;
    keys = h.keys;
    rising_nodes = rising_node_set h.rising_nodes;
    rising_links = h.rising_links;
    each_node = each_set (IsNodeOf t) nodes i new h.each_node (node_set t (h.each_node i x there));
    each_link = h.each_link;
    each_ends = each_set (AreEndsOf t links) nodes i new h.each_ends (ends_of_set t links (h.each_ends i x there));
    each_datagram = h.each_datagram;
  }

-- ---- one more datagram

pub store_push : (t : Topology) (times : Times) (clock : ℕ) (nodes : List NodeView) (links : List LinkView) (ds : List FrameParts) (f : FrameParts) → IsOfLink t f → IsStore (state_of t times clock nodes links ds) → IsStore (state_of t times clock nodes links (ds ++ f ∷ []))
store_push t times clock nodes links ds f p h = record {
  nodes = h.nodes;
  links = h.links;
  keys = h.keys;
  rising_nodes = h.rising_nodes;
  rising_links = h.rising_links;
  each_node = h.each_node;
  each_link = h.each_link;
  each_ends = h.each_ends;
  each_datagram = each_push (IsOfLink t) ds f h.each_datagram p;
}
