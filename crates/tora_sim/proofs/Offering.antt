-- Cargoes that are offered to the lanes of a node, one after another.
use Rattle.std.proofs.Common.{◌≡◌, ℕ, zero, suc, ◌<◌, ◌≤◌, ◌+◌, ◌⊎◌, inl, inr, Bool, true, false, true≢false, ◌&&◌, List, [], ◌∷◌, ◌++◌, map, length, drop, get_or, set, slice_get, Option, Some, None, refl, sym, ap, ap₂, ◌∙◌, subst, arith, is_some, if◌then◌else◌, nat_eq, nat_lt, eqb-true, eq-eqb, append_assoc, append-nil, option_map}
use Rattle.std.proofs.lemmas.Bool.{cases_Bool, and_parts, and_from}
use Rattle.std.proofs.lemmas.Bool.Decides.{nat_tests}
use Rattle.std.proofs.lemmas.Option.{get_or_from_slice_get, slice_get_within}
use Rattle.std.proofs.lemmas.List.{drop-append-le, length-append}
use Rattle.tora_frame.specs.FrameParts.{FrameParts}
use Rattle.tora_arq.specs.declared.times.Times.{Times}
use Rattle.tora_seat.specs.declared.cargo.Cargo.{Cargo}
use Rattle.tora_seat.specs.declared.TheConstants.{MOST_CARGOES}
use Rattle.tora_seat.specs.Serving.{Offer, Parcel, Step, put_to, stepped_from, put_one}
use Rattle.tora_seat.specs.declared.stepped.Stepped.{Stepped}
use Rattle.tora_seat.specs.Rows.{step_of}
use Rattle.tora_seat.specs.Offers.{AreOffered, Follows, place_of}
use Rattle.tora_world.specs.Topology.{Topology, neighbours_of}
use Rattle.tora_world.specs.World.{World, own_answers}
use Rattle.tora_sim.specs.Keyed.{IsFirst}
use Rattle.tora_sim.specs.Links.{LinkView, is_at, waiting}
use Rattle.tora_sim.specs.Nodes.{NodeView}
use Rattle.tora_sim.specs.Lanes.{LanesView, lanes_of, after_offer_at, DidOffer}
use Rattle.tora_sim.specs.Store.{state_of, world_of, IsStore, AreEndsOf, link_at, lane_in}
use Rattle.tora_sim.specs.Links as Links
use Rattle.tora_sim.proofs.Keys.{found}
use Rattle.tora_sim.proofs.Stores.{map_read, is_found, IsSameLink}
use Rattle.tora_sim.proofs.SameLinks.{same_map, store_same, map_found}
use mathlib.Core.Path.{fun_ext}

-- ---- lists

abbrev cargo_where : ℕ → Offer → List Cargo
cargo_where k o = if nat_eq o.to k && o.put then o.cargo ∷ [] else []

put_more : (k : ℕ) (offers : List Offer) (o : Offer) → put_to k (offers ++ o ∷ []) ≡ put_to k offers ++ cargo_where k o
put_more k [] o = append-nil (cargo_where k o)
put_more k (x ∷ offers) o = ap (λ ys. cargo_where k x ++ ys) (put_more k offers o) ∙ sym (append_assoc (cargo_where k x) (put_to k offers) (cargo_where k o))

-- the item at the index of a number in a list is that number
place_read : (k : ℕ) (ks : List ℕ) → place_of k ks < length ks → slice_get ks (place_of k ks) ≡ Some k
place_read k [] lt = absurd (omega arith)
place_read k (j ∷ ks) lt = go (cases_Bool (nat_eq j k)) (place_read k ks)
  where
    go : (nat_eq j k ≡ true) ⊎ (nat_eq j k ≡ false) → (place_of k ks < length ks → slice_get ks (place_of k ks) ≡ Some k) → slice_get (j ∷ ks) (place_of k (j ∷ ks)) ≡ Some k
    go (inl t) again = ap (λ (b : Bool). slice_get (j ∷ ks) (if b then 0 else suc (place_of k ks))) t ∙ ap Some (eqb-true j k t)
    go (inr f) again =
        let less : suc (place_of k ks) < suc (length ks) = subst (λ (b : Bool). (if b then 0 else suc (place_of k ks)) < suc (length ks)) f lt in
        ap (λ (b : Bool). slice_get (j ∷ ks) (if b then 0 else suc (place_of k ks))) f ∙ again (omega (arith, less))

-- a change of the item at one index is a change of all items, if it leaves the others alone
pub set_map : (f g : LinkView → LinkView) (links : List LinkView) (i : ℕ) (old new : LinkView) → slice_get links i ≡ Some old → g old ≡ new
    → ((j : ℕ) (x : LinkView) → (j ≡ i → ⊥) → slice_get links j ≡ Some x → g x ≡ f x) → set (map f links) i new ≡ map g links
set_map f g [] i old new e q other = refl
set_map f g (x ∷ links) zero old new e q other =
    let is : x ≡ old = cc in
    ap₂ (λ a b. a ∷ b) (sym q ∙ ap g (sym is)) (sym (rest links (λ j y at. other (suc j) y (λ z. absurd (omega (arith, z))) at)))
  where
    rest : (xs : List LinkView) → ((j : ℕ) (y : LinkView) → slice_get xs j ≡ Some y → g y ≡ f y) → map g xs ≡ map f xs
    rest [] h = refl
    rest (y ∷ xs) h = ap₂ (λ a b. a ∷ b) (h zero y refl) (rest xs (λ j z at. h (suc j) z at))
set_map f g (x ∷ links) (suc i) old new e q other =
    ap₂ (λ a b. a ∷ b) (sym (other zero x (λ z. absurd (omega (arith, z))) refl))
    (set_map f g links i old new e q (λ j y elsewhere at. other (suc j) y (λ z. elsewhere (omega (arith, z))) at))

pub map_none : (f : LinkView → LinkView) → ((x : LinkView) → f x ≡ x) → (links : List LinkView) → map f links ≡ links
map_none f h [] = refl
map_none f h (x ∷ links) = ap₂ (λ a b. a ∷ b) (h x) (map_none f h links)

-- ---- ends in order

module _ (links : List LinkView) (rising : Links.AreRising links) where
  apart : (i j : ℕ) (x y : LinkView) → slice_get links i ≡ Some x → slice_get links j ≡ Some y → i < j → x.node ≡ y.node → x.peer ≡ y.peer → ⊥
  apart i j x y a b lt p q =
      let before : Links.ComesBefore x y = subst (λ (z : LinkView). Links.ComesBefore z y) (get_or_from_slice_get links i x x a) (subst (λ (z : LinkView). Links.ComesBefore (get_or links i x) z) (get_or_from_slice_get links j y x b) (rising i j x lt (slice_get_within links j y b))) in
      elim before [ inl h ↦ absurd (omega (arith, h, p)) | inr h ↦ absurd (let m = h.1 in omega (arith, m, q)) ]

  pub one_place : (i j : ℕ) (x y : LinkView) → slice_get links i ≡ Some x → slice_get links j ≡ Some y → x.node ≡ y.node → x.peer ≡ y.peer → i ≡ j
  one_place i j x y a b p q = go (cases_Bool (nat_lt i j)) (cases_Bool (nat_lt j i))
    where
      go : (nat_lt i j ≡ true) ⊎ (nat_lt i j ≡ false) → (nat_lt j i ≡ true) ⊎ (nat_lt j i ≡ false) → i ≡ j
      go (inl t) r = absurd (apart i j x y a b (grind (arith, nat_tests, t)) p q)
      go (inr f) (inl t) = absurd (apart j i y x b a (grind (arith, nat_tests, t)) (sym p) (sym q))
      go (inr f) (inr g) = grind (arith, nat_tests, f, g)

  -- the search by node and peer finds each stored end
  pub found_at : (i : ℕ) (x : LinkView) → slice_get links i ≡ Some x → link_at links x.node x.peer ≡ Some x
  found_at i x e = found (is_at x.node x.peer) links i x first e
    where
      first : IsFirst (is_at x.node x.peer) links i
      first = record {
        within = slice_get_within links i x e;
        here = λ d. subst (λ (z : LinkView). is_at x.node x.peer z ≡ true) (sym (get_or_from_slice_get links i x d e)) (and_from _ _ (eq-eqb x.node x.node refl) (eq-eqb x.peer x.peer refl));
        before = λ j d lt. elim (cases_Bool (is_at x.node x.peer (get_or links j d))) [
          | inr off ↦ off
          | inl on ↦ (
              let within = slice_get_within links i x e in
              let q = and_parts _ _ on in
              let h : Links.ComesBefore (get_or links j d) (get_or links i d) = rising j i d lt within in
              let at : get_or links i d ≡ x = get_or_from_slice_get links i x d e in
              let node : (get_or links j d).node ≡ x.node = eqb-true (get_or links j d).node x.node q.0 in
              let peer : (get_or links j d).peer ≡ x.peer = eqb-true (get_or links j d).peer x.peer q.1 in
              let now : Links.ComesBefore (get_or links j d) x = subst (λ (z : LinkView). Links.ComesBefore (get_or links j d) z) at h in
              elim now [ inl l ↦ absurd (omega (arith, l, node)) | inr l ↦ absurd (let m = l.1 in omega (arith, m, peer)) ])
        ];
      }

-- ---- offers to the lanes of node n

-- the end after an item of its node was served, with these offers and stepped packets
abbrev pub served_of : ℕ → List Offer → List Step → LinkView → LinkView
served_of n offers steps link =
    if nat_eq link.node n then record link { put = link.put ++ put_to link.peer offers; steps = link.steps ++ stepped_from link.peer steps } else link

module _ (t : Topology) (times : Times) (clock : ℕ) (nodes : List NodeView) (links : List LinkView) (ds : List FrameParts) (h : IsStore (state_of t times clock nodes links ds))
    (n : ℕ) (x : NodeView) (named : x.node ≡ n) (ends : AreEndsOf t links x) (count : x.count ≡ length (neighbours_of t n)) where
  abbrev w : World
  w = world_of (state_of t times clock nodes links ds)

  abbrev ks : List ℕ
  ks = neighbours_of t n

  abbrev pub given : List Offer → List Step → List LinkView
  given offers steps = map (served_of n offers steps) links

  abbrev lanes : List Offer → LanesView
  lanes offers = lanes_of (given offers []) x.first x.count

  -- the end at an index of the node is that towards the neighbour with this index
  pub end_at : (place k : ℕ) (link : LinkView) → slice_get ks place ≡ Some k → slice_get links (x.first + place) ≡ Some link → (link.node ≡ n) × (link.peer ≡ k)
  end_at place k link e q =
      let told = ends.at place k link (ap (λ m. slice_get (neighbours_of t m) place) named ∙ e) q in
      (told.0 ∙ named, told.1)

  -- the state of an end of the node after the item
  at_home : (offers : List Offer) (steps : List Step) (link : LinkView) → link.node ≡ n → served_of n offers steps link ≡ record link { put = link.put ++ put_to link.peer offers; steps = link.steps ++ stepped_from link.peer steps }
  at_home offers steps link e = ap (λ (b : Bool). if b then record link { put = link.put ++ put_to link.peer offers; steps = link.steps ++ stepped_from link.peer steps } else link) (eq-eqb link.node n e)

  away : (offers : List Offer) (steps : List Step) (link : LinkView) → nat_eq link.node n ≡ false → served_of n offers steps link ≡ link
  away offers steps link e = ap (λ (b : Bool). if b then record link { put = link.put ++ put_to link.peer offers; steps = link.steps ++ stepped_from link.peer steps } else link) e

  module _ (done : List Offer) (o : Offer) (v : LanesView) (did : DidOffer (lanes done) (place_of o.to ks) o.cargo o.put v) where
    place : ℕ
    place = place_of o.to ks

    to_is : slice_get ks (place_of o.to ks) ≡ Some o.to
    to_is = place_read o.to ks (subst (λ m. place_of o.to ks < m) count did.within)

    was : (old : LinkView) × (slice_get links (x.first + place_of o.to ks) ≡ Some old) × (served_of n done [] old ≡ did.link)
    was = map_read (served_of n done []) links (x.first + place_of o.to ks) did.link did.there

    abbrev old : LinkView
    old = was.0

    its : (old.node ≡ n) × (old.peer ≡ o.to)
    its = end_at (place_of o.to ks) o.to old to_is was.1

    link_is : did.link ≡ record old { put = old.put ++ put_to old.peer done; steps = old.steps ++ [] }
    link_is = sym was.2 ∙ at_home done [] old its.0

    here : served_of n (done ++ o ∷ []) [] old ≡ after_offer_at did.link o.cargo o.put
    here =
        at_home (done ++ o ∷ []) [] old its.0
        ∙ ap (λ cs. record old { put = old.put ++ cs; steps = old.steps ++ [] }) (put_more old.peer done o)
        ∙ ap (λ (b : Bool). record old { put = old.put ++ (put_to old.peer done ++ (if b && o.put then o.cargo ∷ [] else [])); steps = old.steps ++ [] }) (eq-eqb o.to old.peer (sym its.1))
        ∙ ap (λ cs. record old { put = cs; steps = old.steps ++ [] }) (sym (append_assoc old.put (put_to old.peer done) (if o.put then o.cargo ∷ [] else [])))
        ∙ ap (λ (z : LinkView). after_offer_at z o.cargo o.put) (sym link_is)

    other : (j : ℕ) (y : LinkView) → (j ≡ x.first + place_of o.to ks → ⊥) → slice_get links j ≡ Some y → served_of n (done ++ o ∷ []) [] y ≡ served_of n done [] y
    other j y elsewhere at = go (cases_Bool (nat_eq y.node n)) (cases_Bool (nat_eq o.to y.peer))
      where
        go : (nat_eq y.node n ≡ true) ⊎ (nat_eq y.node n ≡ false) → (nat_eq o.to y.peer ≡ true) ⊎ (nat_eq o.to y.peer ≡ false) → served_of n (done ++ o ∷ []) [] y ≡ served_of n done [] y
        go (inr f) r = away (done ++ o ∷ []) [] y f ∙ sym (away done [] y f)
        go (inl t) (inl same) =
            absurd (elsewhere (one_place links h.rising_links j (x.first + place_of o.to ks) y old at was.1 (eqb-true y.node n t ∙ sym its.0) (sym (eqb-true o.to y.peer same) ∙ sym its.1)))
        go (inl t) (inr off) =
            let e = eqb-true y.node n t in
            at_home (done ++ o ∷ []) [] y e
            ∙ ap (λ cs. record y { put = y.put ++ cs; steps = y.steps ++ [] }) (put_more y.peer done o ∙ ap (λ (b : Bool). put_to y.peer done ++ (if b && o.put then o.cargo ∷ [] else [])) off ∙ append-nil (put_to y.peer done))
            ∙ sym (at_home done [] y e)

    pub lanes_next : v ≡ lanes (done ++ o ∷ [])
    lanes_next = did.lanes ∙ ap (λ xs. lanes_of xs x.first x.count) (set_map (served_of n done []) (served_of n (done ++ o ∷ []) []) links (x.first + place_of o.to ks) old (after_offer_at did.link o.cargo o.put) was.1 here other)

    there : link_at links n o.to ≡ Some old
    there = ap₂ (λ a b. link_at links a b) (sym its.0) (sym its.1) ∙ found_at links h.rising_links (x.first + place_of o.to ks) old was.1

    pub linked : is_some (link_at links n o.to) ≡ true
    linked = ap is_some there

    waits : waiting did.link ≡ lane_in (link_at links n o.to) ++ put_to o.to done
    waits =
        ap waiting link_is
        ∙ drop-append-le old.pulled old.put (put_to old.peer done) (h.each_link (x.first + place_of o.to ks) old was.1).pulled
        ∙ ap (λ k. drop old.pulled old.put ++ put_to k done) its.1
        ∙ ap (λ z. lane_in z ++ put_to o.to done) (sym there)

    pub answered : own_answers w n done o.to ≡ o.put
    answered = sym (did.answer ∙ ap (λ cs. nat_lt (length cs) MOST_CARGOES) waits)

  -- the effect of the offers so far
  pub record Offered (done offers : List Offer) (v : LanesView) : Type 0 where
    pub lanes : v ≡ lanes_of (given (done ++ offers) []) x.first x.count
    pub follows : Follows (own_answers w n) done offers
    pub linked : (k : ℕ) → is_some (link_at links n k) ≡ false → put_to k offers ≡ []

  pub all_offered : (done offers : List Offer) (v : LanesView) → AreOffered DidOffer ks (lanes done) offers v → Offered done offers v
  all_offered done [] v e = record { lanes = e ∙ ap (λ os. lanes_of (given os []) x.first x.count) (sym (append-nil done)); follows = tt; linked = λ k absent. refl }
  all_offered done (o ∷ offers) v (between, did, rest) =
      let next = lanes_next done o between did in
      let again = all_offered (done ++ o ∷ []) offers v (subst (λ b. AreOffered DidOffer ks b offers v) next rest) in
      record {
        lanes = again.lanes ∙ ap (λ os. lanes_of (given os []) x.first x.count) (append_assoc done (o ∷ []) offers);
        follows = (answered done o between did, again.follows);
        linked = λ k absent. none k absent (again.linked k absent) (linked done o between did) (cases_Bool (nat_eq o.to k));
      }
    where
      none : (k : ℕ) → is_some (link_at links n k) ≡ false → put_to k offers ≡ [] → is_some (link_at links n o.to) ≡ true → (nat_eq o.to k ≡ true) ⊎ (nat_eq o.to k ≡ false) → put_to k (o ∷ offers) ≡ []
      none k absent rest_none present (inl same) = absurd (true≢false (sym present ∙ ap (λ m. is_some (link_at links n m)) (eqb-true o.to k same) ∙ absent))
      none k absent rest_none present (inr off) = ap (λ (b : Bool). (if b && o.put then o.cargo ∷ [] else []) ++ put_to k offers) off ∙ rest_none

  pub nothing_offered : lanes [] ≡ lanes_of links x.first x.count
  nothing_offered = ap (λ xs. lanes_of xs x.first x.count) (map_none (served_of n [] []) same links)
    where
      same : (link : LinkView) → served_of n [] [] link ≡ link
      same link = go (nat_eq link.node n)
        where
          go : (b : Bool) → (if b then record link { put = link.put ++ []; steps = link.steps ++ [] } else link) ≡ link
          go true = ap₂ (λ (p : List Cargo) (s : List Parcel). record link { put = p; steps = s }) (append-nil link.put) (append-nil link.steps)
          go false = refl

  -- the packet that was stepped is recorded at the end of its neighbour
  module _ (offers : List Offer) (place : ℕ) (p : Stepped) (from : slice_get ks place ≡ Some p.from) (link : LinkView) (there : slice_get (given offers []) (x.first + place) ≡ Some link) where
    abbrev parcel : Parcel
    parcel = record { life = p.life; packet = p.packet }

    step_was : (old : LinkView) × (slice_get links (x.first + place) ≡ Some old) × (served_of n offers [] old ≡ link)
    step_was = map_read (served_of n offers []) links (x.first + place) link there

    abbrev step_old : LinkView
    step_old = step_was.0

    step_its : (step_old.node ≡ n) × (step_old.peer ≡ p.from)
    step_its = end_at place p.from step_old from step_was.1

    step_here : served_of n offers (step_of p ∷ []) step_old ≡ record link { steps = link.steps ++ parcel ∷ [] }
    step_here =
        at_home offers (step_of p ∷ []) step_old step_its.0
        ∙ ap (λ (b : Bool). record step_old { put = step_old.put ++ put_to step_old.peer offers; steps = step_old.steps ++ ((if b then parcel ∷ [] else []) ++ []) }) (eq-eqb p.from step_old.peer (sym step_its.1))
        ∙ ap (λ (s : List Parcel). record step_old { put = step_old.put ++ put_to step_old.peer offers; steps = s ++ parcel ∷ [] }) (sym (append-nil step_old.steps))
        ∙ ap (λ (z : LinkView). record z { steps = z.steps ++ parcel ∷ [] }) (sym (at_home offers [] step_old step_its.0) ∙ step_was.2)

    step_other : (j : ℕ) (y : LinkView) → (j ≡ x.first + place → ⊥) → slice_get links j ≡ Some y → served_of n offers (step_of p ∷ []) y ≡ served_of n offers [] y
    step_other j y elsewhere at = go (cases_Bool (nat_eq y.node n)) (cases_Bool (nat_eq p.from y.peer))
      where
        go : (nat_eq y.node n ≡ true) ⊎ (nat_eq y.node n ≡ false) → (nat_eq p.from y.peer ≡ true) ⊎ (nat_eq p.from y.peer ≡ false) → served_of n offers (step_of p ∷ []) y ≡ served_of n offers [] y
        go (inr f) r = away offers (step_of p ∷ []) y f ∙ sym (away offers [] y f)
        go (inl t) (inl same) =
            absurd (elsewhere (one_place links h.rising_links j (x.first + place) y step_old at step_was.1 (eqb-true y.node n t ∙ sym step_its.0) (sym (eqb-true p.from y.peer same) ∙ sym step_its.1)))
        go (inl t) (inr off) =
            let e = eqb-true y.node n t in
            at_home offers (step_of p ∷ []) y e
            ∙ ap (λ (b : Bool). record y { put = y.put ++ put_to y.peer offers; steps = y.steps ++ ((if b then parcel ∷ [] else []) ++ []) }) off
            ∙ sym (at_home offers [] y e)

    pub noted : set (given offers []) (x.first + place) (record link { steps = link.steps ++ parcel ∷ [] }) ≡ given offers (step_of p ∷ [])
    noted = set_map (served_of n offers []) (served_of n offers (step_of p ∷ [])) links (x.first + place) step_old (record link { steps = link.steps ++ parcel ∷ [] }) step_was.1 step_here step_other

  -- ---- the result of searches after the item

  module _ (offers : List Offer) (steps : List Step) where
    same_end : (link : LinkView) → IsSameLink link (served_of n offers steps link)
    same_end link = go (nat_eq link.node n)
      where
        go : (b : Bool) → IsSameLink link (if b then record link { put = link.put ++ put_to link.peer offers; steps = link.steps ++ stepped_from link.peer steps } else link)
        go true = record { node = refl; peer = refl; seat = refl; settings = refl; pulled = λ q. let e = length-append link.put (put_to link.peer offers) in omega (arith, e, q) }
        go false = record { node = refl; peer = refl; seat = refl; settings = refl; pulled = λ q. q }

    pub given_store : IsStore (state_of t times clock nodes (given offers steps) ds)
    given_store = store_same t times clock nodes links (given offers steps) ds (same_map (served_of n offers steps) same_end links) h

    found_given : (a k : ℕ) → link_at (given offers steps) a k ≡ option_map (served_of n offers steps) (link_at links a k)
    found_given a k = map_found (served_of n offers steps) same_end a k links

    pub given_stays : {A : Type 0} → (f : Option LinkView → A) → ((link : LinkView) (put : List Cargo) (s : List Parcel) → f (Some (record link { put = put; steps = s })) ≡ f (Some link))
        → ◌≡◌ {A = ℕ → ℕ → A} (λ a k. f (link_at (given offers steps) a k)) (λ a k. f (link_at links a k))
    given_stays {A} f blind = fun_ext (λ a. fun_ext (λ k. ap f (found_given a k) ∙ go (link_at links a k)))
      where
        cases : (link : LinkView) (b : Bool) → f (Some (if b then record link { put = link.put ++ put_to link.peer offers; steps = link.steps ++ stepped_from link.peer steps } else link)) ≡ f (Some link)
        cases link true = blind link (link.put ++ put_to link.peer offers) (link.steps ++ stepped_from link.peer steps)
        cases link false = refl

        go : (o : Option LinkView) → f (option_map (served_of n offers steps) o) ≡ f o
        go None = refl
        go (Some link) = cases link (nat_eq link.node n)

    -- a list of each end of the node grows by the part for its peer
    pub given_grows : {A : Type 0} → (f : Option LinkView → List A) (extra : ℕ → List A)
        → ((link : LinkView) → link.pulled ≤ length link.put → f (Some (record link { put = link.put ++ put_to link.peer offers; steps = link.steps ++ stepped_from link.peer steps })) ≡ f (Some link) ++ extra link.peer)
        → f None ≡ [] → ((k : ℕ) → is_some (link_at links n k) ≡ false → extra k ≡ [])
        → ◌≡◌ {A = ℕ → ℕ → List A} (λ a k. f (link_at (given offers steps) a k)) (put_one {A = ℕ → List A} (λ a k. f (link_at links a k)) n (λ k. f (link_at links n k) ++ extra k))
    given_grows {A} f extra grows none absent = fun_ext (λ a. fun_ext (λ k. ap f (found_given a k) ∙ go a k (cases_Bool (nat_eq a n))))
      where
        at_n : (k : ℕ) (o : Option LinkView) → link_at links n k ≡ o → f (option_map (served_of n offers steps) o) ≡ f o ++ extra k
        at_n k None e = none ∙ sym (ap₂ (λ a b. a ++ b) none (absent k (ap is_some e)))
        at_n k (Some link) e =
            let is = is_found (is_at n k) links link e in
            let q = and_parts _ _ is.passes in
            ap (λ (z : LinkView). f (Some z)) (at_home offers steps link (eqb-true link.node n q.0))
            ∙ grows link (h.each_link is.place link is.there).pulled
            ∙ ap (λ m. f (Some link) ++ extra m) (eqb-true link.peer k q.1)

        off_n : (a k : ℕ) (o : Option LinkView) → nat_eq a n ≡ false → link_at links a k ≡ o → f (option_map (served_of n offers steps) o) ≡ f o
        off_n a k None r e = refl
        off_n a k (Some link) r e =
            let is = is_found (is_at a k) links link e in
            let q = and_parts _ _ is.passes in
            ap (λ (z : LinkView). f (Some z)) (away offers steps link (ap (λ m. nat_eq m n) (eqb-true link.node a q.0) ∙ r))

        go : (a k : ℕ) → (nat_eq a n ≡ true) ⊎ (nat_eq a n ≡ false) → f (option_map (served_of n offers steps) (link_at links a k)) ≡ put_one {A = ℕ → List A} (λ m j. f (link_at links m j)) n (λ j. f (link_at links n j) ++ extra j) a k
        go a k (inl e) =
            ap (λ m. f (option_map (served_of n offers steps) (link_at links m k))) (eqb-true a n e)
            ∙ at_n k (link_at links n k) refl
            ∙ sym (ap (λ (b : Bool). if◌then◌else◌ {A = ℕ → List A} b (λ j. f (link_at links n j) ++ extra j) (λ j. f (link_at links a j)) k) e)
        go a k (inr r) =
            off_n a k (link_at links a k) r refl
            ∙ sym (ap (λ (b : Bool). if◌then◌else◌ {A = ℕ → List A} b (λ j. f (link_at links n j) ++ extra j) (λ j. f (link_at links a j)) k) r)
