-- The link ends of a node are those at its indexes, and a change of each of them is a change of the ends of that node.
use Rattle.std.proofs.Common.{◌≡◌, ℕ, zero, suc, ◌<◌, ◌≤◌, ◌+◌, ◌⊎◌, ◌||◌, inl, inr, Bool, true, false, true≢false, List, [], ◌∷◌, map, length, slice_get, Some, None, refl, sym, ap, ap₂, ◌∙◌, subst, arith, is_some, if◌then◌else◌, nat_eq, eqb-true, eq-eqb}
use Rattle.std.proofs.lemmas.Bool.{cases_Bool}
use Rattle.std.specs.Prelude.{slice_index_or}
use Rattle.tora_frame.specs.FrameParts.{FrameParts}
use Rattle.tora_arq.specs.declared.times.Times.{Times}
use Rattle.tora_core.specs.Numbers.{has_number}
use Rattle.tora_world.specs.Topology.{Topology, neighbours_of}
use Rattle.tora_sim.specs.Keyed.{IsFirst}
use Rattle.tora_sim.specs.Links.{LinkView, at_node, AreChanged}
use Rattle.tora_sim.specs.Nodes.{NodeView, is_of}
use Rattle.tora_sim.specs.Store.{state_of, IsStore, link_at}
use Rattle.tora_sim.proofs.AtNode.{IsAt, is_at_place}
use Rattle.tora_sim.proofs.Offering.{one_place, found_at}
use Rattle.tora_sim.proofs.FreshEnds.{item_at, same_item}

-- ---- lists

pub by_places : (g : LinkView → LinkView) (xs ys : List LinkView) → length ys ≡ length xs → ((j : ℕ) (x : LinkView) → slice_get xs j ≡ Some x → slice_get ys j ≡ Some (g x)) → ys ≡ map g xs
by_places g [] [] e h = refl
by_places g [] (y ∷ ys) e h = absurd (omega (arith, e))
by_places g (x ∷ xs) [] e h = absurd (omega (arith, e))
by_places g (x ∷ xs) (y ∷ ys) e h = ap₂ (λ a b. a ∷ b) (same_item y (g x) (h zero x refl)) (by_places g xs ys (omega (arith, e)) (λ j z at. h (suc j) z at))

number_at : (k : ℕ) (ks : List ℕ) → has_number k ks ≡ true → (place : ℕ) × (slice_get ks place ≡ Some k)
number_at k [] e = absurd (true≢false (sym e))
number_at k (j ∷ ks) e = go (cases_Bool (nat_eq j k)) (number_at k ks)
  where
    go : (nat_eq j k ≡ true) ⊎ (nat_eq j k ≡ false) → (has_number k ks ≡ true → (place : ℕ) × (slice_get ks place ≡ Some k)) → (place : ℕ) × (slice_get (j ∷ ks) place ≡ Some k)
    go (inl t) again = (zero, ap Some (eqb-true j k t))
    go (inr f) again = let told = again (subst (λ (b : Bool). (b || has_number k ks) ≡ true) f e) in (suc told.0, told.1)

within_list : (ks : List ℕ) (i k : ℕ) → slice_get ks i ≡ Some k → i < length ks
within_list [] i k e = absurd (let z : None ≡ Some k = e in cc)
within_list (j ∷ ks) zero k e = omega arith
within_list (j ∷ ks) (suc i) k e = let again = within_list ks i k e in omega (arith, again)

module _ (t : Topology) (times : Times) (clock : ℕ) (nodes : List NodeView) (links : List LinkView) (ds : List FrameParts) (h : IsStore (state_of t times clock nodes links ds))
    (n i : ℕ) (x : NodeView) (first : IsFirst (is_of n) nodes i) (read : x ≡ slice_index_or nodes i x) where
  here : IsAt t nodes links n i x
  here = is_at_place t times clock nodes links ds h n i x first read

  pub ends_within : x.first + x.count ≤ length links
  ends_within = here.ends.within

  in_place : (j place : ℕ) (link : LinkView) → slice_get links j ≡ Some link → link.node ≡ n → slice_get (neighbours_of t n) place ≡ Some link.peer
      → (other : LinkView) → slice_get links (x.first + place) ≡ Some other → j ≡ x.first + place
  in_place j place link e q at other there =
      let is = here.ends.at place link.peer other (ap (λ m. slice_get (neighbours_of t m) place) here.node ∙ at) there in
      one_place links h.rising_links j (x.first + place) link other e there (q ∙ sym (is.0 ∙ here.node)) (sym is.1)

  placed : (j place : ℕ) (link : LinkView) → slice_get links j ≡ Some link → link.node ≡ n → slice_get (neighbours_of t n) place ≡ Some link.peer → (place < x.count) × (j ≡ x.first + place)
  placed j place link e q at =
      let less = within_list (neighbours_of t n) place link.peer at in
      let count = here.count in
      let lt : place < x.count = omega (arith, less, count) in
      let other = item_at links (x.first + place) (let within = here.ends.within in omega (arith, lt, within)) in
      (lt, in_place j place link e q at other.0 other.1)

  pub has_place : (j : ℕ) (link : LinkView) → slice_get links j ≡ Some link → link.node ≡ n → (place : ℕ) × ((place < x.count) × (j ≡ x.first + place))
  has_place j link e q =
      let found : link_at links n link.peer ≡ Some link = ap (λ m. link_at links m link.peer) (sym q) ∙ found_at links h.rising_links j link e in
      let told = number_at link.peer (neighbours_of t n) (h.links n link.peer ∙ ap is_some found) in
      (told.0, placed j told.0 link e q told.1)

  at_home : (place : ℕ) (link : LinkView) → place < x.count → slice_get links (x.first + place) ≡ Some link → link.node ≡ n
  at_home place link lt e =
      let k = item_at (neighbours_of t x.node) place (let c = here.kept.count in omega (arith, lt, c)) in
      (here.ends.at place k.0 link k.1 e).0 ∙ here.node

  pub changed_is : (change : LinkView → LinkView) (links' : List LinkView) → AreChanged change links links' x.first x.count → links' ≡ map (at_node n change) links
  changed_is change links' d = by_places (at_node n change) links links' d.as_many (λ j link e. go j link e (cases_Bool (nat_eq link.node n)))
    where
      go : (j : ℕ) (link : LinkView) → slice_get links j ≡ Some link → (nat_eq link.node n ≡ true) ⊎ (nat_eq link.node n ≡ false) → slice_get links' j ≡ Some (at_node n change link)
      go j link e (inl q) =
          let p = has_place j link e (eqb-true link.node n q) in
          let is : j ≡ x.first + p.0 = p.1.1 in
          ap (slice_get links') is ∙ d.done p.0 link p.1.0 (ap (slice_get links) (sym is) ∙ e) ∙ ap Some (sym (ap (λ (b : Bool). if b then change link else link) q))
      go j link e (inr q) =
          d.rest j link (λ place lt is. absurd (true≢false (sym (eq-eqb link.node n (at_home place link lt (ap (slice_get links) (sym is) ∙ e))) ∙ q))) e
          ∙ ap Some (sym (ap (λ (b : Bool). if b then change link else link) q))
