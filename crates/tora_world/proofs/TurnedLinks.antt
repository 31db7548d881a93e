-- A link leads in both directions, and each of its ends is a node.
use Rattle.std.proofs.Common.{◌≡◌, ℕ, Bool, true, false, true≢false, ◌||◌, ◌⊎◌, inl, inr, List, [], ◌∷◌, nat_eq, if◌then◌else◌, refl, sym, ap, ◌∙◌, subst, eqb-true, eq-eqb}
use Rattle.std.proofs.lemmas.Bool.{cases_Bool, or_left, or_right}
use Rattle.tora_core.specs.Numbers.{has_number}
use Rattle.tora_world.specs.Topology.{Topology, Link, other_ends, is_node, is_link}
use Rattle.tora_world.specs.Layers.{CoreLaws}
use Rattle.tora_world.proofs.SoundTopology.{unnamed}

-- the ends after one more link
abbrev ends_with : Bool → Bool → Link → List ℕ → List ℕ
ends_with p q x ends = if p then x.b ∷ ends else if q then x.a ∷ ends else ends

more_ends : (n : ℕ) (p q : Bool) (x : Link) (ends : List ℕ) → has_number n ends ≡ true → has_number n (ends_with p q x ends) ≡ true
more_ends n true q x ends e = or_right (nat_eq x.b n) (has_number n ends) e
more_ends n false true x ends e = or_right (nat_eq x.a n) (has_number n ends) e
more_ends n false false x ends e = e

turned_ends : (n k : ℕ) (links : List Link) → has_number k (other_ends n links) ≡ true → has_number n (other_ends k links) ≡ true
turned_ends n k [] e = absurd (true≢false (sym e))
turned_ends n k (x ∷ links) e = go (nat_eq x.a n) (nat_eq x.b n) refl refl e (turned_ends n k links)
  where
    rest : has_number n (other_ends k links) ≡ true → has_number n (ends_with (nat_eq x.a k) (nat_eq x.b k) x (other_ends k links)) ≡ true
    rest f = more_ends n (nat_eq x.a k) (nat_eq x.b k) x (other_ends k links) f

    -- n is the first end of the link, k the second
    first : x.a ≡ n → x.b ≡ k → (p : Bool) → nat_eq x.a k ≡ p → has_number n (ends_with p (nat_eq x.b k) x (other_ends k links)) ≡ true
    first a b true t = or_left (nat_eq x.b n) (has_number n (other_ends k links)) (eq-eqb x.b n (b ∙ sym (eqb-true x.a k t) ∙ a))
    first a b false t = subst (λ (q : Bool). has_number n (ends_with false q x (other_ends k links)) ≡ true) (sym (eq-eqb x.b k b)) (or_left (nat_eq x.a n) (has_number n (other_ends k links)) (eq-eqb x.a n a))

    -- n is the second end of the link, k the first
    second : x.b ≡ n → x.a ≡ k → has_number n (ends_with (nat_eq x.a k) (nat_eq x.b k) x (other_ends k links)) ≡ true
    second b a = subst (λ (p : Bool). has_number n (ends_with p (nat_eq x.b k) x (other_ends k links)) ≡ true) (sym (eq-eqb x.a k a)) (or_left (nat_eq x.b n) (has_number n (other_ends k links)) (eq-eqb x.b n b))

    pick : (b : Bool) (ends : Bool) → (b || ends) ≡ true → (b ≡ true) ⊎ (ends ≡ true)
    pick true ends f = inl refl
    pick false ends f = inr f

    go : (p q : Bool) → nat_eq x.a n ≡ p → nat_eq x.b n ≡ q → has_number k (ends_with p q x (other_ends n links)) ≡ true → (has_number k (other_ends n links) ≡ true → has_number n (other_ends k links) ≡ true) →
        has_number n (ends_with (nat_eq x.a k) (nat_eq x.b k) x (other_ends k links)) ≡ true
    go true q a b f again = one (pick (nat_eq x.b k) (has_number k (other_ends n links)) f)
      where
        one : (nat_eq x.b k ≡ true) ⊎ (has_number k (other_ends n links) ≡ true) → has_number n (ends_with (nat_eq x.a k) (nat_eq x.b k) x (other_ends k links)) ≡ true
        one (inl t) = first (eqb-true x.a n a) (eqb-true x.b k t) (nat_eq x.a k) refl
        one (inr t) = rest (again t)
    go false true a b f again = one (pick (nat_eq x.a k) (has_number k (other_ends n links)) f)
      where
        one : (nat_eq x.a k ≡ true) ⊎ (has_number k (other_ends n links) ≡ true) → has_number n (ends_with (nat_eq x.a k) (nat_eq x.b k) x (other_ends k links)) ≡ true
        one (inl t) = second (eqb-true x.b n b) (eqb-true x.a k t)
        one (inr t) = rest (again t)
    go false false a b f again = rest (again f)

module _ (cores : CoreLaws) (t : Topology) where
  pub turned_link : (n k : ℕ) → is_link t n k ≡ true → is_link t k n ≡ true
  turned_link n k e = cores.members n (other_ends k t.links) ∙ turned_ends n k t.links (sym (cores.members k (other_ends n t.links)) ∙ e)

  pub node_of_link : (n k : ℕ) → is_link t n k ≡ true → is_node t n ≡ true
  node_of_link n k e = go (cases_Bool (is_node t n))
    where
      go : (is_node t n ≡ true) ⊎ (is_node t n ≡ false) → is_node t n ≡ true
      go (inl i) = i
      go (inr o) = absurd (true≢false (sym (sym (cores.members k (other_ends n t.links)) ∙ e) ∙ ap (has_number k) (unnamed n t.links o)))
