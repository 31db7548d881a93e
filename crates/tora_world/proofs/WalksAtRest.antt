-- If each entry is the height of its neighbour or the neighbour has no height, walks go down.
use Rattle.std.proofs.Common.{◌≡◌, ◌≢◌, ℕ, zero, suc, ◌+◌, ◌<◌, ◌≤◌, ◌||◌, Bool, true, false, true≢false, ◌⊎◌, inl, inr, ⊎_elim, List, [], ◌∷◌, length, Some, nat_eq, refl, sym, ap, ◌∙◌, subst, arith, eqb-true, eq-eqb}
use Rattle.std.proofs.lemmas.Bool.{cases_Bool}
use Rattle.std.specs.Ordering.{is_lt}
use Rattle.std.specs.declared.cmp.Ordering.TheVariants.{Less, Equal}
use Rattle.tora_height.specs.Height.{Quintuple}
use Rattle.tora_height.specs.HeightOrder.{IsLower}
use Rattle.tora_core.specs.Numbers.{has_number}
use Rattle.tora_world.specs.Topology.{nodes_in, is_node}
use Rattle.tora_world.specs.World.{World}
use Rattle.tora_world.specs.Layers.{RuleLaws}
use Rattle.tora_world.specs.Walks.{height_at, hop_at, LeadsOn, IsBelow, FallsFrom, Arrives}
use Rattle.tora_world.specs.Rest.{LacksHeight, EntriesAreHeights, FollowsHops, GoesDown, HopsDown, ComesDown, HaveHeights, last_of, IsReached}
use Rattle.tora_world.specs.Rest.IsReached.{itself as here, further}
use Rattle.tora_world.proofs.Entries.{IsCoreOf, has_view}
use Rattle.tora_world.proofs.ExactEntries.{itself}
use Rattle.tora_world.proofs.WalksDown.{one_where, is_under, under, under_most, one_less, walk_found, Hops, hops}

module _ (rules : RuleLaws) (w : World) (cores : (n : ℕ) → is_node w.topology n ≡ true → IsCoreOf w.topology n (w.seats n).core) (d : ℕ) (entries : EntriesAreHeights w) where
  below : (n : ℕ) (h : Quintuple) → height_at w n d ≡ Some (Some h) → (x : Hops w d n h) → height_at w x.hop d ≡ Some (Some x.low) → IsBelow w d x.hop n
  below n h e x q = record { low = x.low; high = h; lower = q; upper = e; order = x.order }

  pub hops_down : (n : ℕ) (h : Quintuple) → n ≢ d → height_at w n d ≡ Some (Some h) → HopsDown w d n
  hops_down n h other e =
      let x = hops rules w cores d n h other e in
      record { hop = x.hop; next = x.next; lower = ⊎_elim (λ q. inl (below n h e x q)) (λ q. inr q) (entries n x.hop d x.low x.entry) }

  -- ---- down to the destination, or to a node without a height

  record Down (n most : ℕ) : Type 0 where
    after : List ℕ
    goes : GoesDown w d n after
    within : length after ≤ most

  node_there : (k : ℕ) (h : Quintuple) → height_at w k d ≡ Some (Some h) → is_node w.topology k ≡ true
  node_there k h e = (has_view w k d h e).node

  fewer_below : (n : ℕ) (h : Quintuple) (x : Hops w d n h) → height_at w x.hop d ≡ Some (Some x.low) → under w d x.low (nodes_in w.topology.links) < under w d h (nodes_in w.topology.links)
  fewer_below n h x q = one_less rules w d x.low h x.order x.hop q (nodes_in w.topology.links) (node_there x.hop x.low q)

  -- `most` exceeds the number of lower nodes, because the last hop may lead to a node without a height
  goes_down : (most n : ℕ) (h : Quintuple) → height_at w n d ≡ Some (Some h) → suc (under w d h (nodes_in w.topology.links)) ≤ most → Down n most
  goes_down zero n h e le = absurd (omega (arith, le))
  goes_down (suc most) n h e le = go (cases_Bool (nat_eq n d)) (goes_down most)
    where
      go : (nat_eq n d ≡ true) ⊎ (nat_eq n d ≡ false) → ((k : ℕ) (g : Quintuple) → height_at w k d ≡ Some (Some g) → suc (under w d g (nodes_in w.topology.links)) ≤ most → Down k most) → Down n (suc most)
      go (inl is) again = record { after = []; goes = eqb-true n d is; within = omega arith }
      go (inr is) again =
          let other : n ≢ d = λ q. true≢false (sym (eq-eqb n d q) ∙ is) in
          let x = hops rules w cores d n h other e in
          ⊎_elim
          (λ (q : height_at w x.hop d ≡ Some (Some x.low)).
          let less = fewer_below n h x q in
          let rest = again x.hop x.low q (omega (arith, le, less)) in
          let within = rest.within in
          record { after = x.hop ∷ rest.after; goes = (other, x.next, inl (below n h e x q, rest.goes)); within = omega (arith, within) })
          (λ (q : LacksHeight w x.hop d). record { after = x.hop ∷ []; goes = (other, x.next, inr (q, refl)); within = omega arith })
          (entries n x.hop d x.low x.entry)

  -- a node is not below itself
  one_most : (b : Bool) → one_where b ≤ 1
  one_most true = omega arith
  one_most false = omega arith

  not_under : (n : ℕ) (h : Quintuple) → height_at w n d ≡ Some (Some h) → (nodes : List ℕ) → has_number n nodes ≡ true → under w d h nodes < length nodes
  not_under n h e [] there = absurd cc
  not_under n h e (m ∷ nodes) there = go (nat_eq m n) refl there (not_under n h e nodes)
    where
      go : (b : Bool) → nat_eq m n ≡ b → (b || has_number n nodes) ≡ true → (has_number n nodes ≡ true → under w d h nodes < length nodes) → one_where (is_under h (height_at w m d)) + under w d h nodes < suc (length nodes)
      go true t s again =
          let same : height_at w m d ≡ Some (Some h) = ap (λ x. height_at w x d) (eqb-true m n t) ∙ e in
          let none : one_where (is_under h (height_at w m d)) ≡ 0 = ap (λ o. one_where (is_under h o)) same ∙ ap (λ o. one_where (is_lt o)) (itself rules h) in
          let rest = under_most w d h nodes in
          omega (arith, none, rest)
      go false t s again = let a = one_most (is_under h (height_at w m d)) in let b = again s in omega (arith, a, b)

  pub comes_down : (n : ℕ) (h : Quintuple) → height_at w n d ≡ Some (Some h) → ComesDown w n d
  comes_down n h e =
      let less = not_under n h e (nodes_in w.topology.links) (node_there n h e) in
      let x = goes_down (length (nodes_in w.topology.links)) n h e (omega (arith, less)) in
      record { after = x.after; goes = x.goes; within = x.within }

  -- ---- no loop among nodes with heights

  -- the last of the nodes after n has a lower height
  record LastBelow (h : Quintuple) (last : ℕ) : Type 0 where
    low : Quintuple
    height : height_at w last d ≡ Some (Some low)
    order : IsLower low h

  -- the node after n, if it has a height
  after_hop : (n : ℕ) (h : Quintuple) → n ≢ d → height_at w n d ≡ Some (Some h) → (k : ℕ) → hop_at w n d ≡ Some k → (LacksHeight w k d → ⊥) → LastBelow h k
  after_hop n h other e k next have =
      let x = hops rules w cores d n h other e in
      let q : Some x.hop ≡ Some k = sym x.next ∙ next in
      let same : x.hop ≡ k = cc in
      let height : height_at w k d ≡ Some (Some x.low) =
      ⊎_elim (λ q. subst (λ m. height_at w m d ≡ Some (Some x.low)) same q) (λ q. absurd (have (subst (λ m. LacksHeight w m d) same q))) (entries n x.hop d x.low x.entry) in
      record { low = x.low; height = height; order = x.order }

  last_below : (n : ℕ) (h : Quintuple) → height_at w n d ≡ Some (Some h) → (k : ℕ) (nodes : List ℕ) → FollowsHops w d n (k ∷ nodes) → HaveHeights w d (k ∷ nodes) → LastBelow h (last_of k nodes)
  last_below n h e k [] f have = after_hop n h f.0 e k f.1 have.0
  last_below n h e k (j ∷ rest) f have =
      let x = after_hop n h f.0 e k f.1 have.0 in
      let b = last_below k x.low x.height j rest f.2 have.1 in
      record { low = b.low; height = b.height; order = (rules.lower b.low h).0 (rules.order.trans b.low x.low h ((rules.lower b.low x.low).1 b.order) ((rules.lower x.low h).1 x.order)) }

  pub no_loop : (n : ℕ) (h : Quintuple) (nodes : List ℕ) → height_at w n d ≡ Some (Some h) → FollowsHops w d n nodes → HaveHeights w d nodes → last_of n nodes ≡ n → nodes ≡ []
  no_loop n h [] e f have back = refl
  no_loop n h (k ∷ nodes) e f have back =
      let b = last_below n h e k nodes f have in
      let q : Some (Some b.low) ≡ Some (Some h) = sym b.height ∙ ap (λ m. height_at w m d) back ∙ e in
      let same : b.low ≡ h = cc in
      let lower : IsLower h h = subst (λ x. IsLower x h) same b.order in
      let less : Equal ≡ Less = sym (itself rules h) ∙ (rules.lower h h).1 lower in
      absurd (cc)

  -- ---- every node of the component has a height

  module _ (n : ℕ) (none : (k : ℕ) → IsReached w d n k → LacksHeight w k d → ⊥) where
    record Leads (m most : ℕ) : Type 0 where
      after : List ℕ
      leads : LeadsOn w d m after
      within : length after ≤ most
      falls : FallsFrom w d m after

    height_of_hop : (m : ℕ) (h : Quintuple) → IsReached w d n m → (x : Hops w d m h) → height_at w x.hop d ≡ Some (Some x.low)
    height_of_hop m h r x = ⊎_elim (λ q. q) (λ q. absurd (none x.hop (further r x.entry) q)) (entries m x.hop d x.low x.entry)

    leads_down : (most m : ℕ) (h : Quintuple) → IsReached w d n m → height_at w m d ≡ Some (Some h) → under w d h (nodes_in w.topology.links) ≤ most → Leads m most
    leads_down zero m h r e le = go (cases_Bool (nat_eq m d))
      where
        go : (nat_eq m d ≡ true) ⊎ (nat_eq m d ≡ false) → Leads m 0
        go (inl is) = record { after = []; leads = eqb-true m d is; within = omega arith; falls = tt }
        go (inr is) =
            let x = hops rules w cores d m h (λ q. true≢false (sym (eq-eqb m d q) ∙ is)) e in
            let less = fewer_below m h x (height_of_hop m h r x) in
            absurd (omega (arith, le, less))
    leads_down (suc most) m h r e le = go (cases_Bool (nat_eq m d)) (leads_down most)
      where
        go : (nat_eq m d ≡ true) ⊎ (nat_eq m d ≡ false) → ((k : ℕ) (g : Quintuple) → IsReached w d n k → height_at w k d ≡ Some (Some g) → under w d g (nodes_in w.topology.links) ≤ most → Leads k most) → Leads m (suc most)
        go (inl is) again = record { after = []; leads = eqb-true m d is; within = omega arith; falls = tt }
        go (inr is) again =
            let other : m ≢ d = λ q. true≢false (sym (eq-eqb m d q) ∙ is) in
            let x = hops rules w cores d m h other e in
            let q = height_of_hop m h r x in
            let less = fewer_below m h x q in
            let rest = again x.hop x.low (further r x.entry) q (omega (arith, le, less)) in
            let within = rest.within in
            record { after = x.hop ∷ rest.after; leads = (other, x.next, rest.leads); within = omega (arith, within); falls = (below m h e x q, rest.falls) }

    pub arrives_at_rest : (h : Quintuple) → height_at w n d ≡ Some (Some h) → Arrives w n d
    arrives_at_rest h e =
        let x = leads_down (length (nodes_in w.topology.links)) n h here e (under_most w d h (nodes_in w.topology.links)) in
        record { after = x.after; leads = x.leads; within = x.within; falls = x.falls; walk = walk_found w d (length (nodes_in w.topology.links)) n x.after x.leads x.within }
