-- If entries are exact, next hops lead down to the destination.
use Rattle.std.proofs.Common.{◌≡◌, ◌≢◌, ◌↔◌, ℕ, zero, suc, ◌+◌, ◌<◌, ◌≤◌, ◌||◌, Bool, true, false, true≢false, ◌⊎◌, inl, inr, List, [], ◌∷◌, length, Option, None, Some, nat_eq, if◌then◌else◌, refl, sym, ap, ◌∙◌, subst, eqb-true, eq-eqb, arith}
use Rattle.std.proofs.lemmas.Bool.{cases_Bool, false_from_ne_true}
use Rattle.std.specs.Prelude.{IfSome, IsSome, option_map, option_and_then}
use Rattle.std.specs.Ordering.{is_lt}
use Rattle.std.specs.declared.cmp.Ordering.{Ordering}
use Rattle.std.specs.declared.cmp.Ordering.TheVariants.{Less, Equal, Greater}
use Rattle.tora_height.specs.Height.{Quintuple}
use Rattle.tora_height.specs.HeightOrder.{IsLower, height_cmp}
use Rattle.tora_core.specs.Numbers.{has_number}
use Rattle.tora_core.specs.View.{View, has_downstream, next_hop_of}
use Rattle.tora_core.specs.CoreRun.{entry_in, hop_of, entry_of}
use Rattle.tora_core.specs.Kept.{IsKept}
use Rattle.tora_world.specs.Topology.{nodes_in, is_node}
use Rattle.tora_world.specs.World.{World}
use Rattle.tora_world.specs.Layers.{RuleLaws}
use Rattle.tora_world.specs.Walks.{height_at, hop_at, entry_at, IsExact, LeadsOn, IsWalk, walk_within, walk_of, FallsFrom, Arrives}
use Rattle.tora_world.proofs.Entries.{IsCoreOf, view_in, has_view, has_hop, entry_found}
use Rattle.tora_world.proofs.ExactEntries.{itself}

-- ---- walks of at most a number of hops

pub walk_found : (w : World) (d hops n : ℕ) (after : List ℕ) → LeadsOn w d n after → length after ≤ hops → walk_within hops w n d ≡ Some (n ∷ after)
walk_found w d zero n [] is le = ap (λ b. if b then Some (n ∷ []) else None) (eq-eqb n d is)
walk_found w d zero n (k ∷ after) is le = absurd (omega arith)
walk_found w d (suc hops) n [] is le = ap (λ b. if b then Some (n ∷ []) else elim (hop_at w n d) [ None ↦ None | Some k ↦ option_map (λ nodes. n ∷ nodes) (walk_within hops w k d) ]) (eq-eqb n d is)
walk_found w d (suc hops) n (k ∷ after) is le =
    ap (λ b. if b then Some (n ∷ []) else elim (hop_at w n d) [ None ↦ None | Some j ↦ option_map (λ nodes. n ∷ nodes) (walk_within hops w j d) ]) (false_from_ne_true (nat_eq n d) (λ e. is.0 (eqb-true n d e)))
    ∙ ap (λ (o : Option ℕ). elim o [ None ↦ None | Some j ↦ option_map (λ nodes. n ∷ nodes) (walk_within hops w j d) ]) is.1
    ∙ ap (option_map (λ nodes. n ∷ nodes)) (walk_found w d hops k after is.2 (omega arith))

-- a walk from n, and how many hops it has
record IsShortWalk (w : World) (n d hops : ℕ) (nodes : List ℕ) : Type 0 where
  walk : IsWalk w n d nodes
  short : length nodes ≤ suc hops

end_walk : (w : World) (n d hops : ℕ) (nodes : List ℕ) → n ≡ d → Some (n ∷ []) ≡ Some nodes → IsShortWalk w n d hops nodes
end_walk w n d hops [] is e = absurd cc
end_walk w n d hops (m ∷ []) is e = let same : n ≡ m = cc in record { walk = (sym same, is); short = omega arith }
end_walk w n d hops (m ∷ k ∷ nodes) is e = absurd cc

walk_is : (w : World) (d hops n : ℕ) (nodes : List ℕ) → walk_within hops w n d ≡ Some nodes → IsShortWalk w n d hops nodes
walk_is w d zero n nodes e = go (nat_eq n d) refl e
  where
    go : (b : Bool) → nat_eq n d ≡ b → (if b then Some (n ∷ []) else None) ≡ Some nodes → IsShortWalk w n d 0 nodes
    go true is f = end_walk w n d 0 nodes (eqb-true n d is) f
    go false is f = absurd cc
walk_is w d (suc hops) n nodes e = go (nat_eq n d) (hop_at w n d) refl refl e (λ k rest f. walk_is w d hops k rest f)
  where
    longer : (k : ℕ) (rest : List ℕ) → n ≢ d → hop_at w n d ≡ Some k → IsShortWalk w k d hops rest → n ∷ rest ≡ nodes → IsShortWalk w n d (suc hops) nodes
    longer k [] other hop r f = absurd (r.walk)
    longer k (m ∷ after) other hop r f =
        let same : m ≡ k = r.walk.0 in
        subst (IsShortWalk w n d (suc hops)) f
        (record { walk = (refl, (other, hop ∙ ap Some (sym same), subst (λ x. LeadsOn w d x after) (sym same) r.walk.1)); short = let s = r.short in omega arith })

    on : (k : ℕ) → n ≢ d → hop_at w n d ≡ Some k → (o : Option (List ℕ)) → walk_within hops w k d ≡ o → option_map (λ xs. n ∷ xs) o ≡ Some nodes → ((rest : List ℕ) → walk_within hops w k d ≡ Some rest → IsShortWalk w k d hops rest) → IsShortWalk w n d (suc hops) nodes
    on k other hop None is f again = absurd cc
    on k other hop (Some rest) is f again = longer k rest other hop (again rest is) (let q : n ∷ rest ≡ nodes = cc in q)

    go : (b : Bool) (o : Option ℕ) → nat_eq n d ≡ b → hop_at w n d ≡ o → (if b then Some (n ∷ []) else elim o [ None ↦ None | Some k ↦ option_map (λ xs. n ∷ xs) (walk_within hops w k d) ]) ≡ Some nodes →
        ((k : ℕ) (rest : List ℕ) → walk_within hops w k d ≡ Some rest → IsShortWalk w k d hops rest) → IsShortWalk w n d (suc hops) nodes
    go true o is hop f again = end_walk w n d (suc hops) nodes (eqb-true n d is) f
    go false None is hop f again = absurd cc
    go false (Some k) is hop f again = on k (λ e. true≢false (sym (eq-eqb n d e) ∙ is)) hop (walk_within hops w k d) refl f (again k)

walk_is_found : (w : World) (d hops n : ℕ) (nodes : List ℕ) → IsWalk w n d nodes → length nodes ≤ suc hops → walk_within hops w n d ≡ Some nodes
walk_is_found w d hops n [] is le = absurd is
walk_is_found w d hops n (m ∷ after) is le =
    walk_found w d hops n after is.1 (omega arith) ∙ ap (λ x. Some (x ∷ after)) (sym is.0)

-- the walk of a node has at most as many hops as there are nodes
pub walks_computed : (w : World) (n d : ℕ) (nodes : List ℕ) → (walk_of w n d ≡ Some nodes) ↔ (IsWalk w n d nodes × (length nodes ≤ suc (length (nodes_in w.topology.links))))
walks_computed w n d nodes = (
  (λ e. let x = walk_is w d (length (nodes_in w.topology.links)) n nodes e in (x.walk, x.short)),
  (λ x. walk_is_found w d (length (nodes_in w.topology.links)) n nodes x.0 x.1),
)

-- ---- how many nodes are lower than a height

abbrev pub one_where : Bool → ℕ
one_where true = 1
one_where false = 0

abbrev pub is_under : Quintuple → Option (Option Quintuple) → Bool
is_under h None = false
is_under h (Some None) = false
is_under h (Some (Some g)) = is_lt (height_cmp g h)

-- how many of these nodes have a lower height
abbrev pub under : World → ℕ → Quintuple → List ℕ → ℕ
under w d h [] = 0
under w d h (n ∷ nodes) = one_where (is_under h (height_at w n d)) + under w d h nodes

one_most : (b : Bool) → one_where b ≤ 1
one_most true = omega arith
one_most false = omega arith

pub under_most : (w : World) (d : ℕ) (h : Quintuple) (nodes : List ℕ) → under w d h nodes ≤ length nodes
under_most w d h [] = omega arith
under_most w d h (n ∷ nodes) = let a = one_most (is_under h (height_at w n d)) in let b = under_most w d h nodes in omega arith

one_weaker : (a b : Bool) → (a ≡ true → b ≡ true) → one_where a ≤ one_where b
one_weaker true b f = let e = f refl in subst (λ x. 1 ≤ one_where x) (sym e) (omega arith)
one_weaker false b f = omega arith

-- the next hop of a node that has a height, with its entry
pub record Hops (w : World) (d n : ℕ) (h : Quintuple) : Type 0 where
  pub hop : ℕ
  pub low : Quintuple
  pub next : hop_at w n d ≡ Some hop
  pub entry : entry_at w n hop d ≡ Some (Some low)
  pub order : IsLower low h

module _ (rules : RuleLaws) where
  less_is : (o : Ordering) → is_lt o ≡ true → o ≡ Less
  less_is Less e = refl
  less_is Equal e = absurd cc
  less_is Greater e = absurd cc

  -- a height below the lower of two heights is below the higher one
  under_both : (low high : Quintuple) → IsLower low high → (o : Option (Option Quintuple)) → is_under low o ≡ true → is_under high o ≡ true
  under_both low high l None e = absurd cc
  under_both low high l (Some None) e = absurd cc
  under_both low high l (Some (Some g)) e = ap is_lt (rules.order.trans g low high (less_is (height_cmp g low) e) ((rules.lower low high).1 l))

  module _ (w : World) (d : ℕ) (low high : Quintuple) (l : IsLower low high) where
    fewer : (nodes : List ℕ) → under w d low nodes ≤ under w d high nodes
    fewer [] = omega arith
    fewer (n ∷ nodes) = let a = one_weaker (is_under low (height_at w n d)) (is_under high (height_at w n d)) (under_both low high l (height_at w n d)) in let b = fewer nodes in omega arith

    -- the node of the lower height is below the higher one and not below itself, so the count is smaller
    pub one_less : (k : ℕ) → height_at w k d ≡ Some (Some low) → (nodes : List ℕ) → has_number k nodes ≡ true → under w d low nodes < under w d high nodes
    one_less k is [] there = absurd cc
    one_less k is (n ∷ nodes) there = go (nat_eq n k) refl there (one_less k is nodes)
      where
        go : (b : Bool) → nat_eq n k ≡ b → (b || has_number k nodes) ≡ true → (has_number k nodes ≡ true → under w d low nodes < under w d high nodes) →
            one_where (is_under low (height_at w n d)) + under w d low nodes < one_where (is_under high (height_at w n d)) + under w d high nodes
        go true e t again =
            let same : height_at w n d ≡ Some (Some low) = ap (λ x. height_at w x d) (eqb-true n k e) ∙ is in
            let none : one_where (is_under low (height_at w n d)) ≡ 0 = ap (λ o. one_where (is_under low o)) same ∙ ap (λ o. one_where (is_lt o)) (itself rules low) in
            let one : one_where (is_under high (height_at w n d)) ≡ 1 = ap (λ o. one_where (is_under high o)) same ∙ ap (λ o. one_where (is_lt o)) ((rules.lower low high).1 l) in
            let rest = fewer nodes in
            omega arith
        go false e t again =
            let a = one_weaker (is_under low (height_at w n d)) (is_under high (height_at w n d)) (under_both low high l (height_at w n d)) in
            let b = again t in
            omega arith

  -- ---- one hop

  module _ (w : World) (cores : (n : ℕ) → is_node w.topology n ≡ true → IsCoreOf w.topology n (w.seats n).core) (d : ℕ) where
    pub hops : (n : ℕ) (h : Quintuple) → n ≢ d → height_at w n d ≡ Some (Some h) → Hops w d n h
    hops n h other e =
        let has = has_view w n d h e in
        let c = cores n has.node in
        let v : View = has.view in
        let view = view_in (w.seats n).core d v c.kept has.found in
        let kept : IsKept v = view.view.kept in
        let away : v.me ≢ v.destination = λ q. other (sym (view.view.owner ∙ c.me) ∙ q ∙ view.destination) in
        let down : has_downstream v ≡ true = kept.lower away (subst IsSome (sym has.height) refl) in
        let hop = has_hop rules v kept down in
        record {
          hop = hop.hop;
          low = hop.entry;
          next = ap (λ b. if b then hop_of (w.seats n).core d else None) has.node ∙ ap (option_and_then next_hop_of) has.found ∙ hop.next;
          entry = ap (λ b. if b then entry_of (w.seats n).core d hop.hop else None) has.node ∙ ap (option_and_then (entry_in hop.hop)) has.found ∙ entry_found v hop.hop hop.entry kept.ascending hop.known;
          order = subst (λ (o : Option Quintuple). IfSome o (IsLower hop.entry)) has.height hop.lower;
        }

  module _ (w : World) (cores : (n : ℕ) → is_node w.topology n ≡ true → IsCoreOf w.topology n (w.seats n).core) (d : ℕ) (exact : IsExact w d) where
    -- the entry of the next hop is its height
    lower : (n : ℕ) (h : Quintuple) (x : Hops w d n h) → height_at w x.hop d ≡ Some (Some x.low)
    lower n h x = exact n x.hop x.low x.entry

    -- the nodes after n, with at most this many hops
    record GoesDown (n most : ℕ) : Type 0 where
      after : List ℕ
      leads : LeadsOn w d n after
      within : length after ≤ most
      falls : FallsFrom w d n after

    node_there : (k : ℕ) (h : Quintuple) → height_at w k d ≡ Some (Some h) → has_number k (nodes_in w.topology.links) ≡ true
    node_there k h e = (has_view w k d h e).node

    goes_down : (most n : ℕ) (h : Quintuple) → height_at w n d ≡ Some (Some h) → under w d h (nodes_in w.topology.links) ≤ most → GoesDown n most
    goes_down zero n h e le = go (cases_Bool (nat_eq n d))
      where
        go : (nat_eq n d ≡ true) ⊎ (nat_eq n d ≡ false) → GoesDown n 0
        go (inl is) = record { after = []; leads = eqb-true n d is; within = omega arith; falls = tt }
        go (inr is) =
            let x = hops w cores d n h (λ q. true≢false (sym (eq-eqb n d q) ∙ is)) e in
            let less = one_less w d x.low h x.order x.hop (lower n h x) (nodes_in w.topology.links) (node_there x.hop x.low (lower n h x)) in
            absurd (omega arith)
    goes_down (suc most) n h e le = go (cases_Bool (nat_eq n d)) (goes_down most)
      where
        go : (nat_eq n d ≡ true) ⊎ (nat_eq n d ≡ false) → ((k : ℕ) (g : Quintuple) → height_at w k d ≡ Some (Some g) → under w d g (nodes_in w.topology.links) ≤ most → GoesDown k most) → GoesDown n (suc most)
        go (inl is) again = record { after = []; leads = eqb-true n d is; within = omega arith; falls = tt }
        go (inr is) again =
            let other : n ≢ d = λ q. true≢false (sym (eq-eqb n d q) ∙ is) in
            let x = hops w cores d n h other e in
            let less = one_less w d x.low h x.order x.hop (lower n h x) (nodes_in w.topology.links) (node_there x.hop x.low (lower n h x)) in
            let rest = again x.hop x.low (lower n h x) (omega arith) in
            let within = rest.within in
            record {
              after = x.hop ∷ rest.after;
              leads = (other, x.next, rest.leads);
              within = omega arith;
              falls = (record { low = x.low; high = h; lower = (lower n h x); upper = e; order = x.order }, rest.falls);
            }

    pub arrives : (n : ℕ) (h : Quintuple) → height_at w n d ≡ Some (Some h) → Arrives w n d
    arrives n h e =
        let x = goes_down (length (nodes_in w.topology.links)) n h e (under_most w d h (nodes_in w.topology.links)) in
        record { after = x.after; leads = x.leads; within = x.within; falls = x.falls; walk = walk_found w d (length (nodes_in w.topology.links)) n x.after x.leads x.within }
