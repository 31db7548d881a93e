-- The view of a destination at the core of a node in a run: its entries and its next hop.
use Rattle.std.proofs.Common.{◌≡◌, ℕ, ◌<◌, ◌==◌, ◌||◌, Bool, true, false, inl, inr, List, [], ◌∷◌, Option, None, Some, is_some, if◌then◌else◌, refl, sym, ap, ◌∙◌, subst, arith, eq-eqb, eqb-true}
use Rattle.std.specs.Prelude.{IfSome, cond, find, option_map}
use Rattle.std.specs.List.{AllByRecursion}
use Rattle.std.proofs.lemmas.Bool.{cond_both}
use Rattle.std.proofs.lemmas.Bool.Decides.{nat_tests}
use Rattle.tora_height.specs.Height.{Quintuple}
use Rattle.tora_height.specs.HeightOrder.{IsLower}
use Rattle.tora_packet.specs.PacketParts.{IsId}
use Rattle.tora_core.specs.declared.Input.{Input}
use Rattle.tora_core.specs.declared.rows.Row.{Row}
use Rattle.tora_core.specs.Numbers.{has_number}
use Rattle.tora_core.specs.View.{View, neighbours_of as numbers_of, has_downstream, next_hop_of}
use Rattle.tora_core.specs.CoreRun.{CoreView, is_of, refusal_of, core_taking, core_after, core_after_all, view_of, entry_in}
use Rattle.tora_core.specs.Kept.{AreAscending, IsKept, IsViewOf, IsCore}
use Rattle.tora_core.specs.Reacts.{IsEntry}
use Rattle.tora_core.proofs.ReactsWords.{IsAmong, all-among, among-Contains}
use Rattle.tora_world.specs.Topology.{Topology, neighbours_of, is_node, new_core}
use Rattle.tora_world.specs.World.{World}
use Rattle.tora_world.specs.Layers.{CoreLaws, RuleLaws}
use Rattle.tora_world.specs.Walks.{height_at}
use Rattle.tora_world.proofs.KeptCores.{IsRunOf, IsKeeping, kept_core}

-- ---- a core of a run

-- the core of this node keeps its invariants
pub record IsCoreOf (t : Topology) (n : ℕ) (c : CoreView) : Type 0 where
  pub kept : IsCore c
  pub me : c.me ≡ n
  pub near : (k : ℕ) → has_number k c.neighbours ≡ has_number k (neighbours_of t n)

me_stays : (c : CoreView) (inputs : List (Input × ℕ)) → (core_after_all c inputs).me ≡ c.me
me_stays c [] = refl
me_stays c ((input, now) ∷ inputs) = me_stays (core_after c input now) inputs ∙ cond_both (is_some (refusal_of c input)) c (core_taking c input now) (λ (x : CoreView). x.me ≡ c.me) (λ _. refl) (λ _. refl)

near_stays : CoreLaws → (c : CoreView) (inputs : List (Input × ℕ)) → (core_after_all c inputs).neighbours ≡ c.neighbours
near_stays cores c [] = refl
near_stays cores c ((input, now) ∷ inputs) = near_stays cores (core_after c input now) inputs ∙ cores.neighbours c input now

pub core_of_run : CoreLaws → (t : Topology) → IsKeeping t → (n : ℕ) → IsId n → (c : CoreView) → IsRunOf t n c → IsCoreOf t n c
core_of_run cores t keeping n id c r = record {
  kept = kept_core t n c (keeping.laws n id) r;
  me = ap (λ (x : CoreView). x.me) r.made ∙ me_stays (new_core t n) r.inputs;
  near = λ k. ap (λ (x : CoreView). has_number k x.neighbours) r.made ∙ ap (has_number k) (near_stays cores (new_core t n) r.inputs) ∙ cores.members k (neighbours_of t n);
}

-- ---- rows

-- the row of a neighbour is found by its number
found_row : (rows : List Row) (row : Row) → AreAscending rows → IsAmong row rows → find (λ (r : Row). r.neighbour == row.neighbour) rows ≡ Some row
found_row [] row up i = absurd i
found_row (r ∷ rows) row up (inl e) =
    ap (λ b. cond b (Some r) (find (λ (x : Row). x.neighbour == row.neighbour) rows)) (eq-eqb r.neighbour row.neighbour (ap (λ (x : Row). x.neighbour) e)) ∙ ap Some e
found_row (r ∷ rows) row up (inr i) =
    let less : r.neighbour < row.neighbour = all-among (λ (other : Row). r.neighbour < other.neighbour) rows row up.0 i in
    let other : (r.neighbour == row.neighbour) ≡ false = grind (arith, nat_tests, less) in
    ap (λ b. cond b (Some r) (find (λ (x : Row). x.neighbour == row.neighbour) rows)) other ∙ found_row rows row up.1 i

pub entry_found : (v : View) (k : ℕ) (h : Quintuple) → AreAscending v.rows → IsEntry v k h → entry_in k v ≡ Some (Some h)
entry_found v k h up i =
    let row : Row = i.0 in
    let found : find (λ (r : Row). r.neighbour == row.neighbour) v.rows ≡ Some row = found_row v.rows row up (among-Contains v.rows row i.1) in
    ap (λ m. option_map (λ (r : Row). r.entry) (find (λ (r : Row). r.neighbour == m) v.rows)) (sym i.2) ∙ ap (option_map (λ (r : Row). r.entry)) found ∙ ap Some i.3

-- a neighbour that has a row has its link up
pub row_number : (k : ℕ) (rows : List Row) (x : Option Quintuple) → option_map (λ (r : Row). r.entry) (find (λ (r : Row). r.neighbour == k) rows) ≡ Some x → has_number k (numbers_of rows) ≡ true
row_number k [] x e = absurd cc
row_number k (r ∷ rows) x e = go (r.neighbour == k) (λ f. row_number k rows x f) e
  where
    go : (b : Bool) → (option_map (λ (r : Row). r.entry) (find (λ (r : Row). r.neighbour == k) rows) ≡ Some x → has_number k (numbers_of rows) ≡ true) →
        option_map (λ (r : Row). r.entry) (cond b (Some r) (find (λ (r : Row). r.neighbour == k) rows)) ≡ Some x → (b || has_number k (numbers_of rows)) ≡ true
    go true rest f = refl
    go false rest f = rest f

-- ---- the view of a destination

pub record IsViewIn (c : CoreView) (d : ℕ) (v : View) : Type 0 where
  pub view : IsViewOf c.me c.up v
  pub destination : v.destination ≡ d

found_view : (c : CoreView) (d : ℕ) (views : List View) → AllByRecursion (IsViewOf c.me c.up) views → (v : View) → find (is_of d) views ≡ Some v → IsViewIn c d v
found_view c d [] all v e = absurd cc
found_view c d (x ∷ views) all v e = go (is_of d x) refl (λ f. found_view c d views all.1 v f) e
  where
    go : (b : Bool) → is_of d x ≡ b → (find (is_of d) views ≡ Some v → IsViewIn c d v) → cond b (Some x) (find (is_of d) views) ≡ Some v → IsViewIn c d v
    go true is rest f = let same : x ≡ v = cc in subst (IsViewIn c d) same (record { view = all.0; destination = eqb-true x.destination d is })
    go false is rest f = rest f

pub view_in : (c : CoreView) (d : ℕ) (v : View) → IsCore c → view_of c d ≡ Some v → IsViewIn c d v
view_in c d v core e = found_view c d c.views core.views v e

-- a node that has a height for a destination, and its view
pub record HasView (w : World) (n d : ℕ) (h : Quintuple) : Type 0 where
  pub node : is_node w.topology n ≡ true
  pub view : View
  pub found : view_of (w.seats n).core d ≡ Some view
  pub height : view.height ≡ Some h

pub has_view : (w : World) (n d : ℕ) (h : Quintuple) → height_at w n d ≡ Some (Some h) → HasView w n d h
has_view w n d h e = go (is_node w.topology n) (view_of (w.seats n).core d) refl refl e
  where
    go : (b : Bool) (o : Option View) → is_node w.topology n ≡ b → view_of (w.seats n).core d ≡ o → (if b then option_map (λ (v : View). v.height) o else None) ≡ Some (Some h) → HasView w n d h
    go true None is found f = absurd cc
    go true (Some v) is found f = record { node = is; view = v; found = found; height = let q : v.height ≡ Some h = cc in q }
    go false o is found f = absurd cc

-- ---- the next hop

-- the next hop and its entry
pub record HasHop (v : View) : Type 0 where
  pub hop : ℕ
  pub entry : Quintuple
  pub next : next_hop_of v ≡ Some hop
  pub known : IsEntry v hop entry
  pub lower : IfSome v.height (IsLower entry)

pub has_hop : RuleLaws → (v : View) → IsKept v → has_downstream v ≡ true → HasHop v
has_hop rules v kept down = go (next_hop_of v) refl
  where
    go : (o : Option ℕ) → next_hop_of v ≡ o → HasHop v
    go None e = let some = (rules.downstream v).0 down in absurd ((rules.no_hop v).0 e some.0 some.1)
    go (Some k) e = let x = (rules.next_hop v k kept).0 e in record { hop = k; entry = x.entry; next = e; known = x.known; lower = x.downstream }
