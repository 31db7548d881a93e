-- The next hop is the downstream neighbour with the lowest entry.
use Rattle.std.proofs.Common.{◌≡◌, inl, inr, refl, ℕ, Bool, true, false, ap, sym, subst, ◌∙◌, List, [], ◌∷◌, Option, Some, None}
use Rattle.std.specs.Prelude.{IfSome, fold, filter, option_map, if◌then◌else◌}
use Rattle.std.specs.List.{AllByRecursion, cons_option}
use Rattle.std.proofs.lemmas.Bool.{cond_both}
use Rattle.std.specs.Ordering.{is_lt}
use Rattle.tora_height.specs.Height.{Quintuple, IsHeightOf}
use Rattle.tora_height.specs.HeightOrder.{IsLower, height_cmp}
use Rattle.tora_core.specs.declared.rows.Row.{Row}
use Rattle.tora_core.specs.View.{View, heights_of, is_downstream, downstream_rows, lower_row_of, next_hop_of, lower_of, least_height}
use Rattle.tora_core.specs.Kept.{IsRow, IsKept}
use Rattle.tora_core.specs.Reacts.{IsEntry, IsNextHop}
use Rattle.tora_core.proofs.ReactsWords.{IsAmong, all-among, all-from_among, among-Contains, Contains-among, entry-among, IsNotBelow, least-below_none, not-lower, height-same, down-lower, lower-down}

-- the row has an entry
abbrev HasEntry : Row → Type 0
HasEntry row = (h : Quintuple) × (row.entry ≡ Some h)

abbrev pub is_down : View → Row → Bool
is_down v row = is_downstream v.height row.entry

pub among-filter : (test : Row → Bool) (rows : List Row) (row : Row) → IsAmong row (filter test rows) → IsAmong row rows × (test row ≡ true)
among-filter test [] row i = absurd i
among-filter test (r ∷ rows) row i =
    cond_both (test r) (r ∷ filter test rows) (filter test rows) (λ (xs : List Row). IsAmong row xs → IsAmong row (r ∷ rows) × (test row ≡ true))
    (λ t j. first t (λ x. among-filter test rows row x) j) (λ _ j. later (among-filter test rows row j)) i
  where
    later : IsAmong row rows × (test row ≡ true) → IsAmong row (r ∷ rows) × (test row ≡ true)
    later x = (inr x.0, x.1)

    first : test r ≡ true → (IsAmong row (filter test rows) → IsAmong row rows × (test row ≡ true)) → IsAmong row (r ∷ filter test rows) → IsAmong row (r ∷ rows) × (test row ≡ true)
    first t rest (inl e) = (inl e, ap test (sym e) ∙ t)
    first t rest (inr j) = later (rest j)

pub filter-among : (test : Row → Bool) (rows : List Row) (row : Row) → IsAmong row rows → test row ≡ true → IsAmong row (filter test rows)
filter-among test [] row i t = absurd i
filter-among test (r ∷ rows) row i t =
    cond_both (test r) (r ∷ filter test rows) (filter test rows) (IsAmong row) (λ _. first i (λ j. filter-among test rows row j t)) (λ f. second f i (λ j. filter-among test rows row j t))
  where
    first : IsAmong row (r ∷ rows) → (IsAmong row rows → IsAmong row (filter test rows)) → IsAmong row (r ∷ filter test rows)
    first (inl e) rest = inl e
    first (inr j) rest = inr (rest j)

    second : test r ≡ false → IsAmong row (r ∷ rows) → (IsAmong row rows → IsAmong row (filter test rows)) → IsAmong row (filter test rows)
    second f (inl e) rest = let x = ap test e in absurd cc
    second f (inr j) rest = rest j

-- this row has the least entry, and is one of the rows
record IsLowestRow (a : Quintuple) (best : Row) (rows : List Row) (m : Row) : Type 0 where
  low : Quintuple
  entry : m.entry ≡ Some low
  least : fold lower_of (Some a) (heights_of rows) ≡ Some low
  among : IsAmong m (best ∷ rows)

lowest-from : (a : Quintuple) (best : Row) (rows : List Row) (m : Row) → best.entry ≡ Some a → AllByRecursion HasEntry rows → fold lower_row_of (Some best) rows ≡ Some m → IsLowestRow a best rows m
lowest-from a best [] m is all e =
    let same : best ≡ m = cc in
    record { low = a; entry = subst (λ (r : Row). r.entry ≡ Some a) same is; least = refl; among = inl same }
lowest-from a best (row ∷ rows) m is all e =
    let h : Quintuple = all.0.0 in
    let has : row.entry ≡ Some h = all.0.1 in
    let test : is_downstream best.entry row.entry ≡ is_lt (height_cmp h a) =
    subst (λ (o : Option Quintuple). is_downstream o row.entry ≡ is_lt (height_cmp h a)) (sym is) (subst (λ (o : Option Quintuple). is_downstream (Some a) o ≡ is_lt (height_cmp h a)) (sym has) refl) in
    let whole : fold lower_of (Some a) (heights_of (row ∷ rows)) ≡ fold lower_of (if is_lt (height_cmp h a) then Some h else Some a) (heights_of rows) =
    subst (λ (o : Option Quintuple). fold lower_of (Some a) (cons_option o (heights_of rows)) ≡ fold lower_of (if is_lt (height_cmp h a) then Some h else Some a) (heights_of rows)) (sym has) refl in
    let P : Option Row → Type 0 = λ o. fold lower_row_of o rows ≡ Some m → IsLowestRow a best (row ∷ rows) m in
    cond_both (is_downstream best.entry row.entry) (Some row) (Some best) P
    (λ t f.
    let r = lowest-from h row rows m has all.1 f in
    record { low = r.low; entry = r.entry; least = whole ∙ taken (is_lt (height_cmp h a)) (Some h) (Some a) (heights_of rows) (sym test ∙ t) ∙ r.least; among = inr r.among })
    (λ t f.
    let r = lowest-from a best rows m is all.1 f in
    record { low = r.low; entry = r.entry; least = whole ∙ left (is_lt (height_cmp h a)) (Some h) (Some a) (heights_of rows) (sym test ∙ t) ∙ r.least; among = skip r.among })
    e
  where
    taken : (b : Bool) (x y : Option Quintuple) (hs : List Quintuple) → b ≡ true → fold lower_of (if b then x else y) hs ≡ fold lower_of x hs
    taken true x y hs f = refl
    taken false x y hs f = absurd cc

    left : (b : Bool) (x y : Option Quintuple) (hs : List Quintuple) → b ≡ false → fold lower_of (if b then x else y) hs ≡ fold lower_of y hs
    left true x y hs f = absurd cc
    left false x y hs f = refl

    skip : IsAmong m (best ∷ rows) → IsAmong m (best ∷ row ∷ rows)
    skip (inl x) = inl x
    skip (inr x) = inr (inr x)

record IsLowest (rows : List Row) (m : Row) : Type 0 where
  low : Quintuple
  entry : m.entry ≡ Some low
  least : least_height (heights_of rows) ≡ Some low
  among : IsAmong m rows

lowest : (rows : List Row) (m : Row) → AllByRecursion HasEntry rows → fold lower_row_of None rows ≡ Some m → IsLowest rows m
lowest [] m all e = absurd cc
lowest (row ∷ rows) m all e =
    let h : Quintuple = all.0.0 in
    let has : row.entry ≡ Some h = all.0.1 in
    let r = lowest-from h row rows m has all.1 e in
    record {
      low = r.low;
      entry = r.entry;
      least = subst (λ (o : Option Quintuple). fold lower_of None (cons_option o (heights_of rows)) ≡ Some r.low) (sym has) r.least;
      among = r.among;
    }

lowest-some : (best : Row) (rows : List Row) → fold lower_row_of (Some best) rows ≡ None → ⊥
lowest-some best [] e = cc
lowest-some best (row ∷ rows) e =
    let P : Option Row → Type 0 = λ o. fold lower_row_of o rows ≡ None → ⊥ in
    cond_both (is_downstream best.entry row.entry) (Some row) (Some best) P (λ _ f. lowest-some row rows f) (λ _ f. lowest-some best rows f) e

pub lowest-none : (rows : List Row) (row : Row) → fold lower_row_of None rows ≡ None → IsAmong row rows → ⊥
lowest-none [] row e i = i
lowest-none (r ∷ rows) row e i = lowest-some r rows e

down-entries : (v : View) → AllByRecursion HasEntry (downstream_rows v)
down-entries v = all-from_among HasEntry (downstream_rows v) (λ row i. let d = down-lower v.height row.entry (among-filter (is_down v) v.rows row i).1 in (d.0, d.1))

-- the row of the next hop
hop-row : (v : View) (m : Row) → fold lower_row_of None (downstream_rows v) ≡ Some m → IsNextHop v m.neighbour
hop-row v m e =
    let rows = downstream_rows v in
    let r = lowest rows m (down-entries v) e in
    let f = among-filter (is_down v) v.rows m r.among in
    let d = down-lower v.height m.entry f.1 in
    let same : d.0 ≡ r.low = let x = d.1 in let y = r.entry in cc in
    record {
      entry = r.low;
      known = (m, Contains-among v.rows m f.0, refl, r.entry);
      downstream = subst (λ (h : Quintuple). IfSome v.height (IsLower h)) same d.2;
      lowest = λ j h i l.
          let row : Row = i.0 in
          let is : row.entry ≡ Some h = i.3 in
          let down : is_down v row ≡ true = subst (λ (o : Option Quintuple). is_downstream v.height o ≡ true) (sym is) (lower-down v.height h l) in
          let among = entry-among rows row h (filter-among (is_down v) v.rows row (among-Contains v.rows row i.1) down) is in
          not-lower h r.low (all-among (IsNotBelow r.low) (heights_of rows) h (least-below_none (heights_of rows) r.low r.least) among);
    }

pub hop-is : (v : View) (k : ℕ) → next_hop_of v ≡ Some k → IsNextHop v k
hop-is v k e = at (fold lower_row_of None (downstream_rows v)) refl e
  where
    at : (o : Option Row) → fold lower_row_of None (downstream_rows v) ≡ o → option_map (λ row. row.neighbour) o ≡ Some k → IsNextHop v k
    at None is f = absurd cc
    at (Some m) is f = let same : m.neighbour ≡ k = cc in subst (IsNextHop v) same (hop-row v m is)

-- the entry of a neighbour has the neighbour's number
entry-id : (v : View) (k : ℕ) (h : Quintuple) → IsKept v → IsEntry v k h → h.id ≡ k
entry-id v k h kept i =
    let row : Row = i.0 in
    let r = all-among (IsRow v.me v.destination) v.rows row kept.rows (among-Contains v.rows row i.1) in
    of row.neighbour v.destination row.entry i.3 r.entry ∙ i.2
  where
    of : (n d : ℕ) (o : Option Quintuple) → o ≡ Some h → IfSome o (IsHeightOf n d) → h.id ≡ n
    of n d None e is = absurd cc
    of n d (Some g) e is = let same : g ≡ h = cc in subst (λ (x : Quintuple). x.id ≡ n) same is.id

-- there is at most one next hop, since no two neighbours have the same entry
hop-one : (v : View) (j k : ℕ) → IsKept v → IsNextHop v j → IsNextHop v k → j ≡ k
hop-one v j k kept x y =
    let same = height-same x.entry y.entry (y.lowest j x.entry x.known x.downstream) (x.lowest k y.entry y.known y.downstream) in
    sym (entry-id v j x.entry kept x.known) ∙ ap (λ (h : Quintuple). h.id) same ∙ entry-id v k y.entry kept y.known

pub is-hop : (v : View) (k : ℕ) → IsKept v → IsNextHop v k → next_hop_of v ≡ Some k
is-hop v k kept hop = at (fold lower_row_of None (downstream_rows v)) refl
  where
    at : (o : Option Row) → fold lower_row_of None (downstream_rows v) ≡ o → option_map (λ row. row.neighbour) o ≡ Some k
    at None e =
        let i = hop.known in
        let row : Row = i.0 in
        let is : row.entry ≡ Some hop.entry = i.3 in
        let down : is_down v row ≡ true = subst (λ (o : Option Quintuple). is_downstream v.height o ≡ true) (sym is) (lower-down v.height hop.entry hop.downstream) in
        absurd (lowest-none (downstream_rows v) row e (filter-among (is_down v) v.rows row (among-Contains v.rows row i.1) down))
    at (Some m) e = ap Some (hop-one v m.neighbour k kept (hop-row v m e) hop)
