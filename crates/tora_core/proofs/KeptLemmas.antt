-- Every input keeps the invariants of a view.
use Rattle.std.proofs.Common.{◌≡◌, ◌≢◌, refl, ℕ, ◌<◌, ◌≤◌, ◌^◌, Bool, true, false, not, ◌&&◌, ◌||◌, ℤ, pos, ◌+ℤ◌, ◌-ℤ◌, ◌<ℤ◌, arith, ap, sym, subst, ◌∙◌, List, [], ◌∷◌, map, Option, Some, None, is_some, is_none, nat_lt, ◌==◌}
use Rattle.std.specs.Prelude.{IfSome, IsSome, filter, if◌then◌else◌}
use Rattle.std.specs.List.{AllByRecursion, list_any, list_all, cons_option}
use Rattle.std.proofs.lemmas.Bool.{cond_both}
use Rattle.std.proofs.lemmas.Bool.Decides.{nat_tests}
use Rattle.std.proofs.lemmas.Int.{ints}
use Rattle.std.specs.Ordering.{is_lt, is_eq}
use Rattle.tora_height.specs.declared.level.Level.{Level}
use Rattle.tora_height.specs.declared.height_error.HeightError.{HeightError}
use Rattle.tora_height.specs.Height.{Quintuple, quintuple, destination_height, level_of, IsLevel, IsHeight, IsHeightOf, height_fault}
use Rattle.tora_height.specs.HeightOrder.{level_cmp}
use Rattle.tora_height.proofs.Ranges.{no_fault_is_height}
use Rattle.tora_packet.specs.declared.Packet.{Packet}
use Rattle.tora_packet.specs.declared.Packet.TheVariants.{Qry, Upd, Clr}
use Rattle.tora_packet.specs.PacketParts.{IsId, IsClear, clear_of}
use Rattle.tora_core.specs.declared.erasure.Erasure.{Erasure}
use Rattle.tora_core.specs.declared.erasure.Erasure.TheVariants.{Plain, Remembered}
use Rattle.tora_core.specs.declared.rows.Row.{Row}
use Rattle.tora_core.specs.declared.Input.{Input}
use Rattle.tora_core.specs.declared.Input.TheVariants as In
use Rattle.tora_core.specs.View.{View, first_view_of, heights_of, are_null, untold_row, with_row, withdrawn_row, without_entry, without_row, row_with_entry, with_entry, told_row, all_told, is_told, erased_row, is_entry_at, cleared_row, is_downstream, has_downstream, lacks_downstream, is_at, least_height, greatest_level, least_delta}
use Rattle.tora_core.specs.Heights.{time_after_all, fresh_time, fitted_by}
use Rattle.tora_core.specs.Rules.{Outcome, silent, query_broadcast, update_broadcast_of, update_broadcast, joined_above, after_join, new_level_at, new_level, after_erase, after_link_loss, below_delta, propagated_level, reflected_level, after_update_loss_at, after_update_loss, on_need, link_row, on_link_up, on_link_down, on_query, on_update, on_outdated, on_taken_update, on_clear, on_heard_clear, on_packet, cleared_level, erased_after, hearing_clear, is_outdated, rows_behind_clear, outcome_at_destination, outcome_elsewhere, outcome_of}
use Rattle.tora_core.specs.Kept.{IsRow, AreAscending, IsKept, IsKeptOutcome, IsPacketOf, MayCome}
use Rattle.tora_core.proofs.Order.{lt-tau, lt-level, lt-delta, level-below}
use Rattle.tora_core.proofs.Fitted.{reflected-in_range}
use Rattle.tora_core.proofs.RowLemmas.{all-weaker, all-map, all-filter, all-with_row, ascending-map, ascending-filter, ascending-with_row, heights_of-told, all-heights_of, down-heights_of, least_height-any, least_height-all, greatest-all, greatest-reached, time-first}

-- the invariants that a change of the own height cannot break, at a node that is not the destination
pub record IsBase (v : View) : Type 0 where
  pub me : IsId v.me
  pub destination : IsId v.destination
  pub elsewhere : v.me ≢ v.destination
  pub rows : AllByRecursion (IsRow v.me v.destination) v.rows
  pub ascending : AreAscending v.rows
  pub last : v.last ≤ 2 ^ 62

base : (v : View) → IsKept v → v.me ≢ v.destination → IsBase v
base v k e = record { me = k.me; destination = k.destination; elsewhere = e; rows = k.rows; ascending = k.ascending; last = k.last }

make-kept : (v : View) → IsBase v → IfSome v.height (IsHeightOf v.me v.destination) → (v.flag ≡ true → (v.height ≡ None) × (heights_of v.rows ≡ [])) → (IsSome v.height → has_downstream v ≡ true) → IsKept v
make-kept v b height flag lower =
    record {
      me = b.me;
      destination = b.destination;
      rows = b.rows;
      ascending = b.ascending;
      height = height;
      at_destination = λ (e : v.me ≡ v.destination). absurd (b.elsewhere e);
      last = b.last;
      flag = flag;
      lower = λ _. lower;
    }

null-kept : (v : View) → IsBase v → v.flag ≡ false → IsKept (record v { height = None })
null-kept v b f = make-kept (record v { height = None }) (record { me = b.me; destination = b.destination; elsewhere = b.elsewhere; rows = b.rows; ascending = b.ascending; last = b.last }) tt (λ (e : v.flag ≡ true). absurd cc) (λ (e : false ≡ true). absurd cc)

silent-sound : (v : View) → IsKept v → IsKeptOutcome (silent v)
silent-sound v k = record { view = k; broadcast = tt }

null-sound : (v : View) → IsBase v → v.flag ≡ false → IsKeptOutcome (silent (record v { height = None }))
null-sound v b f = silent-sound (record v { height = None }) (null-kept v b f)

told-is_row : (me destination : ℕ) (row : Row) → IsRow me destination row → IsRow me destination (told_row row)
told-is_row me destination row r = record { other = r.other; entry = r.entry; zero = r.zero; at_destination = r.at_destination }

told-base : (v : View) → IsBase v → IsBase (record v { rows = all_told v.rows })
told-base v b =
    record {
      me = b.me;
      destination = b.destination;
      elsewhere = b.elsewhere;
      last = b.last;
      rows = all-map (IsRow v.me v.destination) (IsRow v.me v.destination) told_row (told-is_row v.me v.destination) v.rows b.rows;
      ascending = ascending-map told_row (λ row. refl) v.rows b.ascending;
    }

-- a height that was broadcast
update_broadcast-kept : (v : View) (q : Quintuple) → IsBase v → v.flag ≡ false → IsHeightOf v.me v.destination q → list_any (λ h. is_downstream (Some q) (Some h)) (heights_of v.rows) ≡ true → IsKeptOutcome (update_broadcast (record v { height = Some q }))
update_broadcast-kept v q b f h low =
    let t = told-base v b in
    record {
      view = make-kept (record v { height = Some q; rows = all_told v.rows })
          (record { me = t.me; destination = t.destination; elsewhere = t.elsewhere; rows = t.rows; ascending = t.ascending; last = t.last })
          h (λ (e : v.flag ≡ true). absurd cc)
          (λ _. down-heights_of (Some q) (all_told v.rows) ∙ ap (list_any (λ h. is_downstream (Some q) (Some h))) (heights_of-told v.rows) ∙ low);
      broadcast = (b.elsewhere, refl);
    }

fitted-kept : (v : View) (q : Quintuple) → IsBase v → v.flag ≡ false → (height_fault q ≡ None → IsHeightOf v.me v.destination q) → list_any (λ h. is_downstream (Some q) (Some h)) (heights_of v.rows) ≡ true
    → (o : Option HeightError) → height_fault q ≡ o → IsKeptOutcome (update_broadcast (record v { height = fitted_by q o }))
fitted-kept v q b f h low None e = update_broadcast-kept v q b f (h e) low
fitted-kept v q b f h low (Some _) e = null-sound v b f

-- ---- the heights of the neighbours

in-range : (k d : ℕ) (o : Option Quintuple) → IfSome o (IsHeightOf k d) → IfSome o IsHeight
in-range k d None h = tt
in-range k d (Some q) h = h.ranges

all-in_range : (me destination : ℕ) (rows : List Row) → AllByRecursion (IsRow me destination) rows → AllByRecursion IsHeight (heights_of rows)
all-in_range me destination rows all =
    all-heights_of IsHeight rows (all-weaker (IsRow me destination) (λ (row : Row). IfSome row.entry IsHeight) (λ (row : Row) (r : IsRow me destination row). in-range row.neighbour destination row.entry r.entry) rows all)

-- ---- join

same-base : (v w : View) → w.me ≡ v.me → w.destination ≡ v.destination → w.rows ≡ v.rows → w.last ≡ v.last → IsBase v → IsBase w
same-base v w n d r l b =
    record {
      me = rw n b.me;
      destination = rw d b.destination;
      elsewhere = λ (e : w.me ≡ w.destination). b.elsewhere (cc);
      rows = rw (n, d, r) b.rows;
      ascending = rw r b.ascending;
      last = omega (arith, b.last);
    }

join-at : (v : View) → IsBase v → (o : Option Quintuple) → least_height (heights_of v.rows) ≡ o → IsKeptOutcome (update_broadcast (record v { height = joined_above v.me o; flag = false }))
join-at v b None e = null-sound (record v { flag = false }) (same-base v (record v { flag = false }) refl refl refl refl b) refl
join-at v b (Some low) e =
    let q = quintuple low.tau low.oid low.r (low.delta +ℤ pos 1) v.me in
    let w = record v { flag = false } in
    let ok : IsHeight low = least_height-all IsHeight (heights_of v.rows) low (all-in_range v.me v.destination v.rows b.rows) e in
    let same : is_eq (level_cmp (level_of low) (level_of q)) ≡ true = grind (arith, nat_tests) in
    let up : low.delta <ℤ (low.delta +ℤ pos 1) = omega (arith, ints) in
    fitted-kept w q (same-base v w refl refl refl refl b) refl
    (λ (none : height_fault q ≡ None).
    record {
      ranges = no_fault_is_height q ok.level.oid b.me.1 none;
      id = refl;
      zero = λ (z : v.me ≡ v.destination). absurd (b.elsewhere z);
      above = λ _ (t : low.tau ≡ 0) (r : low.r ≡ 0). let low_delta = ok.zero_level t r in omega (arith, ints);
    })
    (least_height-any (λ h. is_downstream (Some q) (Some h)) (heights_of v.rows) low e (lt-delta low q same up))
    (height_fault q) refl

after_join-kept : (v : View) → IsBase v → IsKeptOutcome (after_join v)
unfolding after_join
after_join-kept v b = join-at v b (least_height (heights_of v.rows)) refl

-- ---- a level that the node defines

or_left : (a b : Bool) → a ≡ true → (a || b) ≡ true
or_left true b h = refl
or_left false b h = absurd cc

define-at : (v : View) (now : ℕ) → IsBase v → v.flag ≡ false → (h : Quintuple) (hs : List Quintuple) → heights_of v.rows ≡ h ∷ hs → (t : ℕ) → t ≡ fresh_time v now → (o : Option HeightError) → height_fault (quintuple t v.me 0 (pos 0) v.me) ≡ o
    → IsKeptOutcome (new_level_at v t (fitted_by (quintuple t v.me 0 (pos 0) v.me) o))
define-at v now b f h hs s t te (Some _) e = null-sound v b f
define-at v now b f h hs s t te None e =
    let q = quintuple t v.me 0 (pos 0) v.me in
    let ok : IsHeight q = no_fault_is_height q b.me.1 b.me.1 e in
    let w = record v { last = t } in
    let wb : IsBase w = record { me = b.me; destination = b.destination; elsewhere = b.elsewhere; rows = b.rows; ascending = b.ascending; last = ok.level.tau } in
    let later : h.tau < t = let g : h.tau < time_after_all (heights_of v.rows) = rw s (time-first h hs) in omega arith in
    let down : list_any (λ h. is_downstream (Some q) (Some h)) (heights_of v.rows) ≡ true =
    rw s (or_left (is_downstream (Some q) (Some h)) (list_any (λ h. is_downstream (Some q) (Some h)) hs) (lt-tau h q later)) in
    update_broadcast-kept w q wb f
    (record { ranges = ok; id = refl; zero = λ (z : v.me ≡ v.destination). absurd (b.elsewhere z); above = λ _ (z : t ≡ 0). absurd (omega arith) })
    down

new_level-kept : (v : View) (now : ℕ) → IsBase v → v.flag ≡ false → (h : Quintuple) (hs : List Quintuple) → heights_of v.rows ≡ h ∷ hs → IsKeptOutcome (new_level v now)
unfolding new_level
new_level-kept v now b f h hs s = define-at v now b f h hs s (fresh_time v now) refl (height_fault (quintuple (fresh_time v now) v.me 0 (pos 0) v.me)) refl

-- ---- erase

after_erase-is_row : (me destination : ℕ) (row : Row) → me ≢ destination → IsRow me destination row → IsRow me destination (erased_row destination row)
after_erase-is_row me destination row elsewhere r =
    cond_both (row.neighbour == destination) row (record row { entry = None }) (IsRow me destination) (λ _. r)
    (λ (e : (row.neighbour == destination) ≡ false).
    record { other = r.other; entry = tt; zero = λ _ (d : row.neighbour ≡ destination). absurd (grind (arith, nat_tests)); at_destination = λ _. refl })

after_erase-neighbour : (destination : ℕ) (row : Row) → (erased_row destination row).neighbour ≡ row.neighbour
after_erase-neighbour destination row = cond_both (row.neighbour == destination) row (record row { entry = None }) (λ (x : Row). x.neighbour ≡ row.neighbour) (λ _. refl) (λ _. refl)

after_erase-kept : (v : View) (tau oid : ℕ) → IsBase v → v.flag ≡ false → IsClear (clear_of v.destination tau oid) → IsKeptOutcome (after_erase v tau oid)
unfolding after_erase
after_erase-kept v tau oid b f level =
    let w = record v { rows = map (erased_row v.destination) v.rows; erased = erased_after v.erasure v.erased (cleared_level tau oid) } in
    record {
      view = null-kept w
          (record {
            me = b.me;
            destination = b.destination;
            elsewhere = b.elsewhere;
            last = b.last;
            rows = all-map (IsRow v.me v.destination) (IsRow v.me v.destination) (erased_row v.destination) (λ row r. after_erase-is_row v.me v.destination row b.elsewhere r) v.rows b.rows;
            ascending = ascending-map (erased_row v.destination) (after_erase-neighbour v.destination) v.rows b.ascending;
          }) f;
      broadcast = level;
    }

-- ---- the last downstream link is lost

first-heights_of : (rows : List Row) → are_null rows ≡ false → (h : Quintuple) × (hs : List Quintuple) × (heights_of rows ≡ h ∷ hs)
first-heights_of [] e = absurd cc
first-heights_of (row ∷ rows) e = at (first-heights_of rows) row.entry e
  where
    at : (are_null rows ≡ false → (h : Quintuple) × (hs : List Quintuple) × (heights_of rows ≡ h ∷ hs)) → (o : Option Quintuple) → (is_none o && are_null rows) ≡ false
        → (h : Quintuple) × (hs : List Quintuple) × (cons_option o (heights_of rows) ≡ h ∷ hs)
    at rest None f = rest f
    at rest (Some h) f = (h, heights_of rows, refl)

after_link_loss-kept : (v : View) (now : ℕ) → IsBase v → v.flag ≡ false → IsKeptOutcome (after_link_loss v now)
unfolding after_link_loss
after_link_loss-kept v now b f =
    cond_both (are_null v.rows) (silent (record v { height = None })) (new_level v now) (λ (o : Outcome). IsKeptOutcome o) (λ _. null-sound v b f)
    (λ some. let first = first-heights_of v.rows some in new_level-kept v now b f first.0 first.1 first.2)

-- if not all heights are at the greatest level, some height is at a lower one
abbrev NotBelow : Level → Quintuple → Type 0
NotBelow l h = is_lt (level_cmp l (level_of h)) ≡ false

or_right : (a b : Bool) → b ≡ true → (a || b) ≡ true
or_right true b h = refl
or_right false b h = h

some-lower : (l : Level) (q : Quintuple) (hs : List Quintuple) → level_of q ≡ l → AllByRecursion (NotBelow l) hs → list_all (is_at l) hs ≡ false → list_any (λ h. is_downstream (Some q) (Some h)) hs ≡ true
some-lower l q [] e all some = absurd cc
some-lower l q (h ∷ hs) e all some = at (λ (s : list_all (is_at l) hs ≡ false). some-lower l q hs e all.1 s) (is_at l h) refl some
  where
    at : (list_all (is_at l) hs ≡ false → list_any (λ h. is_downstream (Some q) (Some h)) hs ≡ true) → (b : Bool) → is_at l h ≡ b → (b && list_all (is_at l) hs) ≡ false → (is_downstream (Some q) (Some h) || list_any (λ h. is_downstream (Some q) (Some h)) hs) ≡ true
    at rest true is s = or_right (is_downstream (Some q) (Some h)) (list_any (λ h. is_downstream (Some q) (Some h)) hs) (rest s)
    at rest false is s =
        let P : Level → Type 0 = λ m. is_lt (level_cmp (level_of h) m) ≡ true in
        or_left (is_downstream (Some q) (Some h)) (list_any (λ h. is_downstream (Some q) (Some h)) hs)
        (lt-level h q (subst P (sym e) (level-below (level_of h) l all.0 is)))

-- no level is lower than the lowest one
all-at_lowest : (l : Level) (hs : List Quintuple) → l.tau ≡ 0 → l.oid ≡ 0 → l.r ≡ 0 → AllByRecursion (NotBelow l) hs → list_all (is_at l) hs ≡ true
all-at_lowest l [] t o r all = refl
all-at_lowest l (h ∷ hs) t o r all =
    let same : is_at l h ≡ true = let n = all.0 in grind (arith, nat_tests) in
    let rest = all-at_lowest l hs t o r all.1 in cc

first-of_all : (l : Level) (h : Quintuple) (hs : List Quintuple) → list_all (is_at l) (h ∷ hs) ≡ true → is_at l h ≡ true
first-of_all l h hs all = at (is_at l h) all
  where
    at : (b : Bool) → (b && list_all (is_at l) hs) ≡ true → b ≡ true
    at true e = refl
    at false e = e

not-false : (b : Bool) → not b ≡ false → b ≡ true
not-false true e = refl
not-false false e = absurd cc

not-true : (b : Bool) → not b ≡ true → b ≡ false
not-true true e = absurd cc
not-true false e = refl

update-lost : (v : View) (now : ℕ) → IsBase v → v.flag ≡ false → (hs : List Quintuple) → heights_of v.rows ≡ hs → (o : Option Level) → greatest_level hs ≡ o → IsKeptOutcome (after_update_loss_at v now o)
update-lost v now b f hs s None e = null-sound v b f
update-lost v now b f [] s (Some l) e = absurd cc
update-lost v now b f (h ∷ hs) s (Some l) e =
    let all : AllByRecursion IsHeight (h ∷ hs) = subst (AllByRecursion IsHeight) s (all-in_range v.me v.destination v.rows b.rows) in
    let top : AllByRecursion (NotBelow l) (h ∷ hs) = greatest-all (h ∷ hs) l e in
    let ok : IsLevel l = greatest-reached IsLevel (h ∷ hs) l (all-weaker IsHeight (λ (g : Quintuple). IsLevel (level_of g)) (λ (g : Quintuple) (is : IsHeight g). is.level) (h ∷ hs) all) e in
    let P : Outcome → Type 0 = λ o. IsKeptOutcome o in
    cond_both (not (list_all (is_at l) (heights_of v.rows))) (propagated_level v l)
    (if l.r == 0 then reflected_level v l else if l.oid == v.me then after_erase v l.tau l.oid else new_level v now) P
    (λ some. propagate all top ok (not-true (list_all (is_at l) (h ∷ hs)) (subst (λ (xs : List Quintuple). not (list_all (is_at l) xs) ≡ true) s some)) (least_delta l (heights_of v.rows)))
    (λ none.
    let each : list_all (is_at l) (h ∷ hs) ≡ true = not-false (list_all (is_at l) (h ∷ hs)) (subst (λ (xs : List Quintuple). not (list_all (is_at l) xs) ≡ false) s none) in
    cond_both (l.r == 0) (reflected_level v l) (if l.oid == v.me then after_erase v l.tau l.oid else new_level v now) P
    (λ zero. reflect ok each zero)
    (λ _. cond_both (l.oid == v.me) (after_erase v l.tau l.oid) (new_level v now) P (λ own. after_erase-kept v l.tau l.oid b f (own-level ok own)) (λ _. new_level-kept v now b f h hs s)))
  where
    own-level : IsLevel l → (l.oid == v.me) ≡ true → IsClear (clear_of v.destination l.tau l.oid)
    own-level ok own =
        let positive : 0 < l.oid = let n = b.me.0 in grind (arith, nat_tests) in
        let o = ok.zero_tau in
        let later : 0 < l.tau = grind (arith, nat_tests) in
        record { destination = b.destination; tau = (later, ok.tau); oid = (positive, ok.oid) }

    propagate : AllByRecursion IsHeight (h ∷ hs) → AllByRecursion (NotBelow l) (h ∷ hs) → IsLevel l → list_all (is_at l) (h ∷ hs) ≡ false → (o : Option ℤ) → IsKeptOutcome (update_broadcast (record v { height = below_delta v.me l o }))
    propagate all top ok some None = null-sound v b f
    propagate all top ok some (Some delta) =
        let q = quintuple l.tau l.oid l.r (delta -ℤ pos 1) v.me in
        fitted-kept v q b f
        (λ (none : height_fault q ≡ None).
        record {
          ranges = no_fault_is_height q ok.oid b.me.1 none;
          id = refl;
          zero = λ (z : v.me ≡ v.destination). absurd (b.elsewhere z);
          above = λ _ (t : l.tau ≡ 0) (r : l.r ≡ 0). let lowest = all-at_lowest l (h ∷ hs) t (ok.zero_tau t) r top in absurd cc;
        })
        (rw s (some-lower l q (h ∷ hs) refl top some)) (height_fault q) refl

    reflect : IsLevel l → list_all (is_at l) (h ∷ hs) ≡ true → (l.r == 0) ≡ true → IsKeptOutcome (reflected_level v l)
    reflect ok each zero =
        let q = quintuple l.tau l.oid 1 (pos 0) v.me in
        let at : is_at l h ≡ true = first-of_all l h hs each in
        let below : is_lt (level_cmp (level_of h) (level_of q)) ≡ true = grind (arith, nat_tests) in
        update_broadcast-kept v q b f
        (record {
          ranges = reflected-in_range l v.me ok b.me;
          id = refl;
          zero = λ (z : v.me ≡ v.destination). absurd (b.elsewhere z);
          above = λ _ _ (r : 1 ≡ 0). absurd (omega arith);
        })
        (rw s (or_left (is_downstream (Some q) (Some h)) (list_any (λ h. is_downstream (Some q) (Some h)) hs) (lt-level h q below)))

after_update_loss-kept : (v : View) (now : ℕ) → IsBase v → v.flag ≡ false → IsKeptOutcome (after_update_loss v now)
unfolding after_update_loss
after_update_loss-kept v now b f = update-lost v now b f (heights_of v.rows) refl (greatest_level (heights_of v.rows)) refl

-- ---- a view without a downstream neighbour

not-true-false : (b : Bool) → b ≡ true → b ≡ false → ⊥
not-true-false b t f = cc

some-or_none : (o : Option Quintuple) → (IsSome o → ⊥) → o ≡ None
some-or_none None h = refl
some-or_none (Some x) h = absurd (h refl)

none-heights_of : (hs : List Quintuple) → list_any (λ h. is_downstream None (Some h)) hs ≡ false → hs ≡ []
none-heights_of [] e = refl
none-heights_of (h ∷ hs) e = absurd cc

no-down-null : (v : View) → IsKept v → v.me ≢ v.destination → has_downstream v ≡ false → v.height ≡ None
no-down-null v k e down = some-or_none v.height (λ (s : IsSome v.height). not-true-false (has_downstream v) (k.lower e s) down)

no-down-heights_of : (v : View) → IsKept v → v.me ≢ v.destination → has_downstream v ≡ false → heights_of v.rows ≡ []
no-down-heights_of v k e down =
    let null : v.height ≡ None = no-down-null v k e down in
    none-heights_of (heights_of v.rows) (let P : Option Quintuple → Type 0 = λ o. list_any (λ h. is_downstream o (Some h)) (heights_of v.rows) ≡ false in subst P null (sym (down-heights_of v.height v.rows) ∙ down))

query_broadcast-kept : (v : View) → IsKept v → v.me ≢ v.destination → v.height ≡ None → heights_of v.rows ≡ [] → IsKeptOutcome (query_broadcast v)
query_broadcast-kept v k e null none =
    record { view = make-kept (record v { flag = true }) (same-base v (record v { flag = true }) refl refl refl refl (base v k e)) k.height (λ _. (null, none)) (k.lower e); broadcast = tt }

-- a view with no height and no entries has no downstream neighbour
heights_of-none : (own : Option Quintuple) (rows : List Row) → heights_of rows ≡ [] → list_any (λ row. is_downstream own row.entry) rows ≡ false
heights_of-none own rows e = down-heights_of own rows ∙ ap (list_any (λ h. is_downstream own (Some h))) e

none-entries : (rows : List Row) → are_null rows ≡ true → heights_of rows ≡ []
none-entries [] e = refl
none-entries (row ∷ rows) e = at (none-entries rows) row.entry e
  where
    at : (are_null rows ≡ true → heights_of rows ≡ []) → (o : Option Quintuple) → (is_none o && are_null rows) ≡ true → cons_option o (heights_of rows) ≡ []
    at rest None f = rest f
    at rest (Some h) f = absurd cc

flag-clear : (v : View) → IsKept v → IsSome v.height → v.flag ≡ false
flag-clear v k some = at v.flag refl
  where
    at : (b : Bool) → v.flag ≡ b → b ≡ false
    at true e = let null = (k.flag e).0 in let s : true ≡ false = cc in s
    at false e = refl

and-left : (a b : Bool) → (a && b) ≡ true → a ≡ true
and-left true b h = refl
and-left false b h = h

and-right : (a b : Bool) → (a && b) ≡ true → b ≡ true
and-right true b h = h
and-right false b h = absurd cc

not-stuck : (a b : Bool) → (a && not b) ≡ false → a ≡ true → b ≡ true
not-stuck true true h s = refl
not-stuck true false h s = absurd cc
not-stuck false b h s = absurd cc

-- the rows of a view changed: it still has a downstream neighbour, or the outcome is that of the loss of the last one
settled : (w : View) (o : Outcome) → IsBase w → IfSome w.height (IsHeightOf w.me w.destination) → (w.flag ≡ true → (w.height ≡ None) × (heights_of w.rows ≡ []))
    → (w.flag ≡ false → IsKeptOutcome o) → IsKeptOutcome (if lacks_downstream w then o else silent w)
settled w o b height flag lost =
    cond_both (lacks_downstream w) o (silent w) (λ (x : Outcome). IsKeptOutcome x)
    (λ stuck. lost (clear w.flag refl (and-left (is_some w.height) (not (has_downstream w)) stuck)))
    (λ free. silent-sound w (make-kept w b height flag (not-stuck (is_some w.height) (has_downstream w) free)))
  where
    clear : (f : Bool) → w.flag ≡ f → IsSome w.height → f ≡ false
    clear true e some = let null = (flag e).0 in let s : true ≡ false = cc in s
    clear false e some = refl

-- ---- links

heights_of-filter_none : (test : Row → Bool) (rows : List Row) → heights_of rows ≡ [] → heights_of (filter test rows) ≡ []
heights_of-filter_none test [] e = refl
heights_of-filter_none test (row ∷ rows) e = at (heights_of-filter_none test rows) row.entry refl e
  where
    at : (heights_of rows ≡ [] → heights_of (filter test rows) ≡ []) → (o : Option Quintuple) → row.entry ≡ o → cons_option o (heights_of rows) ≡ [] → heights_of (filter test (row ∷ rows)) ≡ []
    at rest None is f =
        cond_both (test row) (row ∷ filter test rows) (filter test rows) (λ (xs : List Row). heights_of xs ≡ [])
        (λ _. let P : Option Quintuple → Type 0 = λ o. cons_option o (heights_of (filter test rows)) ≡ [] in subst P (sym is) (rest f)) (λ _. rest f)
    at rest (Some h) is f = absurd cc

heights_of-with_none : (new : Row) (rows : List Row) → new.entry ≡ None → heights_of (with_row new rows) ≡ heights_of rows
heights_of-with_none new [] e = let P : Option Quintuple → Type 0 = λ o. cons_option o [] ≡ [] in subst P (sym e) refl
heights_of-with_none new (row ∷ rows) e =
    cond_both (nat_lt new.neighbour row.neighbour) (new ∷ row ∷ rows) (row ∷ with_row new rows) (λ (xs : List Row). heights_of xs ≡ heights_of (row ∷ rows))
    (λ _. let P : Option Quintuple → Type 0 = λ o. cons_option o (heights_of (row ∷ rows)) ≡ heights_of (row ∷ rows) in subst P (sym e) refl)
    (λ _. ap (cons_option row.entry) (heights_of-with_none new rows e))

any-with_row : (p : Row → Bool) (new : Row) (rows : List Row) → list_any p rows ≡ true → list_any p (with_row new rows) ≡ true
any-with_row p new [] h = absurd cc
any-with_row p new (row ∷ rows) h =
    cond_both (nat_lt new.neighbour row.neighbour) (new ∷ row ∷ rows) (row ∷ with_row new rows) (λ (xs : List Row). list_any p xs ≡ true)
    (λ _. or_right (p new) (list_any p (row ∷ rows)) h) (λ _. at (any-with_row p new rows) (p row) h)
  where
    at : (list_any p rows ≡ true → list_any p (with_row new rows) ≡ true) → (b : Bool) → (b || list_any p rows) ≡ true → (b || list_any p (with_row new rows)) ≡ true
    at rest true f = refl
    at rest false f = rest f

row-base : (v : View) (new : Row) → IsBase v → IsRow v.me v.destination new → AllByRecursion (λ (row : Row). row.neighbour ≢ new.neighbour) v.rows → IsBase (record v { rows = with_row new v.rows })
row-base v new b r apart =
    record {
      me = b.me;
      destination = b.destination;
      elsewhere = b.elsewhere;
      last = b.last;
      rows = all-with_row (IsRow v.me v.destination) new v.rows r b.rows;
      ascending = ascending-with_row new v.rows apart b.ascending;
    }

zero-ranges : (k : ℕ) → IsId k → IsHeight (destination_height k)
zero-ranges k h =
    record {
      level = record { tau = omega arith; oid = omega arith; r = omega arith; zero_tau = λ _. refl; zero_oid = λ _. refl };
      delta_low = omega (arith, ints);
      delta_high = omega (arith, ints);
      zero_level = λ _ _. omega (arith, ints);
      id = h.0;
      id_fits = h.1;
    }

link_up-kept : (v : View) (k : ℕ) → IsKept v → v.me ≢ v.destination → MayCome v (In.LinkUp k) → IsKeptOutcome (on_link_up v k)
link_up-kept v k kept e may =
    cond_both (k == v.destination)
    (let w = record v { rows = with_row (link_row k (Some (destination_height k))) v.rows } in if v.flag then after_join w else silent w)
    (let w = record v { rows = with_row (link_row k None) v.rows } in if v.flag then query_broadcast w else silent w)
    (λ (o : Outcome). IsKeptOutcome o) at_destination elsewhere
  where
    b : IsBase v
    b = base v kept e

    at_destination : (k == v.destination) ≡ true → IsKeptOutcome (if v.flag then after_join (record v { rows = with_row (link_row k (Some (destination_height k))) v.rows }) else silent (record v { rows = with_row (link_row k (Some (destination_height k))) v.rows }))
    at_destination is =
        let new = link_row k (Some (destination_height k)) in
        let w = record v { rows = with_row new v.rows } in
        let same : k ≡ v.destination = grind (arith, nat_tests) in
        let r : IsRow v.me v.destination new =
        record {
          other = may.1;
          entry = record { ranges = zero-ranges k may.0; id = refl; zero = λ (z : k ≡ v.destination). ap destination_height z; above = λ (z : k ≢ v.destination). absurd (z same) };
          zero = λ _ (z : k ≡ v.destination). ap (λ n. Some (destination_height n)) z;
          at_destination = λ (z : v.me ≡ v.destination). absurd (e z);
        } in
        let wb = row-base v new b r may.2 in
        cond_both v.flag (after_join w) (silent w) (λ (o : Outcome). IsKeptOutcome o) (λ _. after_join-kept w wb)
        (λ (f : v.flag ≡ false). silent-sound w (make-kept w wb kept.height (λ (t : v.flag ≡ true). absurd cc)
        (λ some. any-with_row (λ row. is_downstream v.height row.entry) new v.rows (kept.lower e some))))

    elsewhere : (k == v.destination) ≡ false → IsKeptOutcome (if v.flag then query_broadcast (record v { rows = with_row (link_row k None) v.rows }) else silent (record v { rows = with_row (link_row k None) v.rows }))
    elsewhere is =
        let new = link_row k None in
        let w = record v { rows = with_row new v.rows } in
        let apart : k ≢ v.destination = λ (z : k ≡ v.destination). grind (arith, nat_tests) in
        let r : IsRow v.me v.destination new =
        record { other = may.1; entry = tt; zero = λ _ (z : k ≡ v.destination). absurd (apart z); at_destination = λ _. refl } in
        let wb = row-base v new b r may.2 in
        let wk : IsKept w =
        make-kept w wb kept.height (λ (t : v.flag ≡ true). ((kept.flag t).0, heights_of-with_none new v.rows refl ∙ (kept.flag t).1))
        (λ some. any-with_row (λ row. is_downstream v.height row.entry) new v.rows (kept.lower e some)) in
        cond_both v.flag (query_broadcast w) (silent w) (λ (o : Outcome). IsKeptOutcome o)
        (λ t. query_broadcast-kept w wk e (kept.flag t).0 (heights_of-with_none new v.rows refl ∙ (kept.flag t).1)) (λ _. silent-sound w wk)

link_down-kept : (v : View) (k now : ℕ) → IsKept v → v.me ≢ v.destination → IsKeptOutcome (on_link_down v k now)
link_down-kept v k now kept e =
    let b = base v kept e in
    let test = λ (row : Row). not (row.neighbour == k) in
    let w = record v { rows = without_row k v.rows } in
    let wb : IsBase w = record {
      me = b.me;
      destination = b.destination;
      elsewhere = b.elsewhere;
      last = b.last;
      rows = all-filter (IsRow v.me v.destination) test v.rows b.rows;
      ascending = ascending-filter test v.rows b.ascending;
    } in
    settled w (after_link_loss w now) wb kept.height (λ (t : v.flag ≡ true). ((kept.flag t).0, heights_of-filter_none test v.rows (kept.flag t).1)) (λ f. after_link_loss-kept w now wb f)

-- ---- packets

need-kept : (v : View) → IsKept v → v.me ≢ v.destination → IsKeptOutcome (on_need v)
need-kept v kept e =
    cond_both (are_null v.rows && not v.flag) (query_broadcast v) (silent v) (λ (o : Outcome). IsKeptOutcome o)
    (λ t.
    let none : heights_of v.rows ≡ [] = none-entries v.rows (and-left (are_null v.rows) (not v.flag) t) in
    query_broadcast-kept v kept e (no-down-null v kept e (heights_of-none v.height v.rows none)) none)
    (λ _. silent-sound v kept)

told-kept : (v : View) → IsKept v → v.me ≢ v.destination → IsKeptOutcome (update_broadcast v)
told-kept v kept e = at v.height refl kept.height
  where
    at : (o : Option Quintuple) → v.height ≡ o → IfSome o (IsHeightOf v.me v.destination) → IsKeptOutcome (update_broadcast_of v o)
    at None is h = silent-sound v kept
    at (Some q) is h =
        record {
          view = make-kept (record v { rows = all_told v.rows }) (told-base v (base v kept e)) kept.height
              (λ (t : v.flag ≡ true). ((kept.flag t).0, heights_of-told v.rows ∙ (kept.flag t).1))
              (λ some. down-heights_of v.height (all_told v.rows) ∙ ap (list_any (λ h. is_downstream v.height (Some h))) (heights_of-told v.rows) ∙ sym (down-heights_of v.height v.rows) ∙ kept.lower e some);
          broadcast = (e, is);
        }

query-kept : (v : View) (k : ℕ) → IsKept v → v.me ≢ v.destination → IsKeptOutcome (on_query v k)
query-kept v k kept e =
    let P : Outcome → Type 0 = λ o. IsKeptOutcome o in
    cond_both (not (has_downstream v)) (if not v.flag then query_broadcast v else silent v) (if is_none v.height then after_join v else if not (is_told k v.rows) then update_broadcast v else silent v) P
    (λ t.
    let down = not-true (has_downstream v) t in
    cond_both (not v.flag) (query_broadcast v) (silent v) P (λ _. query_broadcast-kept v kept e (no-down-null v kept e down) (no-down-heights_of v kept e down)) (λ _. silent-sound v kept))
    (λ _.
    cond_both (is_none v.height) (after_join v) (if not (is_told k v.rows) then update_broadcast v else silent v) P (λ _. after_join-kept v (base v kept e))
    (λ _. cond_both (not (is_told k v.rows)) (update_broadcast v) (silent v) P (λ _. told-kept v kept e) (λ _. silent-sound v kept)))

row_with_entry-is_row : (me destination k : ℕ) (h : Quintuple) (row : Row) → me ≢ destination → IsHeightOf k destination h → k ≢ destination → IsRow me destination row → IsRow me destination (row_with_entry k h row)
row_with_entry-is_row me destination k h row e ok apart r =
    cond_both (row.neighbour == k) (record row { entry = Some h }) row (IsRow me destination)
    (λ (t : (row.neighbour == k) ≡ true).
    let same : k ≡ row.neighbour = grind (arith, nat_tests) in
    let P : ℕ → Type 0 = λ n. IsHeightOf n destination h in
    record { other = r.other; entry = subst P same ok; zero = λ _ (d : row.neighbour ≡ destination). absurd (apart (same ∙ d)); at_destination = λ (z : me ≡ destination). absurd (e z) })
    (λ _. r)

row_with_entry-neighbour : (k : ℕ) (h : Quintuple) (row : Row) → (row_with_entry k h row).neighbour ≡ row.neighbour
row_with_entry-neighbour k h row = cond_both (row.neighbour == k) (record row { entry = Some h }) row (λ (x : Row). x.neighbour ≡ row.neighbour) (λ _. refl) (λ _. refl)

-- ---- entries that are removed

withdrawn-is_row : (me destination k : ℕ) (row : Row) → me ≢ destination → IsRow me destination row → IsRow me destination (withdrawn_row destination k row)
withdrawn-is_row me destination k row e r =
    cond_both ((row.neighbour == k) && not (row.neighbour == destination)) (record row { entry = None }) row (IsRow me destination)
    (λ (t : ((row.neighbour == k) && not (row.neighbour == destination)) ≡ true).
    let apart : (row.neighbour == destination) ≡ false = not-true (row.neighbour == destination) (and-right (row.neighbour == k) (not (row.neighbour == destination)) t) in
    record { other = r.other; entry = tt; zero = λ _ (d : row.neighbour ≡ destination). absurd (grind (arith, nat_tests)); at_destination = λ _. refl })
    (λ _. r)

withdrawn-neighbour : (destination k : ℕ) (row : Row) → (withdrawn_row destination k row).neighbour ≡ row.neighbour
withdrawn-neighbour destination k row =
    cond_both ((row.neighbour == k) && not (row.neighbour == destination)) (record row { entry = None }) row (λ (x : Row). x.neighbour ≡ row.neighbour) (λ _. refl) (λ _. refl)

withdrawn-none : (destination k : ℕ) (row : Row) → row.entry ≡ None → (withdrawn_row destination k row).entry ≡ None
withdrawn-none destination k row e =
    cond_both ((row.neighbour == k) && not (row.neighbour == destination)) (record row { entry = None }) row (λ (x : Row). x.entry ≡ None) (λ _. refl) (λ _. e)

untold-is_row : (me destination k : ℕ) (row : Row) → IsRow me destination row → IsRow me destination (untold_row k row)
untold-is_row me destination k row r =
    cond_both (row.neighbour == k) (record row { told = false }) row (IsRow me destination) (λ _. record { other = r.other; entry = r.entry; zero = r.zero; at_destination = r.at_destination }) (λ _. r)

untold-neighbour : (k : ℕ) (row : Row) → (untold_row k row).neighbour ≡ row.neighbour
untold-neighbour k row = cond_both (row.neighbour == k) (record row { told = false }) row (λ (x : Row). x.neighbour ≡ row.neighbour) (λ _. refl) (λ _. refl)

untold-none : (k : ℕ) (row : Row) → row.entry ≡ None → (untold_row k row).entry ≡ None
untold-none k row e = cond_both (row.neighbour == k) (record row { told = false }) row (λ (x : Row). x.entry ≡ None) (λ _. e) (λ _. e)

-- if a change keeps NULL entries, no new heights appear
heights_of-map_none : (f : Row → Row) → ((row : Row) → row.entry ≡ None → (f row).entry ≡ None) → (rows : List Row) → heights_of rows ≡ [] → heights_of (map f rows) ≡ []
heights_of-map_none f keep [] e = refl
heights_of-map_none f keep (row ∷ rows) e = at (heights_of-map_none f keep rows) row.entry refl e
  where
    at : (heights_of rows ≡ [] → heights_of (map f rows) ≡ []) → (o : Option Quintuple) → row.entry ≡ o → cons_option o (heights_of rows) ≡ [] → heights_of (map f (row ∷ rows)) ≡ []
    at rest None is g = let P : Option Quintuple → Type 0 = λ o. cons_option o (heights_of (map f rows)) ≡ [] in subst P (sym (keep row is)) (rest g)
    at rest (Some h) is g = absurd cc

-- the rows are changed one by one
mapped-base : (v : View) (f : Row → Row) → IsBase v → ((row : Row) → IsRow v.me v.destination row → IsRow v.me v.destination (f row)) → ((row : Row) → (f row).neighbour ≡ row.neighbour)
    → IsBase (record v { rows = map f v.rows })
mapped-base v f b keep same =
    record {
      me = b.me;
      destination = b.destination;
      elsewhere = b.elsewhere;
      last = b.last;
      rows = all-map (IsRow v.me v.destination) (IsRow v.me v.destination) f keep v.rows b.rows;
      ascending = ascending-map f same v.rows b.ascending;
    }

withdrawn-base : (v : View) (k : ℕ) → IsBase v → IsBase (record v { rows = without_entry v.destination k v.rows })
withdrawn-base v k b = mapped-base v (withdrawn_row v.destination k) b (λ row r. withdrawn-is_row v.me v.destination k row b.elsewhere r) (withdrawn-neighbour v.destination k)

outdated-kept : (v : View) (k now : ℕ) → IsKept v → v.me ≢ v.destination → IsKeptOutcome (on_outdated v k now)
outdated-kept v k now kept e =
    let w = record v { rows = without_entry v.destination k v.rows } in
    let wb : IsBase w = withdrawn-base v k (base v kept e) in
    settled w (after_link_loss w now) wb kept.height
    (λ (t : v.flag ≡ true). ((kept.flag t).0, heights_of-map_none (withdrawn_row v.destination k) (withdrawn-none v.destination k) v.rows (kept.flag t).1)) (λ f. after_link_loss-kept w now wb f)

taken_update-kept : (v : View) (k : ℕ) (h : Quintuple) (now : ℕ) → IsKept v → v.me ≢ v.destination → IsHeightOf k v.destination h → k ≢ v.destination → IsKeptOutcome (on_taken_update v k h now)
taken_update-kept v k h now kept e ok apart =
    let b = base v kept e in
    let w = record v { rows = with_entry k h v.rows } in
    let wb : IsBase w = record {
      me = b.me;
      destination = b.destination;
      elsewhere = b.elsewhere;
      last = b.last;
      rows = all-map (IsRow v.me v.destination) (IsRow v.me v.destination) (row_with_entry k h) (λ (row : Row) (r : IsRow v.me v.destination row). row_with_entry-is_row v.me v.destination k h row e ok apart r) v.rows b.rows;
      ascending = ascending-map (row_with_entry k h) (row_with_entry-neighbour k h) v.rows b.ascending;
    } in
    cond_both v.flag (after_join w) (if lacks_downstream w then after_update_loss w now else silent w) (λ (o : Outcome). IsKeptOutcome o) (λ _. after_join-kept w wb)
    (λ (f : v.flag ≡ false). settled w (after_update_loss w now) wb kept.height (λ (t : v.flag ≡ true). absurd cc) (λ g. after_update_loss-kept w now wb g))

update-kept : (v : View) (k : ℕ) (h : Quintuple) (now : ℕ) → IsKept v → v.me ≢ v.destination → IsHeightOf k v.destination h → k ≢ v.destination → IsKeptOutcome (on_update v k h now)
update-kept v k h now kept e ok apart =
    cond_both (is_outdated v h) (on_outdated v k now) (on_taken_update v k h now) (λ (o : Outcome). IsKeptOutcome o) (λ _. outdated-kept v k now kept e) (λ _. taken_update-kept v k h now kept e ok apart)

cleared-is_row : (me destination : ℕ) (l : Level) (row : Row) → me ≢ destination → IsRow me destination row → IsRow me destination (cleared_row destination l row)
cleared-is_row me destination l row e r =
    cond_both (not (row.neighbour == destination) && is_entry_at l row.entry) (record row { entry = None }) row (IsRow me destination)
    (λ (t : (not (row.neighbour == destination) && is_entry_at l row.entry) ≡ true).
    let apart : (row.neighbour == destination) ≡ false = not-true (row.neighbour == destination) (and-left (not (row.neighbour == destination)) (is_entry_at l row.entry) t) in
    record { other = r.other; entry = tt; zero = λ _ (d : row.neighbour ≡ destination). absurd (grind (arith, nat_tests)); at_destination = λ _. refl })
    (λ _. r)

cleared-neighbour : (destination : ℕ) (l : Level) (row : Row) → (cleared_row destination l row).neighbour ≡ row.neighbour
cleared-neighbour destination l row =
    cond_both (not (row.neighbour == destination) && is_entry_at l row.entry) (record row { entry = None }) row (λ (x : Row). x.neighbour ≡ row.neighbour) (λ _. refl) (λ _. refl)

cleared-none : (destination : ℕ) (l : Level) (row : Row) → row.entry ≡ None → (cleared_row destination l row).entry ≡ None
cleared-none destination l row e =
    cond_both (not (row.neighbour == destination) && is_entry_at l row.entry) (record row { entry = None }) row (λ (x : Row). x.entry ≡ None) (λ _. refl) (λ _. e)

at-some : (l : Level) (o : Option Quintuple) → is_entry_at l o ≡ true → IsSome o
at-some l None e = absurd cc
at-some l (Some h) e = refl

-- the invariant of the flag, for a view that may have lost entries
abbrev IsQuiet : View → Type 0
IsQuiet v = v.flag ≡ true → (v.height ≡ None) × (heights_of v.rows ≡ [])

quiet-clear : (v : View) → IsQuiet v → IsSome v.height → v.flag ≡ false
quiet-clear v quiet some = at v.flag refl
  where
    at : (b : Bool) → v.flag ≡ b → b ≡ false
    at true e = let null = (quiet e).0 in let s : true ≡ false = cc in s
    at false e = refl

heard_clear-kept : (v : View) (l : Level) (now : ℕ) → IsBase v → IfSome v.height (IsHeightOf v.me v.destination) → IsQuiet v → IsClear (clear_of v.destination l.tau l.oid) → IsKeptOutcome (on_heard_clear v l now)
heard_clear-kept v l now b height quiet level =
    let w = record v { rows = map (cleared_row v.destination l) v.rows } in
    let wb : IsBase w = mapped-base v (cleared_row v.destination l) b (λ row r. cleared-is_row v.me v.destination l row b.elsewhere r) (cleared-neighbour v.destination l) in
    cond_both (is_entry_at l v.height) (after_erase v l.tau l.oid) (if lacks_downstream w then after_link_loss w now else silent w) (λ (o : Outcome). IsKeptOutcome o)
    (λ t. after_erase-kept v l.tau l.oid b (quiet-clear v quiet (at-some l v.height t)) level)
    (λ _. settled w (after_link_loss w now) wb height (λ (t : v.flag ≡ true). ((quiet t).0, heights_of-map_none (cleared_row v.destination l) (cleared-none v.destination l) v.rows (quiet t).1)) (λ f. after_link_loss-kept w now wb f))

-- the rows after a clear from a neighbour
behind_clear-rows : (x : Erasure) (v : View) (k : ℕ) → IsBase v → AllByRecursion (IsRow v.me v.destination) (rows_behind_clear x v.destination k v.rows) × AreAscending (rows_behind_clear x v.destination k v.rows)
behind_clear-rows Plain v k b = (b.rows, b.ascending)
behind_clear-rows Remembered v k b =
    let w = withdrawn-base v k b in
    let u = mapped-base (record v { rows = without_entry v.destination k v.rows }) (untold_row k) w (λ row r. untold-is_row v.me v.destination k row r) (untold-neighbour k) in
    (u.rows, u.ascending)

behind_clear-none : (x : Erasure) (destination k : ℕ) (rows : List Row) → heights_of rows ≡ [] → heights_of (rows_behind_clear x destination k rows) ≡ []
behind_clear-none Plain destination k rows e = e
behind_clear-none Remembered destination k rows e =
    heights_of-map_none (untold_row k) (untold-none k) (without_entry destination k rows) (heights_of-map_none (withdrawn_row destination k) (withdrawn-none destination k) rows e)

clear-kept : (v : View) (k : ℕ) (l : Level) (now : ℕ) → IsKept v → v.me ≢ v.destination → IsClear (clear_of v.destination l.tau l.oid) → IsKeptOutcome (on_clear v k l now)
clear-kept v k l now kept e level =
    let b = base v kept e in
    let rows = behind_clear-rows v.erasure v k b in
    heard_clear-kept (hearing_clear v k l) l now (record { me = b.me; destination = b.destination; elsewhere = b.elsewhere; last = b.last; rows = rows.0; ascending = rows.1 }) kept.height
    (λ (t : v.flag ≡ true). ((kept.flag t).0, behind_clear-none v.erasure v.destination k v.rows (kept.flag t).1)) level

packet-kept : (v : View) (k : ℕ) (p : Packet) (now : ℕ) → IsKept v → v.me ≢ v.destination → IsPacketOf k v.destination p → IsKeptOutcome (on_packet v k p now)
packet-kept v k (Qry d) now kept e may = query-kept v k kept e
packet-kept v k (Upd t) now kept e may = update-kept v k t.height now kept e may.0 may.1
packet-kept v k (Clr c) now kept e may = clear-kept v k (cleared_level c.tau c.oid) now kept e (record { destination = kept.destination; tau = may.tau; oid = may.oid })

elsewhere-kept : (v : View) (input : Input) (now : ℕ) → IsKept v → v.me ≢ v.destination → MayCome v input → IsKeptOutcome (outcome_elsewhere v input now)
elsewhere-kept v (In.Need d) now kept e may = need-kept v kept e
elsewhere-kept v (In.LinkUp k) now kept e may = link_up-kept v k kept e may
elsewhere-kept v (In.LinkDown k) now kept e may = link_down-kept v k now kept e
elsewhere-kept v (In.Packet k p) now kept e may = packet-kept v k p now kept e may

destination-kept : (v : View) (input : Input) → IsKept v → v.me ≡ v.destination → MayCome v input → IsKeptOutcome (outcome_at_destination v input)
destination-kept v (In.Need d) kept e may = silent-sound v kept
destination-kept v (In.Packet k p) kept e may = silent-sound v kept
destination-kept v (In.LinkUp k) kept e may =
    let new = link_row k None in
    silent-sound (record v { rows = with_row new v.rows }) (record {
      me = kept.me;
      destination = kept.destination;
      height = kept.height;
      at_destination = kept.at_destination;
      last = kept.last;
      rows = all-with_row (IsRow v.me v.destination) new v.rows (record { other = may.1; entry = tt; zero = λ (z : v.me ≢ v.destination). absurd (z e); at_destination = λ _. refl }) kept.rows;
      ascending = ascending-with_row new v.rows may.2 kept.ascending;
      flag = λ (t : v.flag ≡ true). ((kept.flag t).0, heights_of-with_none new v.rows refl ∙ (kept.flag t).1);
      lower = λ (z : v.me ≢ v.destination). absurd (z e);
    })
destination-kept v (In.LinkDown k) kept e may =
    let test = λ (row : Row). not (row.neighbour == k) in
    silent-sound (record v { rows = without_row k v.rows }) (record {
      me = kept.me;
      destination = kept.destination;
      height = kept.height;
      at_destination = kept.at_destination;
      last = kept.last;
      rows = all-filter (IsRow v.me v.destination) test v.rows kept.rows;
      ascending = ascending-filter test v.rows kept.ascending;
      flag = λ (t : v.flag ≡ true). ((kept.flag t).0, heights_of-filter_none test v.rows (kept.flag t).1);
      lower = λ (z : v.me ≢ v.destination). absurd (z e);
    })

-- every input that may come keeps the invariants
pub outcome_of-kept : (v : View) (input : Input) (now : ℕ) → IsKept v → MayCome v input → IsKeptOutcome (outcome_of v input now)
outcome_of-kept v input now kept may =
    cond_both (v.me == v.destination) (outcome_at_destination v input) (outcome_elsewhere v input now) (λ (o : Outcome). IsKeptOutcome o)
    (λ (t : (v.me == v.destination) ≡ true). destination-kept v input kept (grind (arith, nat_tests)) may)
    (λ (f : (v.me == v.destination) ≡ false). elsewhere-kept v input now kept (λ (z : v.me ≡ v.destination). grind (arith, nat_tests)) may)

pub first-kept : (e : Erasure) (me destination : ℕ) → IsId me → IsId destination → IsKept (first_view_of e me destination)
first-kept e me destination n d =
    record {
      me = n;
      destination = d;
      rows = tt;
      ascending = tt;
      last = omega arith;
      height = cond_both (me == destination) (Some (destination_height destination)) None (λ (o : Option Quintuple). IfSome o (IsHeightOf me destination))
          (λ (t : (me == destination) ≡ true).
          let same : me ≡ destination = grind (arith, nat_tests) in
          record { ranges = zero-ranges destination d; id = sym same; zero = λ _. refl; above = λ (z : me ≢ destination). absurd (z same) })
          (λ _. tt);
      at_destination = λ (z : me ≡ destination).
          cond_both (me == destination) (Some (destination_height destination)) None (λ (o : Option Quintuple). o ≡ Some (destination_height destination)) (λ _. refl)
          (λ (f : (me == destination) ≡ false). absurd (grind (arith, nat_tests)));
      flag = λ (f : false ≡ true). absurd cc;
      lower = λ (z : me ≢ destination).
          cond_both (me == destination) (Some (destination_height destination)) None (λ (o : Option Quintuple). IsSome o → false ≡ true)
          (λ (t : (me == destination) ≡ true). absurd (grind (arith, nat_tests))) (λ _ some. some);
    }
