-- The terms of the relation, computed: known heights, the least and the greatest of them, fresh times, downstream
-- neighbours.
use Rattle.std.proofs.Common.{◌≡◌, ◌≢◌, ◌⊎◌, inl, inr, refl, ℕ, ◌+◌, ◌<◌, ◌≤◌, ◌^◌, max, Bool, true, false, not, ◌&&◌, ◌||◌, arith, ap, sym, subst, ◌∙◌, List, [], ◌∷◌, ◌==◌, Option, Some, None, is_some, is_none, ℤ, ◌≤ℤ◌}
use Rattle.std.specs.Prelude.{IfSome, IsSome, fold, Contains, int_lt, if◌then◌else◌}
use Rattle.std.specs.List.{AllByRecursion, list_any, list_all, cons_option}
use Rattle.std.proofs.lemmas.Bool.{cond_both}
use Rattle.std.proofs.lemmas.Bool.Decides.{nat_tests}
use Rattle.std.proofs.lemmas.Int.{ints}
use Rattle.std.proofs.lemmas.List.Elements.{All-from_recursion, All-contains, All-head, All-contains_itself, Contains-append_right}
use Rattle.std.proofs.lemmas.Cmp.{upto, tied_itself}
use Rattle.std.specs.Ordering.{is_lt, is_eq, is_gt, ordering_reverse}
use Rattle.std.specs.declared.cmp.Ordering.{Ordering}
use Rattle.std.specs.declared.cmp.Ordering.TheVariants.{Less, Equal, Greater}
use Rattle.tora_height.specs.declared.level.Level.{Level}
use Rattle.tora_height.specs.declared.height_error.HeightError.{HeightError}
use Rattle.tora_height.specs.Height.{Quintuple, quintuple, level_of, IsHeight, height_fault}
use Rattle.tora_height.specs.HeightOrder.{IsLower, IsLowerLevel, level_cmp, height_cmp}
use Rattle.tora_height.proofs.OrderLemmas.{height_cmp_total, level_cmp_total, level_cmp-Equal, lower_level-cmp, cmp-lower_level, lower-height_cmp, height_cmp-lower}
use Rattle.tora_height.proofs.Ranges.{no_fault_is_height}
use Rattle.tora_core.specs.declared.rows.Row.{Row}
use Rattle.tora_core.specs.View.{View, heights_of, known_heights, are_null, is_told, is_downstream, has_downstream, lacks_downstream, is_at, is_entry_at, lower_of, least_height, higher_level_of, greatest_level, lower_delta_of, least_delta}
use Rattle.tora_core.specs.Heights.{time_after, time_after_all, fresh_time, fitted_by, fitted_height}
use Rattle.tora_core.specs.Reacts.{IsTold, IsKnown, KnowsSome, KnowsNone, HasDownstream, HasNoDownstream, LacksDownstream, IsOwnLevel, IsLeastKnown, IsGreatestLevel, IsLeastDelta, IsCommonLevel, LevelsDiffer, IsFreshTime}
use Rattle.tora_core.proofs.RowLemmas.{all-weaker, least_height-all, greatest-all, greatest-reached}

-- ---- elements of a list

abbrev pub IsAmong : {X : Type 0} → X → List X → Type 0
IsAmong x [] = ⊥
IsAmong x (y ∷ ys) = (y ≡ x) ⊎ IsAmong x ys

pub all-among : {X : Type 0} (P : X → Type 0) (xs : List X) (x : X) → AllByRecursion P xs → IsAmong x xs → P x
all-among P [] x all i = absurd i
all-among P (y ∷ ys) x all (inl e) = subst P e all.0
all-among P (y ∷ ys) x all (inr i) = all-among P ys x all.1 i

pub among-itself : {X : Type 0} (xs : List X) → AllByRecursion (λ x. IsAmong x xs) xs
among-itself [] = tt
among-itself (y ∷ ys) = (inl refl, all-weaker (λ x. IsAmong x ys) (λ x. IsAmong x (y ∷ ys)) (λ x i. inr i) ys (among-itself ys))

pub all-from_among : {X : Type 0} (P : X → Type 0) (xs : List X) → ((x : X) → IsAmong x xs → P x) → AllByRecursion P xs
all-from_among P xs f = all-weaker (λ x. IsAmong x xs) P f xs (among-itself xs)

pub among-Contains : {X : Type 0} (xs : List X) (x : X) → Contains xs x → IsAmong x xs
among-Contains xs x c = All-contains (λ y. IsAmong y xs) xs x (All-from_recursion (λ y. IsAmong y xs) xs (among-itself xs)) c

pub Contains-among : {X : Type 0} (xs : List X) (x : X) → IsAmong x xs → Contains xs x
Contains-among [] x i = absurd i
Contains-among (y ∷ ys) x (inl e) = subst (Contains (y ∷ ys)) e (All-head (Contains (y ∷ ys)) y ys (All-contains_itself (y ∷ ys)))
Contains-among (y ∷ ys) x (inr i) = Contains-append_right (y ∷ []) ys x (Contains-among ys x i)

-- a test that some element passes
pub list_any-true : {X : Type 0} (p : X → Bool) (xs : List X) → list_any p xs ≡ true → (x : X) × IsAmong x xs × (p x ≡ true)
list_any-true p [] e = absurd cc
list_any-true {X} p (y ∷ ys) e = at (λ f. list_any-true p ys f) (p y) refl e
  where
    at : (list_any p ys ≡ true → (x : X) × IsAmong x ys × (p x ≡ true)) → (b : Bool) → p y ≡ b → (b || list_any p ys) ≡ true → (x : X) × IsAmong x (y ∷ ys) × (p x ≡ true)
    at rest true is f = (y, inl refl, is)
    at rest false is f = let r = rest f in (r.0, inr r.1, r.2)

pub true-list_any : {X : Type 0} (p : X → Bool) (xs : List X) (x : X) → IsAmong x xs → p x ≡ true → list_any p xs ≡ true
true-list_any p [] x i e = absurd i
true-list_any p (y ∷ ys) x (inl s) e = at (p y) (ap p s ∙ e)
  where
    at : (b : Bool) → b ≡ true → (b || list_any p ys) ≡ true
    at true f = refl
    at false f = absurd cc
true-list_any p (y ∷ ys) x (inr i) e = at (p y) (true-list_any p ys x i e)
  where
    at : (b : Bool) → list_any p ys ≡ true → (b || list_any p ys) ≡ true
    at true f = refl
    at false f = f

-- a test that all elements pass
pub list_all-true : {X : Type 0} (p : X → Bool) (xs : List X) (x : X) → list_all p xs ≡ true → IsAmong x xs → p x ≡ true
list_all-true p [] x e i = absurd i
list_all-true p (y ∷ ys) x e i = at (λ f j. list_all-true p ys x f j) (p y) refl e i
  where
    at : (list_all p ys ≡ true → IsAmong x ys → p x ≡ true) → (b : Bool) → p y ≡ b → (b && list_all p ys) ≡ true → IsAmong x (y ∷ ys) → p x ≡ true
    at rest true is f (inl s) = ap p (sym s) ∙ is
    at rest true is f (inr j) = rest f j
    at rest false is f j = absurd cc

pub list_all-false : {X : Type 0} (p : X → Bool) (xs : List X) → list_all p xs ≡ false → (x : X) × IsAmong x xs × (p x ≡ false)
list_all-false p [] e = absurd cc
list_all-false {X} p (y ∷ ys) e = at (λ f. list_all-false p ys f) (p y) refl e
  where
    at : (list_all p ys ≡ false → (x : X) × IsAmong x ys × (p x ≡ false)) → (b : Bool) → p y ≡ b → (b && list_all p ys) ≡ false → (x : X) × IsAmong x (y ∷ ys) × (p x ≡ false)
    at rest true is f = let r = rest f in (r.0, inr r.1, r.2)
    at rest false is f = (y, inl refl, is)

pub true-list_all : {X : Type 0} (p : X → Bool) (xs : List X) → ((x : X) → IsAmong x xs → p x ≡ true) → list_all p xs ≡ true
true-list_all p xs f = at (list_all p xs) refl
  where
    at : (b : Bool) → list_all p xs ≡ b → b ≡ true
    at true e = refl
    at false e = let r = list_all-false p xs e in let t = f r.0 r.1 in let g = r.2 in cc

-- ---- tests of numbers

pub is-zero : (n : ℕ) → n ≡ 0 → (n == 0) ≡ true
is-zero n e = grind (arith, nat_tests)

pub not-zero : (n : ℕ) → n ≡ 1 → (n == 0) ≡ false
not-zero n e = grind (arith, nat_tests)

pub is-same : (m n : ℕ) → m ≡ n → (m == n) ≡ true
is-same m n e = grind (arith, nat_tests)

pub is-other : (m n : ℕ) → m ≢ n → (m == n) ≡ false
is-other m n e = grind (arith, nat_tests)

pub zero-is : (n : ℕ) → (n == 0) ≡ true → n ≡ 0
zero-is n e = grind (arith, nat_tests)

pub one-is : (n : ℕ) → n ≤ 1 → (n == 0) ≡ false → n ≡ 1
one-is n le e = grind (arith, nat_tests)

pub same-is : (m n : ℕ) → (m == n) ≡ true → m ≡ n
same-is m n e = grind (arith, nat_tests)

pub other-is : (m n : ℕ) → (m == n) ≡ false → m ≢ n
other-is m n e = λ (s : m ≡ n). grind (arith, nat_tests)

-- ---- known heights

among-cons_option : (h : Quintuple) (o : Option Quintuple) (hs : List Quintuple) → IsAmong h hs → IsAmong h (cons_option o hs)
among-cons_option h None hs i = i
among-cons_option h (Some g) hs i = inr i

pub entry-among : (rows : List Row) (row : Row) (h : Quintuple) → IsAmong row rows → row.entry ≡ Some h → IsAmong h (heights_of rows)
entry-among [] row h i e = absurd i
entry-among (r ∷ rows) row h (inl s) e =
    let is : r.entry ≡ Some h = ap (λ (x : Row). x.entry) s ∙ e in
    subst (λ (o : Option Quintuple). IsAmong h (cons_option o (heights_of rows))) (sym is) (inl refl)
entry-among (r ∷ rows) row h (inr i) e = among-cons_option h r.entry (heights_of rows) (entry-among rows row h i e)

pub among-entry : (rows : List Row) (h : Quintuple) → IsAmong h (heights_of rows) → (row : Row) × IsAmong row rows × (row.entry ≡ Some h)
among-entry [] h i = absurd i
among-entry (r ∷ rows) h i = at (λ j. among-entry rows h j) r.entry refl i
  where
    at : (IsAmong h (heights_of rows) → (row : Row) × IsAmong row rows × (row.entry ≡ Some h)) → (o : Option Quintuple) → r.entry ≡ o → IsAmong h (cons_option o (heights_of rows)) → (row : Row) × IsAmong row (r ∷ rows) × (row.entry ≡ Some h)
    at rest None is j = let s = rest j in (s.0, inr s.1, s.2)
    at rest (Some g) is (inl e) = (r, inl refl, is ∙ ap Some e)
    at rest (Some g) is (inr j) = let s = rest j in (s.0, inr s.1, s.2)

-- the known heights are those of the list of known heights
pub known-among : (v : View) (h : Quintuple) → IsKnown v h → IsAmong h (known_heights v)
known-among v h k = let e = k.1 in entry-among v.rows e.0 h (among-Contains v.rows e.0 e.1) e.3

pub among-known : (v : View) (h : Quintuple) → IsAmong h (known_heights v) → IsKnown v h
among-known v h i = let s = among-entry v.rows h i in let row : Row = s.0 in (row.neighbour, (row, Contains-among v.rows row s.1, refl, s.2))

pub knows_none : (v : View) → are_null v.rows ≡ true → KnowsNone v
knows_none v e = λ h k. let i = k.1 in let row : Row = i.0 in
    let n : is_none row.entry ≡ true = list_all-true (λ (r : Row). is_none r.entry) v.rows row e (among-Contains v.rows row i.1) in
    let s : row.entry ≡ Some h = i.3 in
    let f : is_none (Some h) ≡ true = subst (λ (o : Option Quintuple). is_none o ≡ true) s n in absurd cc

pub knows_some : (v : View) → are_null v.rows ≡ false → KnowsSome v
knows_some v e =
    let r = list_all-false (λ (r : Row). is_none r.entry) v.rows e in
    let row : Row = r.0 in
    let some = at row.entry r.2 in
    (some.0, (row.neighbour, (row, Contains-among v.rows row r.1, refl, some.1)))
  where
    at : (o : Option Quintuple) → is_none o ≡ false → (h : Quintuple) × (o ≡ Some h)
    at None f = absurd cc
    at (Some h) f = (h, refl)

pub none-are_null : (v : View) → KnowsNone v → are_null v.rows ≡ true
none-are_null v none = at (are_null v.rows) refl
  where
    at : (b : Bool) → are_null v.rows ≡ b → b ≡ true
    at true e = refl
    at false e = let s = knows_some v e in absurd (none s.0 s.1)

pub some-are_null : (v : View) → KnowsSome v → are_null v.rows ≡ false
some-are_null v some = at (are_null v.rows) refl
  where
    at : (b : Bool) → are_null v.rows ≡ b → b ≡ false
    at true e = absurd (knows_none v e some.0 some.1)
    at false e = refl

-- ---- the order of heights

pub lower-is_lt : (a b : Quintuple) → is_lt (height_cmp a b) ≡ true → IsLower a b
lower-is_lt a b e = lower-height_cmp a b (at (height_cmp a b) e)
  where
    at : (o : Ordering) → is_lt o ≡ true → o ≡ Less
    at Less f = refl
    at Equal f = absurd cc
    at Greater f = absurd cc

pub is_lt-lower : (a b : Quintuple) → IsLower a b → is_lt (height_cmp a b) ≡ true
is_lt-lower a b l = ap is_lt (height_cmp-lower a b l)

pub not-lower : (a b : Quintuple) → is_lt (height_cmp a b) ≡ false → ¬ IsLower a b
not-lower a b e = λ l. let t = is_lt-lower a b l in absurd cc

pub is_lt-not_lower : (a b : Quintuple) → ¬ IsLower a b → is_lt (height_cmp a b) ≡ false
is_lt-not_lower a b n = at (is_lt (height_cmp a b)) refl
  where
    at : (t : Bool) → is_lt (height_cmp a b) ≡ t → t ≡ false
    at true e = absurd (n (lower-is_lt a b e))
    at false e = refl

same_parts : (t u o p q r : ℕ) (d e : ℤ) (i j : ℕ) → t ≡ u → o ≡ p → q ≡ r → d ≡ e → i ≡ j → quintuple t o q d i ≡ quintuple u p r e j
same_parts t u o p q r d e i j a b c f g = rw (a, b, c, f, g) refl

-- heights that compare as equal are equal
pub height_cmp-Equal : (a b : Quintuple) → height_cmp a b ≡ Equal → a ≡ b
height_cmp-Equal a b h =
    same_parts a.tau b.tau a.oid b.oid a.r b.r a.delta b.delta a.id b.id
    (grind (arith, nat_tests)) (grind (arith, nat_tests)) (grind (arith, nat_tests)) (grind (arith, nat_tests, ints)) (grind (arith, nat_tests, ints))

-- if neither of two heights is lower, they are equal
pub height-same : (a b : Quintuple) → ¬ IsLower a b → ¬ IsLower b a → a ≡ b
height-same a b x y = at (height_cmp a b) refl
  where
    at : (o : Ordering) → height_cmp a b ≡ o → a ≡ b
    at Less e = absurd (x (lower-height_cmp a b e))
    at Equal e = height_cmp-Equal a b e
    at Greater e = absurd (y (lower-height_cmp b a (height_cmp_total.antisymm b a ∙ ap ordering_reverse e)))

-- ---- the order of levels

pub lower-is_lt_level : (a b : Level) → is_lt (level_cmp a b) ≡ true → IsLowerLevel a b
lower-is_lt_level a b e = lower_level-cmp a b (at (level_cmp a b) e)
  where
    at : (o : Ordering) → is_lt o ≡ true → o ≡ Less
    at Less f = refl
    at Equal f = absurd cc
    at Greater f = absurd cc

pub not-lower_level : (a b : Level) → is_lt (level_cmp a b) ≡ false → ¬ IsLowerLevel a b
not-lower_level a b e = λ l. let t = ap is_lt (cmp-lower_level a b l) in absurd cc

pub level-same : (a b : Level) → ¬ IsLowerLevel a b → ¬ IsLowerLevel b a → a ≡ b
level-same a b x y = at (level_cmp a b) refl
  where
    at : (o : Ordering) → level_cmp a b ≡ o → a ≡ b
    at Less e = absurd (x (lower_level-cmp a b e))
    at Equal e = level_cmp-Equal a b e
    at Greater e = absurd (y (lower_level-cmp b a (level_cmp_total.antisymm b a ∙ ap ordering_reverse e)))

-- a height is at its own level only
pub at-level : (level : Level) (h : Quintuple) → is_at level h ≡ true → level_of h ≡ level
at-level level h e = level_cmp-Equal (level_of h) level (at (level_cmp (level_of h) level) e)
  where
    at : (o : Ordering) → is_eq o ≡ true → o ≡ Equal
    at Less f = absurd cc
    at Equal f = refl
    at Greater f = absurd cc

pub level-at : (level : Level) (h : Quintuple) → level_of h ≡ level → is_at level h ≡ true
level-at level h e = subst (λ (l : Level). is_eq (level_cmp (level_of h) l) ≡ true) e (ap is_eq (tied_itself level_cmp_total (level_of h)))

-- ---- the least height

lt-gt : (o : Ordering) → is_lt (ordering_reverse o) ≡ is_gt o
lt-gt Less = refl
lt-gt Equal = refl
lt-gt Greater = refl

pub below-above : (a b : Quintuple) → is_lt (height_cmp a b) ≡ is_gt (height_cmp b a)
below-above a b = ap is_lt (height_cmp_total.antisymm a b) ∙ lt-gt (height_cmp b a)

-- the order "not below" is transitive
pub not-below : (a b m : Quintuple) → is_lt (height_cmp a b) ≡ false → is_lt (height_cmp b m) ≡ false → is_lt (height_cmp a m) ≡ false
not-below a b m x y = below-above a m ∙ upto height_cmp_total m b a (sym (below-above b m) ∙ y) (sym (below-above a b) ∙ x)

pub lt-not_gt : (o : Ordering) → is_lt o ≡ true → is_gt o ≡ false
lt-not_gt Less e = refl
lt-not_gt Equal e = refl
lt-not_gt Greater e = absurd cc

abbrev pub IsNotBelow : Quintuple → Quintuple → Type 0
IsNotBelow m h = is_lt (height_cmp h m) ≡ false

least-from : (a : Quintuple) (hs : List Quintuple) (m : Quintuple) → fold lower_of (Some a) hs ≡ Some m → IsNotBelow m a × AllByRecursion (IsNotBelow m) hs
least-from a [] m e = let same : a ≡ m = cc in (subst (λ (x : Quintuple). IsNotBelow x a) same (ap is_lt (tied_itself height_cmp_total a)), tt)
least-from a (h ∷ hs) m e =
    let P : Option Quintuple → Type 0 = λ o. fold lower_of o hs ≡ Some m → IsNotBelow m a × AllByRecursion (IsNotBelow m) (h ∷ hs) in
    cond_both (is_lt (height_cmp h a)) (Some h) (Some a) P
    (λ down f. let r = least-from h hs m f in (not-below a h m (below-above a h ∙ lt-not_gt (height_cmp h a) down) r.0, (r.0, r.1)))
    (λ up f. let r = least-from a hs m f in (r.0, (not-below h a m up r.0, r.1))) e

pub least-below_none : (hs : List Quintuple) (m : Quintuple) → least_height hs ≡ Some m → AllByRecursion (IsNotBelow m) hs
least-below_none [] m e = absurd cc
least-below_none (h ∷ hs) m e = let r = least-from h hs m e in (r.0, r.1)

least-some : (a : Quintuple) (hs : List Quintuple) → fold lower_of (Some a) hs ≡ None → ⊥
least-some a [] e = cc
least-some a (h ∷ hs) e =
    let P : Option Quintuple → Type 0 = λ o. fold lower_of o hs ≡ None → ⊥ in
    cond_both (is_lt (height_cmp h a)) (Some h) (Some a) P (λ _ f. least-some h hs f) (λ _ f. least-some a hs f) e

-- there is no least height only if there are no heights
pub least-none : (hs : List Quintuple) (h : Quintuple) → least_height hs ≡ None → IsAmong h hs → ⊥
least-none [] h e i = i
least-none (g ∷ hs) h e i = least-some g hs e

-- the least of the known heights
pub least-known : (v : View) (m : Quintuple) → least_height (known_heights v) ≡ Some m → IsLeastKnown v m
least-known v m e = record {
  known = among-known v m (least_height-all (λ h. IsAmong h (known_heights v)) (known_heights v) m (among-itself (known_heights v)) e);
  least = λ h k. not-lower h m (all-among (IsNotBelow m) (known_heights v) h (least-below_none (known_heights v) m e) (known-among v h k));
}

pub known-least : (v : View) (m : Quintuple) → IsLeastKnown v m → least_height (known_heights v) ≡ Some m
known-least v m is = at (least_height (known_heights v)) refl
  where
    at : (o : Option Quintuple) → least_height (known_heights v) ≡ o → o ≡ Some m
    at None e = absurd (least-none (known_heights v) m e (known-among v m is.known))
    at (Some n) e = let other = least-known v n e in ap Some (height-same n m (is.least n other.known) (other.least m is.known))

pub least-nothing : (v : View) → least_height (known_heights v) ≡ None → KnowsNone v
least-nothing v e = λ h k. least-none (known_heights v) h e (known-among v h k)

pub nothing-least : (v : View) → KnowsNone v → least_height (known_heights v) ≡ None
nothing-least v none = at (least_height (known_heights v)) refl
  where
    at : (o : Option Quintuple) → least_height (known_heights v) ≡ o → o ≡ None
    at None e = refl
    at (Some m) e = let is = least-known v m e in absurd (none m is.known)

-- ---- the greatest level

greatest-some : (a : Level) (hs : List Quintuple) → fold higher_level_of (Some a) hs ≡ None → ⊥
greatest-some a [] e = cc
greatest-some a (h ∷ hs) e =
    let P : Option Level → Type 0 = λ o. fold higher_level_of o hs ≡ None → ⊥ in
    cond_both (is_lt (level_cmp a (level_of h))) (Some (level_of h)) (Some a) P (λ _ f. greatest-some (level_of h) hs f) (λ _ f. greatest-some a hs f) e

pub greatest-none : (hs : List Quintuple) (h : Quintuple) → greatest_level hs ≡ None → IsAmong h hs → ⊥
greatest-none [] h e i = i
greatest-none (g ∷ hs) h e i = greatest-some (level_of g) hs e

abbrev IsReached : List Quintuple → Level → Type 0
IsReached hs level = (h : Quintuple) × IsAmong h hs × (level_of h ≡ level)

pub greatest-is_reached : (hs : List Quintuple) (m : Level) → greatest_level hs ≡ Some m → IsReached hs m
greatest-is_reached hs m e = greatest-reached (IsReached hs) hs m (all-from_among (λ (h : Quintuple). IsReached hs (level_of h)) hs (λ h i. (h, i, refl))) e

pub greatest-known : (v : View) (m : Level) → greatest_level (known_heights v) ≡ Some m → IsGreatestLevel v m
greatest-known v m e =
    let r = greatest-is_reached (known_heights v) m e in
    record {
      known = (r.0, among-known v r.0 r.1, r.2);
      greatest = λ h k. not-lower_level m (level_of h) (all-among (λ (g : Quintuple). is_lt (level_cmp m (level_of g)) ≡ false) (known_heights v) h (greatest-all (known_heights v) m e) (known-among v h k));
    }

pub known-greatest : (v : View) (m : Level) → IsGreatestLevel v m → greatest_level (known_heights v) ≡ Some m
known-greatest v m is = at (greatest_level (known_heights v)) refl
  where
    one : (n : Level) → IsGreatestLevel v n → n ≡ m
    one n other =
        let g = other.known in
        let h = is.known in
        let P : Level → Type 0 = λ l. ¬ IsLowerLevel n l in
        let Q : Level → Type 0 = λ l. ¬ IsLowerLevel m l in
        level-same n m (subst P h.2 (other.greatest h.0 h.1)) (subst Q g.2 (is.greatest g.0 g.1))

    at : (o : Option Level) → greatest_level (known_heights v) ≡ o → o ≡ Some m
    at None e = let h = is.known in absurd (greatest-none (known_heights v) h.0 e (known-among v h.0 h.1))
    at (Some n) e = ap Some (one n (greatest-known v n e))

-- ---- the least delta at a level

abbrev delta_step : Level → Option ℤ → Quintuple → Option ℤ
delta_step level best height = if is_at level height then lower_delta_of best height.delta else best

lower_delta-below : (o : Option ℤ) (d m : ℤ) → IfSome (lower_delta_of o d) (λ a. m ≤ℤ a) → IfSome o (λ a. m ≤ℤ a) × (m ≤ℤ d)
lower_delta-below None d m h = (tt, h)
lower_delta-below (Some a) d m h =
    let P : Option ℤ → Type 0 = λ o. IfSome o (λ a. m ≤ℤ a) → (m ≤ℤ a) × (m ≤ℤ d) in
    cond_both (int_lt d a) (Some d) (Some a) P
    (λ (t : int_lt d a ≡ true) (b : m ≤ℤ d). (grind (arith, nat_tests, ints), b))
    (λ (t : int_lt d a ≡ false) (b : m ≤ℤ a). (b, grind (arith, nat_tests, ints))) h

lower_delta-one : (o : Option ℤ) (d m : ℤ) → lower_delta_of o d ≡ Some m → (o ≡ Some m) ⊎ (d ≡ m)
lower_delta-one None d m e = inr cc
lower_delta-one (Some a) d m e =
    let P : Option ℤ → Type 0 = λ o. o ≡ Some m → (Some a ≡ Some m) ⊎ (d ≡ m) in
    cond_both (int_lt d a) (Some d) (Some a) P (λ _ f. inr cc) (λ _ f. inl f) e

lower_delta-some : (o : Option ℤ) (d : ℤ) → lower_delta_of o d ≡ None → ⊥
lower_delta-some None d e = cc
lower_delta-some (Some a) d e =
    let P : Option ℤ → Type 0 = λ o. o ≡ None → ⊥ in
    cond_both (int_lt d a) (Some d) (Some a) P (λ _ f. cc) (λ _ f. cc) e

abbrev HasDelta : Level → ℤ → List Quintuple → Type 0
HasDelta level m hs = (h : Quintuple) × IsAmong h hs × (is_at level h ≡ true) × (h.delta ≡ m)

later-delta : (level : Level) (m : ℤ) (g : Quintuple) (hs : List Quintuple) → HasDelta level m hs → HasDelta level m (g ∷ hs)
later-delta level m g hs d = (d.0, inr d.1, d.2, d.3)

record IsDeltaOf (level : Level) (o : Option ℤ) (hs : List Quintuple) (m : ℤ) : Type 0 where
  below : IfSome o (λ a. m ≤ℤ a)
  all : AllByRecursion (λ (h : Quintuple). is_at level h ≡ true → m ≤ℤ h.delta) hs
  one : (o ≡ Some m) ⊎ HasDelta level m hs

delta-from : (level : Level) (o : Option ℤ) (hs : List Quintuple) (m : ℤ) → fold (delta_step level) o hs ≡ Some m → IsDeltaOf level o hs m
delta-from level o [] m e = record { below = subst (λ (x : Option ℤ). IfSome x (λ a. m ≤ℤ a)) (sym e) (omega (arith, ints)); all = tt; one = inl e }
delta-from level o (h ∷ hs) m e =
    let P : Option ℤ → Type 0 = λ x. fold (delta_step level) x hs ≡ Some m → IsDeltaOf level o (h ∷ hs) m in
    cond_both (is_at level h) (lower_delta_of o h.delta) o P
    (λ t f.
    let r = delta-from level (lower_delta_of o h.delta) hs m f in
    let low = lower_delta-below o h.delta m r.below in
    record { below = low.0; all = (λ _. low.1, r.all); one = first t r.one })
    (λ t f.
    let r = delta-from level o hs m f in
    record { below = r.below; all = (λ (u : is_at level h ≡ true). absurd cc, r.all); one = second r.one }) e
  where
    first : is_at level h ≡ true → (lower_delta_of o h.delta ≡ Some m) ⊎ HasDelta level m hs → (o ≡ Some m) ⊎ HasDelta level m (h ∷ hs)
    first t (inl x) = here (lower_delta-one o h.delta m x)
      where
        here : (o ≡ Some m) ⊎ (h.delta ≡ m) → (o ≡ Some m) ⊎ HasDelta level m (h ∷ hs)
        here (inl y) = inl y
        here (inr y) = inr (h, inl refl, t, y)
    first t (inr d) = inr (later-delta level m h hs d)

    second : (o ≡ Some m) ⊎ HasDelta level m hs → (o ≡ Some m) ⊎ HasDelta level m (h ∷ hs)
    second (inl x) = inl x
    second (inr d) = inr (later-delta level m h hs d)

pub delta-some : (level : Level) (o : Option ℤ) (hs : List Quintuple) (h : Quintuple) → fold (delta_step level) o hs ≡ None → (o ≡ None) × (IsAmong h hs → is_at level h ≡ true → ⊥)
delta-some level o [] h e = (e, λ i _. i)
delta-some level o (g ∷ hs) h e =
    let P : Option ℤ → Type 0 = λ x. fold (delta_step level) x hs ≡ None → (o ≡ None) × (IsAmong h (g ∷ hs) → is_at level h ≡ true → ⊥) in
    cond_both (is_at level g) (lower_delta_of o g.delta) o P
    (λ t f. let r = delta-some level (lower_delta_of o g.delta) hs h f in absurd (lower_delta-some o g.delta r.0))
    (λ t f. let r = delta-some level o hs h f in (r.0, other t r.1)) e
  where
    other : is_at level g ≡ false → (IsAmong h hs → is_at level h ≡ true → ⊥) → IsAmong h (g ∷ hs) → is_at level h ≡ true → ⊥
    other t r (inl s) u = let x = ap (is_at level) s in cc
    other t r (inr i) u = r i u

pub least-delta : (v : View) (level : Level) (m : ℤ) → least_delta level (known_heights v) ≡ Some m → IsLeastDelta v level m
least-delta v level m e =
    let r = delta-from level None (known_heights v) m e in
    let d = some r.one in
    record {
      known = (d.0, among-known v d.0 d.1, at-level level d.0 d.2, d.3);
      least = λ h k at. all-among (λ (h : Quintuple). is_at level h ≡ true → m ≤ℤ h.delta) (known_heights v) h r.all (known-among v h k) (level-at level h at);
    }
  where
    some : (None ≡ Some m) ⊎ HasDelta level m (known_heights v) → HasDelta level m (known_heights v)
    some (inl x) = absurd cc
    some (inr d) = d

pub delta-least : (v : View) (level : Level) (m : ℤ) → IsLeastDelta v level m → least_delta level (known_heights v) ≡ Some m
delta-least v level m is = at (least_delta level (known_heights v)) refl
  where
    one : (n : ℤ) → IsLeastDelta v level n → n ≡ m
    one n other =
        let g = other.known in
        let h = is.known in
        let x : m ≤ℤ n = subst (λ (d : ℤ). m ≤ℤ d) g.3 (is.least g.0 g.1 g.2) in
        let y : n ≤ℤ m = subst (λ (d : ℤ). n ≤ℤ d) h.3 (other.least h.0 h.1 h.2) in
        omega (arith, ints)

    at : (o : Option ℤ) → least_delta level (known_heights v) ≡ o → o ≡ Some m
    at None e = let h = is.known in absurd ((delta-some level None (known_heights v) h.0 e).1 (known-among v h.0 h.1) (level-at level h.0 h.2))
    at (Some n) e = ap Some (one n (least-delta v level n e))

-- ---- all heights at one level

pub common-all : (v : View) (level : Level) → IsCommonLevel v level → list_all (is_at level) (known_heights v) ≡ true
common-all v level is = true-list_all (is_at level) (known_heights v) (λ h i. level-at level h (is.all h (among-known v h i)))

-- the common level is the greatest
pub common-greatest : (v : View) (level : Level) → IsCommonLevel v level → IsGreatestLevel v level
common-greatest v level is =
    let some = is.some in
    record {
      known = (some.0, some.1, is.all some.0 some.1);
      greatest = λ h k. subst (λ (l : Level). ¬ IsLowerLevel level l) (sym (is.all h k)) (not-lower_level level level (ap is_lt (tied_itself level_cmp_total level)));
    }

pub all-common : (v : View) (level : Level) → IsGreatestLevel v level → list_all (is_at level) (known_heights v) ≡ true → IsCommonLevel v level
all-common v level is e = let g = is.known in record { some = (g.0, g.1); all = λ h k. at-level level h (list_all-true (is_at level) (known_heights v) h e (known-among v h k)) }

pub differ-all : (v : View) (level : Level) → LevelsDiffer v → list_all (is_at level) (known_heights v) ≡ false
differ-all v level d = at (list_all (is_at level) (known_heights v)) refl
  where
    at : (b : Bool) → list_all (is_at level) (known_heights v) ≡ b → b ≡ false
    at true e =
        let x = at-level level d.0 (list_all-true (is_at level) (known_heights v) d.0 e (known-among v d.0 d.2)) in
        let y = at-level level d.1 (list_all-true (is_at level) (known_heights v) d.1 e (known-among v d.1 d.3)) in
        absurd (d.4 (x ∙ sym y))
    at false e = refl

pub all-differ : (v : View) (level : Level) → IsGreatestLevel v level → list_all (is_at level) (known_heights v) ≡ false → LevelsDiffer v
all-differ v level is e =
    let g = is.known in
    let r = list_all-false (is_at level) (known_heights v) e in
    let f = r.2 in
    (g.0, r.0, g.1, among-known v r.0 r.1, λ (same : level_of g.0 ≡ level_of r.0). let t = level-at level r.0 (sym same ∙ g.2) in absurd cc)

-- ---- fresh times

times-grow : (hs : List Quintuple) (t : ℕ) → t ≤ fold (λ time height. max time (height.tau + 1)) t hs
times-grow [] t = omega arith
times-grow (h ∷ hs) t = omega (arith, times-grow hs (max t (h.tau + 1)))

times-after : (t : ℕ) (hs : List Quintuple) → AllByRecursion (λ (h : Quintuple). h.tau < fold (λ time height. max time (height.tau + 1)) t hs) hs
times-after t [] = tt
times-after t (h ∷ hs) = (omega (arith, times-grow hs (max t (h.tau + 1))), times-after (max t (h.tau + 1)) hs)

times-least : (t u : ℕ) (hs : List Quintuple) → t ≤ u → AllByRecursion (λ (h : Quintuple). h.tau < u) hs → fold (λ time height. max time (height.tau + 1)) t hs ≤ u
times-least t u [] le all = le
times-least t u (h ∷ hs) le all = let b = all.0 in times-least (max t (h.tau + 1)) u hs (omega arith) all.1

own-after : (o : Option Quintuple) (t : ℕ) → time_after o ≤ t → IfSome o (λ h. h.tau < t)
own-after None t le = tt
own-after (Some h) t le = omega arith

after-own : (o : Option Quintuple) (t : ℕ) → IfSome o (λ h. h.tau < t) → time_after o ≤ t
after-own None t le = omega arith
after-own (Some h) t le = omega arith

pub fresh-time : (v : View) (now : ℕ) → IsFreshTime v now (fresh_time v now)
fresh-time v now = record {
  after_all = record {
    tick = omega arith;
    positive = omega arith;
    last = omega arith;
    own = own-after v.height (fresh_time v now) (omega arith);
    known = λ h k. let b : h.tau < time_after_all (known_heights v) = all-among (λ (h : Quintuple). h.tau < time_after_all (known_heights v)) (known_heights v) h (times-after 0 (known_heights v)) (known-among v h k) in omega arith;
  };
  least = λ u after.
      let tick = after.tick in
      let positive = after.positive in
      let last = after.last in
      let own = after-own v.height u after.own in
      let known : time_after_all (known_heights v) ≤ u = times-least 0 u (known_heights v) (omega arith) (all-from_among (λ (h : Quintuple). h.tau < u) (known_heights v) (λ h i. after.known h (among-known v h i))) in
      omega arith;
}

pub time-fresh : (v : View) (now t : ℕ) → IsFreshTime v now t → t ≡ fresh_time v now
time-fresh v now t is =
    let f = fresh-time v now in
    let a = is.least (fresh_time v now) f.after_all in
    let b = f.least t is.after_all in
    omega arith

pub fresh-same : (v : View) (now t : ℕ) → fresh_time v now ≡ t → IsFreshTime v now t
fresh-same v now t e = subst (IsFreshTime v now) e (fresh-time v now)

-- ---- computed heights in range

pub fitted_height-out : (h : Quintuple) → h.oid < 2 ^ 32 → h.id < 2 ^ 32 → ¬ IsHeight h → fitted_height h ≡ None
fitted_height-out h oid id n = at (height_fault h) refl
  where
    at : (o : Option HeightError) → height_fault h ≡ o → fitted_by h o ≡ None
    at None e = absurd (n (no_fault_is_height h oid id e))
    at (Some _) e = refl

-- ---- downstream neighbours

pub down-lower : (own : Option Quintuple) (entry : Option Quintuple) → is_downstream own entry ≡ true → (h : Quintuple) × (entry ≡ Some h) × IfSome own (IsLower h)
down-lower own None e = absurd cc
down-lower None (Some h) e = (h, refl, tt)
down-lower (Some own) (Some h) e = (h, refl, lower-is_lt h own e)

pub lower-down : (own : Option Quintuple) (h : Quintuple) → IfSome own (IsLower h) → is_downstream own (Some h) ≡ true
lower-down None h l = refl
lower-down (Some own) h l = is_lt-lower h own l

pub downstream-some : (v : View) → has_downstream v ≡ true → HasDownstream v
downstream-some v e =
    let r = list_any-true (λ (row : Row). is_downstream v.height row.entry) v.rows e in
    let row : Row = r.0 in
    let d = down-lower v.height row.entry r.2 in
    (row.neighbour, (d.0, (row, Contains-among v.rows row r.1, refl, d.1), d.2))

pub some-downstream : (v : View) → HasDownstream v → has_downstream v ≡ true
some-downstream v d =
    let n = d.1 in
    let i = n.1 in
    let row : Row = i.0 in
    let P : Option Quintuple → Type 0 = λ o. is_downstream v.height o ≡ true in
    true-list_any (λ (row : Row). is_downstream v.height row.entry) v.rows row (among-Contains v.rows row i.1) (subst P (sym i.3) (lower-down v.height n.0 n.2))

pub downstream-none : (v : View) → has_downstream v ≡ false → HasNoDownstream v
downstream-none v e = λ k d. let t = some-downstream v (k, d) in absurd cc

pub none-downstream : (v : View) → HasNoDownstream v → has_downstream v ≡ false
none-downstream v none = at (has_downstream v) refl
  where
    at : (b : Bool) → has_downstream v ≡ b → b ≡ false
    at true e = let d = downstream-some v e in absurd (none d.0 d.1)
    at false e = refl

pub lacks-downstream : (v : View) → lacks_downstream v ≡ true → LacksDownstream v
lacks-downstream v e = at (is_some v.height) (has_downstream v) refl refl e
  where
    at : (a b : Bool) → is_some v.height ≡ a → has_downstream v ≡ b → (a && not b) ≡ true → IsSome v.height × HasNoDownstream v
    at true false s d f = (s, downstream-none v d)
    at true true s d f = absurd cc
    at false b s d f = absurd cc

pub downstream-lacks : (v : View) → LacksDownstream v → lacks_downstream v ≡ true
downstream-lacks v l = at (is_some v.height) (has_downstream v) l.0 (none-downstream v l.1)
  where
    at : (a b : Bool) → a ≡ true → b ≡ false → (a && not b) ≡ true
    at true false s d = refl
    at true true s d = absurd cc
    at false b s d = absurd cc

pub not-lacks : (v : View) → lacks_downstream v ≡ false → ¬ LacksDownstream v
not-lacks v e = λ l. let t = downstream-lacks v l in absurd cc

pub lacks-not : (v : View) → ¬ LacksDownstream v → lacks_downstream v ≡ false
lacks-not v n = at (lacks_downstream v) refl
  where
    at : (b : Bool) → lacks_downstream v ≡ b → b ≡ false
    at true e = absurd (n (lacks-downstream v e))
    at false e = refl

-- ---- the own level, and the marks

pub own-level : (v : View) (level : Level) → is_entry_at level v.height ≡ true → IsOwnLevel v level
own-level v level e = at v.height refl e
  where
    at : (o : Option Quintuple) → v.height ≡ o → is_entry_at level o ≡ true → IsOwnLevel v level
    at None is f = absurd cc
    at (Some own) is f = (own, is, at-level level own f)

pub level-own : (v : View) (level : Level) → IsOwnLevel v level → is_entry_at level v.height ≡ true
level-own v level o = let P : Option Quintuple → Type 0 = λ x. is_entry_at level x ≡ true in subst P (sym o.1) (level-at level o.0 o.2)

pub not-own : (v : View) (level : Level) → is_entry_at level v.height ≡ false → ¬ IsOwnLevel v level
not-own v level e = λ o. let t = level-own v level o in absurd cc

pub own-not : (v : View) (level : Level) → ¬ IsOwnLevel v level → is_entry_at level v.height ≡ false
own-not v level n = at (is_entry_at level v.height) refl
  where
    at : (b : Bool) → is_entry_at level v.height ≡ b → b ≡ false
    at true e = absurd (n (own-level v level e))
    at false e = refl

pub told-is : (v : View) (k : ℕ) → IsTold v k → is_told k v.rows ≡ true
told-is v k told =
    let row : Row = told.0 in
    let n : row.neighbour ≡ k = told.2 in
    let t : row.told ≡ true = told.3 in
    true-list_any (λ (row : Row). (row.neighbour == k) && row.told) v.rows row (among-Contains v.rows row told.1) (both (row.neighbour == k) row.told (is-same row.neighbour k n) t)
  where
    both : (a b : Bool) → a ≡ true → b ≡ true → (a && b) ≡ true
    both true true e f = refl
    both true false e f = absurd cc
    both false b e f = absurd cc

pub is-told : (v : View) (k : ℕ) → is_told k v.rows ≡ true → IsTold v k
is-told v k e =
    let r = list_any-true (λ (row : Row). (row.neighbour == k) && row.told) v.rows e in
    let row : Row = r.0 in
    let b = both (row.neighbour == k) row.told r.2 in
    (row, Contains-among v.rows row r.1, same row.neighbour b.0, b.1)
  where
    both : (a b : Bool) → (a && b) ≡ true → (a ≡ true) × (b ≡ true)
    both true true e = (refl, refl)
    both true false e = absurd cc
    both false b e = absurd cc

    same : (m : ℕ) → (m == k) ≡ true → m ≡ k
    same m e = grind (arith, nat_tests)

pub told-not : (v : View) (k : ℕ) → ¬ IsTold v k → is_told k v.rows ≡ false
told-not v k n = at (is_told k v.rows) refl
  where
    at : (b : Bool) → is_told k v.rows ≡ b → b ≡ false
    at true e = absurd (n (is-told v k e))
    at false e = refl
