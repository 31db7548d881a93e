-- Rows after each change, and the least and the greatest of the neighbours' heights.
use Rattle.std.proofs.Common.{◌≡◌, ◌≢◌, refl, ℕ, ◌+◌, ◌<◌, ◌≤◌, max, Bool, true, false, ◌||◌, arith, ap, subst, ◌∙◌, List, [], ◌∷◌, map, Option, Some, None, nat_lt}
use Rattle.std.specs.Prelude.{IfSome, filter, fold}
use Rattle.std.specs.List.{AllByRecursion, list_any, cons_option}
use Rattle.std.proofs.lemmas.Bool.{cond_both}
use Rattle.std.proofs.lemmas.Bool.Decides.{nat_tests}
use Rattle.std.specs.Ordering.{is_lt}
use Rattle.tora_height.specs.declared.level.Level.{Level}
use Rattle.tora_height.specs.Height.{Quintuple, level_of}
use Rattle.tora_height.specs.HeightOrder.{level_cmp, height_cmp}
use Rattle.tora_core.specs.declared.rows.Row.{Row}
use Rattle.tora_core.specs.View.{heights_of, with_row, all_told, is_downstream, lower_of, least_height, higher_level_of, greatest_level}
use Rattle.tora_core.specs.Heights.{time_after_all}
use Rattle.tora_core.specs.Kept.{AreAscending}
use Rattle.tora_core.proofs.Order.{level-itself, level-chain}

-- ---- all elements

pub all-weaker : {X : Type 0} (P Q : X → Type 0) → ((x : X) → P x → Q x) → (xs : List X) → AllByRecursion P xs → AllByRecursion Q xs
all-weaker P Q f [] h = tt
all-weaker P Q f (x ∷ xs) h = (f x h.0, all-weaker P Q f xs h.1)

pub all-map : {X Y : Type 0} (P : X → Type 0) (Q : Y → Type 0) (f : X → Y) → ((x : X) → P x → Q (f x)) → (xs : List X) → AllByRecursion P xs → AllByRecursion Q (map f xs)
all-map P Q f h [] all = tt
all-map P Q f h (x ∷ xs) all = (h x all.0, all-map P Q f h xs all.1)

pub all-filter : {X : Type 0} (P : X → Type 0) (test : X → Bool) (xs : List X) → AllByRecursion P xs → AllByRecursion P (filter test xs)
all-filter P test [] all = tt
all-filter P test (x ∷ xs) all =
    let rest = all-filter P test xs all.1 in
    cond_both (test x) (x ∷ filter test xs) (filter test xs) (AllByRecursion P) (λ _. (all.0, rest)) (λ _. rest)

pub all-with_row : (P : Row → Type 0) (new : Row) (rows : List Row) → P new → AllByRecursion P rows → AllByRecursion P (with_row new rows)
all-with_row P new [] p all = (p, tt)
all-with_row P new (row ∷ rows) p all =
    cond_both (nat_lt new.neighbour row.neighbour) (new ∷ row ∷ rows) (row ∷ with_row new rows) (AllByRecursion P)
    (λ _. (p, all)) (λ _. (all.0, all-with_row P new rows p all.1))

-- ---- ascending rows

pub ascending-map : (f : Row → Row) → ((row : Row) → (f row).neighbour ≡ row.neighbour) → (rows : List Row) → AreAscending rows → AreAscending (map f rows)
ascending-map f same [] h = tt
ascending-map f same (row ∷ rows) h =
    (all-map (λ (other : Row). row.neighbour < other.neighbour) (λ (other : Row). (f row).neighbour < other.neighbour) f (λ other (lt : row.neighbour < other.neighbour). let e = same row in let g = same other in omega arith) rows h.0, ascending-map f same rows h.1)

pub ascending-filter : (test : Row → Bool) (rows : List Row) → AreAscending rows → AreAscending (filter test rows)
ascending-filter test [] h = tt
ascending-filter test (row ∷ rows) h =
    let rest = ascending-filter test rows h.1 in
    cond_both (test row) (row ∷ filter test rows) (filter test rows) AreAscending (λ _. (all-filter (λ (other : Row). row.neighbour < other.neighbour) test rows h.0, rest)) (λ _. rest)

pub ascending-with_row : (new : Row) (rows : List Row) → AllByRecursion (λ (row : Row). row.neighbour ≢ new.neighbour) rows → AreAscending rows → AreAscending (with_row new rows)
ascending-with_row new [] apart h = (tt, tt)
ascending-with_row new (row ∷ rows) apart h =
    cond_both (nat_lt new.neighbour row.neighbour) (new ∷ row ∷ rows) (row ∷ with_row new rows) AreAscending
    (λ (e : nat_lt new.neighbour row.neighbour ≡ true).
    let below : new.neighbour < row.neighbour = grind (arith, nat_tests) in
    ((below, all-weaker (λ (other : Row). row.neighbour < other.neighbour) (λ (other : Row). new.neighbour < other.neighbour) (λ (other : Row) (lt : row.neighbour < other.neighbour). omega arith) rows h.0), h))
    (λ (e : nat_lt new.neighbour row.neighbour ≡ false).
    let ne = apart.0 in
    let above : row.neighbour < new.neighbour = grind (arith, nat_tests) in
    (all-with_row (λ (other : Row). row.neighbour < other.neighbour) new rows above h.0, ascending-with_row new rows apart.1 h.1))

-- ---- the neighbours' heights

pub heights_of-told : (rows : List Row) → heights_of (all_told rows) ≡ heights_of rows
heights_of-told [] = refl
heights_of-told (row ∷ rows) = ap (cons_option row.entry) (heights_of-told rows)

all-cons_option : (P : Quintuple → Type 0) (o : Option Quintuple) (hs : List Quintuple) → IfSome o P → AllByRecursion P hs → AllByRecursion P (cons_option o hs)
all-cons_option P None hs p all = all
all-cons_option P (Some h) hs p all = (p, all)

pub all-heights_of : (P : Quintuple → Type 0) (rows : List Row) → AllByRecursion (λ (row : Row). IfSome row.entry P) rows → AllByRecursion P (heights_of rows)
all-heights_of P [] all = tt
all-heights_of P (row ∷ rows) all = all-cons_option P row.entry (heights_of rows) all.0 (all-heights_of P rows all.1)

down-cons : (own o : Option Quintuple) (hs : List Quintuple) (b : Bool) → b ≡ list_any (λ h. is_downstream own (Some h)) hs → (is_downstream own o || b) ≡ list_any (λ h. is_downstream own (Some h)) (cons_option o hs)
down-cons own None hs b e = e
down-cons own (Some h) hs b e = ap (λ c. is_downstream own (Some h) || c) e

-- whether some link is downstream depends only on the heights
pub down-heights_of : (own : Option Quintuple) (rows : List Row) → list_any (λ row. is_downstream own row.entry) rows ≡ list_any (λ h. is_downstream own (Some h)) (heights_of rows)
down-heights_of own [] = refl
down-heights_of own (row ∷ rows) = down-cons own row.entry (heights_of rows) (list_any (λ row. is_downstream own row.entry) rows) (down-heights_of own rows)

-- ---- the least

or_first : (a b c : Bool) → (a || c) ≡ true → (a || (b || c)) ≡ true
or_first true b c h = refl
or_first false true c h = refl
or_first false false c h = h

or_later : (a b c : Bool) → (b || c) ≡ true → (a || (b || c)) ≡ true
or_later true b c h = refl
or_later false b c h = h

or_right : (a b : Bool) → b ≡ true → (a || b) ≡ true
or_right true b h = refl
or_right false b h = h

or_self : (a : Bool) → a ≡ true → (a || false) ≡ true
or_self true h = refl
or_self false h = h

least_height-from : (p : Quintuple → Bool) (a : Quintuple) (hs : List Quintuple) (m : Quintuple) → fold lower_of (Some a) hs ≡ Some m → p m ≡ true → (p a || list_any p hs) ≡ true
least_height-from p a [] m e q = let same : a ≡ m = cc in or_self (p a) (ap p same ∙ q)
least_height-from p a (h ∷ hs) m e q =
    let P : Option Quintuple → Type 0 = λ o. fold lower_of o hs ≡ Some m → (p a || (p h || list_any p hs)) ≡ true in
    cond_both (is_lt (height_cmp h a)) (Some h) (Some a) P
    (λ _ f. or_later (p a) (p h) (list_any p hs) (least_height-from p h hs m f q))
    (λ _ f. or_first (p a) (p h) (list_any p hs) (least_height-from p a hs m f q)) e

-- a test that the least height passes is passed by some height
pub least_height-any : (p : Quintuple → Bool) (hs : List Quintuple) (m : Quintuple) → least_height hs ≡ Some m → p m ≡ true → list_any p hs ≡ true
least_height-any p [] m e q = cc
least_height-any p (h ∷ hs) m e q = least_height-from p h hs m e q

least_height-from_all : (P : Quintuple → Type 0) (a : Quintuple) (hs : List Quintuple) (m : Quintuple) → P a → AllByRecursion P hs → fold lower_of (Some a) hs ≡ Some m → P m
least_height-from_all P a [] m pa all e = let same : a ≡ m = cc in subst P same pa
least_height-from_all P a (h ∷ hs) m pa all e =
    let Q : Option Quintuple → Type 0 = λ o. fold lower_of o hs ≡ Some m → P m in
    cond_both (is_lt (height_cmp h a)) (Some h) (Some a) Q
    (λ _ f. least_height-from_all P h hs m all.0 all.1 f) (λ _ f. least_height-from_all P a hs m pa all.1 f) e

-- a property of all heights holds for the least
pub least_height-all : (P : Quintuple → Type 0) (hs : List Quintuple) (m : Quintuple) → AllByRecursion P hs → least_height hs ≡ Some m → P m
least_height-all P [] m all e = absurd cc
least_height-all P (h ∷ hs) m all e = least_height-from_all P h hs m all.0 all.1 e

-- ---- the greatest level

abbrev pub NotAbove : Level → Quintuple → Type 0
NotAbove m h = is_lt (level_cmp m (level_of h)) ≡ false

greatest-from : (a : Level) (hs : List Quintuple) (m : Level) → fold higher_level_of (Some a) hs ≡ Some m → (is_lt (level_cmp m a) ≡ false) × AllByRecursion (NotAbove m) hs
greatest-from a [] m e = let same : a ≡ m = cc in (let P : Level → Type 0 = λ l. is_lt (level_cmp l a) ≡ false in subst P same (level-itself a), tt)
greatest-from a (h ∷ hs) m e =
    let Q : Option Level → Type 0 = λ o. fold higher_level_of o hs ≡ Some m → (is_lt (level_cmp m a) ≡ false) × AllByRecursion (NotAbove m) (h ∷ hs) in
    cond_both (is_lt (level_cmp a (level_of h))) (Some (level_of h)) (Some a) Q
    (λ up f. let r = greatest-from (level_of h) hs m f in (level-chain a (level_of h) m up r.0, (r.0, r.1)))
    (λ not_up f. let r = greatest-from a hs m f in (r.0, (level-chain-down a (level_of h) m not_up r.0, r.1))) e
  where
    level-chain-down : (a b m : Level) → is_lt (level_cmp a b) ≡ false → is_lt (level_cmp m a) ≡ false → is_lt (level_cmp m b) ≡ false
    level-chain-down a b m x y = grind (arith, nat_tests)

pub greatest-all : (hs : List Quintuple) (m : Level) → greatest_level hs ≡ Some m → AllByRecursion (NotAbove m) hs
greatest-all [] m e = absurd cc
greatest-all (h ∷ hs) m e = greatest-from (level_of h) hs m e

reached-from : (P : Level → Type 0) (a : Level) (hs : List Quintuple) (m : Level) → P a → AllByRecursion (λ h. P (level_of h)) hs → fold higher_level_of (Some a) hs ≡ Some m → P m
reached-from P a [] m pa all e = let same : a ≡ m = cc in subst P same pa
reached-from P a (h ∷ hs) m pa all e =
    let Q : Option Level → Type 0 = λ o. fold higher_level_of o hs ≡ Some m → P m in
    cond_both (is_lt (level_cmp a (level_of h))) (Some (level_of h)) (Some a) Q
    (λ _ f. reached-from P (level_of h) hs m all.0 all.1 f) (λ _ f. reached-from P a hs m pa all.1 f) e

-- a property of all levels holds for the greatest
pub greatest-reached : (P : Level → Type 0) (hs : List Quintuple) (m : Level) → AllByRecursion (λ h. P (level_of h)) hs → greatest_level hs ≡ Some m → P m
greatest-reached P [] m all e = absurd cc
greatest-reached P (h ∷ hs) m all e = reached-from P (level_of h) hs m all.0 all.1 e

-- ---- times

times-grow : (hs : List Quintuple) (t : ℕ) → t ≤ fold (λ time height. max time (height.tau + 1)) t hs
times-grow [] t = omega arith
times-grow (h ∷ hs) t = omega (arith, times-grow hs (max t (h.tau + 1)))

pub time-first : (h : Quintuple) (hs : List Quintuple) → h.tau < time_after_all (h ∷ hs)
time-first h hs = omega (arith, times-grow hs (max 0 (h.tau + 1)))
