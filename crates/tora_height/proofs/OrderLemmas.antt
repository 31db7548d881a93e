-- The orders of heights and levels, part by part.
use Rattle.std.proofs.Common.{◌≡◌, ◌⊎◌, ◌<◌, ◌<ℤ◌, ℕ, refl, subst, sym, ◌∙◌, arith, inl, inr, Less, Equal, Greater, Ordering}
use Rattle.std.proofs.lemmas.Bool.Decides.{nat_tests}
use Rattle.std.proofs.lemmas.Int.{ints}
use Rattle.std.specs.Cmp.{IsTotalOrder}
use Rattle.std.proofs.lemmas.Cmp.{on_total, then_total, nat_cmp_total, int_cmp_total}
use Rattle.std.specs.Ordering.{nat_cmp, int_cmp, ordering_then}
use Rattle.tora_height.specs.declared.level.Level.{Level}
use Rattle.tora_height.specs.Height.{Quintuple, level_of}
use Rattle.tora_height.specs.HeightOrder.{IsLower, IsLowerLevel, level_cmp, height_cmp}

pub level_cmp_total : IsTotalOrder level_cmp
level_cmp_total = then_total (on_total (λ (l : Level). l.tau) nat_cmp_total) (then_total (on_total (λ (l : Level). l.oid) nat_cmp_total) (on_total (λ (l : Level). l.r) nat_cmp_total))

pub height_cmp_total : IsTotalOrder height_cmp
height_cmp_total =
    then_total (on_total (λ (h : Quintuple). h.tau) nat_cmp_total)
    (then_total (on_total (λ (h : Quintuple). h.oid) nat_cmp_total)
    (then_total (on_total (λ (h : Quintuple). h.r) nat_cmp_total)
    (then_total (on_total (λ (h : Quintuple). h.delta) int_cmp_total) (on_total (λ (h : Quintuple). h.id) nat_cmp_total))))

abbrev level : ℕ → ℕ → ℕ → Level
level tau oid r = record { tau = tau; oid = oid; r = r }

same_parts : (t u o p q r : ℕ) → t ≡ u → o ≡ p → q ≡ r → level t o q ≡ level u p r
same_parts t u o p q r e f g = rw (e, f, g) refl

-- two levels that compare as equal are equal
pub level_cmp-Equal : (a b : Level) → level_cmp a b ≡ Equal → a ≡ b
level_cmp-Equal a b h =
    let tau : a.tau ≡ b.tau = grind (arith, nat_tests) in
    let oid : a.oid ≡ b.oid = grind (arith, nat_tests) in
    let r : a.r ≡ b.r = grind (arith, nat_tests) in
    same_parts a.tau b.tau a.oid b.oid a.r b.r tau oid r

-- the first part that differs decides
pub lower_level-cmp : (a b : Level) → level_cmp a b ≡ Less → IsLowerLevel a b
lower_level-cmp a b h = grind (arith, nat_tests)

pub cmp-lower_level : (a b : Level) → IsLowerLevel a b → level_cmp a b ≡ Less
cmp-lower_level a b h = grind (arith, nat_tests)

-- heights are ordered by level first, and then within the level
height_cmp-level_cmp : (a b : Quintuple) → height_cmp a b ≡ ordering_then (level_cmp (level_of a) (level_of b)) (ordering_then (int_cmp a.delta b.delta) (nat_cmp a.id b.id))
height_cmp-level_cmp a b = at (nat_cmp a.tau b.tau) (nat_cmp a.oid b.oid) (nat_cmp a.r b.r) (ordering_then (int_cmp a.delta b.delta) (nat_cmp a.id b.id))
  where
    at : (t o r rest : Ordering) → ordering_then t (ordering_then o (ordering_then r rest)) ≡ ordering_then (ordering_then t (ordering_then o r)) rest
    at Less o r rest = refl
    at Greater o r rest = refl
    at Equal Less r rest = refl
    at Equal Greater r rest = refl
    at Equal Equal r rest = refl

lower_within : (a b : Quintuple) → ordering_then (int_cmp a.delta b.delta) (nat_cmp a.id b.id) ≡ Less → (a.delta <ℤ b.delta) ⊎ ((a.delta ≡ b.delta) × (a.id < b.id))
lower_within a b h = grind (arith, nat_tests, ints)

within_lower : (a b : Quintuple) → (a.delta <ℤ b.delta) ⊎ ((a.delta ≡ b.delta) × (a.id < b.id)) → ordering_then (int_cmp a.delta b.delta) (nat_cmp a.id b.id) ≡ Less
within_lower a b (inl h) = grind (arith, nat_tests, ints)
within_lower a b (inr h) = let e = h.0 in let l = h.1 in grind (arith, nat_tests, ints)

level_cmp-same : (a : Level) → level_cmp a a ≡ Equal
level_cmp-same a = grind (arith, nat_tests)

lower_by : (a b : Quintuple) (o : Ordering) → level_cmp (level_of a) (level_of b) ≡ o → ordering_then o (ordering_then (int_cmp a.delta b.delta) (nat_cmp a.id b.id)) ≡ Less → IsLower a b
lower_by a b Less e h = inl (lower_level-cmp (level_of a) (level_of b) e)
lower_by a b Greater e h = absurd cc
lower_by a b Equal e h = within (lower_within a b h)
  where
    within : (a.delta <ℤ b.delta) ⊎ ((a.delta ≡ b.delta) × (a.id < b.id)) → IsLower a b
    within (inl d) = inr (inl (level_cmp-Equal (level_of a) (level_of b) e, d))
    within (inr d) = inr (inr (level_cmp-Equal (level_of a) (level_of b) e, d.0, d.1))

pub lower-height_cmp : (a b : Quintuple) → height_cmp a b ≡ Less → IsLower a b
lower-height_cmp a b h = lower_by a b (level_cmp (level_of a) (level_of b)) refl (sym (height_cmp-level_cmp a b) ∙ h)

after_level : (a b : Quintuple) → level_of a ≡ level_of b → (a.delta <ℤ b.delta) ⊎ ((a.delta ≡ b.delta) × (a.id < b.id)) → height_cmp a b ≡ Less
after_level a b e h =
    let same : level_cmp (level_of a) (level_of b) ≡ Equal =
    let P : Level → Type 0 = λ l. level_cmp (level_of a) l ≡ Equal in subst P e (level_cmp-same (level_of a)) in
    height_cmp-level_cmp a b ∙ rw (same, within_lower a b h) refl

pub height_cmp-lower : (a b : Quintuple) → IsLower a b → height_cmp a b ≡ Less
height_cmp-lower a b (inl l) = let less = cmp-lower_level (level_of a) (level_of b) l in height_cmp-level_cmp a b ∙ rw less refl
height_cmp-lower a b (inr (inl h)) = after_level a b h.0 (inl h.1)
height_cmp-lower a b (inr (inr h)) = after_level a b h.0 (inr (h.1, h.2))
