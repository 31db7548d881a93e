-- When one height is below another.
use Rattle.std.proofs.Common.{◌≡◌, ℕ, ◌<◌, true, false, ℤ, ◌<ℤ◌, arith}
use Rattle.std.proofs.lemmas.Bool.Decides.{nat_tests}
use Rattle.std.proofs.lemmas.Int.{ints}
use Rattle.std.specs.Ordering.{is_lt, is_eq, nat_cmp, int_cmp}
use Rattle.std.specs.declared.cmp.Ordering.TheVariants.{Less, Equal}
use Rattle.tora_height.specs.declared.level.Level.{Level}
use Rattle.tora_height.specs.Height.{Quintuple, level_of}
use Rattle.tora_height.specs.HeightOrder.{level_cmp, height_cmp}

pub lt-tau : (a b : Quintuple) → a.tau < b.tau → is_lt (height_cmp a b) ≡ true
lt-tau a b h = grind (arith, nat_tests)

pub nat_cmp-same : (a : ℕ) → nat_cmp a a ≡ Equal
nat_cmp-same a = grind (arith, nat_tests)

pub int_cmp-below : (a b : ℤ) → a <ℤ b → int_cmp a b ≡ Less
int_cmp-below a b h = grind (arith, ints)

-- a height at a lower level is lower, whatever the deltas are
pub lt-level : (a b : Quintuple) → is_lt (level_cmp (level_of a) (level_of b)) ≡ true → is_lt (height_cmp a b) ≡ true
lt-level a b h = grind (arith, nat_tests)

-- at the same level, a height with a lower delta is lower
pub lt-delta : (a b : Quintuple) → is_eq (level_cmp (level_of a) (level_of b)) ≡ true → a.delta <ℤ b.delta → is_lt (height_cmp a b) ≡ true
lt-delta a b same h = let e = int_cmp-below a.delta b.delta h in grind (arith, nat_tests)

-- levels that compare as equal have the same parts
pub same-level : (a b : Level) → is_eq (level_cmp a b) ≡ true → (a.tau ≡ b.tau) × (a.oid ≡ b.oid) × (a.r ≡ b.r)
same-level a b h = (grind (arith, nat_tests), grind (arith, nat_tests), grind (arith, nat_tests))

-- a level that is neither above nor equal is below
pub level-below : (a b : Level) → is_lt (level_cmp b a) ≡ false → is_eq (level_cmp a b) ≡ false → is_lt (level_cmp a b) ≡ true
level-below a b above same = grind (arith, nat_tests)

-- a level that is not below a second one, which is above a third one, is not below the third one
pub level-chain : (a b m : Level) → is_lt (level_cmp a b) ≡ true → is_lt (level_cmp m b) ≡ false → is_lt (level_cmp m a) ≡ false
level-chain a b m up not_below = grind (arith, nat_tests)

pub level-itself : (a : Level) → is_lt (level_cmp a a) ≡ false
level-itself a = grind (arith, nat_tests)
