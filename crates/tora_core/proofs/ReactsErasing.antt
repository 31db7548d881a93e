-- The relation and the rules agree about erased levels.
use Rattle.std.proofs.Common.{◌≡◌, refl, ap, sym, subst, ◌∙◌, ℕ, Bool, true, false, Option, Some, None}
use Rattle.tora_height.specs.declared.level.Level.{Level}
use Rattle.tora_height.specs.Height.{Quintuple, level_of}
use Rattle.tora_core.specs.declared.erasure.Erasure.{Erasure}
use Rattle.tora_core.specs.declared.erasure.Erasure.TheVariants.{Plain, Remembered}
use Rattle.tora_core.specs.View.{View}
use Rattle.tora_core.specs.Rules.{cleared_level, erased_after, hearing_clear, is_outdated, is_outdated_by, rows_behind_clear}
use Rattle.tora_core.specs.Reacts.{HearsClear, IsOutdated, Keeps, heard_plain, heard_remembered, kept_plain, kept_remembered}
use Rattle.tora_core.proofs.ReactsWords.{at-level, level-at}

pub keeps-some : (v : View) (level : Level) → Keeps v level (erased_after v.erasure v.erased level)
keeps-some v level = at v.erasure refl
  where
    at : (x : Erasure) → v.erasure ≡ x → Keeps v level (erased_after x v.erased level)
    at Plain is = kept_plain is
    at Remembered is = kept_remembered is

-- a clear can erase every reflected level
pub is-cleared : (level : Level) → level.r ≡ 1 → level ≡ cleared_level level.tau level.oid
is-cleared level one = let P : ℕ → Level = λ r. record { tau = level.tau; oid = level.oid; r = r } in ap P one

pub keeps-reflected : (v : View) (level : Level) → level.r ≡ 1 → Keeps v level (erased_after v.erasure v.erased (cleared_level level.tau level.oid))
keeps-reflected v level one =
    subst (λ (l : Level). Keeps v l (erased_after v.erasure v.erased (cleared_level level.tau level.oid))) (sym (is-cleared level one)) (keeps-some v (cleared_level level.tau level.oid))

pub keeps-only : (v : View) (level : Level) {kept : Option Level} → Keeps v level kept → kept ≡ erased_after v.erasure v.erased level
keeps-only v level (kept_plain is) = ap (λ (x : Erasure). erased_after x v.erased level) (sym is)
keeps-only v level (kept_remembered is) = ap (λ (x : Erasure). erased_after x v.erased level) (sym is)

-- the view after a clear, at a node with this choice
abbrev heard_as : Erasure → View → ℕ → Level → View
heard_as x v k level = record v { rows = rows_behind_clear x v.destination k v.rows; erased = erased_after x v.erased level }

pub hears-some : (v : View) (k : ℕ) (level : Level) → HearsClear v k level (hearing_clear v k level)
hears-some v k level = at v.erasure refl
  where
    at : (x : Erasure) → v.erasure ≡ x → HearsClear v k level (heard_as x v k level)
    at Plain is = heard_plain is
    at Remembered is = heard_remembered is

pub hears-only : (v : View) (k : ℕ) (level : Level) {u : View} → HearsClear v k level u → u ≡ hearing_clear v k level
hears-only v k level (heard_plain is) = ap (λ (x : Erasure). heard_as x v k level) (sym is)
hears-only v k level (heard_remembered is) = ap (λ (x : Erasure). heard_as x v k level) (sym is)

pub outdated-is : (v : View) (h : Quintuple) → is_outdated v h ≡ true → IsOutdated v h
outdated-is v h t = at v.erasure v.erased refl refl t
  where
    at : (x : Erasure) (o : Option Level) → v.erasure ≡ x → v.erased ≡ o → is_outdated_by x o h ≡ true → IsOutdated v h
    at Plain o x is s = absurd cc
    at Remembered None x is s = absurd cc
    at Remembered (Some level) x is s = (x, is ∙ ap Some (sym (at-level level h s)))

pub is-outdated : (v : View) (h : Quintuple) → IsOutdated v h → is_outdated v h ≡ true
is-outdated v h old =
    ap (λ (x : Erasure). is_outdated_by x v.erased h) old.0 ∙ ap (λ (o : Option Level). is_outdated_by Remembered o h) old.1 ∙ level-at (level_of h) h refl

pub outdated-not : (v : View) (h : Quintuple) → is_outdated v h ≡ false → ¬ IsOutdated v h
outdated-not v h f old = let t = is-outdated v h old in absurd cc

pub not-outdated : (v : View) (h : Quintuple) → ¬ IsOutdated v h → is_outdated v h ≡ false
not-outdated v h fresh = at (is_outdated v h) refl
  where
    at : (b : Bool) → is_outdated v h ≡ b → b ≡ false
    at true t = absurd (fresh (outdated-is v h t))
    at false t = refl
