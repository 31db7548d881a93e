-- Memory for the cargoes that are put into a lane.
use Rattle.std.proofs.Common.{◌≡◌, ℕ, ◌+◌, ◌-◌, ◌<◌, ◌≤◌, ◌⊎◌, inl, inr, Bool, true, false, List, length, drop, sym, ap, ◌∙◌, subst, arith, length-drop, nat_lt, nat_eq, eqb-true, if◌then◌else◌}
use Rattle.std.proofs.lemmas.Bool.{cases_Bool}
use Rattle.std.proofs.lemmas.Bool.Decides.{nat_tests}
use Rattle.tora_seat.specs.declared.cargo.Cargo.{Cargo}
use Rattle.tora_seat.specs.declared.TheConstants.{MOST_CARGOES}
use Rattle.tora_sim.specs.declared.store.inline_cargoes.TheConstants.{INLINE_CARGOES}
use Rattle.tora_sim.specs.Lane.{CargoesView, lane_of, has_place_in, room_in, IsWhole, Fits}
use Rattle.tora_sim.proofs.LaneLists.{drop_behind}

-- there is no list, or its room begins after the compressed cargoes
pub room_cases : (past places : ℕ) → ((places ≡ 0) × (room_in past places ≡ 0)) ⊎ ((0 < places) × (room_in past places ≡ past + places))
room_cases past places = go (cases_Bool (nat_eq places 0))
  where
    go : (nat_eq places 0 ≡ true) ⊎ (nat_eq places 0 ≡ false) → ((places ≡ 0) × (room_in past places ≡ 0)) ⊎ ((0 < places) × (room_in past places ≡ past + places))
    go (inl t) = inl (eqb-true places 0 t, ap (λ (b : Bool). if b then 0 else past + places) t)
    go (inr f) = inr (grind (arith, nat_tests, f), ap (λ (b : Bool). if b then 0 else past + places) f)

-- there is a place for one more cargo, inline or in the list
pub push_fits : (past : List Cargo) (cargoes : CargoesView) (taken : ℕ) (pool : List ℕ) (spare : ℕ) → Fits (length past + taken) (room_in (length past) cargoes.places) pool spare → has_place_in (lane_of past cargoes taken) ≡ true
    → ((cargoes.places ≡ 0) × IsWhole pool spare) ⊎ (length cargoes.items < cargoes.places)
push_fits past cargoes taken pool spare fits free = go (room_cases (length past) cargoes.places) fits
  where
    few : length cargoes.items - taken < MOST_CARGOES
    few =
        let waiting : nat_lt (length (drop taken cargoes.items)) MOST_CARGOES ≡ true = ap (λ (cs : List Cargo). nat_lt (length cs) MOST_CARGOES) (sym (drop_behind past cargoes.items taken)) ∙ free in
        let many = length-drop taken cargoes.items in
        grind (arith, nat_tests, waiting, many)

    go : ((cargoes.places ≡ 0) × (room_in (length past) cargoes.places ≡ 0)) ⊎ ((0 < cargoes.places) × (room_in (length past) cargoes.places ≡ length past + cargoes.places)) → Fits (length past + taken) (room_in (length past) cargoes.places) pool spare
        → ((cargoes.places ≡ 0) × IsWhole pool spare) ⊎ (length cargoes.items < cargoes.places)
    go (inl none) (inl inline_items) = inl (none.0, inline_items.1)
    go (inl none) (inr wide) = let is = none.1 in absurd (omega (arith, is, wide))
    go (inr some) (inl inline_items) = let a = some.0 in let b = some.1 in let n = inline_items.0 in absurd (omega (arith, a, b, n))
    go (inr some) (inr wide) = let is = some.1 in let f = few in inr (omega (arith, is, wide, f))

-- after that cargo the lane still fits
pub still_fits : (past : List Cargo) (cargoes after : CargoesView) (taken : ℕ) (pool pool' : List ℕ) (spare : ℕ) → ((after.places ≡ cargoes.places) × (pool' ≡ pool)) ⊎ ((length cargoes.items ≤ INLINE_CARGOES) × (MOST_CARGOES + INLINE_CARGOES ≤ after.places)) → taken ≤ length cargoes.items
    → Fits (length past + taken) (room_in (length past) cargoes.places) pool spare → Fits (length past + taken) (room_in (length past) after.places) pool' spare
still_fits past cargoes after taken pool pool' spare (inl same) within fits =
    subst (λ (n : ℕ). Fits (length past + taken) (room_in (length past) n) pool' spare) (sym same.0) (subst (λ (xs : List ℕ). Fits (length past + taken) (room_in (length past) cargoes.places) xs spare) (sym same.1) fits)
still_fits past cargoes after taken pool pool' spare (inr wider) within fits = go (room_cases (length past) after.places)
  where
    go : ((after.places ≡ 0) × (room_in (length past) after.places ≡ 0)) ⊎ ((0 < after.places) × (room_in (length past) after.places ≡ length past + after.places)) → Fits (length past + taken) (room_in (length past) after.places) pool' spare
    go (inl none) = let n = none.0 in let many = wider.1 in absurd (omega (arith, n, many))
    go (inr some) = let is = some.1 in let few = wider.0 in let many = wider.1 in inr (omega (arith, is, few, many, within))

-- after the cargoes that left the lane were compressed
pub room_made : (past places : ℕ) → (places ≡ 0) ⊎ (MOST_CARGOES ≤ places) → (room_in past places ≡ 0) ⊎ (past + 0 + MOST_CARGOES ≤ room_in past places)
room_made past places (inl none) = inl (ap (room_in past) none)
room_made past places (inr some) = go (room_cases past places)
  where
    go : ((places ≡ 0) × (room_in past places ≡ 0)) ⊎ ((0 < places) × (room_in past places ≡ past + places)) → (room_in past places ≡ 0) ⊎ (past + 0 + MOST_CARGOES ≤ room_in past places)
    go (inl none) = inl none.1
    go (inr more) = let is = more.1 in inr (omega (arith, is, some))
