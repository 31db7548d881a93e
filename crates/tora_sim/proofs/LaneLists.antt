-- The two lists of a lane, one after the other.
use Rattle.std.proofs.Common.{◌≡◌, ℕ, suc, ◌+◌, ◌<◌, subst, List, [], ◌∷◌, ◌++◌, length, drop, slice_get, sym, ap, ◌∙◌, arith, length-append, nat_lt}
use Rattle.std.proofs.lemmas.Bool.Decides.{nat_tests}
use Rattle.tora_arq.specs.declared.life.Life.{Life}
use Rattle.tora_seat.specs.declared.cargo.Cargo.{Cargo}
use Rattle.tora_world.specs.Lists.{packets_of, parcels_in}
use Rattle.tora_sim.specs.Lane.{CargoesView, LaneView, lane_of}
use Rattle.tora_world.proofs.EndViews.{parcels-append}
use Rattle.tora_world.proofs.PacketLists.{of-append}

zero_more : (i : ℕ) → 0 + i ≡ i
zero_more i = omega arith

suc_more : (m i : ℕ) → suc m + i ≡ suc (m + i)
suc_more m i = omega arith

-- an index after the first list is an index in the second
pub get_behind : {A : Type 0} (xs ys : List A) (i : ℕ) → slice_get (xs ++ ys) (length xs + i) ≡ slice_get ys i
get_behind [] ys i = ap (slice_get ys) (zero_more i)
get_behind (x ∷ xs) ys i = ap (slice_get (x ∷ (xs ++ ys))) (suc_more (length xs) i) ∙ get_behind xs ys i

pub drop_behind : {A : Type 0} (xs ys : List A) (i : ℕ) → drop (length xs + i) (xs ++ ys) ≡ drop i ys
drop_behind [] ys i = ap (λ n. drop n ys) (zero_more i)
drop_behind (x ∷ xs) ys i = ap (λ n. drop n (x ∷ (xs ++ ys))) (suc_more (length xs) i) ∙ drop_behind xs ys i

shifted : (m i n : ℕ) → nat_lt (m + i) (m + n) ≡ nat_lt i n
shifted m i n = grind (arith, nat_tests)

-- an index is within the second list exactly if, after the first list, it is within both
pub within_both : {A : Type 0} (xs ys : List A) (i : ℕ) → nat_lt (length xs + i) (length (xs ++ ys)) ≡ nat_lt i (length ys)
within_both xs ys i = ap (nat_lt (length xs + i)) (length-append xs ys) ∙ shifted (length xs) i (length ys)

pub packets_both : (life : Life) (past cargoes : List Cargo) → packets_of life (parcels_in past) ++ packets_of life (parcels_in cargoes) ≡ packets_of life (parcels_in (past ++ cargoes))
packets_both life past cargoes = sym (ap (packets_of life) (parcels-append past cargoes) ∙ of-append life (parcels_in past) (parcels_in cargoes))

-- the first waiting cargo is in the second list
pub waits : (l : LaneView) (past : List Cargo) (cargoes : CargoesView) (taken : ℕ) → lane_of past cargoes taken ≡ l → l.pulled < length l.put → taken < length cargoes.items
waits l past cargoes taken is h =
    let w : length past + taken < length (past ++ cargoes.items) = subst (λ (v : LaneView). v.pulled < length v.put) (sym is) h in
    omega (arith, w, length-append past cargoes.items)
