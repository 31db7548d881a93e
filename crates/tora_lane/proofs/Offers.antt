-- Offers of outbound messages to the queues to the neighbours.
use Rattle.std.proofs.Common.{◌≡◌, ◌≢◌, ◌⊎◌, ℕ, zero, suc, ◌+◌, ◌<◌, ◌≤◌, ◌==◌, ◌&&◌, cond, Bool, true, false, List, [], ◌∷◌, ◌++◌, length, Some, refl, sym, ap, ◌∙◌, subst, ⊎_elim, arith, get_or}
use Rattle.std.specs.Prelude.{slice_get, slice_set, if◌then◌else◌}
use Rattle.std.proofs.lemmas.List.{append-nil, set-get_or, length-set}
use Rattle.std.proofs.Common.{append_assoc}
use Rattle.std.proofs.lemmas.Option.{slice_get_read, slice_get_within}
use Rattle.std.proofs.lemmas.Bool.Decides.{eqb_tells}
use Rattle.tora_seat.specs.declared.cargo.Cargo.{Cargo}
use Rattle.tora_seat.specs.Serving.{Offer, put_to}
use Rattle.tora_seat.specs.Offers.{AreOffered, place_of}
use Rattle.tora_lane.specs.declared.limits.TheConstants.{OUT_LANE_ROOM}
use Rattle.tora_lane.specs.Out.{SendEnd, with_sent}
use Rattle.tora_lane.specs.Offering.{DidOffer, sent_by, sent_at, OffersAreSent}

-- a message that is returned changes nothing
pub handed_back : (ends : List SendEnd) (place : ℕ) (end new : SendEnd) (cargo : Cargo) → place < length ends → end ≡ get_or ends place end → new ≡ end → (length end.sent < OUT_LANE_ROOM → ⊥)
    → DidOffer ends place cargo false (slice_set ends place new)
handed_back ends place end new cargo within is same full = (
  end,
  slice_get_read ends (length ends) place end refl within is,
  omega arith,
  ap (λ e. slice_set ends place e) (same ∙ is) ∙ set-get_or ends place end,
)

-- the element that was written is found at its place
got_here : (ends : List SendEnd) (place : ℕ) (new : SendEnd) → place < length ends → slice_get (slice_set ends place new) place ≡ Some new
got_here [] place new h = absurd (omega arith)
got_here (x ∷ xs) zero new h = refl
got_here (x ∷ xs) (suc place) new h = got_here xs place new (omega arith)

got_else : (ends : List SendEnd) (place other : ℕ) (new : SendEnd) → other ≢ place → slice_get (slice_set ends place new) other ≡ slice_get ends other
got_else [] place other new apart = refl
got_else (x ∷ xs) zero zero new apart = absurd (apart refl)
got_else (x ∷ xs) zero (suc other) new apart = refl
got_else (x ∷ xs) (suc place) zero new apart = refl
got_else (x ∷ xs) (suc place) (suc other) new apart = got_else xs place other new (λ e. apart (ap suc e))

place_here : (n k : ℕ) (ns : List ℕ) → n ≡ k → place_of k (n ∷ ns) ≡ 0
place_here n k ns is = ⊎_elim (λ (t : ((n == k) ≡ true) × (n ≡ k)). ap (λ b. cond b 0 (suc (place_of k ns))) t.0) (λ (t : ((n == k) ≡ false) × (n ≢ k)). absurd (t.1 is)) (eqb_tells n k)

place_else : (n k : ℕ) (ns : List ℕ) → n ≢ k → place_of k (n ∷ ns) ≡ suc (place_of k ns)
place_else n k ns apart = ⊎_elim (λ (t : ((n == k) ≡ true) × (n ≡ k)). absurd (apart t.1)) (λ (t : ((n == k) ≡ false) × (n ≢ k)). ap (λ b. cond b 0 (suc (place_of k ns))) t.0) (eqb_tells n k)

-- neighbours at one place are the same
same_place : (ns : List ℕ) (j k : ℕ) → place_of j ns ≡ place_of k ns → place_of k ns < length ns → j ≡ k
same_place [] j k e h = absurd (omega arith)
same_place (n ∷ ns) j k e h = ⊎_elim
    (λ (a : ((n == j) ≡ true) × (n ≡ j)). ⊎_elim
    (λ (b : ((n == k) ≡ true) × (n ≡ k)). sym a.1 ∙ b.1)
    (λ (b : ((n == k) ≡ false) × (n ≢ k)). let x = place_here n j ns a.1 in let y = place_else n k ns b.1 in absurd (omega arith))
    (eqb_tells n k))
    (λ (a : ((n == j) ≡ false) × (n ≢ j)). ⊎_elim
    (λ (b : ((n == k) ≡ true) × (n ≡ k)). let x = place_else n j ns a.1 in let y = place_here n k ns b.1 in absurd (omega arith))
    (λ (b : ((n == k) ≡ false) × (n ≢ k)). let x = place_else n j ns a.1 in let y = place_else n k ns b.1 in same_place ns j k (omega arith) (omega arith))
    (eqb_tells n k))
    (eqb_tells n j)

and_false : (b : Bool) → (b && false) ≡ false
and_false true = refl
and_false false = refl

-- as many queues as before
same_count : (before after : List SendEnd) (place : ℕ) (cargo : Cargo) (put : Bool) → DidOffer before place cargo put after → length after ≡ length before
same_count before after place cargo false did = ap length did.3
same_count before after place cargo true did = ap length did.3 ∙ length-set before place (with_sent did.0 cargo)

-- what one offer sends
one_offer : (ns : List ℕ) (before after : List SendEnd) (to : ℕ) (cargo : Cargo) (put : Bool) (k : ℕ) → DidOffer before (place_of to ns) cargo put after → length before ≤ length ns → place_of k ns < length ns
    → sent_at after (place_of k ns) ≡ sent_at before (place_of k ns) ++ (if (to == k) && put then cargo ∷ [] else [])
one_offer ns before after to cargo false k did few within =
    ap (λ e. sent_at e (place_of k ns)) did.3 ∙ sym (append-nil (sent_at before (place_of k ns))) ∙ sym (ap (λ b. sent_at before (place_of k ns) ++ (if b then cargo ∷ [] else [])) (and_false (to == k)))
one_offer ns before after to cargo true k did few within =
    let p : ℕ = place_of k ns in
    let q : ℕ = place_of to ns in
    let new : SendEnd = with_sent did.0 cargo in
    let q_within : q < length before = slice_get_within before q did.0 did.1 in
    ⊎_elim
    (λ (t : ((to == k) ≡ true) × (to ≡ k)).
    let there : p ≡ q = ap (λ n. place_of n ns) (sym t.1) in
    ap (λ e. sent_at e p) did.3 ∙ ap (λ n. sent_at (slice_set before q new) n) there ∙ ap sent_by (got_here before q new q_within)
    ∙ ap (λ l. l ++ cargo ∷ []) (sym (ap (λ n. sent_at before n) there ∙ ap sent_by did.1))
    ∙ sym (ap (λ b. sent_at before p ++ (if b && true then cargo ∷ [] else [])) t.0))
    (λ (t : ((to == k) ≡ false) × (to ≢ k)).
    ap (λ e. sent_at e p) did.3 ∙ ap sent_by (got_else before q p new (λ e. t.1 (sym (same_place ns k to e (omega arith)))))
    ∙ sym (append-nil (sent_at before p)) ∙ sym (ap (λ b. sent_at before p ++ (if b && true then cargo ∷ [] else [])) t.0))
    (eqb_tells to k)

-- what all offers send
pub offers_are_sent : OffersAreSent
offers_are_sent ns before after [] h few = (ap length h, λ k within. ap (λ e. sent_at e (place_of k ns)) h ∙ sym (append-nil (sent_at before (place_of k ns))))
offers_are_sent ns before after (o ∷ offers) h few =
    let same : length h.0 ≡ length before = same_count before h.0 (place_of o.to ns) o.cargo o.put h.1 in
    let more = offers_are_sent ns h.0 after offers h.2 (omega arith) in (
      more.0 ∙ same,
      λ k within.
          more.1 k within
          ∙ ap (λ l. l ++ put_to k offers) (one_offer ns before h.0 o.to o.cargo o.put k h.1 few within)
          ∙ append_assoc (sent_at before (place_of k ns)) (if (o.to == k) && o.put then o.cargo ∷ [] else []) (put_to k offers),
    )
