-- Deadlines of link ends, as ends change.
use Rattle.std.proofs.Common.{◌≡◌, ℕ, zero, suc, ◌+◌, ◌<◌, ◌≤◌, ◌⊎◌, inl, inr, Bool, true, false, true≢false, nat_lt, if◌then◌else◌, List, [], ◌∷◌, ◌++◌, map, length, set, slice_get, Option, Some, None, Result, Ok, Err, refl, sym, ap, ◌∙◌, subst, arith, option_map}
use Rattle.std.specs.Prelude.{replicate, slice_index, slice_index_or}
use Rattle.std.proofs.Math.Nat.{min-le_left}
use Rattle.std.proofs.lemmas.Bool.{cases_Bool, cases_eq, ltb-false, le-ltb}
use Rattle.std.proofs.lemmas.List.{length-append, length-map, length-replicate, length-set, get_or-set_same, get_or-set_other}
use Rattle.std.proofs.lemmas.Option.{none-some, same_Some, slice_get_read, slice_get_within, slice_get-map}
use Rattle.tora_seat.specs.declared.cargo.Cargo.{Cargo}
use Rattle.tora_seat.specs.declared.stepped.Stepped.{Stepped}
use Rattle.tora_seat.specs.Offers.{AreOffered, place_of}
use Rattle.tora_seat.specs.Serving.{Offer}
use Rattle.tora_world.specs.declared.sim_error.SimError.{SimError}
use Rattle.tora_sim.specs.Lanes.{LanesView, after_offer_at, bare, bare_between, AreAlike, DidOffer}
use Rattle.tora_sim.specs.Links.{LinkView, ticked, AreChanged}
use Rattle.tora_sim.specs.Nodes.{NodeView}
use Rattle.tora_sim.specs.Possible.{has_cargo}
use Rattle.tora_sim.specs.Quiet.{IsIdleUntil, IsDeadline, AreDeadlines, AreDeadlinesBut, AreForgotten, IsForgottenWhere, AreForgottenWhere}
use Rattle.tora_sim.specs.Deadlines.{AreLater, short}
use Rattle.tora_sim.specs.Store.{EachOf}
use Rattle.tora_sim.specs.Turns.{IsNoted, Turns}
use Rattle.tora_sim.proofs.Bared.{between_alike}
use Rattle.tora_sim.proofs.FreshEnds.{item_at, below_next}
use Rattle.tora_sim.proofs.Quiets.{earlier, idle_tick}
use Rattle.tora_sim.proofs.Stores.{set_read, map_read}

-- ---- a stored deadline

pub short_idle : (until : ℕ) (link : LinkView) → IsDeadline until link → IsDeadline (short until) link
short_idle until link s some = let le = min-le_left until 4294967295 in earlier until (short until) link le (s (omega (arith, some, le)))

-- ---- at the start

none_at : (n at : ℕ) → slice_index (replicate n 0) at ≡ 0
none_at zero at = refl
none_at (suc n) zero = refl
none_at (suc n) (suc at) = none_at n at

pub none_known : (clock n : ℕ) (deadlines : List ℕ) (links : List LinkView) → deadlines ≡ replicate n 0 → n ≡ length links → AreDeadlines clock deadlines links
none_known clock n deadlines links e many = record {
  as_many = ap length e ∙ length-replicate {A = ℕ} n 0 ∙ many;
  idle = λ at link lt there.
      let nothing : slice_index deadlines at ≡ 0 = ap (λ (xs : List ℕ). slice_index xs at) e ∙ none_at n at in
      absurd (omega (arith, lt, nothing));
}

-- ---- using a deadline

pub idle_now : (clock : ℕ) (deadlines : List ℕ) (links : List LinkView) → AreDeadlines clock deadlines links → (at : ℕ) (link : LinkView) → clock < slice_index deadlines at → slice_get links at ≡ Some link → IsIdleUntil (clock + 1) link
idle_now clock deadlines links h at link lt there = earlier (slice_index deadlines at) (clock + 1) link (omega (arith, lt)) (h.idle at link lt there)

pub all_idle : (now until : ℕ) (deadlines : List ℕ) (links : List LinkView) → AreDeadlines now deadlines links → ((at : ℕ) → at < length deadlines → (now < slice_index deadlines at) × (until ≤ slice_index deadlines at)) → EachOf (IsIdleUntil until) links
all_idle now until deadlines links h all i x there =
    let within = slice_get_within links i x there in
    let many = h.as_many in
    let at = all i (omega (arith, within, many)) in
    earlier (slice_index deadlines i) until x at.1 (h.idle i x at.0 there)

-- the deadline of one more end has not come
pub one_more_later : (now from at here : ℕ) (ends : List ℕ) → here ≡ slice_index ends at → now < here → AreLater now from at ends → AreLater now from (at + 1) ends
one_more_later now from at here ends is less before i le lt within = go (below_next i at lt)
  where
    go : (i < at) ⊎ (i ≡ at) → now < slice_index ends i
    go (inl l) = before i le l within
    go (inr q) = let same : slice_index ends i ≡ here = ap (slice_index ends) q ∙ sym is in omega (arith, same, less)

-- ---- the deadline of one end

pub known_here : (now : ℕ) (deadlines after : List ℕ) (links : List LinkView) (place until : ℕ) (x : LinkView) → after ≡ set deadlines place until → place < length deadlines → slice_get links place ≡ Some x → IsDeadline until x → AreDeadlines now deadlines links → AreDeadlines now after links
known_here now deadlines after links place until x e within there s h = record {
  as_many = ap length e ∙ length-set deadlines place until ∙ h.as_many;
  idle = λ at link lt found. go at link (subst (λ (ys : List ℕ). now < slice_index ys at) e lt) found (cases_eq at place);
}
  where
    value : slice_index (set deadlines place until) place ≡ until
    value = get_or-set_same deadlines place until 0 within

    go : (at : ℕ) (link : LinkView) → now < slice_index (set deadlines place until) at → slice_get links at ≡ Some link → (at ≡ place) ⊎ (at ≡ place → ⊥) → IsIdleUntil (slice_index after at) link
    go at link lt found (inl q) =
        let link_is : x ≡ link = same_Some x link (sym there ∙ ap (slice_get links) (sym q) ∙ found) in
        let until_is : slice_index (set deadlines place until) at ≡ until = ap (slice_index (set deadlines place until)) q ∙ value in
        let some : 0 < until = omega (arith, lt, until_is) in
        subst (λ (z : LinkView). IsIdleUntil (slice_index after at) z) link_is (subst (λ (n : ℕ). IsIdleUntil n x) (sym (ap (λ (ys : List ℕ). slice_index ys at) e ∙ until_is)) (s some))
    go at link lt found (inr off) =
        let old : slice_index (set deadlines place until) at ≡ slice_index deadlines at = get_or-set_other deadlines place at until 0 off in
        subst (λ (n : ℕ). IsIdleUntil n link) (sym (ap (λ (ys : List ℕ). slice_index ys at) e ∙ old)) (h.idle at link (subst (λ (n : ℕ). now < n) old lt) found)

-- ---- the clock advances

pub later_idle : (clock now : ℕ) (deadlines : List ℕ) (links : List LinkView) → clock ≤ now → AreDeadlines clock deadlines links → AreDeadlines now deadlines links
later_idle clock now deadlines links le h = record { as_many = h.as_many; idle = λ at link lt there. h.idle at link (omega (arith, lt, le)) there }

pub ticked_idle : (clock now : ℕ) (deadlines : List ℕ) (links after : List LinkView) → clock ≤ now → after ≡ map (ticked now) links → AreDeadlines clock deadlines links → AreDeadlines now deadlines after
ticked_idle clock now deadlines links after le e h = record {
  as_many = h.as_many ∙ sym (ap length e ∙ length-map links (ticked now));
  idle = λ at link lt there.
      let old = map_read (ticked now) links at link (subst (λ (xs : List LinkView). slice_get xs at ≡ Some link) e there) in
      let s : IsIdleUntil (slice_index deadlines at) old.0 = h.idle at old.0 (omega (arith, lt, le)) old.1 in
      subst (λ (z : LinkView). IsIdleUntil (slice_index deadlines at) z) (sym (idle_tick (slice_index deadlines at) now old.0 lt s) ∙ old.2) s;
}

-- ---- ends that change

-- deadlines hold if an end changes at which something was to be done, since its deadline had come
pub possible_idle : (clock : ℕ) (deadlines : List ℕ) (links : List LinkView) (at : ℕ) (x new : LinkView) → at < length links → x ≡ slice_index_or links at x → ((until : ℕ) → clock < until → IsIdleUntil until x → ⊥) → AreDeadlines clock deadlines links
    → AreDeadlines clock deadlines (set links at new)
possible_idle clock deadlines links at x new within read never h = record { as_many = h.as_many ∙ sym (length-set links at new); idle = λ j y lt there. go j y lt (set_read links at new j y there) }
  where
    go : (j : ℕ) (y : LinkView) → clock < slice_index deadlines j → ((j ≡ at) × (new ≡ y)) ⊎ (slice_get links j ≡ Some y) → IsIdleUntil (slice_index deadlines j) y
    go j y lt (inl p) = absurd (never (slice_index deadlines j) lt (h.idle j x lt (ap (slice_get links) p.0 ∙ slice_get_read links (length links) at x refl within read)))
    go j y lt (inr old) = h.idle j y lt old

-- deadlines hold if an end without a deadline changes
pub unknown_idle : (clock : ℕ) (deadlines : List ℕ) (links : List LinkView) (at : ℕ) (new : LinkView) → slice_index deadlines at ≡ 0 → AreDeadlines clock deadlines links → AreDeadlines clock deadlines (set links at new)
unknown_idle clock deadlines links at new nothing h = record { as_many = h.as_many ∙ sym (length-set links at new); idle = λ j y lt there. go j y lt (set_read links at new j y there) }
  where
    go : (j : ℕ) (y : LinkView) → clock < slice_index deadlines j → ((j ≡ at) × (new ≡ y)) ⊎ (slice_get links j ≡ Some y) → IsIdleUntil (slice_index deadlines j) y
    go j y lt (inl p) = let zero_there : slice_index deadlines j ≡ 0 = ap (slice_index deadlines) p.0 ∙ nothing in absurd (omega (arith, lt, zero_there))
    go j y lt (inr old) = h.idle j y lt old

-- deadlines hold if an end changes and its new deadline is stored
pub found_idle : (clock : ℕ) (deadlines after : List ℕ) (links : List LinkView) (at until : ℕ) (new : LinkView) → at < length links → after ≡ set deadlines at until → IsDeadline until new → AreDeadlines clock deadlines links → AreDeadlines clock after (set links at new)
found_idle clock deadlines after links at until new within e s h = record {
  as_many = ap length e ∙ length-set deadlines at until ∙ h.as_many ∙ sym (length-set links at new);
  idle = λ j y lt there. go j y (subst (λ (ys : List ℕ). clock < slice_index ys j) e lt) there (cases_eq j at);
}
  where
    value : slice_index (set deadlines at until) at ≡ until
    value = let many = h.as_many in get_or-set_same deadlines at until 0 (omega (arith, within, many))

    here : slice_get (set links at new) at ≡ Some new
    here = slice_get_read (set links at new) (length (set links at new)) at new refl (subst (λ (n : ℕ). at < n) (sym (length-set links at new)) within) (sym (get_or-set_same links at new new within))

    old_end : (j : ℕ) (y : LinkView) → clock < slice_index deadlines j → (j ≡ at → ⊥) → ((j ≡ at) × (new ≡ y)) ⊎ (slice_get links j ≡ Some y) → IsIdleUntil (slice_index deadlines j) y
    old_end j y lt off (inl p) = absurd (off p.0)
    old_end j y lt off (inr old) = h.idle j y lt old

    go : (j : ℕ) (y : LinkView) → clock < slice_index (set deadlines at until) j → slice_get (set links at new) j ≡ Some y → (j ≡ at) ⊎ (j ≡ at → ⊥) → IsIdleUntil (slice_index after j) y
    go j y lt there (inl q) =
        let link_is : new ≡ y = same_Some new y (sym here ∙ ap (slice_get (set links at new)) (sym q) ∙ there) in
        let until_is : slice_index (set deadlines at until) j ≡ until = ap (slice_index (set deadlines at until)) q ∙ value in
        let some : 0 < until = omega (arith, lt, until_is) in
        subst (λ (z : LinkView). IsIdleUntil (slice_index after j) z) link_is (subst (λ (n : ℕ). IsIdleUntil n new) (sym (ap (λ (ys : List ℕ). slice_index ys j) e ∙ until_is)) (s some))
    go j y lt there (inr off) =
        let same : slice_index (set deadlines at until) j ≡ slice_index deadlines j = get_or-set_other deadlines at j until 0 off in
        subst (λ (n : ℕ). IsIdleUntil n y) (sym (ap (λ (ys : List ℕ). slice_index ys j) e ∙ same)) (old_end j y (subst (λ (n : ℕ). clock < n) same lt) off (set_read links at new j y there))

-- deadlines hold if all ends stay as still as they were
pub mapped_idle : (clock : ℕ) (deadlines : List ℕ) (links after : List LinkView) (f : LinkView → LinkView) → after ≡ map f links → ((until : ℕ) (x : LinkView) → IsIdleUntil until x → IsIdleUntil until (f x)) → AreDeadlines clock deadlines links → AreDeadlines clock deadlines after
mapped_idle clock deadlines links after f e keeps h = record {
  as_many = h.as_many ∙ sym (ap length e ∙ length-map links f);
  idle = λ at link lt there.
      let old = map_read f links at link (subst (λ (xs : List LinkView). slice_get xs at ≡ Some link) e there) in
      subst (λ (z : LinkView). IsIdleUntil (slice_index deadlines at) z) old.2 (keeps (slice_index deadlines at) old.0 (h.idle at old.0 lt old.1));
}

-- deadlines hold for ends that differ only in their memory
pub alike_idle : (clock : ℕ) (deadlines : List ℕ) (links after : List LinkView) → AreAlike links after → AreDeadlines clock deadlines links → AreDeadlines clock deadlines after
alike_idle clock deadlines links after e h = record {
  as_many = h.as_many ∙ sym (length-map links bare) ∙ sym (ap length e) ∙ length-map after bare;
  idle = λ at link lt there. go at link lt (slice_get links at) refl (sym (slice_get-map bare links at) ∙ ap (λ (xs : List LinkView). slice_get xs at) (sym e) ∙ slice_get-map bare after at ∙ ap (option_map bare) there);
}
  where
    go : (at : ℕ) (link : LinkView) → clock < slice_index deadlines at → (o : Option LinkView) → slice_get links at ≡ o → option_map bare o ≡ Some (bare link) → IsIdleUntil (slice_index deadlines at) link
    go at link lt None read q = absurd (none-some (bare link) q)
    go at link lt (Some x) read q =
        let same : bare x ≡ bare link = same_Some (bare x) (bare link) q in
        let s : IsIdleUntil (slice_index deadlines at) (bare x) = h.idle at x lt read in
        subst (λ (z : LinkView). IsIdleUntil (slice_index deadlines at) z) same s

-- ---- ends of a node without deadlines

pub one_forgotten : (before deadlines : List ℕ) (at : ℕ) → AreForgotten before deadlines at 1 → slice_index deadlines at ≡ 0
one_forgotten before deadlines at f = let here : at + 0 ≡ at = omega arith in subst (λ (n : ℕ). slice_index deadlines n ≡ 0) here (f.here 0 (omega arith))

pub forgotten_idle : (clock : ℕ) (before deadlines : List ℕ) (links : List LinkView) (first count : ℕ) → AreForgotten before deadlines first count → AreDeadlines clock before links → AreDeadlines clock deadlines links
forgotten_idle clock before deadlines links first count f h = record { as_many = f.as_many ∙ h.as_many; idle = λ at link lt there. go at link lt there (f.others at) }
  where
    go : (at : ℕ) (link : LinkView) → clock < slice_index deadlines at → slice_get links at ≡ Some link → (slice_index deadlines at ≡ 0) ⊎ (slice_index deadlines at ≡ slice_index before at) → IsIdleUntil (slice_index deadlines at) link
    go at link lt there (inl nothing) = absurd (omega (arith, lt, nothing))
    go at link lt there (inr same) = subst (λ (n : ℕ). IsIdleUntil n link) (sym same) (h.idle at link (subst (λ (n : ℕ). clock < n) same lt) there)

pub none_forgotten : (deadlines : List ℕ) (first : ℕ) → AreForgotten deadlines deadlines first 0
none_forgotten deadlines first = record { as_many = refl; here = λ place lt. absurd (omega (arith, lt)); others = λ at. inr refl }

pub one_more_forgotten : (before deadlines after : List ℕ) (first place : ℕ) → first + place < length deadlines → after ≡ set deadlines (first + place) 0 → AreForgotten before deadlines first place → AreForgotten before after first (place + 1)
one_more_forgotten before deadlines after first place within e f = record {
  as_many = ap length e ∙ length-set deadlines (first + place) 0 ∙ f.as_many;
  here = λ p lt. ap (λ (ys : List ℕ). slice_index ys (first + p)) e ∙ zero_at p (below_next p place lt);
  others = λ at. subst (λ (n : ℕ). (n ≡ 0) ⊎ (n ≡ slice_index before at)) (sym (ap (λ (ys : List ℕ). slice_index ys at) e)) (other at (cases_eq at (first + place)));
}
  where
    value : slice_index (set deadlines (first + place) 0) (first + place) ≡ 0
    value = get_or-set_same deadlines (first + place) 0 0 within

    zero_at : (p : ℕ) → (p < place) ⊎ (p ≡ place) → slice_index (set deadlines (first + place) 0) (first + p) ≡ 0
    zero_at p (inl less) = get_or-set_other deadlines (first + place) (first + p) 0 0 (λ (q : first + p ≡ first + place). absurd (omega (arith, less, q))) ∙ f.here p less
    zero_at p (inr same) = ap (λ (n : ℕ). slice_index (set deadlines (first + place) 0) (first + n)) same ∙ value

    other : (at : ℕ) → (at ≡ first + place) ⊎ (at ≡ first + place → ⊥) → (slice_index (set deadlines (first + place) 0) at ≡ 0) ⊎ (slice_index (set deadlines (first + place) 0) at ≡ slice_index before at)
    other at (inl q) = inl (ap (slice_index (set deadlines (first + place) 0)) q ∙ value)
    other at (inr off) =
        let old : slice_index (set deadlines (first + place) 0) at ≡ slice_index deadlines at = get_or-set_other deadlines (first + place) at 0 0 off in
        subst (λ (n : ℕ). (n ≡ 0) ⊎ (n ≡ slice_index before at)) (sym old) (f.others at)

-- deadlines hold if the `count` ends from an index on change, which have no deadlines
pub changed_idle : (clock : ℕ) (deadlines : List ℕ) (before links : List LinkView) (change : LinkView → LinkView) (first count : ℕ) → ((place : ℕ) → place < count → slice_index deadlines (first + place) ≡ 0) → AreChanged change before links first count → AreDeadlines clock deadlines before
    → AreDeadlines clock deadlines links
changed_idle clock deadlines before links change first count nothing c h = record {
  as_many = h.as_many ∙ sym c.as_many;
  idle = λ at link lt there.
      let within = slice_get_within links at link there in
      let many = c.as_many in
      let old = item_at before at (omega (arith, within, many)) in
      let away : (place : ℕ) → place < count → at ≡ first + place → ⊥ = λ place less q. off at place lt less q in
      let same : old.0 ≡ link = same_Some old.0 link (sym (c.rest at old.0 away old.1) ∙ there) in
      subst (λ (z : LinkView). IsIdleUntil (slice_index deadlines at) z) same (h.idle at old.0 lt old.1);
}
  where
    off : (at place : ℕ) → clock < slice_index deadlines at → place < count → at ≡ first + place → ⊥
    off at place lt less q = let none : slice_index deadlines at ≡ 0 = ap (slice_index deadlines) q ∙ nothing place less in omega (arith, lt, none)

-- ---- a turn of a core

pub all_but : (clock : ℕ) (deadlines : List ℕ) (links : List LinkView) (first count : ℕ) → AreDeadlines clock deadlines links → AreDeadlinesBut clock deadlines links first count
all_but clock deadlines links first count h = record { as_many = h.as_many; idle = λ at link lt there free. h.idle at link lt there }

-- if no cargo waits after an offer, none waited before it
pub none_before : (pulled : ℕ) (cargoes more : List Cargo) → nat_lt pulled (length (cargoes ++ more)) ≡ false → nat_lt pulled (length cargoes) ≡ false
none_before pulled cargoes more e =
    let all = ltb-false pulled (length (cargoes ++ more)) e in
    let both = length-append cargoes more in
    le-ltb pulled (length cargoes) (omega (arith, all, both))

idle_offered : (until : ℕ) (x : LinkView) (cargo : Cargo) (put : Bool) → has_cargo (after_offer_at x cargo put) ≡ false → IsIdleUntil until x → IsIdleUntil until (after_offer_at x cargo put)
idle_offered until x cargo put none h = record { opened = h.opened; lane = none; events = h.events; frames = h.frames; ticks = h.ticks }

offered_at : (clock : ℕ) (deadlines : List ℕ) (links : List LinkView) (first count place at : ℕ) (x : LinkView) (cargo : Cargo) (put : Bool) → at ≡ first + place → place < count → slice_get links at ≡ Some x → AreDeadlinesBut clock deadlines links first count
    → AreDeadlinesBut clock deadlines (set links at (after_offer_at x cargo put)) first count
offered_at clock deadlines links first count place at x cargo put here within there h = record {
  as_many = h.as_many ∙ sym (length-set links at (after_offer_at x cargo put));
  idle = λ j y lt found free. go j y lt free (set_read links at (after_offer_at x cargo put) j y found);
}
  where
    go : (j : ℕ) (y : LinkView) → clock < slice_index deadlines j → ((p : ℕ) → p < count → j ≡ first + p → has_cargo y ≡ false) → ((j ≡ at) × (after_offer_at x cargo put ≡ y)) ⊎ (slice_get links j ≡ Some y) → IsIdleUntil (slice_index deadlines j) y
    go j y lt free (inl p) =
        let none : has_cargo (after_offer_at x cargo put) ≡ false = ap has_cargo p.1 ∙ free place within (p.0 ∙ here) in
        let before : has_cargo x ≡ false = none_before x.pulled x.put (if put then cargo ∷ [] else []) none in
        let s : IsIdleUntil (slice_index deadlines j) x = h.idle j x lt (ap (slice_get links) p.0 ∙ there) (λ q less e. before) in
        subst (λ (z : LinkView). IsIdleUntil (slice_index deadlines j) z) p.1 (idle_offered (slice_index deadlines j) x cargo put none s)
    go j y lt free (inr old) = h.idle j y lt old free

all_offers : (clock : ℕ) (deadlines ks : List ℕ) (first count : ℕ) (offers : List Offer) (lanes after : LanesView) → lanes.first ≡ first → lanes.count ≡ count → AreOffered DidOffer ks lanes offers after → AreDeadlinesBut clock deadlines lanes.links first count
    → AreDeadlinesBut clock deadlines after.links first count
all_offers clock deadlines ks first count [] lanes after f n e h = subst (λ (v : LanesView). AreDeadlinesBut clock deadlines v.links first count) (sym e) h
all_offers clock deadlines ks first count (o ∷ offers) lanes after f n (between, did, rest) h =
    let here : lanes.first + place_of o.to ks ≡ first + place_of o.to ks = ap (λ (m : ℕ). m + place_of o.to ks) f in
    let within : place_of o.to ks < count = subst (λ (m : ℕ). place_of o.to ks < m) n did.within in
    all_offers clock deadlines ks first count offers between after (ap (λ (v : LanesView). v.first) did.lanes ∙ f) (ap (λ (v : LanesView). v.count) did.lanes ∙ n) rest
    (subst (λ (v : LanesView). AreDeadlinesBut clock deadlines v.links first count) (sym did.lanes)
    (offered_at clock deadlines lanes.links first count (place_of o.to ks) (lanes.first + place_of o.to ks) did.link o.cargo o.put here within did.there h))

-- a recorded packet does not affect deadlines
noted_at : (clock : ℕ) (deadlines : List ℕ) (links : List LinkView) (first count at : ℕ) (x new : LinkView) → slice_get links at ≡ Some x → has_cargo x ≡ has_cargo new → ((until : ℕ) → IsIdleUntil until x → IsIdleUntil until new) → AreDeadlinesBut clock deadlines links first count
    → AreDeadlinesBut clock deadlines (set links at new) first count
noted_at clock deadlines links first count at x new there lane keeps h = record {
  as_many = h.as_many ∙ sym (length-set links at new);
  idle = λ j y lt found free. go j y lt free (set_read links at new j y found);
}
  where
    go : (j : ℕ) (y : LinkView) → clock < slice_index deadlines j → ((p : ℕ) → p < count → j ≡ first + p → has_cargo y ≡ false) → ((j ≡ at) × (new ≡ y)) ⊎ (slice_get links j ≡ Some y) → IsIdleUntil (slice_index deadlines j) y
    go j y lt free (inl p) =
        let s : IsIdleUntil (slice_index deadlines j) x = h.idle j x lt (ap (slice_get links) p.0 ∙ there) (λ q less e. lane ∙ ap has_cargo p.1 ∙ free q less e) in
        subst (λ (z : LinkView). IsIdleUntil (slice_index deadlines j) z) p.1 (keeps (slice_index deadlines j) s)
    go j y lt free (inr old) = h.idle j y lt old free

noted_but : (clock : ℕ) (deadlines : List ℕ) (first count : ℕ) (lanes : LanesView) (seat : ℕ) (stepped : Option Stepped) (links : List LinkView) → IsNoted lanes seat stepped links → AreDeadlinesBut clock deadlines lanes.links first count → AreDeadlinesBut clock deadlines links first count
noted_but clock deadlines first count lanes seat None links e h = subst (λ (xs : List LinkView). AreDeadlinesBut clock deadlines xs first count) (sym e) h
noted_but clock deadlines first count lanes seat (Some p) links (link, there, is) h =
    let new : LinkView = record link { steps = link.steps ++ record { life = p.life; packet = p.packet } ∷ [] } in
    subst (λ (xs : List LinkView). AreDeadlinesBut clock deadlines xs first count) (sym is) (noted_at clock deadlines lanes.links first count (lanes.first + seat) link new there refl (λ until s. s) h)

-- after a turn, the deadlines of other nodes' ends and of ends without a waiting cargo still hold
turned_but : (clock : ℕ) (deadlines : List ℕ) (node y : NodeView) (links after : List LinkView) (r : Result (Unit {0}) SimError) (first count : ℕ) → first ≡ node.first → count ≡ node.count → Turns node links r y after → AreDeadlinesBut clock deadlines links first count
    → AreDeadlinesBut clock deadlines after first count
turned_but clock deadlines node y links after (Ok u) first count f n d h =
    noted_but clock deadlines first count d.lanes d.item.seat y.seat.stepped after d.noted
    (all_offers clock deadlines node.seat.core.neighbours first count d.served.offers (record { links = links; first = node.first; count = node.count }) d.lanes (sym f) (sym n) d.served.offered h)
turned_but clock deadlines node y links after (Err e) first count f n d h = subst (λ (xs : List LinkView). AreDeadlinesBut clock deadlines xs first count) (sym d.2) h

-- deadlines hold for ends that differ only in their memory
pub alike_but : (clock : ℕ) (deadlines : List ℕ) (links after : List LinkView) (first count : ℕ) → AreAlike links after → AreDeadlinesBut clock deadlines links first count → AreDeadlinesBut clock deadlines after first count
alike_but clock deadlines links after first count e h = record {
  as_many = h.as_many ∙ sym (length-map links bare) ∙ sym (ap length e) ∙ length-map after bare;
  idle = λ at link lt there free. go at link lt free (slice_get links at) refl (sym (slice_get-map bare links at) ∙ ap (λ (xs : List LinkView). slice_get xs at) (sym e) ∙ slice_get-map bare after at ∙ ap (option_map bare) there);
}
  where
    go : (at : ℕ) (link : LinkView) → clock < slice_index deadlines at → ((place : ℕ) → place < count → at ≡ first + place → has_cargo link ≡ false) → (o : Option LinkView) → slice_get links at ≡ o → option_map bare o ≡ Some (bare link) → IsIdleUntil (slice_index deadlines at) link
    go at link lt free None read q = absurd (none-some (bare link) q)
    go at link lt free (Some x) read q =
        let same : bare x ≡ bare link = same_Some (bare x) (bare link) q in
        let s : IsIdleUntil (slice_index deadlines at) (bare x) = h.idle at x lt read (λ place less w. ap has_cargo same ∙ free place less w) in
        subst (λ (z : LinkView). IsIdleUntil (slice_index deadlines at) z) same s

-- the deadlines after a turn, when the turn is stated for the node's ends without their memory
pub turned_idle : (clock : ℕ) (deadlines : List ℕ) (node y : NodeView) (links after : List LinkView) (r : Result (Unit {0}) SimError) → Turns node (bare_between node.first node.count links) r y (bare_between node.first node.count after) → AreDeadlinesBut clock deadlines links node.first node.count
    → AreDeadlinesBut clock deadlines after node.first node.count
turned_idle clock deadlines node y links after r d h =
    let old = bare_between node.first node.count links in
    let new = bare_between node.first node.count after in
    alike_but clock deadlines new after node.first node.count (sym (between_alike node.first node.count after))
    (turned_but clock deadlines node y old new r node.first node.count refl refl d (alike_but clock deadlines links old node.first node.count (between_alike node.first node.count links) h))

-- ---- ends of a node in whose lane a cargo waits

pub none_waits : (links : List LinkView) (at : ℕ) (x : LinkView) (waits : Bool) → at < length links → x ≡ slice_index_or links at x → waits ≡ has_cargo x → waits ≡ false → (link : LinkView) → slice_get links at ≡ Some link → has_cargo link ≡ false
none_waits links at x waits within read is none link there =
    let same : x ≡ link = same_Some x link (sym (slice_get_read links (length links) at x refl within read) ∙ there) in
    ap has_cargo (sym same) ∙ sym is ∙ none

pub none_forgotten_where : (links : List LinkView) (deadlines : List ℕ) (first : ℕ) → AreForgottenWhere links deadlines deadlines first 0
none_forgotten_where links deadlines first = record { as_many = refl; here = λ place link lt there waits. absurd (omega (arith, lt)); others = λ at. inr refl }

pub one_more_where : (links : List LinkView) (before deadlines after : List ℕ) (first place : ℕ) → first + place < length deadlines → IsForgottenWhere links deadlines after (first + place) → AreForgottenWhere links before deadlines first place → AreForgottenWhere links before after first (place + 1)
one_more_where links before deadlines after first place within step f = go step
  where
    value : slice_index (set deadlines (first + place) 0) (first + place) ≡ 0
    value = get_or-set_same deadlines (first + place) 0 0 within

    zero_at : (p : ℕ) (link : LinkView) → slice_get links (first + p) ≡ Some link → has_cargo link ≡ true → (p < place) ⊎ (p ≡ place) → slice_index (set deadlines (first + place) 0) (first + p) ≡ 0
    zero_at p link there waits (inl less) = get_or-set_other deadlines (first + place) (first + p) 0 0 (λ (q : first + p ≡ first + place). absurd (omega (arith, less, q))) ∙ f.here p link less there waits
    zero_at p link there waits (inr same) = ap (λ (n : ℕ). slice_index (set deadlines (first + place) 0) (first + n)) same ∙ value

    other : (at : ℕ) → (at ≡ first + place) ⊎ (at ≡ first + place → ⊥) → (slice_index (set deadlines (first + place) 0) at ≡ 0) ⊎ (slice_index (set deadlines (first + place) 0) at ≡ slice_index before at)
    other at (inl q) = inl (ap (slice_index (set deadlines (first + place) 0)) q ∙ value)
    other at (inr off) =
        let old : slice_index (set deadlines (first + place) 0) at ≡ slice_index deadlines at = get_or-set_other deadlines (first + place) at 0 0 off in
        subst (λ (n : ℕ). (n ≡ 0) ⊎ (n ≡ slice_index before at)) (sym old) (f.others at)

    kept_at : ((link : LinkView) → slice_get links (first + place) ≡ Some link → has_cargo link ≡ false) → (p : ℕ) (link : LinkView) → slice_get links (first + p) ≡ Some link → has_cargo link ≡ true → (p < place) ⊎ (p ≡ place) → slice_index deadlines (first + p) ≡ 0
    kept_at none p link there waits (inl less) = f.here p link less there waits
    kept_at none p link there waits (inr same) = absurd (true≢false (sym waits ∙ none link (ap (λ (n : ℕ). slice_get links (first + n)) (sym same) ∙ there)))

    go : (after ≡ set deadlines (first + place) 0) ⊎ ((after ≡ deadlines) × ((link : LinkView) → slice_get links (first + place) ≡ Some link → has_cargo link ≡ false)) → AreForgottenWhere links before after first (place + 1)
    go (inl e) = record {
      as_many = ap length e ∙ length-set deadlines (first + place) 0 ∙ f.as_many;
      here = λ p link lt there waits. ap (λ (ys : List ℕ). slice_index ys (first + p)) e ∙ zero_at p link there waits (below_next p place lt);
      others = λ at. subst (λ (n : ℕ). (n ≡ 0) ⊎ (n ≡ slice_index before at)) (sym (ap (λ (ys : List ℕ). slice_index ys at) e)) (other at (cases_eq at (first + place)));
    }
    go (inr k) = record {
      as_many = ap length k.0 ∙ f.as_many;
      here = λ p link lt there waits. ap (λ (ys : List ℕ). slice_index ys (first + p)) k.0 ∙ kept_at k.1 p link there waits (below_next p place lt);
      others = λ at. subst (λ (n : ℕ). (n ≡ 0) ⊎ (n ≡ slice_index before at)) (sym (ap (λ (ys : List ℕ). slice_index ys at) k.0)) (f.others at);
    }

pub where_forgotten : (clock : ℕ) (before deadlines : List ℕ) (links : List LinkView) (first count : ℕ) → AreForgottenWhere links before deadlines first count → AreDeadlinesBut clock before links first count → AreDeadlines clock deadlines links
where_forgotten clock before deadlines links first count f h = record { as_many = f.as_many ∙ h.as_many; idle = λ at link lt there. go at link lt there (f.others at) }
  where
    free : (at : ℕ) (link : LinkView) → clock < slice_index deadlines at → slice_get links at ≡ Some link → (place : ℕ) → place < count → at ≡ first + place → (has_cargo link ≡ true) ⊎ (has_cargo link ≡ false) → has_cargo link ≡ false
    free at link lt there place less q (inl waits) =
        let nothing : slice_index deadlines at ≡ 0 = ap (slice_index deadlines) q ∙ f.here place link less (ap (slice_get links) (sym q) ∙ there) waits in
        absurd (omega (arith, lt, nothing))
    free at link lt there place less q (inr none) = none

    go : (at : ℕ) (link : LinkView) → clock < slice_index deadlines at → slice_get links at ≡ Some link → (slice_index deadlines at ≡ 0) ⊎ (slice_index deadlines at ≡ slice_index before at) → IsIdleUntil (slice_index deadlines at) link
    go at link lt there (inl nothing) = absurd (omega (arith, lt, nothing))
    go at link lt there (inr same) =
        subst (λ (n : ℕ). IsIdleUntil n link) (sym same)
        (h.idle at link (subst (λ (n : ℕ). clock < n) same lt) there (λ place less q. free at link lt there place less q (cases_Bool (has_cargo link))))
