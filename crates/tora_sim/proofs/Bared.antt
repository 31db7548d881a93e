-- The link ends of one node without their memory, among those of all nodes.
use Rattle.std.proofs.Common.{◌≡◌, ℕ, zero, suc, ◌+◌, ◌<◌, List, [], ◌∷◌, map, set, ◌++◌, slice_get, Option, Some, None, refl, sym, ap, ◌∙◌, subst, arith}
use Rattle.std.proofs.lemmas.Option.{none-some, same_Some}
use Rattle.tora_seat.specs.declared.item.Item.{Item}
use Rattle.tora_seat.specs.declared.stepped.Stepped.{Stepped}
use Rattle.tora_sim.specs.Links.{LinkView}
use Rattle.tora_sim.specs.Nodes.{NodeView}
use Rattle.tora_sim.specs.Lanes.{LanesView, lanes_of, bare, bare_first, bare_between, AreAlike, AreOthersKept}
use Rattle.tora_sim.specs.Turns.{IsServed, IsNoted, IsTurned}
use Rattle.tora_sim.proofs.Served.{lanes_stay}

zero_more : (i : ℕ) → 0 + i ≡ i
zero_more i = omega arith

suc_more : (m i : ℕ) → suc m + i ≡ suc (m + i)
suc_more m i = omega arith

first_alike : (count : ℕ) (links : List LinkView) → map bare (bare_first count links) ≡ map bare links
unfolding bare_first
first_alike zero links = refl
first_alike (suc count) [] = refl
first_alike (suc count) (x ∷ links) = ap (λ xs. bare x ∷ xs) (first_alike count links)

pub between_alike : (first count : ℕ) (links : List LinkView) → AreAlike links (bare_between first count links)
unfolding bare_between
between_alike zero count links = first_alike count links
between_alike (suc first) count [] = refl
between_alike (suc first) count (x ∷ links) = ap (λ xs. bare x ∷ xs) (between_alike first count links)

first_within : (count : ℕ) (links : List LinkView) (place : ℕ) (x : LinkView) → place < count → slice_get links place ≡ Some x → slice_get (bare_first count links) place ≡ Some (bare x)
unfolding bare_first
first_within zero links place x lt there = absurd (omega (arith, lt))
first_within (suc count) [] place x lt there = absurd (none-some x there)
first_within (suc count) (y ∷ links) zero x lt there = ap (λ z. Some (bare z)) (same_Some y x there)
first_within (suc count) (y ∷ links) (suc place) x lt there = first_within count links place x (omega (arith, lt)) there

-- the end at an index of the node has no memory left
pub between_within : (first count : ℕ) (links : List LinkView) (place : ℕ) (x : LinkView) → place < count → slice_get links (first + place) ≡ Some x → slice_get (bare_between first count links) (first + place) ≡ Some (bare x)
unfolding bare_between
between_within zero count links place x lt there =
    ap (slice_get (bare_first count links)) (zero_more place) ∙ first_within count links place x lt (ap (slice_get links) (sym (zero_more place)) ∙ there)
between_within (suc first) count [] place x lt there = absurd (none-some x there)
between_within (suc first) count (y ∷ links) place x lt there =
    ap (slice_get (y ∷ bare_between first count links)) (suc_more first place) ∙ between_within first count links place x lt (ap (slice_get (y ∷ links)) (sym (suc_more first place)) ∙ there)

first_behind : (count : ℕ) (links : List LinkView) (at : ℕ) → ((place : ℕ) → place < count → at ≡ place → ⊥) → slice_get (bare_first count links) at ≡ slice_get links at
unfolding bare_first
first_behind zero links at away = refl
first_behind (suc count) [] at away = refl
first_behind (suc count) (x ∷ links) zero away = absurd (away zero (omega arith) refl)
first_behind (suc count) (x ∷ links) (suc at) away = first_behind count links at (λ place lt q. away (suc place) (omega (arith, lt)) (ap suc q))

-- the ends of other nodes are unchanged
pub between_outside : (first count : ℕ) (links : List LinkView) (at : ℕ) → ((place : ℕ) → place < count → at ≡ first + place → ⊥) → slice_get (bare_between first count links) at ≡ slice_get links at
unfolding bare_between
between_outside zero count links at away = first_behind count links at (λ place lt q. away place lt (q ∙ sym (zero_more place)))
between_outside (suc first) count [] at away = refl
between_outside (suc first) count (x ∷ links) zero away = refl
between_outside (suc first) count (x ∷ links) (suc at) away = between_outside first count links at (λ place lt q. away place lt (ap suc q ∙ sym (suc_more first place)))

first_set : (count : ℕ) (links : List LinkView) (place : ℕ) (y : LinkView) → place < count → bare_first count (set links place y) ≡ set (bare_first count links) place (bare y)
unfolding bare_first
first_set zero links place y lt = absurd (omega (arith, lt))
first_set (suc count) [] place y lt = refl
first_set (suc count) (x ∷ links) zero y lt = refl
first_set (suc count) (x ∷ links) (suc place) y lt = ap (λ xs. bare x ∷ xs) (first_set count links place y (omega (arith, lt)))

-- an end of the node may be set before or after its memory is left out
pub between_set : (first count : ℕ) (links : List LinkView) (place : ℕ) (y : LinkView) → place < count → bare_between first count (set links (first + place) y) ≡ set (bare_between first count links) (first + place) (bare y)
unfolding bare_between
between_set zero count links place y lt =
    ap (λ (m : ℕ). bare_first count (set links m y)) (zero_more place) ∙ first_set count links place y lt ∙ ap (λ (m : ℕ). set (bare_first count links) m (bare y)) (sym (zero_more place))
between_set (suc first) count [] place y lt = refl
between_set (suc first) count (x ∷ links) place y lt =
    ap (λ (m : ℕ). bare_between (suc first) count (set (x ∷ links) m y)) (suc_more first place)
    ∙ ap (λ xs. x ∷ xs) (between_set first count links place y lt)
    ∙ ap (λ (m : ℕ). set (x ∷ bare_between first count links) m (bare y)) (sym (suc_more first place))

-- the ends of other nodes are unchanged, if they are when the memory of the node's ends is left out
pub others_between : (first count : ℕ) (before links : List LinkView) → AreOthersKept (bare_between first count before) (bare_between first count links) first count → AreOthersKept before links first count
others_between first count before links h at away = sym (between_outside first count links at away) ∙ h at away ∙ between_outside first count before at away

-- if no packet was stepped, none is recorded
pub none_noted : (v : LanesView) (place : ℕ) (stepped : Option Stepped) (links : List LinkView) → stepped ≡ None → links ≡ v.links → IsNoted v place stepped links
none_noted v place stepped links none same = subst (λ (o : Option Stepped). IsNoted v place o links) (sym none) same

pub some_noted : (v : LanesView) (place : ℕ) (stepped : Option Stepped) (p : Stepped) (links : List LinkView) → stepped ≡ Some p → IsNoted v place (Some p) links → IsNoted v place stepped links
some_noted v place stepped p links some noted = subst (λ (o : Option Stepped). IsNoted v place o links) (sym some) noted

-- a packet that is recorded at an end of the node is also recorded without the memory
pub noted_between : (links after : List LinkView) (first count place : ℕ) (p : Stepped) → place < count → IsNoted (lanes_of links first count) place (Some p) after
    → IsNoted (lanes_of (bare_between first count links) first count) place (Some p) (bare_between first count after)
noted_between links after first count place p lt (link, there, is) = (
  bare link,
  between_within first count links place link lt there,
  ap (bare_between first count) is ∙ between_set first count links place (record link { steps = link.steps ++ record { life = p.life; packet = p.packet } ∷ [] }) lt,
)

-- ---- a turn, from the lanes before and after it

pub lanes_before : (v : LanesView) (x : NodeView) (first count : ℕ) (links old : List LinkView) → v ≡ lanes_of (bare_between first count links) first count → first ≡ x.first → count ≡ x.count → links ≡ old → v ≡ lanes_of (bare_between x.first x.count old) x.first x.count
lanes_before v x first count links old e f n same =
    e ∙ ap (λ (m : ℕ). lanes_of (bare_between m count links) m count) f ∙ ap (λ (m : ℕ). lanes_of (bare_between x.first m links) x.first m) n ∙ ap (λ (xs : List LinkView). lanes_of (bare_between x.first x.count xs) x.first x.count) same

-- if there was no turn, the ends are unchanged
pub same_between : (lanes : LanesView) (x : NodeView) (old links : List LinkView) → lanes ≡ lanes_of (bare_between x.first x.count old) x.first x.count → bare_between lanes.first lanes.count links ≡ lanes.links → bare_between x.first x.count links ≡ bare_between x.first x.count old
same_between lanes x old links before noted = subst (λ (u : LanesView). bare_between u.first u.count links ≡ u.links) before noted

module _ (x y : NodeView) (v lanes : LanesView) (item : Item) (old : List LinkView) (before : v ≡ lanes_of (bare_between x.first x.count old) x.first x.count) (s : IsServed x v item y lanes) where
  pub first_stays : lanes.first ≡ x.first
  first_stays = (lanes_stay x.seat.core.neighbours s.offers v lanes s.offered).0 ∙ ap (λ (u : LanesView). u.first) before

  pub count_stays : lanes.count ≡ x.count
  count_stays = (lanes_stay x.seat.core.neighbours s.offers v lanes s.offered).1 ∙ ap (λ (u : LanesView). u.count) before

  -- a property of the ends at the index of the lanes is one of the ends of the node
  pub of_node : (P : List LinkView → Type 0) (links : List LinkView) → P (bare_between lanes.first lanes.count links) → P (bare_between x.first x.count links)
  of_node P links h = subst (λ (n : ℕ). P (bare_between x.first n links)) count_stays (subst (λ (f : ℕ). P (bare_between f lanes.count links)) first_stays h)

  pub turned_from : (stepped : Option Stepped) (links : List LinkView) → stepped ≡ y.seat.stepped → IsNoted lanes item.seat stepped (bare_between lanes.first lanes.count links) → IsTurned x (bare_between x.first x.count old) y (bare_between x.first x.count links)
  turned_from stepped links is noted = record {
    item = item;
    lanes = lanes;
    served = subst (λ (u : LanesView). IsServed x u item y lanes) before s;
    noted = subst (λ (o : Option Stepped). IsNoted lanes item.seat o (bare_between x.first x.count links)) is (of_node (IsNoted lanes item.seat stepped) links noted);
  }

  pub others_stay : (links : List LinkView) → AreOthersKept v.links (bare_between lanes.first lanes.count links) x.first x.count → AreOthersKept old links x.first x.count
  others_stay links h =
      others_between x.first x.count old links
      (of_node (λ (zs : List LinkView). AreOthersKept (bare_between x.first x.count old) zs x.first x.count) links (subst (λ (u : LanesView). AreOthersKept u.links (bare_between lanes.first lanes.count links) x.first x.count) before h))
