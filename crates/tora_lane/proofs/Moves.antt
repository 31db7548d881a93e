-- Each step keeps the rule of the queue into the core.
use Rattle.std.proofs.Common.{◌≡◌, ◌≢◌, ◌⊎◌, ℕ, zero, suc, ◌+◌, ◌<◌, ◌==◌, cond, true, false, List, [], ◌∷◌, ◌++◌, length, set, Option, Some, None, refl, sym, ap, ◌∙◌, subst, ⊎_elim, inl, inr, arith, append_assoc, length-append, eq-eqb, ne_eqb}
use Rattle.std.proofs.lemmas.List.{append-nil}
use Rattle.std.proofs.lemmas.List.Elements.{filter-append}
use Rattle.std.proofs.lemmas.Bool.Decides.{eqb_tells}
use Rattle.std.proofs.Math.Nat.{lt_of_not-le}
use mathlib.Core.Option.{some, some-ne-none, some-injective}
use lib.ListN.{get_elem?}
use Rattle.crossbeam_channel.specs.Fifo.{Pushes, Pops, Forks, Merges, Learns}
use Rattle.atomic_table.proofs.Lists.{at_set}
use Rattle.tora_seat.specs.declared.item.Item.{Item}
use Rattle.tora_lane.specs.declared.rule.LaneView.{LaneView}
use Rattle.tora_lane.specs.declared.rule.LaneView.TheVariants.{Seat, Core, Spent}
use Rattle.tora_lane.specs.LaneRule.{items_of, IsNumbered, AreSettled, Fits, KeepsLanes, after_put, after_take, IsNext, with_new_seat, new_seat, with_settled, LastSettled}

-- ---- numbers
pub numbered_push : (n : ℕ) (xs : List Item) (x : Item) → IsNumbered n xs → x.number ≡ n + length xs → IsNumbered n (xs ++ x ∷ [])
numbered_push n [] x h e = (omega arith, tt)
numbered_push n (y ∷ ys) x h e = (h.0, numbered_push (suc n) ys x h.1 (omega arith))

pub numbered_at : (n : ℕ) (xs : List Item) (x : Item) (ys : List Item) → IsNumbered n (xs ++ x ∷ ys) → x.number ≡ n + length xs
numbered_at n [] x ys h = omega arith
numbered_at n (z ∷ zs) x ys h = omega (arith, numbered_at (suc n) zs x ys h.1)

-- ---- one item among those of its seat
pub items_of_here : (s : ℕ) (x : Item) (xs : List Item) → x.seat ≡ s → items_of s (x ∷ xs) ≡ x ∷ items_of s xs
items_of_here s x xs e = ⊎_elim (λ (t : ((x.seat == s) ≡ true) × (x.seat ≡ s)). ap (λ b. cond b (x ∷ items_of s xs) (items_of s xs)) t.0) (λ (t : ((x.seat == s) ≡ false) × (x.seat ≢ s)). absurd (t.1 e)) (eqb_tells x.seat s)

pub items_of_else : (s : ℕ) (x : Item) (xs : List Item) → x.seat ≢ s → items_of s (x ∷ xs) ≡ items_of s xs
items_of_else s x xs n = ⊎_elim (λ (t : ((x.seat == s) ≡ true) × (x.seat ≡ s)). absurd (n t.1)) (λ (t : ((x.seat == s) ≡ false) × (x.seat ≢ s)). ap (λ b. cond b (x ∷ items_of s xs) (items_of s xs)) t.0) (eqb_tells x.seat s)

-- ---- the views of the others
all_set : (F : ℕ → LaneView → Type 0) (views : List LaneView) (pass : ℕ) (w : LaneView) → F pass w → ((j : ℕ) (u : LaneView) → j ≢ pass → get_elem? views j ≡ some u → F j u)
    → (j : ℕ) (u : LaneView) → get_elem? (set views pass w) j ≡ some u → F j u
all_set F views pass w mine others j u e =
    ⊎_elim (λ (x : (j ≡ pass) × (w ≡ u)). subst (λ (y : ℕ × LaneView). F y.0 y.1) (λ i. (sym x.0 i, x.1 i)) mine)
    (λ (x : (j ≢ pass) × (get_elem? views j ≡ some u)). others j u x.0 x.1) (at_set views pass j w u e)

-- a step that changes only the seats of one pass keeps what another pass knows
fits_else : (core : ℕ) (port : ℕ → Option ℕ) (put now : ℕ → List Item) (taken : List Item) (pass j : ℕ) (v : LaneView) → j ≢ pass → ((t : ℕ) → port t ≢ Some pass → now t ≡ put t)
    → Fits core port put taken j v → Fits core port now taken j v
fits_else core port put now taken pass j (Seat t own) apart same f = (f.0, f.1 ∙ sym (same t (λ e. apart (cc (f.0, e)))))
fits_else core port put now taken pass j (Core made took known) apart same f = (
  f.0,
  f.1,
  (λ t le. let u = f.2 t le in (u.0, same t (λ e. cc (u.0, e)) ∙ u.1)),
  λ k t own at. let u = f.3 k t own at in (u.0, u.1, u.2 ∙ sym (same t (λ e. cc (u.1, e)))),
)
fits_else core port put now taken pass j Spent apart same f = tt

-- ---- the first view
pub begins : KeepsLanes [] (Core 0 [] [] ∷ [])
begins = record {
  core = 0;
  port = λ s. None;
  put = λ s. [];
  taken = [];
  in_order = λ s. refl;
  numbered = λ s. tt;
  fits = one;
}
  where
    one : (pass : ℕ) (v : LaneView) → get_elem? (Core 0 [] [] ∷ []) pass ≡ some v → Fits 0 (λ s. None) (λ s. []) [] pass v
    one zero v e = subst (Fits 0 (λ s. None) (λ s. []) [] 0) (some-injective _ _ e) (refl, refl, (λ t le. (refl, refl)), λ k t own at. absurd (cc))
    one (suc pass) v e = absurd (some-ne-none v (sym e))

-- ---- a send
after_numbered : (t s : ℕ) (x : Item) (own old : List Item) → x.seat ≡ s → x.number ≡ length own + 1 → (t ≡ s → own ≡ old) → IsNumbered 1 old → IsNumbered 1 (old ++ items_of t (x ∷ []))
after_numbered t s x own old seat number same h = ⊎_elim
    (λ (e : ((x.seat == t) ≡ true) × (x.seat ≡ t)). subst (λ l. IsNumbered 1 (old ++ l)) (sym (items_of_here t x [] e.1))
    (numbered_push 1 old x h (let l : length own ≡ length old = ap length (same (sym e.1 ∙ seat)) in omega arith)))
    (λ (e : ((x.seat == t) ≡ false) × (x.seat ≢ t)). subst (IsNumbered 1) (sym (append-nil old) ∙ ap (λ l. old ++ l) (sym (items_of_else t x [] e.1))) h)
    (eqb_tells x.seat t)

pub puts : (n pass s : ℕ) (own : List Item) (x : Item) → x.seat ≡ s → x.number ≡ length own + 1 → Pushes KeepsLanes n pass (Seat s own) x (λ w. w ≡ after_put (Seat s own) x)
puts n pass s own x seat number items views room h at =
    let mine = h.fits pass (Seat s own) at in
    let put : ℕ → List Item = λ t. h.put t ++ items_of t (x ∷ []) in (
      Seat s (own ++ x ∷ []),
      record {
        core = h.core;
        port = h.port;
        put = put;
        taken = h.taken;
        in_order = λ t. ap (items_of t) (sym (append_assoc h.taken items (x ∷ []))) ∙ filter-append (λ y. y.seat == t) (h.taken ++ items) (x ∷ []) ∙ ap (λ l. l ++ items_of t (x ∷ [])) (h.in_order t);
        numbered = λ t. after_numbered t s x own (h.put t) seat number (λ e. mine.1 ∙ ap h.put (sym e)) (h.numbered t);
        fits = all_set (Fits h.core h.port put h.taken) views pass (Seat s (own ++ x ∷ []))
            (mine.0, ap (λ l. l ++ x ∷ []) mine.1 ∙ ap (λ l. h.put s ++ l) (sym (items_of_here s x [] seat)))
            (λ j u apart e. fits_else h.core h.port h.put put h.taken pass j u apart
            (λ t n. ap (λ l. h.put t ++ l) (items_of_else t x [] (λ e. n (ap h.port (sym e ∙ seat) ∙ mine.0))) ∙ append-nil (h.put t))
            (h.fits j u e));
      },
      refl,
    )

-- ---- a receive
-- a step that changes only the core's list keeps what another pass knows
fits_taken : (core : ℕ) (port : ℕ → Option ℕ) (put : ℕ → List Item) (taken now : List Item) (pass j : ℕ) (v : LaneView) → j ≢ pass → pass ≡ core → Fits core port put taken j v → Fits core port put now j v
fits_taken core port put taken now pass j (Seat t own) apart is f = f
fits_taken core port put taken now pass j (Core made took known) apart is f = absurd (apart (f.0 ∙ sym is))
fits_taken core port put taken now pass j Spent apart is f = tt

pub takes : (pass made : ℕ) (took : List Item) (known : List (ℕ × List Item)) → Pops KeepsLanes pass (Core made took known) (λ x w. (w ≡ after_take (Core made took known) x) × IsNext (Core made took known) x)
takes pass made took known x items views h at =
    let mine = h.fits pass (Core made took known) at in
    let s : ℕ = x.seat in
    let all : items_of s took ++ x ∷ items_of s items ≡ h.put s =
    ap (λ l. items_of s took ++ l) (sym (items_of_here s x items refl)) ∙ sym (filter-append (λ y. y.seat == s) took (x ∷ items)) ∙ ap (λ l. items_of s (l ++ x ∷ items)) mine.1 ∙ h.in_order s in (
      Core made (took ++ x ∷ []) known,
      record {
        core = h.core;
        port = h.port;
        put = h.put;
        taken = h.taken ++ x ∷ [];
        in_order = λ t. ap (items_of t) (append_assoc h.taken (x ∷ []) items) ∙ h.in_order t;
        numbered = h.numbered;
        fits = all_set (Fits h.core h.port h.put (h.taken ++ x ∷ [])) views pass (Core made (took ++ x ∷ []) known)
            (mine.0, ap (λ l. l ++ x ∷ []) mine.1, mine.2, mine.3)
            (λ j u apart e. fits_taken h.core h.port h.put h.taken (h.taken ++ x ∷ []) pass j u apart mine.0 (h.fits j u e));
      },
      (
        refl,
        (
          lt_of_not-le (λ le. let none = ap length (all ∙ (mine.2 s le).1) in let l = length-append (items_of s took) (x ∷ items_of s items) in omega arith),
          (let e = numbered_at 1 (items_of s took) x (items_of s items) (subst (IsNumbered 1) (sym all) (h.numbered s)) in omega arith),
        ),
      ),
    )

-- ---- a new seat
at_end : (l : List LaneView) (a b : LaneView) (j : ℕ) → get_elem? (l ++ a ∷ []) j ≡ some b → (get_elem? l j ≡ some b) ⊎ ((j ≡ length l) × (a ≡ b))
at_end [] a b zero e = inr (refl, some-injective a b e)
at_end [] a b (suc j) e = absurd (some-ne-none b (sym e))
at_end (x ∷ xs) a b zero e = inl e
at_end (x ∷ xs) a b (suc j) e = ⊎_elim (λ t. inl t) (λ t. inr (ap suc t.0, t.1)) (at_end xs a b j e)

-- the ports, if the seat s has the port p
abbrev with_port : (ℕ → Option ℕ) → ℕ → Option ℕ → ℕ → Option ℕ
with_port port s p t = cond (t == s) p (port t)

with_port_here : (port : ℕ → Option ℕ) (s : ℕ) (p : Option ℕ) → with_port port s p s ≡ p
with_port_here port s p = ap (λ b. cond b p (port s)) (eq-eqb s s refl)

with_port_else : (port : ℕ → Option ℕ) (s t : ℕ) (p : Option ℕ) → t ≢ s → with_port port s p t ≡ port t
with_port_else port s t p n = ap (λ b. cond b p (port t)) (ne_eqb t s n)

with_no_port : (port : ℕ → Option ℕ) (s t : ℕ) → port t ≡ None → with_port port s None t ≡ None
with_no_port port s t e = ⊎_elim (λ (b : ((t == s) ≡ true) × (t ≡ s)). ap (λ c. cond c None (port t)) b.0) (λ (b : ((t == s) ≡ false) × (t ≢ s)). with_port_else port s t None b.1 ∙ e) (eqb_tells t s)

fits_more : (core : ℕ) (port : ℕ → Option ℕ) (put : ℕ → List Item) (taken : List Item) (pass s : ℕ) (p : Option ℕ) (j : ℕ) (v : LaneView) → j ≢ pass → pass ≡ core → port s ≡ None
    → Fits core port put taken j v → Fits core (with_port port s p) put taken j v
fits_more core port put taken pass s p j (Seat t own) apart is none f = (with_port_else port s t p (λ (e : t ≡ s). let here = f.0 in let same = ap port e in cc) ∙ f.0, f.1)
fits_more core port put taken pass s p j (Core made took known) apart is none f = absurd (apart (f.0 ∙ sym is))
fits_more core port put taken pass s p j Spent apart is none f = tt

pub forks : (pass made : ℕ) (took : List Item) (known : List (ℕ × List Item)) → Forks KeepsLanes pass (Core made took known) (Core (made + 1) took known) (Seat made [])
forks pass made took known items views h at =
    let mine = h.fits pass (Core made took known) at in
    let left : LaneView = Core (made + 1) took known in
    let vs : List LaneView = set views pass left in
    let none = mine.2 made (omega arith) in
    let port : ℕ → Option ℕ = with_port h.port made (Some (length vs)) in record {
      core = h.core;
      port = port;
      put = h.put;
      taken = h.taken;
      in_order = h.in_order;
      numbered = h.numbered;
      fits = λ j u e. ⊎_elim
          (λ (old : get_elem? vs j ≡ some u). all_set (Fits h.core port h.put h.taken) views pass left (
            mine.0,
            mine.1,
            (λ t le. let m = mine.2 t (omega arith) in (with_port_else h.port made t (Some (length vs)) (λ same. omega arith) ∙ m.0, m.1)),
            λ k t own there. let m = mine.3 k t own there in let less = m.0 in (omega arith, with_port_else h.port made t (Some (length vs)) (λ same. omega arith) ∙ m.1, m.2),
          ) (λ i y apart there. fits_more h.core h.port h.put h.taken pass made (Some (length vs)) i y apart mine.0 none.0 (h.fits i y there)) j u old)
          (λ (new : (j ≡ length vs) × (Seat made [] ≡ u)). subst (λ (y : ℕ × LaneView). Fits h.core port h.put h.taken y.0 y.1) (λ i. (sym new.0 i, new.1 i)) (with_port_here h.port made (Some (length vs)), sym none.1))
          (at_end vs (Seat made []) u j e);
    }

-- ---- the port of a seat is closed
fits_less : (core : ℕ) (port : ℕ → Option ℕ) (put : ℕ → List Item) (taken : List Item) (pass other s j : ℕ) (v : LaneView) → j ≢ pass → pass ≡ core → port s ≡ Some other → j ≢ other
    → Fits core port put taken j v → Fits core (with_port port s None) put taken j v
fits_less core port put taken pass other s j (Seat t own) apart is there away f = (with_port_else port s t None (λ (e : t ≡ s). away (let here = f.0 in let same = ap port e in cc)) ∙ f.0, f.1)
fits_less core port put taken pass other s j (Core made took known) apart is there away f = absurd (apart (f.0 ∙ sym is))
fits_less core port put taken pass other s j Spent apart is there away f = tt

settled_more : (made : ℕ) (port : ℕ → Option ℕ) (put : ℕ → List Item) (known : List (ℕ × List Item)) (s : ℕ) (own : List Item) → s < made → own ≡ put s → AreSettled made port put known
    → AreSettled made (with_port port s None) put ((s, own) ∷ known)
settled_more made port put known s own less same old zero t list e =
    let p : (s, own) ≡ (t, list) = cc in
    subst (λ (y : ℕ × List Item). (y.0 < made) × (with_port port s None y.0 ≡ None) × (y.1 ≡ put y.0)) p (less, with_port_here port s None, same)
settled_more made port put known s own less same old (suc k) t list e = let m = old k t list e in (m.0, with_no_port port s t m.1, m.2)

pub merges : (pass made : ℕ) (took : List Item) (known : List (ℕ × List Item)) (other s : ℕ) (own : List Item)
    → Merges KeepsLanes pass (Core made took known) other (Seat s own) (Core made took ((s, own) ∷ known)) Spent
merges pass made took known other s own items views h at apart there =
    let mine = h.fits pass (Core made took known) at in
    let both : LaneView = Core made took ((s, own) ∷ known) in
    let vs : List LaneView = set views pass both in
    let was : get_elem? views other ≡ some (Seat s own) =
    ⊎_elim (λ (t : (other ≡ pass) × (both ≡ Seat s own)). absurd (apart t.0)) (λ (t : (other ≢ pass) × (get_elem? views other ≡ some (Seat s own))). t.1) (at_set views pass other both (Seat s own) there) in
    let theirs = h.fits other (Seat s own) was in
    let port : ℕ → Option ℕ = with_port h.port s None in
    let less : s < made = lt_of_not-le (λ le. let none = (mine.2 s le).0 in let some_there = theirs.0 in cc) in record {
      core = h.core;
      port = port;
      put = h.put;
      taken = h.taken;
      in_order = h.in_order;
      numbered = h.numbered;
      fits = all_set (Fits h.core port h.put h.taken) vs other Spent tt (λ j u away e.
          all_set (λ i y. i ≢ other → Fits h.core port h.put h.taken i y) views pass both
          (λ _. (mine.0, mine.1, (λ t le. let m = mine.2 t le in (with_no_port h.port s t m.0, m.1)), settled_more made h.port h.put known s own less theirs.1 mine.3))
          (λ i y far here not_other. fits_less h.core h.port h.put h.taken pass other s i y far mine.0 theirs.0 not_other (h.fits i y here))
          j u e away);
    }

-- ---- facts about the seat that was closed last
pub learns : (pass made : ℕ) (took : List Item) (known : List (ℕ × List Item)) (s : ℕ) (own : List Item)
    → Learns KeepsLanes pass (Core made took ((s, own) ∷ known)) (LastSettled (Core made took ((s, own) ∷ known)))
learns pass made took known s own items views h at =
    let mine = h.fits pass (Core made took ((s, own) ∷ known)) at in
    let last = mine.3 zero s own refl in
    (last.0, ap (λ l. items_of s (l ++ items)) mine.1 ∙ h.in_order s ∙ sym last.2)

-- ---- the same steps, for a view that is known
pub puts_as : (n pass : ℕ) (v : LaneView) (s : ℕ) (own : List Item) (x : Item) → v ≡ Seat s own → x.seat ≡ s → x.number ≡ length own + 1 → Pushes KeepsLanes n pass v x (λ w. w ≡ after_put v x)
puts_as n pass v s own x is seat number = subst (λ u. Pushes KeepsLanes n pass u x (λ w. w ≡ after_put u x)) (sym is) (puts n pass s own x seat number)

pub takes_as : (pass : ℕ) (v : LaneView) (made : ℕ) (took : List Item) (known : List (ℕ × List Item)) → v ≡ Core made took known → Pops KeepsLanes pass v (λ x w. (w ≡ after_take v x) × IsNext v x)
takes_as pass v made took known is = subst (λ u. Pops KeepsLanes pass u (λ x w. (w ≡ after_take u x) × IsNext u x)) (sym is) (takes pass made took known)

pub forks_as : (pass : ℕ) (v : LaneView) (made : ℕ) (took : List Item) (known : List (ℕ × List Item)) → v ≡ Core made took known → Forks KeepsLanes pass v (with_new_seat v) (new_seat v)
forks_as pass v made took known is = subst (λ u. Forks KeepsLanes pass u (with_new_seat u) (new_seat u)) (sym is) (forks pass made took known)

pub merges_as : (pass : ℕ) (v : LaneView) (made : ℕ) (took : List Item) (known : List (ℕ × List Item)) (other : ℕ) (w : LaneView) (s : ℕ) (own : List Item) → v ≡ Core made took known → w ≡ Seat s own
    → Merges KeepsLanes pass v other w (with_settled v w) Spent
merges_as pass v made took known other w s own is that = subst (λ (u : LaneView × LaneView). Merges KeepsLanes pass u.0 other u.1 (with_settled u.0 u.1) Spent) (λ i. (sym is i, sym that i)) (merges pass made took known other s own)

pub learns_as : (pass : ℕ) (v : LaneView) (made : ℕ) (took : List Item) (known : List (ℕ × List Item)) (s : ℕ) (own : List Item) → v ≡ Core made took ((s, own) ∷ known) → Learns KeepsLanes pass v (LastSettled v)
learns_as pass v made took known s own is = subst (λ u. Learns KeepsLanes pass u (LastSettled u)) (sym is) (learns pass made took known s own)
