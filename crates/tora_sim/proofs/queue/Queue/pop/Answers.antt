use Rattle.std.proofs.Common.{◌≡◌, ℕ, zero, suc, ◌+◌, List, [], ◌∷◌, drop, slice_get, None, Some, refl, sym, ap, ◌∙◌, arith}
use Rattle.tora_sim.proofs.queue.Queue.pop.Goals as goal

no_first : {A : Type 0} (items : List A) → None ≡ slice_get items 0 → items ≡ []
no_first [] none = refl
no_first (item ∷ items) none = absurd cc

-- the first item after those that were taken, and the items after it
first_of : {A : Type 0} (list : List A) (taken : ℕ) (item : A) → Some item ≡ slice_get (drop taken list) 0 → drop taken list ≡ item ∷ drop (suc taken) list
first_of [] zero item is = absurd cc
first_of [] (suc taken) item is = absurd cc
first_of (x ∷ list) zero item is = let same : x ≡ item = cc in ap (λ y. y ∷ list) same
first_of (x ∷ list) (suc taken) item is = first_of list taken item is

pub returns-in_default-clause-none : goal.returns-in_default-clause-none
returns-in_default-clause-none g c = no_first c.args.self.now.items c.in_default.ensures

pub returns-clause-items : goal.returns-clause-items
returns-clause-items g c =
    let s = c.self.inside in
    let now = ap (λ v. v.items) c.self.view_is in
    let next : s.taken + 1 ≡ suc s.taken = omega arith in
    sym now
    ∙ first_of s.list.items s.taken c.in-Some.item (c.in-Some.ensures ∙ ap (λ items. slice_get items 0) (sym now))
    ∙ ap (λ items. c.in-Some.item ∷ items) (sym (c.let_go.ensures.rest ∙ ap (λ n. drop n s.list.items) next))
