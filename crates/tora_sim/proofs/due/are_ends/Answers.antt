use Rattle.std.proofs.Common.{◌≡◌, ◌∷◌, [], ◌++◌, ℕ, List, sym, ap, ap₂, ◌∙◌, arith, get_or}
use Rattle.std.proofs.lemmas.Nat.{le_or_l, le_or_r}
use Rattle.std.proofs.lemmas.List.{take_more}
use Rattle.tora_sim.proofs.due.are_ends.Goals as goal

pub loop-place-preserved : goal.loop-place-preserved
loop-place-preserved c =
    let ends = c.args.ends.now in
    let keys = c.args.keys.now in
    let place = c.loop-place.place in
    let before = c.loop-place.apart in
    let here = c.ends_apart-apart.result in (
      λ none.
          let none_before : before ≡ 0 = omega (arith, none, le_or_l before here) in
          let none_here : here ≡ 0 = omega (arith, none, le_or_r before here) in
          take_more ends place (0, 0) c.loop-place-test.true
          ∙ ap₂ (λ (xs : List (ℕ × ℕ)) (x : ℕ × ℕ). xs ++ x ∷ []) (c.loop-place.invariant.0 none_before) (sym (c.ends_apart-apart.ensures.apart none_here))
          ∙ sym (take_more keys place (0, 0) (omega (arith, c.loop-place-test.true, c.if-keys-ends.false))),
      λ same.
          let none_before = c.loop-place.invariant.1 same in
          let none_here = c.ends_apart-apart.ensures.same (ap (λ (xs : List (ℕ × ℕ)). get_or xs place (0, 0)) (sym same)) in
          rw (none_before, none_here),
    )
