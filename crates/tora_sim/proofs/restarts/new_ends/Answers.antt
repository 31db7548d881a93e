use Rattle.std.proofs.Common.{◌≡◌, ◌<◌, ◌+◌, ◌++◌, ◌∷◌, [], length, ap, sym, subst, ◌∙◌, arith, List}
use Rattle.std.proofs.lemmas.List.{length-append}
use Rattle.tora_arq.specs.EndRange.{LinkEndView}
use Rattle.tora_sim.specs.Restarts.{AreFresh}
use Rattle.tora_sim.proofs.FreshEnds.{more_fresh}
use Rattle.tora_sim.proofs.restarts.new_ends.Goals as goal

pub loop-place-preserved : goal.loop-place-preserved
loop-place-preserved c =
    let l = c.loop-place in
    let lt : l.place < c.args.count = c.loop-place-test.true in
    let within : c.args.first + l.place < length c.args.links.now.items = omega (arith, lt, c.requires) in
    let many : length (l.ends.items ++ c.in-Ok-new_end.end ∷ []) ≡ length l.ends.items + 1 = length-append l.ends.items (c.in-Ok-new_end.end ∷ []) in
    let before = l.invariant.1 in
    let room = l.invariant.3 in (
      subst (λ (ends : List LinkEndView). AreFresh c.args.links.now.items c.args.first (l.place + 1) ends) (sym c.push_reserved.ensures.items)
          (more_fresh c.args.links.now.items c.args.first l.place c.index.result.now l.ends.items c.in-Ok-new_end.end l.invariant.0 l.invariant.1 within c.index.ensures c.in-Ok-new_end.ensures.fresh),
      ap length c.push_reserved.ensures.items ∙ many ∙ ap (λ m. m + 1) before,
      c.push_reserved.ensures.len ∙ ap (λ m. m + 1) l.invariant.2,
      (let same = c.push_reserved.ensures.capacity in omega (arith, room, same)),
    )
