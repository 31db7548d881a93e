use Rattle.std.proofs.Common.{◌∙◌, sym, subst, take, ◌+◌, ℕ, Option}
use Rattle.tora_core.specs.Links.{IsLeastPlace}
use Rattle.tora_core.proofs.LinkLemmas.{least-in_first, least-next_lower, least-next_same}
use Rattle.tora_core.proofs.links.place_of_least.Goals as goal
use Rattle.tora_core.proofs.links.place_of_least.Goals.{then-is_lower, else-is_lower}

pub is_lower-requires-clause-least : goal.is_lower-requires-clause-least
is_lower-requires-clause-least c = least-in_first c.loop-i.least c.loop-i.i c.args.rows.now c.loop-i-test.true c.loop-i.invariant

pub loop-i-preserved : goal.loop-i-preserved
loop-i-preserved c =
    let rows = c.args.rows.now in
    let P : Option ℕ → Type 0 = λ l. IsLeastPlace l (take (c.loop-i.i + 1) rows) in
    elim c.if-is_lower.branch [
      | then-is_lower w ↦ subst P (sym w.least-is) (least-next_lower c.loop-i.least c.loop-i.i rows c.loop-i-test.true c.loop-i.invariant (sym c.is_lower.ensures ∙ w.if-is_lower.true))
      | else-is_lower w ↦ subst P (sym w.least-is) (least-next_same c.loop-i.least c.loop-i.i rows c.loop-i-test.true c.loop-i.invariant (sym c.is_lower.ensures ∙ w.if-is_lower.false))
    ]
