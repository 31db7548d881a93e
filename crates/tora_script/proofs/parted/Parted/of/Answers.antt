use Rattle.std.proofs.Common.{ℕ, List, [], ◌∷◌, ◌++◌, get_or, sym, ap, ◌∙◌}
use Rattle.std.proofs.lemmas.List.{take_more, take_all}
use Rattle.tora_script.proofs.parted.Parted.of.Goals as goal

pub loop-pair-preserved : goal.loop-pair-preserved
loop-pair-preserved c =
    let pairs = c.args.pairs.now in
    let i = c.loop-pair.pair-index in
    c.in_ok-push.ensures ∙ ap (λ (ps : List (ℕ × ℕ)). ps ++ get_or pairs i (0, 0) ∷ []) c.loop-pair.invariant ∙ sym (take_more pairs i (0, 0) c.loop-pair-test.true)

pub returns : goal.returns
returns c = c.loop-pair.invariant ∙ take_all c.loop-pair.pair-index c.args.pairs.now c.loop-pair-test.false
