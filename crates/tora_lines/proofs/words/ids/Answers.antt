use Rattle.std.proofs.Common.{sym, ap, ◌∙◌, ◌<◌, Some, List, ℕ}
use Rattle.std.proofs.lemmas.List.Elements.{All-push}
use Rattle.tora_lines.specs.Words.{ids_of, split}
use Rattle.tora_lines.proofs.Splits.{split_cut, ids_go_on, ids_fault, ids_last, ids_last_fault}
use Rattle.tora_lines.proofs.words.ids.Goals as goal

pub loop-piece-preserved : goal.loop-piece-preserved
loop-piece-preserved c = record {
  positive = rw c.in_ok-push.ensures.items (All-push (λ n. 0 < n) c.loop-piece.ids.items c.in-Some-id.n c.loop-piece.invariant.positive c.in-Some-id.ensures.positive);
  spelled = rw c.in_ok-push.ensures.items (ids_go_on c.loop-piece.rest.now c.loop-piece.ids.items c.in-Some.piece.now c.in-Some.after.now c.in-Some-id.n
      (ids_of (split 44 c.args.text.now)) (sym c.in-Some.ensures.parts) (sym c.in-Some-id.ensures.value) c.loop-piece.invariant.spelled);
}

pub loop-piece-smaller : goal.loop-piece-smaller
loop-piece-smaller c = (split_cut 44 c.loop-piece.rest.now c.in-Some.piece.now c.in-Some.after.now (sym c.in-Some.ensures.parts)).1

pub returns-in_default-id-clause-value : goal.returns-in_default-id-clause-value
returns-in_default-id-clause-value c =
    ids_fault c.loop-piece.rest.now c.loop-piece.ids.items c.in-Some.piece.now c.in-Some.after.now (ids_of (split 44 c.args.text.now)) (sym c.in-Some.ensures.parts) (sym c.in_default-id.ensures.value) c.loop-piece.invariant.spelled

pub returns-in_default-id-2-clause-value : goal.returns-in_default-id-2-clause-value
returns-in_default-id-2-clause-value c =
    ids_last_fault c.loop-piece.rest.now c.loop-piece.ids.items (ids_of (split 44 c.args.text.now)) (sym c.in_default.ensures.parts) (sym c.in_default-id-2.ensures.value) c.loop-piece.invariant.spelled

pub returns-clause-value : goal.returns-clause-value
returns-clause-value c =
    ids_last c.loop-piece.rest.now c.loop-piece.ids.items c.in-Some-id-2.n (ids_of (split 44 c.args.text.now)) (sym c.in_default.ensures.parts) (sym c.in-Some-id-2.ensures.value) c.loop-piece.invariant.spelled
    ∙ sym (ap (λ (t : List ℕ). Some t) c.in_ok-push-2.ensures.items)
