use Rattle.std.proofs.Common.{◌+◌, List, ℕ, OnOk, slice_set, subst, ap, ◌∙◌}
use Rattle.std.specs.Prelude.{codes}
use Rattle.std.specs.Io.KnownBytes.{Appends}
use Rattle.tora_node.proofs.Refusals.{refusal_digit}
use Rattle.tora_node.proofs.core_thread.print_refusal.Goals as goal

pub returns-clause-ok : goal.returns-clause-ok
returns-clause-ok g c =
    let e = c.as_slice.ensures ∙ ap (λ (n : ℕ). slice_set (codes "refused 0\n") 8 (48 + n)) c.number.ensures ∙ refusal_digit c.in-Refused.error in
    rw (c.in-Refused.is) (subst (λ (b : List ℕ). OnOk c.write.result (Appends (g.W.Write.contents c.args.writer.now) (g.W.Write.contents c.write.new.writer) b)) e c.write.ensures.ok)
