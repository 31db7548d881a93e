use Rattle.std.proofs.Props.{props}
use Rattle.std.proofs.Math.Logic.{∥∥₁_elim}
use Rattle.tora_drive.proofs.taking.begin.Goals as goal

pub new-requires-clause-links : goal.new-requires-clause-links
new-requires-clause-links g c =
    let known = c.args.lines.now.links_are_pairs in
    rw c.deref-2.ensures.value (λ k d lt. (
      ∥∥₁_elim known (search props) (λ all. (all k d lt).0),
      ∥∥₁_elim known (search props) (λ all. (all k d lt).1),
    ))

pub new-requires-clause-dests : goal.new-requires-clause-dests
new-requires-clause-dests g c =
    rw c.deref.ensures.value (λ k d lt. ∥∥₁_elim c.args.lines.now.dests_are_ids (search props) (λ all. all k d lt))
