use Rattle.std.proofs.Common.{◌≡◌, ◌∙◌, sym, ap, ℕ, ◌+◌, ◌<◌, ◌≤◌, Bool, true, false, length, arith}
use Rattle.std.specs.Prelude.{slice_index_or, slice_set, if◌then◌else◌}
use Rattle.tora_height.specs.declared.direction.Direction.{Direction}
use Rattle.tora_core.specs.Links.{downstream_in, is_down}
use Rattle.tora_core.proofs.LinkLemmas.{directions-next, downstream-next, one_if}
use Rattle.std.proofs.Common.{take}
use Rattle.std.proofs.Math.ListN.{length-set}
use Rattle.tora_height.specs.HeightOrder.{link_status}
use Rattle.tora_core.proofs.links.direct.Goals as goal
use Rattle.tora_core.proofs.links.direct.Goals.{then-is_down, else-is_down}

pub loop-i-preserved : goal.loop-i-preserved
loop-i-preserved c =
    let rows = c.args.rows.now in
    let i = c.loop-i.i in
    let own = c.args.own.now in
    let x = slice_index_or rows i c.index-rows-i.result in
    let lt : i < length rows = c.loop-i-test.true in
    let within : i < length c.loop-i.directions = let same = c.loop-i.invariant.lengths in omega arith in
    let read : x ≡ slice_index_or rows i x = ap (slice_index_or rows i) c.index-rows-i.is in
    let directed = directions-next own c.loop-i.directions rows i x within lt read c.loop-i.invariant.directions in
    let counted = downstream-next own rows i x lt read in
    let more : (b : Bool) → is_down c.status-direction.result ≡ b → downstream_in own (take (i + 1) rows) ≡ c.loop-i.downstream + (if b then 1 else 0) = λ b e.
    counted ∙ ap (λ (n : ℕ). n + one_if (is_down (link_status own x.entry))) (sym c.loop-i.invariant.downstream)
    ∙ ap (λ (t : Bool). c.loop-i.downstream + one_if t) (ap is_down (sym c.status-direction.ensures) ∙ e) in
    let few = c.loop-i.invariant.few in
    let sum : (c.if-is_down.downstream ≡ downstream_in own (take (i + 1) rows)) × (c.if-is_down.downstream ≤ i + 1) =
    elim c.if-is_down.branch [
      | then-is_down w ↦ (let e = more true (sym c.is_down.ensures ∙ w.if-is_down.true) in let f = w.downstream-is in (f ∙ sym e, omega arith))
      | else-is_down w ↦ (let e = more false (sym c.is_down.ensures ∙ w.if-is_down.false) in let f = w.downstream-is in let z : c.loop-i.downstream + 0 ≡ c.loop-i.downstream = omega arith in (f ∙ sym z ∙ sym e, omega arith))
    ] in
    record {
      directions = ap (λ (d : Direction). take (i + 1) (slice_set c.loop-i.directions i d)) c.status-direction.ensures ∙ directed;
      lengths = simp length-set c.loop-i.invariant.lengths;
      downstream = sum.0;
      few = sum.1;
    }
