use Rattle.std.proofs.Common.{◌≡◌, length, false, sym, ap, ◌∙◌, eqb-true, arith}
use Rattle.tora_core.specs.Numbers.{has_number}
use Rattle.tora_sim.proofs.Named.{fresh_node}
use Rattle.tora_sim.proofs.link_nodes.put.Goals as goal

pub returns-then-is_full : goal.returns-then-is_full
returns-then-is_full g c =
    let absent : has_number c.args.n c.args.numbers.now.items ≡ false = ap (has_number c.args.n) (sym c.as_slice.ensures.value) ∙ sym c.is_among.ensures ∙ c.if-is_among.false in
    let full : length c.args.numbers.now.items ≡ g.row.N = eqb-true _ _ (sym c.is_full.ensures.value ∙ c.if-is_full.true) in
    omega (arith, fresh_node c.args.n c.args.numbers.now.items absent)
