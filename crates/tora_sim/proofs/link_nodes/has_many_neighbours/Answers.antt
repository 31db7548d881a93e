use Rattle.std.proofs.Common.{◌≡◌, ◌-◌, ℕ, List, length, cond, nat_lt, sym, ap, ◌∙◌, arith}
use Rattle.tora_core.specs.Numbers.{has_number}
use Rattle.tora_sim.proofs.Named.{ends_from, many-ends, other-count}
use Rattle.tora_sim.proofs.link_nodes.has_many_neighbours.Goals as goal

pub returns-then-not-put_end : goal.returns-then-not-put_end
returns-then-not-put_end c =
    sym (many-ends c.args.most c.args.n c.args.links.now c.loop-left.left c.loop-left.ends.items (0, 0) c.requires c.loop-left-test.true c.loop-left.invariant.within c.loop-left.invariant.ends
    c.if-not-put_end.ensures)

pub returns : goal.returns
returns c =
    let none : c.loop-left.left ≡ 0 = omega arith in
    let all : c.loop-left.ends.items ≡ ends_from c.args.n c.args.links.now 0 = c.loop-left.invariant.ends ∙ ap (ends_from c.args.n c.args.links.now) none in
    ap (nat_lt c.args.most)
    (c.count_others.ensures ∙ ap (λ (xs : List ℕ). cond (has_number c.args.n xs) (length xs - 1) (length xs)) (c.as_slice.ensures.value ∙ all) ∙ other-count c.args.n c.args.links.now)
