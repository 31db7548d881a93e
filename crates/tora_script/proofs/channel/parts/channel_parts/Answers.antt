use Rattle.std.proofs.Common.{◌≡◌, ◌∙◌, sym, ◌-◌, arith}
use Rattle.tora_script.specs.Parts.{with_part, parts_from, parts_of}
use Rattle.tora_script.proofs.channel.parts.channel_parts.Goals as goal

pub returns : goal.returns
unfolding parts_from
returns c =
    let k : 2 - c.loop.counter ≡ 0 = omega (arith, c.loop-test.false) in
    let i : with_part c.loop.parts c.loop.rest.now ≡ parts_of c.args.text.now = rw k at c.loop.invariant in
    sym c.ok_or-2.ensures.ok_part ∙ c.with-2.ensures ∙ i
