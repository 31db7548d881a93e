use Rattle.std.proofs.Common.{◌<◌, ◌^◌, ℕ, nat_le, map, sym, ap, ◌∙◌, subst, arith, Fits, w16, w32}
use Rattle.std.specs.Simd.Lanes.{chunk, mask_l}
use Rattle.std.proofs.lemmas.List.{length-map}
use Rattle.std.proofs.lemmas.Simd.{bitmask_splat, length-chunk, mask_l-lt}
use Rattle.tora_sim.specs.Deadlines.{due_bits}
use Rattle.tora_sim.proofs.DueBits.{bits_by_short}
use Rattle.tora_sim.proofs.due_bits.due_bits.Goals as goal

pub overflow_cast-result : goal.overflow_cast-result
overflow_cast-result c =
    let now = c.short.result in
    let near = chunk c.args.first 16 c.args.ticks.now in
    let many = length-chunk c.args.first 16 c.args.ticks.now (omega arith) in
    let dues = map (λ (tick : ℕ). nat_le tick now) near in
    subst (Fits w16) (sym (bitmask_splat w32 nat_le near 16 now many (omega arith)))
    (record { fits = subst (λ (n : ℕ). mask_l dues < 2 ^ n) (length-map near (λ (tick : ℕ). nat_le tick now) ∙ many) (mask_l-lt dues) })

pub returns : goal.returns
returns c =
    let first = c.args.first in
    let ticks = c.args.ticks.now in
    bitmask_splat w32 nat_le (chunk first 16 ticks) 16 c.short.result (length-chunk first 16 ticks (omega arith)) (omega arith)
    ∙ ap (λ (now : ℕ). due_bits now first ticks) c.short.ensures
    ∙ bits_by_short c.args.now first ticks c.type_inv.ticks
