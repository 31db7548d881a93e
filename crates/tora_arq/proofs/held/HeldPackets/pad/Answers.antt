use Rattle.std.proofs.Common.{◌≡◌, None, [], ◌∷◌, ◌++◌, length, Option, ap, ◌∙◌, arith, length-append}
use Rattle.circular_buffer.specs.Buffer.{Buffer}
use Rattle.tora_packet.specs.declared.Packet.{Packet}
use Rattle.tora_arq.specs.Held.{padded}
use Rattle.tora_arq.proofs.HeldLemmas.{padded_more}
use Rattle.tora_arq.proofs.held.HeldPackets.pad.Goals as goal

pub loop-preserved : goal.loop-preserved
loop-preserved c =
    let items : c.push.new.ring.items ≡ c.loop.self-inside.ring.items ++ None ∷ [] = ap (λ (b : Buffer (Option Packet)). b.items) c.push.ensures in
    let short : length c.loop.self-inside.ring.items ≡ c.loop.counter = c.loop.invariant.len in record {
      padded_is = ap (padded c.args.places) items ∙ padded_more c.args.places c.loop.self-inside.ring.items (omega (arith, short, c.loop-test.true)) ∙ c.loop.invariant.padded_is;
      len = omega (arith, ap length items, length-append c.loop.self-inside.ring.items (None ∷ []), short);
      capacity = ap (λ (b : Buffer (Option Packet)). b.capacity) c.push.ensures ∙ c.loop.invariant.capacity;
    }
