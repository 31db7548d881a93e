use Rattle.std.proofs.Common.{[], ◌∷◌, ◌++◌, ap, ◌∙◌}
use Rattle.std.proofs.lemmas.List.{map-append}
use Rattle.std.specs.Prelude.{map}
use Rattle.tora_neighbour.specs.MemoryWire.{MemoryWireView, sent_of}
use Rattle.tora_neighbour.proofs.memory_wire.MemWireWire.send.Goals as goal

pub returns-in-Ok-clause-tried : goal.returns-in-Ok-clause-tried
returns-in-Ok-clause-tried g c = λ yes.
    ap (map sent_of) c.in-Ok.ensures.ok
    ∙ map-append sent_of c.self.inside.sent.items (c.kept.result ∷ [])
    ∙ (λ i. (ap (λ (v : MemoryWireView). v.tries) c.self.view_is) i ++ c.kept.ensures i ∷ [])
