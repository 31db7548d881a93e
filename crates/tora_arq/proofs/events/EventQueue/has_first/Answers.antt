use Rattle.std.proofs.Common.{◌≡◌, nat_lt, List, [], ◌∷◌, length, slice_get, is_some, refl, ap, ◌∙◌, arith}
use Rattle.std.proofs.lemmas.Bool.{lt-ltb}
use Rattle.tora_arq.specs.declared.link_event.LinkEvent.{LinkEvent}
use Rattle.tora_arq.proofs.events.EventQueue.has_first.Goals as goal

some_first : (events : List LinkEvent) → nat_lt 0 (length events) ≡ is_some (slice_get events 0)
some_first [] = refl
some_first (event ∷ events) = lt-ltb 0 (length (event ∷ events)) (omega arith)

pub returns : goal.returns
returns c = ap (nat_lt 0) c.len.ensures.length ∙ some_first c.args.self.now.items
