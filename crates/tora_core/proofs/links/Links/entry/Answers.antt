use Rattle.std.proofs.Common.{◌∙◌, sym, ap, Bool, List, length}
use Rattle.std.specs.Prelude.{◌==◌, find, option_map}
use Rattle.tora_core.specs.declared.rows.Row.{Row}
use Rattle.tora_core.specs.Links.{LinkTable, rows_up}
use Rattle.tora_core.proofs.PlaceLemmas.{marked-length}
use Rattle.tora_core.proofs.links.Links.entry.Goals as goal

pub entry_of-requires-clause-ascending : goal.entry_of-requires-clause-ascending
entry_of-requires-clause-ascending c = rw c.as_slice-2.ensures.value c.self.invariant.2

pub entry_of-requires-clause-lengths : goal.entry_of-requires-clause-lengths
entry_of-requires-clause-lengths c =
    ap (λ (us : List Bool). length us) c.as_slice.ensures.value ∙ marked-length c.self.inside.up.items c.self.inside.places.items c.self.invariant.1
    ∙ sym (ap (λ (xs : List Row). length xs) c.as_slice-2.ensures.value)

pub returns : goal.returns
returns c =
    c.entry_of.ensures
    ∙ ap (λ (rows : List Row). option_map (λ (row : Row). row.entry) (find (λ (row : Row). row.neighbour == c.args.k) rows))
    (ap (λ (us : List Bool). rows_up us c.as_slice-2.result.now) c.as_slice.ensures.value ∙ ap (rows_up c.self.inside.up.items) c.as_slice-2.ensures.value
    ∙ ap (λ (t : LinkTable). t.rows) c.self.view_is)
