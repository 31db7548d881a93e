use Rattle.std.proofs.Common.{◌≡◌, ◌∙◌, sym, ap, ◌<◌, Bool, List, [], ◌∷◌, ◌++◌, take, length, arith}
use Rattle.std.specs.Prelude.{if◌then◌else◌}
use Rattle.std.proofs.lemmas.List.{length-take-le}
use Rattle.tora_core.specs.declared.rows.Row.{Row}
use Rattle.tora_core.specs.Links.{rows_up}
use Rattle.tora_core.proofs.PlaceLemmas.{up-more}
use Rattle.tora_core.proofs.TableViews.{take-whole}
use Rattle.tora_core.proofs.neighbour_places.rows_up.Goals as goal

-- the row at the next place is added if the place is marked
pub loop-i-preserved : goal.loop-i-preserved
loop-i-preserved c =
    let up = c.args.up.now in
    let places = c.args.places.now in
    let i = c.loop-i.i in
    let mark = c.is_marked-mark.result in
    let row = c.row_at-row.result.now in
    let lt : i < length places = c.loop-i-test.true in
    let equal : length up ≡ length places = c.requires in
    let within : i < length up = omega arith in
    let first : length (take i up) ≡ i = length-take-le i up (omega arith) in
    let second : length (take i places) ≡ i = length-take-le i places (omega arith) in
    c.in_ok-push_marked.ensures ∙ ap (λ (xs : List Row). xs ++ (if mark then row ∷ [] else [])) c.loop-i.invariant
    ∙ sym (up-more up places i mark row within lt (first ∙ sym second) c.is_marked-mark.ensures c.row_at-row.ensures)

pub returns : goal.returns
returns c =
    let up = c.args.up.now in
    let places = c.args.places.now in
    let i = c.loop-i.i in
    let equal : length up ≡ length places = c.requires in
    let end = c.loop-i-test.false in
    c.loop-i.invariant ∙ ap (λ (us : List Bool). rows_up us (take i places)) (take-whole i up (omega arith)) ∙ ap (rows_up up) (take-whole i places end)
