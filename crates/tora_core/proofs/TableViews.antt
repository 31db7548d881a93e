-- The views of a table, each with the neighbours for which it has a place.
use Rattle.std.proofs.Common.{◌≡◌, ◌∙◌, refl, ap, sym, ℕ, zero, suc, ◌<◌, ◌≤◌, ◌==◌, Bool, true, false, List, [], ◌∷◌, ◌++◌, map, take, length, Option, Some, arith}
use Rattle.std.specs.Prelude.{filter_map, find, option_map, slice_index_or, slice_set, if◌then◌else◌}
use Rattle.std.specs.List.{AllByRecursion, cons_option, flat_map}
use Rattle.std.proofs.lemmas.Grind.{common_steps}
use Rattle.tora_packet.specs.declared.Packet.{Packet}
use Rattle.tora_core.specs.declared.erasure.Erasure.{Erasure}
use Rattle.tora_core.specs.declared.Input.{Input}
use Rattle.tora_core.specs.View.{View, first_view_of}
use Rattle.tora_core.specs.CoreRun.{is_of, next_packet, next_view}
use Rattle.tora_core.specs.ShowText.{view_text}
use Rattle.tora_core.specs.Table.{HavePlaces, TableView, first_in, next_in, views_in}

pub length-in : (table : List TableView) → length (views_in table) ≡ length table
length-in [] = refl
length-in (t ∷ table) = ap suc (length-in table)

pub views_first : (neighbours : List ℕ) (e : Erasure) (me : ℕ) (destinations : List ℕ) → views_in (map (first_in neighbours e me) destinations) ≡ map (first_view_of e me) destinations
views_first neighbours e me [] = refl
views_first neighbours e me (d ∷ destinations) = ap (λ (views : List View). first_view_of e me d ∷ views) (views_first neighbours e me destinations)

pub places-first : (neighbours : List ℕ) (e : Erasure) (me : ℕ) (destinations : List ℕ) → HavePlaces neighbours (map (first_in neighbours e me) destinations)
places-first neighbours e me [] = tt
places-first neighbours e me (d ∷ destinations) = (refl, places-first neighbours e me destinations)

pub views_next : (input : Input) (now : ℕ) (table : List TableView) → views_in (map (next_in input now) table) ≡ map (next_view input now) (views_in table)
views_next input now [] = refl
views_next input now (t ∷ table) = ap (λ (views : List View). next_view input now t.view ∷ views) (views_next input now table)

pub places-next : (input : Input) (now : ℕ) (neighbours : List ℕ) (table : List TableView) → HavePlaces neighbours table → HavePlaces neighbours (map (next_in input now) table)
places-next input now neighbours [] have = tt
places-next input now neighbours (t ∷ table) have = (have.0, places-next input now neighbours table have.1)

-- the packet that an input makes a view of the table send
abbrev pub packet_in : Input → ℕ → TableView → Option Packet
packet_in input now t = next_packet input now t.view

pub packets_in : (input : Input) (now : ℕ) (table : List TableView) → filter_map (packet_in input now) table ≡ filter_map (next_packet input now) (views_in table)
packets_in input now [] = refl
packets_in input now (t ∷ table) = ap (cons_option (next_packet input now t.view)) (packets_in input now table)

pub texts_in : (table : List TableView) → flat_map (λ (t : TableView). view_text t.view) table ≡ flat_map view_text (views_in table)
texts_in [] = refl
texts_in (t ∷ table) = ap (λ (text : List ℕ). view_text t.view ++ text) (texts_in table)

pub find_in : (d : ℕ) (table : List TableView) → option_map (λ (t : TableView). t.view) (find (λ t. t.view.destination == d) table) ≡ find (is_of d) (views_in table)
find_in d [] = refl
find_in d (t ∷ table) = at (t.view.destination == d) (find_in d table)
  where
    at : (b : Bool) → option_map (λ (t : TableView). t.view) (find (λ t. t.view.destination == d) table) ≡ find (is_of d) (views_in table)
        → option_map (λ (t : TableView). t.view) (if b then Some t else find (λ t. t.view.destination == d) table) ≡ (if b then Some t.view else find (is_of d) (views_in table))
    at true rest = refl
    at false rest = rest

pub read-in : (table : List TableView) (i : ℕ) (x : TableView) → i < length table → x ≡ slice_index_or table i x → x.view ≡ slice_index_or (views_in table) i x.view
read-in [] i x lt read = absurd (omega arith)
read-in (t ∷ table) zero x lt read = ap (λ (u : TableView). u.view) read
read-in (t ∷ table) (suc i) x lt read = read-in table i x (omega arith) read

table-same : (input : Input) (now : ℕ) (table : List TableView) → map (next_view input now) (views_in table) ≡ views_in table → map (next_in input now) table ≡ table
table-same input now [] e = refl
table-same input now (t ∷ table) e =
    let here : next_view input now t.view ≡ t.view = cc in
    let later : map (next_view input now) (views_in table) ≡ views_in table = cc in
    let rest = table-same input now table later in
    let first : next_in input now t ≡ t = ap (λ (v : View). record t { view = v }) here in
    cc

pub table-none : (input : Input) (now : ℕ) (table : List TableView) → map (next_view input now) (views_in table) ≡ views_in table → table ≡ map (next_in input now) table
table-none input now table e = sym (table-same input now table e)

pub same-in : (t u : TableView) → t.view ≡ u.view → t.neighbours ≡ u.neighbours → t ≡ u
same-in t u e f = ap (λ (v : View). record t { view = v }) e ∙ ap (λ (ns : List ℕ). record u { neighbours = ns }) f

pub all-in : (P : View → Type 0) (table : List TableView) → AllByRecursion P (views_in table) → AllByRecursion (λ (t : TableView). P t.view) table
all-in P [] all = tt
all-in P (t ∷ table) all = (all.0, all-in P table all.1)

-- if one view changes, the table changes at the place of that view
pub table-at : (input : Input) (now : ℕ) (table : List TableView) (i : ℕ) (x : TableView) (w : View) → i < length table → x ≡ slice_index_or table i x
    → map (next_view input now) (views_in table) ≡ slice_set (views_in table) i w → map (next_in input now) table ≡ slice_set table i (record x { view = w })
table-at input now [] i x w lt read e = absurd (omega arith)
table-at input now (t ∷ table) zero x w lt read e =
    let here : next_view input now t.view ≡ w = cc in
    let later : map (next_view input now) (views_in table) ≡ views_in table = cc in
    let rest = table-same input now table later in
    let same : x ≡ t = read in
    let first : next_in input now t ≡ record x { view = w } = ap (λ (v : View). record t { view = v }) here ∙ ap (λ (u : TableView). record u { view = w }) (sym same) in
    cc
table-at input now (t ∷ table) (suc i) x w lt read e =
    let here : next_view input now t.view ≡ t.view = cc in
    let later : map (next_view input now) (views_in table) ≡ slice_set (views_in table) i w = cc in
    let rest = table-at input now table i x w (omega arith) read later in
    let first : next_in input now t ≡ t = ap (λ (v : View). record t { view = v }) here in
    cc

pub take-whole : {X : Type 0} (i : ℕ) (xs : List X) → length xs ≤ i → take i xs ≡ xs
take-whole i xs le = grind (arith, common_steps)
