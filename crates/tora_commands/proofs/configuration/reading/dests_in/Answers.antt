use Rattle.std.proofs.Common.{◌≡◌, ◌∙◌, arith, codes, pos, map, [], Some, Ok}
use Rattle.std.proofs.lemmas.Result.{err_from_is_err_and}
use Rattle.std.proofs.lemmas.Grind.{common_steps}
use Rattle.std.specs.Prelude.{List}
use Rattle.toml.specs.Data.{Members, as_integer, get_member}
use Rattle.toml.specs.View.{view, items_view, table_view}
use Rattle.toml.specs.declared.value.Value.{Value}
use Rattle.tora_commands.specs.declared.configuration.fault.Place.TheVariants as At
use Rattle.tora_commands.specs.ConfigRefusal.{list_at, at_place}
use Rattle.tora_commands.specs.ConfigReading.{dest_in, dests_in, Fails}
use Rattle.tora_commands.proofs.ConfigLists.{all_of}
use Rattle.tora_commands.proofs.ConfigLoops.{rest_of, goes_on, ends, is_done}
use Rattle.tora_commands.proofs.configuration.reading.dests_in.Goals as goal

-- the destinations in a table are those in the list at its key
after : (table : Members) (values : List Value) → at_place At.Dests (list_at (get_member (codes "dests") table)) ≡ Ok (items_view values) → dests_in table ≡ rest_of dest_in [] 0 values
unfolding dests_in
after table values read = rw read

pub loop-value-preserved : goal.loop-value-preserved
loop-value-preserved c = record {
  above = grind (arith, common_steps);
  exact = grind (arith, common_steps);
  gives = rw c.in_ok-push.ensures.items (goes_on dest_in c.loop-value.dests.items c.in_ok-dest.dest c.loop-value.value-index c.in_ok-values.values.now c.value-item.result _ c.loop-value-test.true c.value-item.is (rw (← c.as_slice.ensures.value) c.in_ok-dest.ensures.gives) c.loop-value.invariant.gives);
}

pub returns-in_err-dest-clause-gives : goal.returns-in_err-dest-clause-gives
returns-in_err-dest-clause-gives c =
    let p = err_from_is_err_and c.from_residual-in_err-dest.result c.from_residual-in_err-dest.ensures.1 in
    let stops : Fails c.in_err-dest.field-0.0 (rest_of dest_in [] 0 c.in_ok-values.values.now) =
    ends c.in_err-dest.field-0.0 dest_in c.loop-value.dests.items c.loop-value.value-index c.in_ok-values.values.now c.value-item.result _ c.loop-value-test.true c.value-item.is (rw (← c.as_slice.ensures.value) c.in_err-dest.ensures.gives) c.loop-value.invariant.gives in
    rw (p.1, p.2, after (table_view c.args.table.now) c.in_ok-values.values.now c.in_ok-values.ensures.gives) stops

pub returns-clause-gives : goal.returns-clause-gives
returns-clause-gives c =
    after (table_view c.args.table.now) c.in_ok-values.values.now c.in_ok-values.ensures.gives
    ∙ is_done dest_in c.loop-value.dests.items c.loop-value.value-index c.in_ok-values.values.now (rest_of dest_in [] 0 c.in_ok-values.values.now) c.loop-value-test.false c.loop-value.invariant.gives

pub returns-clause-exact : goal.returns-clause-exact
returns-clause-exact c = (
  map view c.in_ok-values.values.now,
  c.in_ok-values.ensures.exact,
  all_of as_integer view (λ d. Some (pos d)) c.in_ok-values.values.now c.loop-value.dests.items c.loop-value.value-index c.loop-value-test.false c.loop-value.invariant.exact,
)
