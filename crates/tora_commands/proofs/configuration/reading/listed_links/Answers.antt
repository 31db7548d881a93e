use Rattle.std.proofs.Common.{◌≡◌, ◌∙◌, arith, codes, ℕ, [], map, Ok}
use Rattle.std.proofs.lemmas.Result.{err_from_is_err_and}
use Rattle.std.proofs.lemmas.Grind.{common_steps}
use Rattle.std.specs.Prelude.{List}
use Rattle.toml.specs.Data.{Members, get_member}
use Rattle.toml.specs.View.{view, items_view, table_view}
use Rattle.toml.specs.declared.value.Value.{Value}
use Rattle.tora_commands.specs.declared.configuration.fault.Place.TheVariants as At
use Rattle.tora_commands.specs.NodeConfig.{says_of_link, said_link}
use Rattle.tora_commands.specs.ConfigRefusal.{list_at, at_place}
use Rattle.tora_commands.specs.ConfigReading.{link_beside, listed_links, Fails}
use Rattle.tora_commands.proofs.ConfigLists.{all_of}
use Rattle.tora_commands.proofs.ConfigLoops.{rest_of, goes_on, ends, is_done}
use Rattle.tora_commands.proofs.configuration.reading.listed_links.Goals as goal

-- the links in a table are those in the list at its key
after : (node : ℕ) (table : Members) (values : List Value) → at_place At.Links (list_at (get_member (codes "link") table)) ≡ Ok (items_view values) → listed_links node table ≡ rest_of (link_beside node) [] 0 values
unfolding listed_links
after node table values read = rw read

pub loop-value-preserved : goal.loop-value-preserved
loop-value-preserved c = record {
  range = grind (arith, common_steps);
  exact = grind (arith, common_steps);
  gives = rw c.in_ok-push.ensures.items (goes_on (link_beside c.args.node) c.loop-value.links.items c.in_ok-link.link c.loop-value.value-index c.in_ok-values.values.now c.value-item.result _ c.loop-value-test.true c.value-item.is (rw (← c.as_slice.ensures.value) c.in_ok-link.ensures.gives) c.loop-value.invariant.gives);
}

pub returns-in_err-link-clause-gives : goal.returns-in_err-link-clause-gives
returns-in_err-link-clause-gives c =
    let p = err_from_is_err_and c.from_residual-in_err-link.result c.from_residual-in_err-link.ensures.1 in
    let stops : Fails c.in_err-link.field-0.0 (rest_of (link_beside c.args.node) [] 0 c.in_ok-values.values.now) =
    ends c.in_err-link.field-0.0 (link_beside c.args.node) c.loop-value.links.items c.loop-value.value-index c.in_ok-values.values.now c.value-item.result _ c.loop-value-test.true c.value-item.is (rw (← c.as_slice.ensures.value) c.in_err-link.ensures.gives) c.loop-value.invariant.gives in
    rw (p.1, p.2, after c.args.node (table_view c.args.table.now) c.in_ok-values.values.now c.in_ok-values.ensures.gives) stops

pub returns-clause-gives : goal.returns-clause-gives
returns-clause-gives c =
    after c.args.node (table_view c.args.table.now) c.in_ok-values.values.now c.in_ok-values.ensures.gives
    ∙ is_done (link_beside c.args.node) c.loop-value.links.items c.loop-value.value-index c.in_ok-values.values.now (rest_of (link_beside c.args.node) [] 0 c.in_ok-values.values.now) c.loop-value-test.false c.loop-value.invariant.gives

pub returns-clause-exact : goal.returns-clause-exact
returns-clause-exact c = (
  map view c.in_ok-values.values.now,
  c.in_ok-values.ensures.exact,
  all_of says_of_link view said_link c.in_ok-values.values.now c.loop-value.links.items c.loop-value.value-index c.loop-value-test.false c.loop-value.invariant.exact,
)
