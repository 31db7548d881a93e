use Rattle.std.proofs.Common.{◌≡◌, ◌∙◌, codes, [], ◌∷◌, map, Ok}
use Rattle.std.proofs.lemmas.List.{map-append}
use Rattle.std.proofs.lemmas.Result.{err_from_is_err_and}
use Rattle.std.specs.Prelude.{List}
use Rattle.toml.specs.Data.{Members, get_member}
use Rattle.toml.specs.View.{items_view, table_view}
use Rattle.toml.specs.declared.value.Value.{Value}
use Rattle.tora_commands.specs.declared.configuration.fault.Place.TheVariants as At
use Rattle.tora_commands.specs.ConfigRefusal.{list_at, at_place}
use Rattle.tora_commands.specs.ConfigReading.{Fails}
use Rattle.tora_commands.specs.ConfigEndpoints.{said_endpoint, endpoint_beside, endpoints_in}
use Rattle.tora_commands.proofs.ConfigLoops.{rest_of, goes_on, ends, is_done}
use Rattle.tora_commands.proofs.configuration.endpoints.endpoints_of.Goals as goal

-- the addresses in a table are those in the list at its key
after : (table : Members) (values : List Value) → at_place At.Links (list_at (get_member (codes "link") table)) ≡ Ok (items_view values) → endpoints_in table ≡ rest_of endpoint_beside [] 0 values
unfolding endpoints_in
after table values read = rw read

pub loop-value-preserved : goal.loop-value-preserved
loop-value-preserved c = rw (c.in_ok-push.ensures.items, map-append said_endpoint c.loop-value.endpoints.items (c.in_ok-endpoint.endpoint ∷ [])) (goes_on endpoint_beside (map said_endpoint c.loop-value.endpoints.items) (said_endpoint c.in_ok-endpoint.endpoint) c.loop-value.value-index c.in_ok-values.values.now c.value-item.result _ c.loop-value-test.true c.value-item.is (rw (← c.as_slice.ensures.value) c.in_ok-endpoint.ensures) c.loop-value.invariant)

pub returns-in_err-endpoint : goal.returns-in_err-endpoint
returns-in_err-endpoint c =
    let p = err_from_is_err_and c.from_residual-in_err-endpoint.result c.from_residual-in_err-endpoint.ensures.1 in
    let stops : Fails c.in_err-endpoint.field-0.0 (rest_of endpoint_beside [] 0 c.in_ok-values.values.now) =
    ends c.in_err-endpoint.field-0.0 endpoint_beside (map said_endpoint c.loop-value.endpoints.items) c.loop-value.value-index c.in_ok-values.values.now c.value-item.result _ c.loop-value-test.true c.value-item.is (rw (← c.as_slice.ensures.value) c.in_err-endpoint.ensures) c.loop-value.invariant in
    rw (p.1, p.2, after (table_view c.args.table.now) c.in_ok-values.values.now c.in_ok-values.ensures.gives) stops

pub returns : goal.returns
returns c =
    after (table_view c.args.table.now) c.in_ok-values.values.now c.in_ok-values.ensures.gives
    ∙ is_done endpoint_beside (map said_endpoint c.loop-value.endpoints.items) c.loop-value.value-index c.in_ok-values.values.now (rest_of endpoint_beside [] 0 c.in_ok-values.values.now) c.loop-value-test.false c.loop-value.invariant
