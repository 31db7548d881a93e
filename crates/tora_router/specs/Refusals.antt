-- Why a router can't be made.
use Rattle.std.specs.Prelude.{ℕ, ◌==◌, ◌||◌, Bool, nat_lt, codes, if◌then◌else◌, List, Option, Some, None, option_map}
use Rattle.tora_arq.specs.declared.times.Times.{Times}
use Rattle.tora_core.specs.declared.errors.CoreError.{CoreError}
use Rattle.tora_core.specs.declared.errors.CoreError.TheVariants as Core
use Rattle.tora_core.specs.CoreRun.{core_refusal_within}
use Rattle.tora_core.specs.Limits.{most_destinations, most_neighbours}
use Rattle.tora_core.specs.Numbers.{has_number}
use Rattle.tora_router.specs.declared.TheConstants.{GREATEST_LIFE}
use Rattle.tora_router.specs.declared.config.Config.{Config}
use Rattle.tora_router.specs.declared.router_error.RouterError.{RouterError}
use Rattle.tora_router.specs.declared.router_error.RouterError.TheVariants as Fault

abbrev pub error_of : CoreError → RouterError
error_of Core.Memory = Fault.Memory
error_of Core.TooMany = Fault.TooMany
error_of Core.Repeated = Fault.Repeated
error_of Core.OwnId = Fault.OwnId

abbrev pub written_error : RouterError → List ℕ
written_error Fault.Id = codes "a number of a node is 0"
written_error Fault.Times = codes "a time is 0"
written_error Fault.Life = codes "the first life number is out of range"
written_error Fault.TooMany = codes "there are too many neighbours or too many destinations"
written_error Fault.Repeated = codes "a neighbour or a destination is named twice"
written_error Fault.OwnId = codes "the node itself is among its neighbours"
written_error Fault.Memory = codes "there is not enough memory"

abbrev pub has_no_time : Times → Bool
has_no_time t = (t.hello == 0 || t.silent == 0) || (t.retry == 0 || t.tries == 0)

abbrev pub is_no_life : ℕ → Bool
is_no_life number = number == 0 || nat_lt GREATEST_LIFE number

-- the first cause that applies, apart from those of the core
abbrev pub early_refusal : Config → List ℕ → List ℕ → ℕ → Option RouterError
early_refusal config neighbours destinations first_life =
    if config.me == 0 || (has_number 0 neighbours || has_number 0 destinations) then Some Fault.Id
    else if has_no_time config.times then Some Fault.Times
    else if is_no_life first_life then Some Fault.Life
    else None

abbrev pub or_later : Option RouterError → Option RouterError → Option RouterError
or_later (Some error) later = Some error
or_later None later = later

-- the first cause that applies, apart from memory
abbrev pub router_refusal : Config → List ℕ → List ℕ → ℕ → Option RouterError
router_refusal config neighbours destinations first_life = or_later
    (early_refusal config neighbours destinations first_life)
    (option_map error_of (core_refusal_within (most_neighbours config.limits) (most_destinations config.limits)
    config.me neighbours destinations))
