use Rattle.std.proofs.Common.{◌≡◌, sym, ap, ap₂, ◌∙◌, Result, Ok, Err}
use Rattle.tora_life.specs.declared.numbers.LifeError.{LifeError}
use Rattle.tora_life.specs.declared.numbers.Numbers.{Numbers}
use Rattle.tora_life.specs.declared.state.State.{State}
use Rattle.tora_life.specs.declared.tags.Owner.{Owner}
use Rattle.tora_life.specs.LifeRun.{opened_as}
use Rattle.tora_life.proofs.InMemory.{opens_by}
use Rattle.tora_sim.proofs.files.open.Goals as goal

is_opened : (owner : Owner) (given answer : Result Numbers LifeError) (new state : State) → answer ≡ given → new ≡ state → opened_as owner given new ≡ opened_as owner answer state
is_opened owner given answer new state same left = ap₂ (λ r s. opened_as owner r s) (sym same) left

pub returns-in-Ok : goal.returns-in-Ok
returns-in-Ok c =
    let q = opens_by _ c.args.disk c.in-Ok.file.disk _ c.in-Ok.ensures.calls in
    ap (λ (o : Owner). opened_as o (Ok c.in-Ok.file.numbers) c.in-Ok.file.disk.state) c.in-Ok.ensures.owner
    ∙ is_opened c.args.owner _ _ _ _ q.0 q.1

pub returns-in-Err : goal.returns-in-Err
returns-in-Err c =
    let q = opens_by _ c.args.disk c.in-Err.fault.disk _ c.in-Err.ensures.calls_err in
    is_opened c.args.owner (Err c.in-Err.fault.error) _ c.in-Err.fault.disk.state _ q.0 q.1
