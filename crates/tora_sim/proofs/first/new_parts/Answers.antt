use Rattle.std.proofs.Common.{◌≡◌, ℕ, Result, Ok, Err, refl, sym, ap, ◌∙◌, subst, arith}
use Rattle.tora_arq.specs.EndRange.{LinkEndView}
use Rattle.tora_life.specs.LifeRun.{LifeDisk, Opened, Unopened, owner_in, opened_as}
use Rattle.tora_life.specs.declared.Owner.{Owner}
use Rattle.tora_life.specs.declared.numbers.Numbers.{Numbers}
use Rattle.tora_life.specs.declared.LifeError.{LifeError}
use Rattle.tora_life.specs.declared.state.State.{State}
use Rattle.tora_world.specs.World.{owner_of}
use Rattle.tora_sim.specs.Files.{disk_of, IsDrawn}
use Rattle.tora_sim.proofs.first.new_parts.Goals as goal

-- no session number is drawn yet
drawn_none : (disk : LifeDisk) → IsDrawn 0 disk
drawn_none (Opened owner numbers s) = omega arith
drawn_none (Unopened owner s) = tt

-- the owner is the same, whether the file opens or not
same_owner : (owner : Owner) (r : Result Numbers LifeError) (s : State) → owner_in (opened_as owner r s) ≡ owner
same_owner owner (Ok numbers) s = refl
same_owner owner (Err e) s = refl

pub invariant_of-result : goal.invariant_of-result
invariant_of-result c =
    let last : c.in-Ok.end.state.last_life ≡ 0 = ap (λ (e : LinkEndView). e.state.last_life) c.in-Ok.ensures in (
      subst (λ (n : ℕ). IsDrawn n (disk_of c.in_ok-file.file.value)) (sym last) (drawn_none (disk_of c.in_ok-file.file.value)),
      omega (arith, c.new-lane.ensures.pulled),
      ap owner_in (ap disk_of c.in_ok-file.ensures ∙ c.open.ensures) ∙ same_owner _ _ _ ∙ sym (ap (λ (e : LinkEndView). owner_of e.settings.me e.settings.peer) c.in-Ok.ensures),
    )
