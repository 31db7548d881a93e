use Rattle.std.proofs.Common.{◌≡◌, ◌∙◌, Some, ap, sym, arith}
use Rattle.tora_world.specs.Errors.{sim_error_number}
use Rattle.tora_sim.specs.Store.{world_of}
use Rattle.tora_script.proofs.Starting.{stays, is_cause}
use Rattle.tora_script.proofs.world_simulator.SimSimulator.happen_at.Goals as goal

pub returns-in-Ok-clause-refused : goal.returns-in-Ok-clause-refused
returns-in-Ok-clause-refused c = sym c.in-Ok.ensures.accepted

pub returns-in-Ok-clause-after : goal.returns-in-Ok-clause-after
returns-in-Ok-clause-after c = c.in-Ok.ensures.world

pub returns-in-Err-NoNode-clause-refused : goal.returns-in-Err-NoNode-clause-refused
returns-in-Err-NoNode-clause-refused c =
    let number : sim_error_number c.in-Err-NoNode.field-0 ≡ 2 = ap sim_error_number c.in-Err-NoNode.field-0-is in
    ap Some (sym c.in-Err-NoNode.field-0-is) ∙ sym (is_cause (world_of c.args.self.now) (world_of c.step_at.new.self) c.args.event.now c.in-Err-NoNode.field-0 (omega (arith, number)) c.in-Err-NoNode.ensures)

pub returns-in-Err-NoNode-clause-after : goal.returns-in-Err-NoNode-clause-after
returns-in-Err-NoNode-clause-after c =
    let number : sim_error_number c.in-Err-NoNode.field-0 ≡ 2 = ap sim_error_number c.in-Err-NoNode.field-0-is in
    stays (world_of c.args.self.now) (world_of c.step_at.new.self) c.args.event.now c.in-Err-NoNode.field-0 (omega (arith, number)) c.in-Err-NoNode.ensures

pub returns-in-Err-NoDatagram-clause-refused : goal.returns-in-Err-NoDatagram-clause-refused
returns-in-Err-NoDatagram-clause-refused c =
    let number : sim_error_number c.in-Err-NoDatagram.field-0 ≡ 3 = ap sim_error_number c.in-Err-NoDatagram.field-0-is in
    ap Some (sym c.in-Err-NoDatagram.field-0-is) ∙ sym (is_cause (world_of c.args.self.now) (world_of c.step_at.new.self) c.args.event.now c.in-Err-NoDatagram.field-0 (omega (arith, number)) c.in-Err-NoDatagram.ensures)

pub returns-in-Err-NoDatagram-clause-after : goal.returns-in-Err-NoDatagram-clause-after
returns-in-Err-NoDatagram-clause-after c =
    let number : sim_error_number c.in-Err-NoDatagram.field-0 ≡ 3 = ap sim_error_number c.in-Err-NoDatagram.field-0-is in
    stays (world_of c.args.self.now) (world_of c.step_at.new.self) c.args.event.now c.in-Err-NoDatagram.field-0 (omega (arith, number)) c.in-Err-NoDatagram.ensures

pub returns-in-Err-NotPossible-clause-refused : goal.returns-in-Err-NotPossible-clause-refused
returns-in-Err-NotPossible-clause-refused c =
    let number : sim_error_number c.in-Err-NotPossible.field-0 ≡ 4 = ap sim_error_number c.in-Err-NotPossible.field-0-is in
    ap Some (sym c.in-Err-NotPossible.field-0-is) ∙ sym (is_cause (world_of c.args.self.now) (world_of c.step_at.new.self) c.args.event.now c.in-Err-NotPossible.field-0 (omega (arith, number)) c.in-Err-NotPossible.ensures)

pub returns-in-Err-NotPossible-clause-after : goal.returns-in-Err-NotPossible-clause-after
returns-in-Err-NotPossible-clause-after c =
    let number : sim_error_number c.in-Err-NotPossible.field-0 ≡ 4 = ap sim_error_number c.in-Err-NotPossible.field-0-is in
    stays (world_of c.args.self.now) (world_of c.step_at.new.self) c.args.event.now c.in-Err-NotPossible.field-0 (omega (arith, number)) c.in-Err-NotPossible.ensures
