use Rattle.std.proofs.Common.{◌≡◌, ◌∙◌, sym, ap, ℕ, Bool, true, false, not, Some, None}
use Rattle.std.specs.Prelude.{if◌then◌else◌}
use Rattle.tora_core.specs.declared.errors.StepError.TheVariants as Fault
use Rattle.tora_core.specs.Numbers.{has_number}
use Rattle.tora_core.specs.Table.{views_in}
use Rattle.tora_core.specs.CoreRun.{CoreView, link_fault}
use Rattle.tora_core.proofs.AfterInputs.{part-has}
use Rattle.tora_core.proofs.node.Core.fault_of_link.Goals as goal

-- for a link that is up, the refusal depends only on whether it must be up
up-fault : (c : CoreView) (k : ℕ) (b : Bool) → has_number k c.neighbours ≡ true → has_number k c.up ≡ true → link_fault c k b ≡ (if b then None else Some Fault.AlreadyUp)
up-fault c k true there up =
    ap (λ (t : Bool). if not t then Some Fault.UnknownNeighbour else if not (has_number k c.up) then Some Fault.NotUp else None) there
    ∙ ap (λ (t : Bool). if not t then Some Fault.NotUp else None) up
up-fault c k false there up =
    ap (λ (t : Bool). if not t then Some Fault.UnknownNeighbour else if has_number k c.up then Some Fault.AlreadyUp else None) there
    ∙ ap (λ (t : Bool). if t then Some Fault.AlreadyUp else None) up

pub returns-then-is_up : goal.returns-then-is_up
returns-then-is_up c =
    let core : CoreView = record { me = c.self.inside.me; erasure = c.self.inside.erasure; neighbours = c.self.inside.neighbours.items; up = c.self.inside.up.items; views = views_in c.self.inside.views.items } in
    let up : has_number c.args.k core.up ≡ true = sym (c.has_number_near.ensures ∙ ap (has_number c.args.k) c.as_slice.ensures.value) ∙ c.if-has_number_near.true in
    let there = part-has c.args.k core.up core.neighbours c.self.invariant.0.up up in
    sym (ap (link_fault core c.args.k) c.if-is_up.true ∙ up-fault core c.args.k true there up) ∙ ap (λ (x : CoreView). link_fault x c.args.k c.args.is_up) c.self.view_is

pub returns-else-is_up : goal.returns-else-is_up
returns-else-is_up c =
    let core : CoreView = record { me = c.self.inside.me; erasure = c.self.inside.erasure; neighbours = c.self.inside.neighbours.items; up = c.self.inside.up.items; views = views_in c.self.inside.views.items } in
    let up : has_number c.args.k core.up ≡ true = sym (c.has_number_near.ensures ∙ ap (has_number c.args.k) c.as_slice.ensures.value) ∙ c.if-has_number_near.true in
    let there = part-has c.args.k core.up core.neighbours c.self.invariant.0.up up in
    sym (ap (link_fault core c.args.k) c.if-is_up.false ∙ up-fault core c.args.k false there up) ∙ ap (λ (x : CoreView). link_fault x c.args.k c.args.is_up) c.self.view_is
