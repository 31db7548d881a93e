use Rattle.std.proofs.Common.{◌≡◌, ◌<◌, false, length, refl, sym, ap, ◌∙◌, arith}
use Rattle.std.specs.Option.{option_map_or}
use Rattle.std.proofs.lemmas.Option.{slice_get_read}
use Rattle.tora_router.specs.Links.{ticked, may_open, opens_at}
use Rattle.tora_router.proofs.Places.{set_as}
use Rattle.tora_router.proofs.links.Links.tick.Goals as goal

pub returns-clause-ticked : goal.returns-clause-ticked
returns-clause-ticked c = set_as (ticked c.args.number c.args.now) c.args.place c.self.inside.list.items c.args.self.now c.index_mut.result.now c.tick.new.self c.self.view_is c.index_mut.ensures.value c.tick.ensures.ticked

pub returns-clause-opened : goal.returns-clause-opened
returns-clause-opened c =
    let xs = c.self.inside.list.items in
    let many : length xs ≡ length c.args.self.now = ap length c.self.view_is in
    let lt : c.args.place < length xs = omega (arith, c.requires, many) in
    c.tick.ensures.answer
    ∙ sym (ap (λ o. option_map_or (may_open c.args.number) o false) (slice_get_read xs (length xs) c.args.place c.index_mut.result.now refl lt c.index_mut.ensures.value))
    ∙ ap (opens_at c.args.number c.args.place) c.self.view_is
