use Rattle.std.proofs.Common.{◌≡◌, nat_lt, length, ap, sym, ◌∙◌}
use Rattle.tora_sim.specs.Lane.{LaneView}
use Rattle.tora_sim.proofs.LaneLists.{within_both}
use Rattle.tora_sim.proofs.store.lane.Lane.has_cargo.Goals as goal

pub returns : goal.returns
returns c =
    let l = c.self.inside in
    let len : c.len.result ≡ length l.cargoes.items = c.len.ensures.len in
    ap (nat_lt l.taken) len ∙ sym (within_both l.past.items l.cargoes.items l.taken) ∙ ap (λ (v : LaneView). nat_lt v.pulled (length v.put)) c.self.view_is
