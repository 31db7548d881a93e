use Rattle.tora_arq.specs.StateView.{settings_in, state_in}
use Rattle.tora_arq.proofs.RangeLemmas.{tick_kept}
use Rattle.tora_arq.proofs.PlaceLemmas.{tick_place, keeps}
use Rattle.tora_arq.proofs.growing_end.GrowingEnd.on_tick.Goals as goal

pub invariant_of-self : goal.invariant_of-self
invariant_of-self c =
    keeps (settings_in c.self.inside.settings) c.self.inside.state c.on_tick.new.self _ c.on_tick.ensures.state c.on_tick.ensures.rooms (tick_kept (settings_in c.self.inside.settings) (state_in c.self.inside.state) c.args.now c.self.invariant.0)
    (tick_place c.self.inside.state.events.capacity (settings_in c.self.inside.settings) (state_in c.self.inside.state) c.args.now c.self.invariant.1)
