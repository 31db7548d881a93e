use Rattle.tora_arq.specs.StateView.{settings_in, state_in}
use Rattle.tora_arq.proofs.RangeLemmas.{cut_kept}
use Rattle.tora_arq.proofs.PlaceLemmas.{cut_place, keeps}
use Rattle.tora_arq.proofs.growing_end.GrowingEnd.cut.Goals as goal

pub invariant_of-self : goal.invariant_of-self
invariant_of-self c =
    keeps (settings_in c.self.inside.settings) c.self.inside.state c.cut.new.self _ c.cut.ensures.state c.cut.ensures.rooms (cut_kept (settings_in c.self.inside.settings) (state_in c.self.inside.state) c.args.life c.self.invariant.0)
    (cut_place c.self.inside.state.events.capacity (state_in c.self.inside.state) c.args.life c.self.invariant.1)
