use Rattle.std.proofs.Common.{sym, ◌∙◌}
use Rattle.tora_sim.proofs.links.LinkParts.is_busy.Goals as goal

pub returns : goal.returns
returns c none = record {
  opened = sym c.is_closed.ensures ∙ c.if-is_closed.false;
  lane = sym c.has_cargo.ensures ∙ c.if-has_cargo.false;
  events = sym c.has_event.ensures ∙ none;
}
