use Rattle.std.proofs.Common.{◌≡◌, sym, ap, ◌∙◌}
use Rattle.tora_arq.specs.LinkEnd.{frame_due}
use Rattle.tora_router.specs.Links.{with_state}
use Rattle.tora_router.proofs.Calls.{was_none}
use Rattle.tora_router.proofs.Still.{nothing_sent}
use Rattle.tora_router.proofs.link.Link.send.Goals as goal

pub returns-then-not-has_frame_due-clause-sent : goal.returns-then-not-has_frame_due-clause-sent
returns-then-not-has_frame_due-clause-sent c =
    let link = c.args.self.now in
    let none = was_none (frame_due link.end.settings link.end.state c.args.now) (sym c.has_frame_due.ensures ∙ c.if-not-has_frame_due.true) in
    sym (ap (with_state link) (nothing_sent link.end.settings link.end.state c.args.now none))
