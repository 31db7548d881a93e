use Rattle.tora_sim.proofs.links.LinkParts.deadline.Goals as goal

pub returns : goal.returns
returns c some =
    let plain = c.is_busy.ensures c.if-is_busy.false in record {
      opened = plain.opened;
      lane = plain.lane;
      events = plain.events;
      frames = c.quiet_end_until.ensures.frames;
      ticks = c.quiet_end_until.ensures.ticks;
    }
