use Rattle.tora_script.proofs.deliveries.deliver_new.Goals as goal

pub deliver_counted-requires : goal.deliver_counted-requires
deliver_counted-requires g c = c.is_to_count.ensures c.if-is_to_count.true

pub deliver_clear-requires : goal.deliver_clear-requires
deliver_clear-requires g c = c.is_clear.ensures c.if-is_clear.true
