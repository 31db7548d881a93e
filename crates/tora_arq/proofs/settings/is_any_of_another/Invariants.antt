use Rattle.std.proofs.Common.{◌≡◌, false, take}
use Rattle.std.specs.List.{list_any}
use Rattle.tora_arq.specs.LinkEnd.{is_update_of_another}
use Rattle.tora_arq.proofs.settings.is_any_of_another.Given as goal

-- no packet so far is an update of another node
abbrev pub invariant-loop-packet : goal.invariant-loop-packet
invariant-loop-packet l = list_any (is_update_of_another l.sender) (take l.packet-index l.packets) ≡ false
