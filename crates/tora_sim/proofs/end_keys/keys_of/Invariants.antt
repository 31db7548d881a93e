use Rattle.std.proofs.Common.{◌≡◌, map, take}
use Rattle.tora_sim.specs.Links.{key_of}
use Rattle.tora_sim.proofs.end_keys.keys_of.Given as goal

-- the keys of the ends so far
abbrev pub invariant-loop-link : goal.invariant-loop-link
invariant-loop-link l = l.keys.items ≡ map key_of (take l.link-index l.links)
