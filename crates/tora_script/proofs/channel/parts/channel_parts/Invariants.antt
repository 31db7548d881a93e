use Rattle.std.proofs.Common.{◌≡◌, ◌-◌}
use Rattle.tora_script.specs.Parts.{parts_from, parts_of}
use Rattle.tora_script.proofs.channel.parts.channel_parts.Given as goal

abbrev pub invariant-loop : goal.invariant-loop
invariant-loop l = parts_from (2 - l.counter) l.parts l.rest ≡ parts_of l.text
