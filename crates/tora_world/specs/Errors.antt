-- The numbers of the errors, as texts print them.
use Rattle.std.specs.Prelude.{ℕ}
use Rattle.tora_world.specs.declared.sim_error.SimError.{SimError}
use Rattle.tora_world.specs.declared.sim_error.SimError.TheVariants.{Memory, NoNode, NoDatagram, NotPossible}

abbrev pub sim_error_number : SimError → ℕ
sim_error_number Memory = 1
sim_error_number NoNode = 2
sim_error_number NoDatagram = 3
sim_error_number NotPossible = 4
