-- The numbers of the errors, as texts print them, and their words.
use Rattle.std.specs.Prelude.{ℕ, codes, List}
use Rattle.tora_core.specs.declared.errors.CoreError.{CoreError}
use Rattle.tora_core.specs.declared.errors.CoreError.TheVariants.{Memory, TooMany, Repeated, OwnId}
use Rattle.tora_core.specs.declared.errors.StepError.{StepError}
use Rattle.tora_core.specs.declared.errors.StepError.TheVariants.{UnknownNeighbour, AlreadyUp, NotUp, WrongSender}
use Rattle.tora_core.specs.declared.errors.StepError.TheVariants.{UnknownDestination}

abbrev pub core_error_number : CoreError → ℕ
core_error_number Memory = 1
core_error_number TooMany = 2
core_error_number Repeated = 3
core_error_number OwnId = 4

abbrev pub step_error_number : StepError → ℕ
step_error_number UnknownNeighbour = 1
step_error_number AlreadyUp = 2
step_error_number NotUp = 3
step_error_number WrongSender = 4
step_error_number UnknownDestination = 5

abbrev pub written_core_error : CoreError → List ℕ
written_core_error Memory = codes "there is not enough memory"
written_core_error TooMany = codes "there are too many neighbours or too many destinations"
written_core_error Repeated = codes "a neighbour or a destination is named twice"
written_core_error OwnId = codes "the node itself is among its neighbours"

abbrev pub written_step_error : StepError → List ℕ
written_step_error UnknownNeighbour = codes "the neighbour is not configured"
written_step_error AlreadyUp = codes "the link is up already"
written_step_error NotUp = codes "the link is not up"
written_step_error WrongSender = codes "the update is not of the neighbour that sent it"
written_step_error UnknownDestination = codes "the destination is not in the table"
