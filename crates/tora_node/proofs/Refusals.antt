-- The number of a refusal has one digit.
use Rattle.std.proofs.Common.{◌≡◌, ◌+◌, [], ◌∷◌, ◌++◌, slice_set, refl}
use Rattle.std.specs.Prelude.{codes}
use Rattle.std.specs.Fmt.{decimal, digits}
use Rattle.tora_core.specs.declared.errors.StepError.{StepError}
use Rattle.tora_core.specs.declared.errors.StepError.TheVariants.{UnknownNeighbour, AlreadyUp, NotUp, WrongSender, UnknownDestination}
use Rattle.tora_core.specs.Errors.{step_error_number}

pub refusal_digit : (e : StepError) → slice_set (codes "refused 0\n") 8 (48 + step_error_number e) ≡ codes "refused " ++ decimal (step_error_number e) ++ 10 ∷ []
unfolding digits
refusal_digit UnknownNeighbour = refl
refusal_digit AlreadyUp = refl
refusal_digit NotUp = refl
refusal_digit WrongSender = refl
refusal_digit UnknownDestination = refl
