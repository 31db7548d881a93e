-- The codes that calls return, one for each cause.
use Rattle.std.specs.Prelude.{ℕ, ◌+◌, Option}
use Rattle.std.specs.Option.{option_map_or}
use Rattle.tora_packet.specs.declared.PacketError.{PacketError}
use Rattle.tora_packet.specs.PacketGrammar.{packet_error_number}
use Rattle.tora_core.specs.declared.errors.CoreError.{CoreError}
use Rattle.tora_core.specs.declared.errors.StepError.{StepError}
use Rattle.tora_core.specs.Errors.{core_error_number, step_error_number}
use Rattle.tora_frame.specs.FrameGrammar.{frame_error_number}
use Rattle.tora_arq.specs.declared.verdict.Verdict.{Verdict}
use Rattle.tora_arq.specs.declared.verdict.Verdict.TheVariants.{Accepted, Repeated, Ahead, Stale, Foreign, Busy}
use Rattle.tora_router.specs.declared.intake.Intake.{Intake}
use Rattle.tora_router.specs.declared.intake.Intake.TheVariants.{NoNeighbour, Bad, Seen}
use Rattle.tora_router.specs.declared.router_error.RouterError.{RouterError}
use Rattle.tora_router.specs.declared.router_error.RouterError.TheVariants as Fault
use Rattle.tora_c.specs.declared.codes.TheConstants.{OK, MEMORY, TOO_MANY, REPEATED, OWN_ID, ZERO, LIFE, REFUSED}
use Rattle.tora_c.specs.declared.codes.TheConstants.{NO_PACKET, NO_FRAME, NO_NEIGHBOUR}

abbrev pub core_code : CoreError → ℕ
core_code e = core_error_number e

abbrev pub refused_code : StepError → ℕ
refused_code e = REFUSED + step_error_number e

abbrev pub packet_code : PacketError → ℕ
packet_code e = NO_PACKET + packet_error_number e

abbrev pub router_code : RouterError → ℕ
router_code Fault.Id = ZERO
router_code Fault.Times = ZERO
router_code Fault.Life = LIFE
router_code Fault.TooMany = TOO_MANY
router_code Fault.Repeated = REPEATED
router_code Fault.OwnId = OWN_ID
router_code Fault.Memory = MEMORY

-- the verdict on a frame, as a number from 1 to 6
abbrev pub verdict_code : Verdict → ℕ
verdict_code Accepted = 1
verdict_code Repeated = 2
verdict_code Ahead = 3
verdict_code Stale = 4
verdict_code Foreign = 5
verdict_code Busy = 6

abbrev pub intake_code : Intake → ℕ
intake_code NoNeighbour = NO_NEIGHBOUR
intake_code (Bad error) = NO_FRAME + frame_error_number error
intake_code (Seen verdict) = verdict_code verdict

-- the code of a call that may be refused: that of the refusal, or `OK`
abbrev pub code_or_ok : Option ℕ → ℕ
code_or_ok refusal = option_map_or (λ code. code) refusal OK
