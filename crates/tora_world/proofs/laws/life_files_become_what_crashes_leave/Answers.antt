use Rattle.tora_world.proofs.OtherFiles.{may_become, becomes_by_event}
use Rattle.tora_world.proofs.laws.life_files_become_what_crashes_leave.Goals as goal

pub returns-clause-any : goal.returns-clause-any
returns-clause-any c = λ before after kept. may_become before after kept

pub returns-clause-events : goal.returns-clause-events
returns-clause-events c = λ event disk may. becomes_by_event c.layers_keep_their_laws.ensures.files event disk may
