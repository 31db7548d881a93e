-- The output of a line in a replay, as a continuation of the text.
use Rattle.std.proofs.Common.{◌≡◌, ℕ, ◌≤◌, List, length, Result, Ok, Err}
use Rattle.tora_lines.specs.declared.session.TheConstants.{LONGEST_LINE}
use Rattle.tora_lines.specs.declared.words.LineError.{LineError}
use Rattle.tora_lines.specs.declared.words.LineError.TheVariants.{Memory, Fault}
use Rattle.tora_lines.specs.Gives.{Gives}
use Rattle.tora_lines.specs.Session.{TakesLine}
use Rattle.tora_lines.proofs.KindLaws.{goes_on, is_fault}
use Rattle.tora_script.specs.declared.replays.replaying.ReplayFile.{ReplayFile}
use Rattle.tora_script.specs.ReplayText.{replay_reply, replay_rules_of}
use Rattle.tora_script.specs.ReplayView.{replay_kind}

pub takes : (old new : ReplayFile) (line out : List ℕ) (r : Result (Unit {0}) LineError) → length line ≤ LONGEST_LINE → new.erasure ≡ old.erasure
    → Gives (λ x. (new.replaying, out)) r (replay_reply old.erasure old.replaying line) → TakesLine replay_kind old line new out r
takes old new line out (Ok x) short same h = rw same (goes_on (replay_rules_of old.erasure) old.replaying line new.replaying out short h)
takes old new line out (Err Memory) short same h = tt
takes old new line out (Err Fault) short same h = is_fault (replay_rules_of old.erasure) old.replaying line short h
