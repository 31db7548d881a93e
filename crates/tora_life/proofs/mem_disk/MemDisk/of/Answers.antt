use Rattle.std.proofs.Common.{◌≡◌, ◌∙◌, ap, List, ◌++◌, ℕ, length, replicate, false}
use Rattle.std.proofs.lemmas.List.{drop-replicate}
use Rattle.tora_life.specs.declared.state.State.{State}
use Rattle.tora_life.specs.State.{fresh_state, filled, seen_of}
use Rattle.tora_life.proofs.Runs.{seen_fresh}
use Rattle.tora_life.proofs.mem_disk.MemDisk.of.Goals as goal

-- a disk with these bytes, followed by zeros
fresh : (there file : List ℕ) → there ≡ filled file → let made : State = record { bytes = there; len = length file; synced = there; synced_len = length file; written = replicate 80 false; reach = length file; read_fails = false; write_fails = false; sync_fails = false; failures = 0 } in made ≡ fresh_state file
fresh there file is = λ i. record { bytes = is i; len = length file; synced = is i; synced_len = length file; written = replicate 80 false; reach = length file; read_fails = false; write_fails = false; sync_fails = false; failures = 0 }

state : (c : goal.After-new) → c.fresh.result ≡ fresh_state c.args.bytes.now
state c = c.fresh.ensures ∙ fresh _ c.args.bytes.now (λ i. c.copy_from_slice.ensures.after i ++ drop-replicate (length c.args.bytes.now) 80 0 i)

pub returns-clause-some : goal.returns-clause-some
returns-clause-some c = state c

pub returns-clause-seen : goal.returns-clause-seen
returns-clause-seen c = ap seen_of (state c) ∙ seen_fresh c.args.bytes.now
