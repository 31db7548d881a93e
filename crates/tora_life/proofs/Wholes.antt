-- The calls of a disk in memory keep its invariant.
use Rattle.std.proofs.Common.{◌≡◌, ℕ, ◌+◌, ◌-◌, ◌≤◌, max, Bool, true, false, List, length, replicate, refl, ◌∙◌, arith, length-append, nat_lt, if◌then◌else◌}
use Rattle.std.proofs.lemmas.List.{length-replicate}
use Rattle.std.proofs.lemmas.Bool.Decides.{nat_tests}
use Rattle.tora_life.specs.declared.state.State.{State}
use Rattle.tora_life.specs.declared.state.DiskCall.{DiskCall}
use Rattle.tora_life.specs.declared.state.DiskCall.TheVariants.{Read, Write, Sync}
use Rattle.tora_life.specs.State.{IsWhole, over, marked, filled, fresh_state, failures_more, after_write, after_sync, armed}
use Rattle.tora_life.proofs.Writes.{length-over}

pub fresh_whole : (file : List ℕ) → length file ≤ 80 → IsWhole (fresh_state file)
fresh_whole file fits =
    let long : length (filled file) ≡ 80 = omega (arith, length-append {A = ℕ} file (replicate (80 - length file) 0), length-replicate {A = ℕ} (80 - length file) 0, fits) in
    record { len = omega arith; synced_len = omega arith; reach = fits; bytes = long; synced = long; written = refl }

marked_whole : (s : State) → IsWhole s → (at n : ℕ) → at + n ≤ 80 → IsWhole (marked s at n)
marked_whole s whole at n fits = record {
  len = omega (arith, whole.len);
  synced_len = omega (arith, whole.synced_len);
  reach = omega (arith, whole.reach, fits);
  bytes = whole.bytes;
  synced = whole.synced;
  written = length-over at (replicate n true) s.written (omega (arith, length-replicate n true, fits, whole.written)) ∙ whole.written;
}

module _ (s : State) (whole : IsWhole s) (at : ℕ) (bytes : List ℕ) where
  written : (long fails : Bool) → long ≡ nat_lt 80 (at + length bytes) → IsWhole (if long then record s { write_fails = false; failures = failures_more s.failures }
      else if fails then record (marked s at (length bytes)) { write_fails = false; failures = failures_more s.failures }
      else record (marked s at (length bytes)) { bytes = over at bytes s.bytes; len = max s.len (at + length bytes) })
  written true fails is = record { len = whole.len; synced_len = whole.synced_len; reach = whole.reach; bytes = whole.bytes; synced = whole.synced; written = whole.written }
  written false true is =
      let fits : at + length bytes ≤ 80 = grind (arith, nat_tests) in
      let m = marked_whole s whole at (length bytes) fits in
      record { len = m.len; synced_len = m.synced_len; reach = m.reach; bytes = m.bytes; synced = m.synced; written = m.written }
  written false false is =
      let fits : at + length bytes ≤ 80 = grind (arith, nat_tests) in
      let m = marked_whole s whole at (length bytes) fits in
      record {
        len = omega (arith, whole.len);
        synced_len = m.synced_len;
        reach = m.reach;
        bytes = length-over at bytes s.bytes (omega (arith, fits, whole.bytes)) ∙ whole.bytes;
        synced = m.synced;
        written = m.written;
      }

  pub write_whole : IsWhole (after_write s at bytes)
  write_whole = written (nat_lt 80 (at + length bytes)) s.write_fails refl

module _ (s : State) (whole : IsWhole s) where
  pub synced_whole : (fails : Bool) → IsWhole (if fails then record s { sync_fails = false; failures = failures_more s.failures }
      else record s { synced = s.bytes; synced_len = s.len; written = replicate 80 false; reach = s.len })
  synced_whole true = record { len = whole.len; synced_len = whole.synced_len; reach = whole.reach; bytes = whole.bytes; synced = whole.synced; written = whole.written }
  synced_whole false = record { len = omega arith; synced_len = omega arith; reach = omega (arith, whole.len, whole.reach); bytes = whole.bytes; synced = whole.bytes; written = refl }

  pub sync_whole : IsWhole (after_sync s)
  sync_whole = synced_whole s.sync_fails

  pub armed_whole : (call : DiskCall) → IsWhole (armed call s)
  armed_whole Read = record { len = whole.len; synced_len = whole.synced_len; reach = whole.reach; bytes = whole.bytes; synced = whole.synced; written = whole.written }
  armed_whole Write = record { len = whole.len; synced_len = whole.synced_len; reach = whole.reach; bytes = whole.bytes; synced = whole.synced; written = whole.written }
  armed_whole Sync = record { len = whole.len; synced_len = whole.synced_len; reach = whole.reach; bytes = whole.bytes; synced = whole.synced; written = whole.written }
