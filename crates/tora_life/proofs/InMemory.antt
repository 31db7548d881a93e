-- The calls of a disk in memory with which a life file is opened determine the result and the disk's state.
use Rattle.std.proofs.Common.{◌≡◌, ℕ, Bool, true, false, List, Result, Ok, Err, is_ok, MatchResult, sym, ◌∙◌, ap, replicate}
use Rattle.tora_life.specs.declared.disk.DiskError.{DiskError}
use Rattle.tora_life.specs.declared.migration.Version.{Version}
use Rattle.tora_life.specs.declared.migration.Version.TheVariants.{Untagged, Tagged}
use Rattle.tora_life.specs.declared.numbers.LifeError.{LifeError}
use Rattle.tora_life.specs.declared.numbers.LifeError.TheVariants.{Disk}
use Rattle.tora_life.specs.declared.numbers.Numbers.{Numbers}
use Rattle.tora_life.specs.declared.state.State.{State}
use Rattle.tora_life.specs.declared.tags.Owner.{Owner}
use Rattle.tora_life.specs.Calls.{Migrates, OpensBy, answer_after, file_read, version_read}
use Rattle.tora_life.specs.DiskView.{DiskView}
use Rattle.tora_life.specs.InMemory.{by_result, count_read, buffer_read, migration_answer, migration_state, version_answer, version_state, open_answer, open_state}
use Rattle.tora_life.specs.Numbers.{numbers_of}
use Rattle.tora_life.specs.State.{read_answer, bytes_read, after_read, write_answer, after_write, sync_answer, after_sync}

-- the effect of the calls of a disk in memory
abbrev pub Reads : DiskView → ℕ → List ℕ → Result ℕ DiskError → List ℕ → DiskView → Type 0
Reads d at buf answer bytes new = (answer ≡ read_answer d.state at buf) × (bytes ≡ bytes_read d.state at buf) × (new.state ≡ after_read d.state)

abbrev pub Writes : DiskView → ℕ → List ℕ → Result (Unit {0}) DiskError → DiskView → Type 0
Writes d at bytes answer new = (answer ≡ write_answer d.state at bytes) × (new.state ≡ after_write d.state at bytes)

abbrev pub Syncs : DiskView → Result (Unit {0}) DiskError → DiskView → Type 0
Syncs d answer new = (answer ≡ sync_answer d.state) × (new.state ≡ after_sync d.state)

abbrev Fixed : Result Numbers LifeError → State → Result Numbers LifeError → DiskView → Type 0
Fixed answer state given new = (answer ≡ given) × (new.state ≡ state)

module _ (owner : Owner) (file : List ℕ) (old new : DiskView) (given : Result Numbers LifeError) where
  abbrev s : State
  s = old.state

  abbrev m : State
  m = migration_state owner file s

  synced_by : (synced : Result (Unit {0}) DiskError) (between : DiskView) (ok : Bool) → between.state ≡ m → Syncs between synced new → is_ok synced ≡ ok → given ≡ answer_after ok file → Fixed (by_result (sync_answer m) (Ok (numbers_of file)) (Err Disk)) (after_sync m) given new
  synced_by (Ok v) between true at call is answers = (ap (λ (r : Result (Unit {0}) DiskError). by_result r (Ok (numbers_of file)) (Err Disk)) (ap sync_answer (sym at) ∙ sym call.0) ∙ sym answers, call.1 ∙ ap after_sync at)
  synced_by (Ok v) between false at call is answers = absurd (cc)
  synced_by (Err e) between true at call is answers = absurd (cc)
  synced_by (Err e) between false at call is answers = (ap (λ (r : Result (Unit {0}) DiskError). by_result r (Ok (numbers_of file)) (Err Disk)) (ap sync_answer (sym at) ∙ sym call.0) ∙ sym answers, call.1 ∙ ap after_sync at)

  abbrev Rest : DiskView → Bool → Result (Unit {0}) DiskError → Type 0
  Rest between ok written = MatchResult written (λ _. (synced : Result (Unit {0}) DiskError) × Syncs between synced new × (is_ok synced ≡ ok)) (λ _. (new ≡ between) × (is_ok written ≡ ok))

  written_by : (written : Result (Unit {0}) DiskError) (between : DiskView) (ok : Bool) → written ≡ migration_answer owner file s → between.state ≡ m → Rest between ok written → given ≡ answer_after ok file
      → Fixed (by_result written (by_result (sync_answer m) (Ok (numbers_of file)) (Err Disk)) (Err Disk)) (by_result written (after_sync m) m) given new
  written_by (Ok v) between ok is at rest answers = synced_by rest.0 between ok at rest.1 rest.2 answers
  written_by (Err e) between true is at rest answers = absurd (let no = rest.1 in cc)
  written_by (Err e) between false is at rest answers = (sym answers, ap (λ (d : DiskView). d.state) rest.0 ∙ at)

  pub migrates_by : (v : Result Version LifeError) → Migrates Writes Syncs owner file v old given new → Fixed (version_answer owner file v s) (version_state owner file v s) given new
  migrates_by (Err error) made = (sym made.1, ap (λ (d : DiskView). d.state) made.0)
  migrates_by (Ok Tagged) made = (sym made.1, ap (λ (d : DiskView). d.state) made.0)
  migrates_by (Ok Untagged) (ok, (written, between, call, rest), answers) =
      let fixed = written_by written between ok call.0 call.1 rest answers in
      (ap (λ (r : Result (Unit {0}) DiskError). by_result r (by_result (sync_answer m) (Ok (numbers_of file)) (Err Disk)) (Err Disk)) (sym call.0) ∙ fixed.0, fixed.1 ∙ ap (λ (r : Result (Unit {0}) DiskError). by_result r (after_sync m) m) call.0)

module _ (owner : Owner) (old new : DiskView) (given : Result Numbers LifeError) where
  abbrev t : State
  t = after_sync old.state

  read_by : (between after : DiskView) (count : Result ℕ DiskError) (bytes : List ℕ) → between.state ≡ t → Reads between 0 (replicate 65 0) count bytes after → Migrates Writes Syncs owner (file_read count bytes) (version_read owner count bytes) after given new
      → Fixed (version_answer owner (file_read (count_read t) (buffer_read t)) (version_read owner (count_read t) (buffer_read t)) (after_read t)) (version_state owner (file_read (count_read t) (buffer_read t)) (version_read owner (count_read t) (buffer_read t)) (after_read t)) given new
  read_by between after count bytes at call made =
      let fixed = migrates_by owner (file_read count bytes) after new given (version_read owner count bytes) made in
      let p : count_read t ≡ count = ap count_read (sym at) ∙ sym call.0 in
      let q : buffer_read t ≡ bytes = ap buffer_read (sym at) ∙ sym call.1 in
      let r : after_read t ≡ after.state = ap after_read (sym at) ∙ sym call.2 in (
        (λ i. version_answer owner (file_read (p i) (q i)) (version_read owner (p i) (q i)) (r i)) ∙ fixed.0,
        fixed.1 ∙ sym (λ i. version_state owner (file_read (p i) (q i)) (version_read owner (p i) (q i)) (r i)),
      )

  abbrev Goes : Result (Unit {0}) DiskError → DiskView → Type 0
  Goes synced between =
      MatchResult synced
      (λ _. (count : Result ℕ DiskError) × (bytes : List ℕ) × (after : DiskView) × Reads between 0 (replicate 65 0) count bytes after × Migrates Writes Syncs owner (file_read count bytes) (version_read owner count bytes) after given new)
      (λ _. (new ≡ between) × (given ≡ Err Disk))

  goes_by : (synced : Result (Unit {0}) DiskError) (between : DiskView) → synced ≡ sync_answer old.state → between.state ≡ t → Goes synced between → Fixed (open_answer owner old.state) (open_state owner old.state) given new
  goes_by (Ok v) between is at (count, bytes, after, call, made) =
      let fixed = read_by between after count bytes at call made in (
        ap (λ (r : Result (Unit {0}) DiskError). by_result r (version_answer owner (file_read (count_read t) (buffer_read t)) (version_read owner (count_read t) (buffer_read t)) (after_read t)) (Err Disk)) (sym is) ∙ fixed.0,
        fixed.1 ∙ ap (λ (r : Result (Unit {0}) DiskError). by_result r (version_state owner (file_read (count_read t) (buffer_read t)) (version_read owner (count_read t) (buffer_read t)) (after_read t)) t) is,
      )
  goes_by (Err e) between is at (same, answers) = (
    ap (λ (r : Result (Unit {0}) DiskError). by_result r (version_answer owner (file_read (count_read t) (buffer_read t)) (version_read owner (count_read t) (buffer_read t)) (after_read t)) (Err Disk)) (sym is) ∙ sym answers,
    ap (λ (d : DiskView). d.state) same ∙ at ∙ ap (λ (r : Result (Unit {0}) DiskError). by_result r (version_state owner (file_read (count_read t) (buffer_read t)) (version_read owner (count_read t) (buffer_read t)) (after_read t)) t) is,
  )

  pub opens_by : OpensBy Syncs Reads Writes owner old given new → (open_answer owner old.state ≡ given) × (new.state ≡ open_state owner old.state)
  opens_by (synced, between, call, rest) = goes_by synced between call.0 call.1 rest
