-- Drawn session numbers rise over each run of a life file in memory.
use Rattle.std.proofs.Common.{◌≡◌, ◌⊎◌, inl, inr, ℕ, ◌+◌, ◌-◌, ◌<◌, ◌≤◌, min, Bool, true, false, List, [], ◌∷◌, ◌++◌, length, take, drop, replicate, refl, sym, ◌∙◌, ap, subst, arith, length-take, Result, Ok, Err, OnOk, if◌then◌else◌, Option}
use Rattle.std.proofs.lemmas.List.{take_at, length-replicate}
use Rattle.tora_life.specs.declared.disk.DiskError.{DiskError}
use Rattle.tora_life.specs.declared.numbers.Numbers.{Numbers}
use Rattle.tora_life.specs.declared.numbers.LifeError.{LifeError}
use Rattle.tora_life.specs.declared.numbers.LifeError.TheVariants.{Disk, Failed, Spent, Damaged, Foreign}
use Rattle.tora_life.specs.declared.state.State.{State}
use Rattle.tora_life.specs.declared.state.DiskCall.{DiskCall}
use Rattle.tora_life.specs.declared.migration.Version.{Version}
use Rattle.tora_life.specs.declared.migration.Version.TheVariants.{Untagged, Tagged}
use Rattle.tora_life.specs.declared.tags.Owner.{Owner}
use Rattle.tora_life.specs.Disk.{Holds, IsOnlyImage, IsRead}
use Rattle.tora_life.specs.LifeFile.{file_value, slot_value}
use Rattle.tora_life.specs.Numbers.{numbers_of, numbers_after}
use Rattle.tora_life.specs.Calls.{file_read, version_read}
use Rattle.tora_life.specs.Migration.{version_of, migrated, migration_place, migration_bytes}
use Rattle.tora_life.specs.State.{IsWhole, filled, synced_of, sync_answer, after_sync, MayLeave, seen_of, fresh_state, armed, after_crash, after_read, failures_more}
use Rattle.tora_life.specs.InMemory.{IsKeptOn, by_result, count_read, buffer_read, migration_answer, migration_state, version_answer, version_state, draw_answer, draw_state}
use Rattle.tora_life.specs.LifeRun.{LifeDisk, Opened, Unopened, LifeEvent, Draw, Arm, Restart, IsLeftBy, MayHappen, IsRun, IsFloor, IsFloorOfDisk, RisesAbove, state_in, owner_in, opened, opened_as, after_event, drawn_by, drawn_numbers, number_in}
use Rattle.tora_life.proofs.Migrations.{migration_done, migration_torn, tag_is, tagged_stays, version_fits}
use Rattle.tora_life.proofs.Images.{clean}
use Rattle.tora_life.proofs.Opens.{opened_kept, read_all}
use Rattle.tora_life.proofs.Writes.{only, write_crash, write_held, sync_crash, sync_durable}
use Rattle.tora_life.proofs.Wholes.{fresh_whole, write_whole, sync_whole, synced_whole, armed_whole}
use Rattle.tora_life.proofs.TornBytes.{armed_images, armed_seen, crash_images, crash_whole}
use Rattle.tora_life.proofs.Draws.{Goes, draw_keeps, drawn_is}

abbrev zeros : List ℕ
zeros = replicate 65 0

-- a disk whose only image is what a read returns
module _ (n : ℕ) (owner : Owner) (t : State) (whole : IsWhole t) (one : IsOnlyImage (seen_of t) (MayLeave t)) (above : n ≤ file_value (seen_of t)) where
  unopened : (u : State) → IsWhole u → ((c : List ℕ) → MayLeave u c → MayLeave t c) → IsFloor n (Unopened owner u)
  unopened u w back = record { whole = w; images = λ c may. subst (λ (l : List ℕ). n ≤ file_value l) (sym (one c (back c may))) above }

  -- the read returned the whole file
  module _ (file : List ℕ) (is : file ≡ seen_of t) (fits : length file ≤ 64) where
    above_file : n ≤ file_value file
    above_file = subst (λ (l : List ℕ). n ≤ file_value l) (sym is) above

    -- the file has its tag after the migration
    opens : (u : State) → IsWhole u → seen_of u ≡ migrated owner file → IsOnlyImage (seen_of u) (MayLeave u) → IsFloor n (Opened owner (numbers_of file) u)
    opens u w seen only = record {
      whole = w;
      kept = opened_kept (λ _. true) seen_of MayLeave owner (numbers_of file) u file refl (λ told. refl) (λ told. seen) (λ told. only);
      drawn = above_file;
    }

    abbrev place : ℕ
    place = migration_place file

    abbrev bytes : List ℕ
    bytes = migration_bytes owner file

    abbrev torn_disk : State
    torn_disk = migration_state owner file t

    within : place ≤ length (seen_of t)
    within = omega (arith, ap length is)

    after_whole : IsWhole torn_disk
    after_whole = write_whole t whole place bytes

    torn : (c : List ℕ) → MayLeave torn_disk c → n ≤ file_value c
    torn c may = omega (arith, above_file, migration_torn file (seen_of t) place (length bytes) (MayLeave t) is refl one c (write_crash t whole place bytes within c may))

    migrates : (written synced : Result (Unit {0}) DiskError) → written ≡ migration_answer owner file t → synced ≡ sync_answer torn_disk
        → IsFloor n (opened_as owner (by_result written (by_result synced (Ok (numbers_of file)) (Err Disk)) (Err Disk)) (by_result written (after_sync torn_disk) torn_disk))
    migrates (Err e) synced w s = record { whole = after_whole; images = torn }
    migrates (Ok u) (Err e) w s = record { whole = sync_whole torn_disk after_whole; images = λ c may. torn c (sync_crash torn_disk after_whole c may) }
    migrates (Ok u) (Ok v) w s =
        let holds : Holds (seen_of t) place bytes (seen_of torn_disk) = subst (λ (r : Result (Unit {0}) DiskError). OnOk r (Holds (seen_of t) place bytes (seen_of torn_disk))) (sym w) (write_held t whole place bytes within) in
        let only : IsOnlyImage (seen_of torn_disk) (MayLeave (after_sync torn_disk)) = subst (λ (r : Result (Unit {0}) DiskError). OnOk r (IsOnlyImage (seen_of torn_disk) (MayLeave (after_sync torn_disk)))) (sym s) (sync_durable torn_disk after_whole) in
        let same : seen_of (after_sync torn_disk) ≡ seen_of torn_disk = only (seen_of (after_sync torn_disk)) (inl refl) in
        opens (after_sync torn_disk) (sync_whole torn_disk after_whole) (same ∙ migration_done owner file (seen_of t) (seen_of torn_disk) place bytes is fits refl refl holds) (λ c may. only c may ∙ sym same)

  version_floor : (file : List ℕ) (v : Result Version LifeError) → ((version : Version) → v ≡ Ok version → file ≡ seen_of t) → v ≡ version_of owner file → IsFloor n (opened_as owner (version_answer owner file v t) (version_state owner file v t))
  version_floor file (Err error) all is = unopened t whole (λ c may. may)
  version_floor file (Ok Tagged) all is =
      opens file (all Tagged refl) (version_fits owner file Tagged (sym is)) t whole (sym (all Tagged refl) ∙ sym (tagged_stays owner file (tag_is owner file (sym is)))) one
  version_floor file (Ok Untagged) all is = migrates file (all Untagged refl) (version_fits owner file Untagged (sym is)) (migration_answer owner file t) (sync_answer (migration_state owner file t)) refl refl

  read_of : (count : ℕ) (buf : List ℕ) → IsRead (seen_of t) 0 zeros count buf → let file = take count buf in IsFloor n (opened_as owner (version_answer owner file (version_of owner file) t) (version_state owner file (version_of owner file) t))
  read_of count buf read = version_floor (take count buf) (version_of owner (take count buf)) (λ v is. read_all owner (seen_of t) buf count v read is) refl

  read_floor : (fails : Bool) → let count : Result ℕ DiskError = if fails then Err (record {}) else Ok (min (length zeros) (length (drop 0 (seen_of t)))) in
      let buf : List ℕ = if fails then zeros else take (length zeros) (drop 0 (seen_of t)) ++ drop (min (length zeros) (length (drop 0 (seen_of t)))) zeros in
      let after : State = if fails then record t { read_fails = false; failures = failures_more t.failures } else t in
      IsFloor n (opened_as owner (version_answer owner (file_read count buf) (version_read owner count buf) after) (version_state owner (file_read count buf) (version_read owner count buf) after))
  read_floor true =
      unopened (record t { read_fails = false; failures = failures_more t.failures })
      (record { len = whole.len; synced_len = whole.synced_len; reach = whole.reach; bytes = whole.bytes; synced = whole.synced; written = whole.written }) (λ c may. may)
  read_floor false = read_of _ _ (record { count = refl; bytes = refl })

-- a file that is opened keeps the floor
module _ (n : ℕ) (owner : Owner) (s : State) (floor : IsFloorOfDisk n s) where
  abbrev synced : Bool → State
  synced fails =
      if fails then record s { sync_fails = false; failures = failures_more s.failures }
      else record s { synced = s.bytes; synced_len = s.len; written = replicate 80 false; reach = s.len }

  open_floor : (fails : Bool) → let answer : Result (Unit {0}) DiskError = if fails then Err (record {}) else Ok tt in
      let count = count_read (synced fails) in
      let buf = buffer_read (synced fails) in
      IsFloor n (opened_as owner (by_result answer (version_answer owner (file_read count buf) (version_read owner count buf) (after_read (synced fails))) (Err Disk))
      (by_result answer (version_state owner (file_read count buf) (version_read owner count buf) (after_read (synced fails))) (synced fails)))
  open_floor true = record { whole = synced_whole s floor.whole true; images = floor.images }
  open_floor false = read_floor n owner (synced false) (synced_whole s floor.whole false) (only s floor.whole) (floor.images (seen_of s) (inl refl)) s.read_fails

  pub opened_floor : IsFloor n (opened owner s)
  opened_floor = open_floor s.sync_fails

-- the floor depends only on the disk
pub below : (n : ℕ) (disk : LifeDisk) → IsFloor n disk → IsFloorOfDisk n (state_in disk)
below n (Opened owner numbers s) floor = record { whole = floor.whole; images = λ c may. omega (arith, (floor.kept.images refl c may).value, floor.drawn) }
below n (Unopened owner s) floor = floor

weaker : (m n : ℕ) (disk : LifeDisk) → m ≤ n → IsFloor n disk → IsFloor m disk
weaker m n (Opened owner numbers s) le floor = record { whole = floor.whole; kept = floor.kept; drawn = omega (arith, le, floor.drawn) }
weaker m n (Unopened owner s) le floor = record { whole = floor.whole; images = λ c may. omega (arith, le, floor.images c may) }

armed_kept : (call : DiskCall) (owner : Owner) (numbers : Numbers) (s : State) → IsKeptOn owner numbers s → IsKeptOn owner numbers (armed call s)
armed_kept call owner numbers s kept =
    let seen : seen_of (armed call s) ≡ seen_of s = armed_seen call s in
    record {
      room = kept.room;
      reach = kept.reach;
      images = λ told c may. kept.images refl c (armed_images call s c may);
      only = λ told sound c may. kept.only refl sound c (armed_images call s c may) ∙ sym seen;
      first = λ told sound. kept.first refl sound ∙ ap (λ (l : List ℕ). slot_value l 0) (sym seen);
      second = λ told sound. kept.second refl sound ∙ ap (λ (l : List ℕ). slot_value l 1) (sym seen);
    }

armed_floor : (n : ℕ) (call : DiskCall) (disk : LifeDisk) → IsFloor n disk → IsFloor n (after_event (Arm call) disk)
armed_floor n call (Opened owner numbers s) floor = record { whole = armed_whole s floor.whole call; kept = armed_kept call owner numbers s floor.kept; drawn = floor.drawn }
armed_floor n call (Unopened owner s) floor = record { whole = armed_whole s floor.whole call; images = λ c may. floor.images c (armed_images call s c may) }

-- an event draws nothing and keeps the floor, or draws a number above it, which is the new floor
abbrev Step : ℕ → List ℕ → LifeDisk → Type 0
Step n [] after = IsFloor n after
Step n (x ∷ []) after = (n < x) × IsFloor x after
Step n (x ∷ y ∷ more) after = ⊥

draw_step : (n : ℕ) (owner : Owner) (numbers : Numbers) (s : State) → n ≤ numbers.drawn → (answer : Result ℕ LifeError) → ((x : ℕ) → answer ≡ Ok x → x ≡ numbers.drawn + 1) → (after : State) → Goes owner numbers answer after → Step n (number_in answer) (Opened owner (numbers_after answer numbers) after)
draw_step n owner numbers s le (Ok x) is after goes = let it : x ≡ numbers.drawn + 1 = is x refl in (omega (arith, it, le), record { whole = goes.0; kept = goes.1; drawn = omega (arith, it) })
draw_step n owner numbers s le (Err Disk) is after goes = record { whole = goes.0; kept = goes.1; drawn = le }
draw_step n owner numbers s le (Err Failed) is after goes = record { whole = goes.0; kept = goes.1; drawn = le }
draw_step n owner numbers s le (Err Spent) is after goes = record { whole = goes.0; kept = goes.1; drawn = le }
draw_step n owner numbers s le (Err Damaged) is after goes = record { whole = goes.0; kept = goes.1; drawn = le }
draw_step n owner numbers s le (Err Foreign) is after goes = record { whole = goes.0; kept = goes.1; drawn = le }

step : (n : ℕ) (event : LifeEvent) (disk : LifeDisk) → IsFloor n disk → MayHappen event disk → Step n (drawn_by event disk) (after_event event disk)
step n Draw (Opened owner numbers s) floor may = draw_step n owner numbers s floor.drawn (draw_answer numbers s) (drawn_is numbers s) (draw_state numbers s) (draw_keeps owner numbers s floor.whole floor.kept)
step n Draw (Unopened owner s) floor may = floor
step n (Arm call) disk floor may = armed_floor n call disk floor
step n (Restart new) disk floor may = opened_floor n (owner_in disk) new (record { whole = may.whole; images = λ c left. (below n disk floor).images c (may.images c left) })

pub keeps_floor : (n : ℕ) (event : LifeEvent) (disk : LifeDisk) → IsFloor n disk → MayHappen event disk → IsFloor n (after_event event disk)
keeps_floor n event disk floor may = go (drawn_by event disk) (step n event disk floor may)
  where
    go : (xs : List ℕ) → Step n xs (after_event event disk) → IsFloor n (after_event event disk)
    go [] is = is
    go (x ∷ []) is = weaker n x (after_event event disk) (omega (arith, is.0)) is.1
    go (x ∷ y ∷ more) is = absurd is

pub draws_above : (n x : ℕ) (disk : LifeDisk) → IsFloor n disk → drawn_by Draw disk ≡ x ∷ [] → (n < x) × IsFloor x (after_event Draw disk)
draws_above n x disk floor is = subst (λ (xs : List ℕ). Step n xs (after_event Draw disk)) is (step n Draw disk floor (may disk))
  where
    may : (disk : LifeDisk) → MayHappen Draw disk
    may disk = tt

pub crash_left_by : (n : ℕ) (torn : Option (List ℕ)) (disk : LifeDisk) → IsFloor n disk → IsLeftBy (state_in disk) (after_crash torn (state_in disk))
crash_left_by n torn disk floor =
    let whole : IsWhole (state_in disk) = (below n disk floor).whole in
    record { whole = crash_whole torn (state_in disk) whole; images = crash_images torn (state_in disk) whole }

pub seen_fresh : (file : List ℕ) → seen_of (fresh_state file) ≡ file
seen_fresh file = take_at file (replicate (80 - length file) 0) (length file) refl

pub fresh_floor : (owner : Owner) (file : List ℕ) → length file ≤ 80 → IsFloor (file_value file) (opened owner (fresh_state file))
fresh_floor owner file fits = opened_floor (file_value file) owner (fresh_state file) (record { whole = whole; images = images })
  where
    whole : IsWhole (fresh_state file)
    whole = fresh_whole file fits

    value : (c : List ℕ) → c ≡ seen_of (fresh_state file) → file_value file ≤ file_value c
    value c is = subst (λ (l : List ℕ). file_value file ≤ file_value l) (sym (is ∙ seen_fresh file)) (omega arith)

    images : (c : List ℕ) → MayLeave (fresh_state file) c → file_value file ≤ file_value c
    images c (inl seen) = value c seen
    images c (inr image) = value c (clean (length file) 80 (synced_of (fresh_state file)) c (omega (arith, length-take (length file) (replicate 80 false), length-take (length file) (filled file), whole.bytes, length-replicate 80 false)) image)

pub rises : (n : ℕ) (disk : LifeDisk) (events : List LifeEvent) → IsFloor n disk → IsRun disk events → RisesAbove n (drawn_numbers disk events)
rises n disk [] floor run = tt
rises n disk (event ∷ events) floor run =
    go n (drawn_by event disk) (after_event event disk) events (λ m floor. rises m (after_event event disk) events floor run.1) (step n event disk floor run.0)
  where
    go : (n : ℕ) (xs : List ℕ) (after : LifeDisk) (events : List LifeEvent) → ((m : ℕ) → IsFloor m after → RisesAbove m (drawn_numbers after events)) → Step n xs after → RisesAbove n (xs ++ drawn_numbers after events)
    go n [] after events rest is = rest n is
    go n (x ∷ []) after events rest is = (is.0, rest x is.1)
    go n (x ∷ y ∷ more) after events rest is = absurd is

-- an event draws at most one number
number_of_answer : (r : Result ℕ LifeError) → (number_in r ≡ []) ⊎ ((x : ℕ) × (number_in r ≡ x ∷ []))
number_of_answer (Ok x) = inr (x, refl)
number_of_answer (Err e) = inl refl

pub one_number : (event : LifeEvent) (disk : LifeDisk) → (drawn_by event disk ≡ []) ⊎ ((x : ℕ) × (drawn_by event disk ≡ x ∷ []))
one_number Draw (Unopened owner s) = inl refl
one_number Draw (Opened owner numbers s) = number_of_answer (draw_answer numbers s)
one_number (Arm call) disk = inl refl
one_number (Restart new) disk = inl refl
