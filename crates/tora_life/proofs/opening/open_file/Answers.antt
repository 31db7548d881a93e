use Rattle.std.proofs.Common.{◌≡◌, ◌⊎◌, ◌≤◌, IsOk, ap, inl, inr, List, ℕ, take, replicate, refl, Result, Ok, Err, IfOk, OnOk, IsTrue, sym, subst, ◌∙◌}
use Rattle.tora_life.specs.declared.migration.Version.{Version}
use Rattle.tora_life.specs.declared.numbers.LifeError.{LifeError}
use Rattle.tora_life.specs.Calls.{Migrates}
use Rattle.tora_life.specs.Disk.{IsRead}
use Rattle.tora_life.specs.LifeFile.{file_value}
use Rattle.tora_life.specs.Migration.{version_of, migrated}
use Rattle.tora_life.specs.Numbers.{numbers_of}
use Rattle.tora_life.proofs.Moments.{started, goes_on, weaker, both}
use Rattle.tora_life.proofs.OnOks.{if_any}
use Rattle.tora_life.proofs.Opens.{read_all, read_version}
use Rattle.tora_life.proofs.opening.open_file.Goals as goal

-- the bytes that were read are of the file as it was before
of_file : (seen seen' buf : List ℕ) (n : ℕ) → seen' ≡ seen → IsRead seen' 0 (replicate 65 0) n buf → IsRead seen 0 (replicate 65 0) n buf
of_file seen seen' buf n is read = subst (λ (f : List ℕ). IsRead f 0 (replicate 65 0) n buf) is read

-- the bytes that were read are the whole file
whole : (g : _) (c : goal.After-open_version-arg-1 g) → IsTrue (g.D.Disk.tells c.args.disk.now) → take c.in-Ok-read.count c.read.new.buf ≡ g.D.Disk.seen c.args.disk.now
whole g c told =
    let d = g.D.Disk in
    let told' : IsTrue (d.tells c.sync.new.self) = subst IsTrue (sym c.sync.ensures.tells) told in
    read_all c.args.owner (d.seen c.args.disk.now) c.read.new.buf c.in-Ok-read.count c.in-Ok-found_version.version (of_file _ _ _ _ (c.sync.ensures.seen told) (c.in-Ok-read.ensures.bytes told')) (sym c.found_version.ensures ∙ c.in-Ok-found_version.is)

pub open_version-requires-clause-file : goal.open_version-requires-clause-file
open_version-requires-clause-file g c = λ told.
    let d = g.D.Disk in
    let between : IsTrue (d.tells c.sync.new.self) = subst IsTrue c.read.ensures.tells told in
    let before : IsTrue (d.tells c.args.disk.now) = subst IsTrue c.sync.ensures.tells between in
    whole g c before ∙ sym (c.read.ensures.seen between ∙ c.sync.ensures.seen before)

pub returns-in-Ok-found_version-clause-numbers : goal.returns-in-Ok-found_version-clause-numbers
returns-in-Ok-found_version-clause-numbers g c = λ told.
    subst (λ (l : List ℕ). IfOk c.open_version.result (λ numbers. numbers ≡ numbers_of l)) (whole g c.before told) c.open_version.ensures.numbers

pub returns-in-Ok-found_version-clause-seen : goal.returns-in-Ok-found_version-clause-seen
returns-in-Ok-found_version-clause-seen g c = λ told.
    let d = g.D.Disk in
    let after : IsTrue (d.tells c.read.new.self) = subst IsTrue (sym (c.read.ensures.tells ∙ c.sync.ensures.tells)) told in
    subst (λ (l : List ℕ). OnOk c.open_version.result (d.seen c.open_version.new.disk ≡ migrated c.args.owner l)) (whole g c.before told) (c.open_version.ensures.seen after)

pub returns-in-Ok-found_version-clause-any_moment : goal.returns-in-Ok-found_version-clause-any_moment
returns-in-Ok-found_version-clause-any_moment g c = λ told.
    let d = g.D.Disk in
    let file = d.seen c.args.disk.now in
    let P : List ℕ → Type 0 = λ f. d.may_leave c.args.disk.now f ⊎ (file_value file ≤ file_value f) in
    let between : IsTrue (d.tells c.sync.new.self) = subst IsTrue (sym c.sync.ensures.tells) told in
    let after : IsTrue (d.tells c.read.new.self) = subst IsTrue (sym c.read.ensures.tells) between in
    let at_start = started d.moment d.left_since c.args.disk.now P (λ f left. inl (g.met.D.Disk.only_now c.args.disk.now f left)) in
    let synced = goes_on d.moment d.left_since c.args.disk.now c.args.disk.now c.sync.new.self P _ at_start (c.sync.ensures.time told) (λ f left. inl (c.sync.ensures.crash told f left)) in
    let was_read = goes_on d.moment d.left_since c.args.disk.now c.sync.new.self c.read.new.self P _ synced (c.read.ensures.time between) (λ f left. inl (c.sync.ensures.crash told f (c.read.ensures.crash between f left))) in
    both d.moment d.left_since c.args.disk.now c.read.new.self c.open_version.new.disk P was_read
    (weaker d.moment d.left_since c.read.new.self c.open_version.new.disk _ P (λ f le. inr (subst (λ (l : List ℕ). file_value l ≤ file_value f) (whole g c.before told) le)) (c.open_version.ensures.any_moment after))

pub returns-in-Ok-found_version-clause-calls : goal.returns-in-Ok-found_version-clause-calls
returns-in-Ok-found_version-clause-calls g c =
    let d = g.D.Disk in (
      Ok c.in-Ok.field-0,
      c.sync.new.self,
      c.in-Ok.ensures.call,
      (
        Ok c.in-Ok-read.count,
        c.read.new.buf,
        c.read.new.self,
        c.in-Ok-read.ensures.call,
        subst (λ (v : Result Version LifeError). Migrates d.writes d.syncs c.args.owner (take c.in-Ok-read.count c.read.new.buf) v c.read.new.self c.open_version.result c.open_version.new.disk) (sym c.in-Ok-found_version.is ∙ c.found_version.ensures) c.open_version.ensures.calls,
      ),
    )

pub returns-in-Err-clause-refused : goal.returns-in-Err-clause-refused
returns-in-Err-clause-refused g c = λ told not.
    let d = g.D.Disk in
    let between : IsTrue (d.tells c.sync.new.self) = subst IsTrue (sym c.sync.ensures.tells) told in (
      sym (read_version c.args.owner (d.seen c.args.disk.now) c.read.new.buf c.in-Ok-read.count (of_file _ _ _ _ (c.sync.ensures.seen told) (c.in-Ok-read.ensures.bytes between))) ∙ sym c.found_version.ensures ∙ c.in-Err.is,
      λ f left. c.in-Ok.ensures.durable told f (c.read.ensures.crash between f left),
    )

pub returns-in-Err-clause-calls : goal.returns-in-Err-clause-calls
returns-in-Err-clause-calls g c =
    let d = g.D.Disk in (
      Ok c.in-Ok.field-0,
      c.sync.new.self,
      c.in-Ok.ensures.call,
      (
        Ok c.in-Ok-read.count,
        c.read.new.buf,
        c.read.new.self,
        c.in-Ok-read.ensures.call,
        subst (λ (v : Result Version LifeError). Migrates d.writes d.syncs c.args.owner (take c.in-Ok-read.count c.read.new.buf) v c.read.new.self (Err c.in-Err.error) c.read.new.self) (sym c.in-Err.is ∙ c.found_version.ensures) (refl, refl),
      ),
    )

pub returns-in-Ok-found_version-clause-opens : goal.returns-in-Ok-found_version-clause-opens
returns-in-Ok-found_version-clause-opens g c = λ told.
    if_any c.open_version.result (subst (λ (v : Result Version LifeError). IsOk v) (sym (sym (ap (version_of c.args.owner) (whole g c.before told)) ∙ sym c.found_version.ensures ∙ c.in-Ok-found_version.is)) refl)
