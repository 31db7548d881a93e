use Rattle.std.proofs.Common.{◌≡◌, ◌∙◌, ◌-◌, is_ok, ℕ, List, length, take, drop, ap, subst, arith}
use Rattle.std.proofs.lemmas.List.{take_all, length-drop}
use Rattle.std.proofs.lemmas.Result.{on_ok_weaker}
use Rattle.tora_life.specs.Calls.{WritesAndSyncs}
use Rattle.tora_life.specs.Migration.{migration_bytes}
use Rattle.tora_life.proofs.Migrations.{length-migrated, migration_done, migration_torn}
use Rattle.tora_life.proofs.Moments.{weaker}
use Rattle.tora_life.proofs.writing.migrate.Goals as goal

bytes : (g : _) (c : goal.After-write_through g) → take (64 - c.min-place.result) (drop c.min-place.result c.migrated_bytes-whole.result) ≡ migration_bytes c.args.owner c.args.file.now
bytes g c =
    let whole = c.migrated_bytes-whole.result in
    let place = c.min-place.result in
    take_all (64 - place) (drop place whole) (omega (arith, length-drop place whole, ap length c.migrated_bytes-whole.ensures, length-migrated c.args.owner c.args.file.now)) ∙ (λ i. drop (c.min-place.ensures i) (c.migrated_bytes-whole.ensures i))

pub returns-clause-seen : goal.returns-clause-seen
returns-clause-seen g c = λ tells.
    on_ok_weaker c.write_through.result (migration_done c.args.owner c.args.file.now _ _ _ _ (c.requires.file tells) c.requires.fits c.min-place.ensures (bytes g c)) (c.write_through.ensures.held tells)

pub returns-clause-any_moment : goal.returns-clause-any_moment
returns-clause-any_moment g c = λ tells.
    let d = g.D.Disk in
    weaker d.moment d.left_since c.args.disk.now c.write_through.new.disk _ _ (migration_torn c.args.file.now _ _ _ _ (c.requires.file tells) c.min-place.ensures (c.requires.only tells)) (c.write_through.ensures.any_moment tells)

pub returns-clause-calls : goal.returns-clause-calls
returns-clause-calls g c =
    let d = g.D.Disk in
    subst (λ (p : ℕ × List ℕ). WritesAndSyncs d.writes d.syncs p.0 p.1 c.args.disk.now (is_ok c.write_through.result) c.write_through.new.disk) (λ i. (c.min-place.ensures i, bytes g c i)) c.write_through.ensures.calls
