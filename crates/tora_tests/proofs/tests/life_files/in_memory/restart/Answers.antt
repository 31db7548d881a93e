use Rattle.std.proofs.Common.{◌≡◌, ◌≢◌, ◌⊎◌, inl, inr, ◌≤◌, Result, Ok, Err, IfErr, refl, sym, subst, ◌∙◌}
use Rattle.std.proofs.lemmas.Result.{IfOk-weaker}
use Rattle.tora_life.specs.declared.migration.Version.{Version}
use Rattle.tora_life.specs.declared.numbers.LifeError.{LifeError}
use Rattle.tora_life.specs.declared.numbers.LifeError.TheVariants.{Disk, Damaged, Foreign}
use Rattle.tora_life.specs.declared.numbers.Numbers.{Numbers}
use Rattle.tora_life.specs.declared.tags.Owner.{Owner}
use Rattle.tora_life.specs.LifeFile.{Covers}
use Rattle.tora_life.specs.Migration.{version_of}
use Rattle.tora_life.specs.State.{seen_of}
use Rattle.tora_life.proofs.Migrations.{is_tagged}
use Rattle.tora_tests.proofs.tests.life_files.in_memory.restart.Goals as goal

covered : (c : goal.After-open) → Covers c.args.file.owner c.args.file.numbers.drawn (seen_of c.crash.new.self.state)
covered c = c.close-disk.ensures.kept.images refl (seen_of c.crash.new.self.state) c.crash.ensures.left

both : {A E : Type 0} (r : Result A E) (P Q R : E → Type 0) → ((e : E) → P e → Q e → R e) → IfErr r P → IfErr r Q → IfErr r R
both (Ok v) P Q R so p q = tt
both (Err e) P Q R so p q = so e p q

only_disk : (error : LifeError) (v : Version) (found : Result Version LifeError) → found ≡ Ok v → (error ≡ Disk) ⊎ ((error ≡ Damaged) ⊎ (error ≡ Foreign)) → (error ≢ Disk → found ≡ Err error) → error ≡ Disk
only_disk error v found opens (inl disk) refused = disk
only_disk error v found opens (inr (inl damaged)) refused = absurd (let is = sym opens ∙ refused (λ disk. absurd (cc)) in cc)
only_disk error v found opens (inr (inr foreign)) refused = absurd (let is = sym opens ∙ refused (λ disk. absurd (cc)) in cc)

pub returns-clause-rises : goal.returns-clause-rises
returns-clause-rises c = let P : Numbers → Type 0 = λ n. c.args.file.numbers.drawn ≤ n.drawn in IfOk-weaker c.open.result _ _ (λ opened is. subst P (sym is) (covered c).value) (c.open.ensures.numbers refl)

pub returns-clause-opens : goal.returns-clause-opens
returns-clause-opens c =
    let owner : Owner = record { node = c.args.me; peer = c.args.peer } in
    let file = seen_of c.crash.new.self.state in
    both c.open.result _ _ _ (λ fault which refused. only_disk fault.error _ (version_of owner file) (is_tagged owner file (subst (λ (o : Owner). Covers o c.args.file.numbers.drawn file) c.requires.owner (covered c)).tag) which (λ not. (refused not).0)) c.open.ensures.errors (c.open.ensures.refused refl)
