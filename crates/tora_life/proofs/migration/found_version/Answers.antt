use Rattle.std.proofs.Common.{◌∙◌, arith, ap, sym, List, ℕ, drop}
use Rattle.std.specs.Str.{bytes_eq}
use Rattle.tora_life.specs.Migration.{version_by}
use Rattle.tora_life.proofs.Bounds.{drop_min}
use Rattle.tora_life.proofs.Migrations.{not_own}
use Rattle.tora_life.proofs.migration.found_version.Goals as goal

pub returns : goal.returns
returns c =
    let tag = c.split_at.result.1.now in
    c.version_by_tag.ensures ∙ ap version_by c.read.ensures
    ∙ not_own c.args.owner c.args.file.now tag (omega (arith, c.if-file-gt-FILE_LENGTH.false)) (ap (λ (l : List ℕ). bytes_eq tag l) (sym (c.as_slice.ensures ∙ c.tag_bytes-own.ensures)) ∙ sym c.eq.ensures ∙ c.if-eq.false)
    (c.split_at.ensures.back ∙ ap (λ (n : ℕ). drop n c.args.file.now) c.min.ensures ∙ drop_min 32 c.args.file.now)
