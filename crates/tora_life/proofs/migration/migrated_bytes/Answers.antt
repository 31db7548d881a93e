use Rattle.std.proofs.Common.{◌≡◌, ◌∙◌, ◌++◌, ap, List, ℕ, take, drop}
use Rattle.tora_life.specs.Migration.{slot_filled}
use Rattle.tora_life.specs.Tags.{tag_of}
use Rattle.tora_life.proofs.Bounds.{take_min, drop_min}
use Rattle.tora_life.proofs.migration.migrated_bytes.Goals as goal

pub returns : goal.returns
returns c =
    let file = c.args.file.now in
    let back = c.split_at.result.1.now in
    let one : c.copy_from_slice.new.self ≡ slot_filled (take 16 file) =
    c.copy_from_slice.ensures.after ∙ c.filled_slot.ensures ∙ ap slot_filled (c.split_at.ensures.front ∙ ap (λ (n : ℕ). take n file) c.min.ensures ∙ take_min 16 file)
    in
    let two : c.copy_from_slice-2.new.self ≡ slot_filled (take 16 (drop 16 file)) =
    c.copy_from_slice-2.ensures.after ∙ c.filled_slot-2.ensures ∙ ap slot_filled (ap (λ (n : ℕ). take n back) c.min-2.ensures ∙ take_min 16 back ∙ ap (λ (l : List ℕ). take 16 l) (c.split_at.ensures.back ∙ ap (λ (n : ℕ). drop n file) c.min.ensures ∙ drop_min 16 file))
    in
    let three : c.copy_from_slice-3.new.self ≡ tag_of c.args.owner = c.copy_from_slice-3.ensures.after ∙ c.tag_bytes.ensures in
    λ i. one i ++ two i ++ three i
