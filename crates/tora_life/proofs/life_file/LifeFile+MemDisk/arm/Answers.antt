use Rattle.std.proofs.Common.{◌≡◌, List, ℕ, subst, sym, ◌∙◌, ap}
use Rattle.tora_life.specs.LifeFile.{slot_value}
use Rattle.tora_life.specs.State.{MayLeave, seen_of}
use Rattle.tora_life.specs.declared.state.State.{State}
use Rattle.tora_life.proofs.TornBytes.{armed_images, armed_seen}
use Rattle.tora_life.proofs.life_file.LifeFile+MemDisk.arm.Goals as goal

pub invariant_of-self : goal.invariant_of-self
invariant_of-self c =
    let was = c.self.invariant in
    let s = c.self.inside.disk.state in
    let seen : seen_of c.arm.new.self.state ≡ seen_of s = ap seen_of c.arm.ensures ∙ armed_seen c.args.call s in
    let image = λ (f : List ℕ) (left : MayLeave c.arm.new.self.state f). armed_images c.args.call s f (subst (λ (s : State). MayLeave s f) c.arm.ensures left) in
    record {
      room = was.room;
      reach = was.reach;
      images = λ told f left. was.images told f (image f left);
      only = λ told sound f left. was.only told sound f (image f left) ∙ sym seen;
      first = λ told sound. was.first told sound ∙ ap (λ (l : List ℕ). slot_value l 0) (sym seen);
      second = λ told sound. was.second told sound ∙ ap (λ (l : List ℕ). slot_value l 1) (sym seen);
    }
