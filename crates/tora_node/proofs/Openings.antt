-- Life files that open, and the first one that does not.
use Rattle.std.proofs.Common.{◌≡◌, ◌∙◌, sym, ap, subst, refl, ℕ, zero, suc, ◌<◌, List, [], ◌∷◌, ◌++◌, length, arith, Some, Result, Ok, Err}
use Rattle.std.specs.Prelude.{map, slice_get}
use Rattle.tora_core.specs.CoreRun.{CoreView}
use Rattle.tora_life.specs.declared.disk.Disk as Disk
use Rattle.tora_life.specs.declared.numbers.LifeError.{LifeError}
use Rattle.tora_neighbour.specs.declared.wire.Wire as Wire
use Rattle.tora_node.specs.declared.fault.NodeError.{NodeError}
use Rattle.tora_node.specs.declared.fault.NodeError.TheVariants as Fault
use Rattle.tora_node.specs.declared.start.NewLink.{NewLink}
use Rattle.tora_node.specs.LinkRuns.{LinkName, LifeFailed, FailsToOpen, FailsToStart, OpenedOn, link_made, links_of}
use Rattle.tora_node.specs.Threads.{Each}
use Rattle.tora_node.proofs.Lists.{each_at, each_long, get_map, get_within, length_map, same_got}

module _ {A : Type 0} where
  -- an item of the first of two lists
  get_front : (xs ys : List A) (k : ℕ) (x : A) → slice_get xs k ≡ Some x → slice_get (xs ++ ys) k ≡ Some x
  get_front [] ys k x e = absurd cc
  get_front (z ∷ xs) ys zero x e = e
  get_front (z ∷ xs) ys (suc k) x e = get_front xs ys k x e

  -- the first item after a list
  get_next : (xs : List A) (y : A) (ys : List A) → slice_get (xs ++ y ∷ ys) (length xs) ≡ Some y
  get_next [] y ys = refl
  get_next (x ∷ xs) y ys = get_next xs y ys

  next_of : (done before rest : List A) (y : A) (all : List A) → before ≡ y ∷ rest → done ++ before ≡ all → slice_get all (length done) ≡ Some y
  next_of done before rest y all e h = subst (λ (l : List A). slice_get l (length done) ≡ Some y) (ap (λ (l : List A). done ++ l) (sym e) ∙ h) (get_next done y rest)

module _ {D W : Type 0} {disk : Disk.Ghosts D} {wire : Wire.Ghosts W} (opened : ℕ → ℕ → D → Result ℕ LifeError → Type 0) (done : List D) (made : List (NewLink D W disk wire)) (h : Each (OpenedOn opened) done made) where
  opened_before : (rest disks : List D) → done ++ rest ≡ disks → (others all : List LinkName) → map link_made made ++ others ≡ all
      → (k : ℕ) (other : LinkName) (file : D) → k < length made → slice_get all k ≡ Some other → slice_get disks k ≡ Some file → (drawn : ℕ) × opened other.me other.peer file (Ok drawn)
  opened_before rest disks ds others all ls k other file less at_other at_file =
      let long : length done ≡ length made = each_long (OpenedOn opened) done made h in
      let n = get_within made k less in
      let d = get_within done k (omega (arith, less, long)) in
      let one : OpenedOn opened d.0 n.0 = each_at (OpenedOn opened) done made k d.0 n.0 h d.1 n.1 in
      let name : link_made n.0 ≡ other =
      same_got all k (link_made n.0) other (ap (λ (l : List LinkName). slice_get l k) (sym ls) ∙ get_front (map link_made made) others k (link_made n.0) (get_map link_made made k n.0 n.1)) at_other in
      let there : d.0 ≡ file = same_got disks k d.0 file (ap (λ (l : List D). slice_get l k) (sym ds) ∙ get_front done rest k d.0 d.1) at_file in
      let drawn : ℕ = n.0.link.file.numbers.drawn in
      (drawn, subst (λ (x : LinkName × D). opened x.0.me x.0.peer x.1 (Ok drawn)) (λ i. (name i, there i)) one)

  -- the next one does not open
  pub life_failed : (files rest : List D) (file : D) (disks : List D) → files ≡ file ∷ rest → done ++ files ≡ disks
      → (names behind : List LinkName) (link : LinkName) (all : List LinkName) → names ≡ link ∷ behind → map link_made made ++ names ≡ all
      → (peer : ℕ) (error : LifeError) → link.peer ≡ peer → opened link.me link.peer file (Err error) → LifeFailed opened all disks peer error
  life_failed files rest file disks e ds names behind link all f ls peer error named failed =
      let long : length done ≡ length (map link_made made) = each_long (OpenedOn opened) done made h ∙ sym (length_map link_made made) in
      record {
        place = length (map link_made made);
        link = link;
        disk = file;
        at_link = next_of (map link_made made) names behind link all f ls;
        at_disk = subst (λ (n : ℕ). slice_get disks n ≡ Some file) long (next_of done files rest file disks e ds);
        peer_is = named;
        failed = failed;
        before = λ k other one less. opened_before files disks ds names all ls k other one (omega (arith, less, length_map link_made made));
      }

pub failed_start : {D : Type 0} (opened : ℕ → ℕ → D → Result ℕ LifeError → Type 0) (first : CoreView) (disks : List D) (e : NodeError) → FailsToOpen opened (links_of first) disks e → FailsToStart opened first disks e
failed_start opened first disks Fault.Memory h = tt
failed_start opened first disks Fault.Lane h = absurd h
failed_start opened first disks (Fault.Life peer error) h = h
failed_start opened first disks (Fault.Wire peer) h = absurd h
failed_start opened first disks Fault.Output h = absurd h
