-- The first frame due, and its bytes.
use Rattle.std.proofs.Common.{◌≡◌, ◌<◌, ◌++◌, ℕ, List, length, drop, get_or, Option, Some, None, true≢false, refl, sym, ap, ◌∙◌, subst}
use Rattle.std.specs.Prelude.{is_some, option_map, IfSome}
use Rattle.tora_frame.specs.FrameGrammar.{frame_spelling}
use Rattle.tora_frame.specs.FrameParts.{FrameParts}
use Rattle.tora_router.specs.declared.link.Link.{Link}
use Rattle.tora_router.specs.Links.{first_in, frame_of_link}
use Rattle.tora_router.proofs.Places.{NoneBefore, first_found_as}

abbrev pub count_of : FrameParts → ℕ
count_of frame = length (frame_spelling frame)

abbrev pub with_count : ℕ × FrameParts → ℕ × ℕ
with_count found = (found.0, length (frame_spelling found.1))

abbrev pub at_count : ℕ → ℕ → ℕ × ℕ
at_count place count = (place, count)

abbrev pub IsSpelled : List ℕ → List ℕ → FrameParts → Type 0
IsSpelled old new frame = new ≡ frame_spelling frame ++ drop (length (frame_spelling frame)) old

module _ (now : ℕ) (xs ys : List Link) (place : ℕ) (x : Link) (q : xs ≡ ys) (lt : place < length xs) (e : x ≡ get_or xs place x) (h : NoneBefore (frame_of_link now) xs place) where
  found : (frame : FrameParts) → frame_of_link now x ≡ Some frame → first_in (frame_of_link now) ys ≡ Some (place, frame)
  found frame f = first_found_as (frame_of_link now) xs ys place x frame q lt e f h

  pub first_sent : (count : ℕ) → Some count ≡ option_map count_of (frame_of_link now x) → Some (place, count) ≡ option_map with_count (first_in (frame_of_link now) ys)
  first_sent count c = go (frame_of_link now x) refl c
    where
      go : (frame : Option FrameParts) → frame_of_link now x ≡ frame → Some count ≡ option_map count_of frame → Some (place, count) ≡ option_map with_count (first_in (frame_of_link now) ys)
      go None f w = absurd (true≢false (ap is_some w))
      go (Some frame) f w = ap (option_map (at_count place)) w ∙ sym (ap (option_map with_count) (found frame f))

  pub bytes_sent : (count : ℕ) (old before new : List ℕ) → before ≡ old → Some count ≡ option_map count_of (frame_of_link now x) → IfSome (frame_of_link now x) (IsSpelled before new) → IfSome (first_in (frame_of_link now) ys) (λ (f : ℕ × FrameParts). IsSpelled old new f.1)
  bytes_sent count old before new b c i = go (frame_of_link now x) refl c i
    where
      go : (frame : Option FrameParts) → frame_of_link now x ≡ frame → Some count ≡ option_map count_of frame → IfSome frame (IsSpelled before new) → IfSome (first_in (frame_of_link now) ys) (λ (f : ℕ × FrameParts). IsSpelled old new f.1)
      go None f w j = absurd (true≢false (ap is_some w))
      go (Some frame) f w j =
          subst (λ o. IfSome o (λ (g : ℕ × FrameParts). IsSpelled old new g.1)) (sym (found frame f)) (subst (λ (bs : List ℕ). IsSpelled bs new frame) b j)

pub none_sent : (now : ℕ) (ys : List Link) (old new : List ℕ) → first_in (frame_of_link now) ys ≡ None → IfSome (first_in (frame_of_link now) ys) (λ (f : ℕ × FrameParts). IsSpelled old new f.1)
none_sent now ys old new n = subst (λ o. IfSome o (λ (g : ℕ × FrameParts). IsSpelled old new g.1)) (sym n) tt

pub no_frame : (count : Option ℕ) (frame : Option FrameParts) → count ≡ None → count ≡ option_map count_of frame → frame ≡ None
no_frame count None n c = refl
no_frame count (Some frame) n c = absurd (true≢false (sym (ap is_some (sym n ∙ c))))
