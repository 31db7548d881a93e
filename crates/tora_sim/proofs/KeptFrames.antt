-- Stored frames with their packets in another list, to which more packets are appended.
use Rattle.std.proofs.Common.{◌≡◌, ℕ, ◌+◌, ◌-◌, ◌≤◌, List, [], ◌∷◌, ◌++◌, map, length, drop, refl, sym, ap, ◌∙◌, subst, arith, length-append, length-drop}
use Rattle.std.specs.Prelude.{slice_range}
use Rattle.std.specs.List.{AllByRecursion}
use Rattle.std.proofs.lemmas.List.{drop-append-le, take-append-le, take_all, map-append}
use Rattle.std.proofs.Math.Seq.{drop-append_seam}
use Rattle.tora_packet.specs.declared.Packet.{Packet}
use Rattle.tora_frame.specs.declared.parts.Body.TheVariants as Carries
use Rattle.tora_frame.specs.FrameParts.{FrameParts, IsFrame, batch, frame_of}
use Rattle.tora_sim.specs.declared.store.kept_frames.KeptBody.{KeptBody}
use Rattle.tora_sim.specs.declared.store.kept_frames.KeptBody.TheVariants.{Hello, Data, Ack}
use Rattle.tora_sim.specs.declared.store.kept_frames.KeptFrame.{KeptFrame}
use Rattle.tora_sim.specs.Datagrams.{body_in, frame_in, IsWithin, IsKept, IsMore}

-- stored packets keep their indexes
range_stays : (xs ys : List Packet) (from many : ℕ) → from + many ≤ length xs → slice_range (xs ++ ys) from (from + many) ≡ slice_range xs from (from + many)
range_stays xs ys from many h =
    let e : (from + many) - from ≡ many = omega arith in
    let behind : many ≤ length (drop from xs) = omega (arith, h, length-drop from xs) in
    let front : from ≤ length xs = omega (arith, h) in
    rw (e, drop-append-le from xs ys front, take-append-le many (drop from xs) ys behind) refl

-- appended packets are at the end
range_behind : (xs ys : List Packet) → slice_range (xs ++ ys) (length xs) (length xs + length ys) ≡ ys
range_behind xs ys =
    let e : (length xs + length ys) - length xs ≡ length ys = omega arith in
    rw (e, drop-append_seam xs ys) (take_all (length ys) ys (omega arith))

-- the body with the appended packets, by their number and the index of the first
module _ (xs ys carried : List Packet) (from : ℕ) (more : ys ≡ xs ++ carried) (first : from ≡ length xs) where
  range_of : slice_range ys from (from + length carried) ≡ carried
  range_of = rw (more, first) (range_behind xs carried)

  pub range_within : from + length carried ≤ length ys
  range_within = rw (more, first) (omega (arith, length-append xs carried))

  pub data_is : (number count : ℕ) → body_in ys (Data (length carried) from number count) ≡ Carries.Data number count (batch carried)
  data_is number count = ap (λ (ps : List Packet). Carries.Data number count (batch ps)) range_of

body_stays : (xs ys : List Packet) (body : KeptBody) → IsWithin xs body → body_in (xs ++ ys) body ≡ body_in xs body
body_stays xs ys Hello h = refl
body_stays xs ys (Data many from number count) h = ap (λ (ps : List Packet). Carries.Data number count (batch ps)) (range_stays xs ys from many h)
body_stays xs ys (Ack count) h = refl

within_more : (xs ys : List Packet) (body : KeptBody) → IsWithin xs body → IsWithin (xs ++ ys) body
within_more xs ys Hello h = tt
within_more xs ys (Data many from number count) h = omega (arith, h, length-append xs ys)
within_more xs ys (Ack count) h = tt

-- a stored frame is the same after packets are appended
module _ (xs more : List Packet) where
  frame_stays : (kept : KeptFrame) → IsKept xs kept → frame_in (xs ++ more) kept ≡ frame_in xs kept
  frame_stays kept h = ap (frame_of kept.header) (body_stays xs more kept.body h.within)

  frames_stay : (frames : List KeptFrame) → AllByRecursion (IsKept xs) frames → map (frame_in (xs ++ more)) frames ≡ map (frame_in xs) frames
  frames_stay [] h = refl
  frames_stay (kept ∷ frames) h =
      ap (λ (f : FrameParts). f ∷ map (frame_in (xs ++ more)) frames) (frame_stays kept h.0)
      ∙ ap (λ (fs : List FrameParts). frame_in xs kept ∷ fs) (frames_stay frames h.1)

  all_kept : (frames : List KeptFrame) (one : KeptFrame) → AllByRecursion (IsKept xs) frames → IsKept (xs ++ more) one → AllByRecursion (IsKept (xs ++ more)) (frames ++ one ∷ [])
  all_kept [] one h is = (is, tt)
  all_kept (kept ∷ frames) one h is = (
    record {
      within = within_more xs more kept.body h.0.within;
      frame = subst IsFrame (sym (frame_stays kept h.0)) h.0.frame;
    },
    all_kept frames one h.1 is,
  )

-- one more frame, whose body is stored
module _ (xs ys : List Packet) (frames after : List KeptFrame) (kept : KeptFrame) (f : FrameParts) (packets : IsMore xs ys) (is : frame_in ys kept ≡ f)
    (one : after ≡ frames ++ kept ∷ []) (h : AllByRecursion (IsKept xs) frames) where
  pub pushed : map (frame_in ys) after ≡ map (frame_in xs) frames ++ f ∷ []
  pushed =
      ap (map (frame_in ys)) one
      ∙ map-append (frame_in ys) frames (kept ∷ [])
      ∙ ap (λ (fs : List FrameParts). fs ++ frame_in ys kept ∷ []) (ap (λ (ps : List Packet). map (frame_in ps) frames) packets.1 ∙ frames_stay xs packets.0 frames h)
      ∙ ap (λ (x : FrameParts). map (frame_in xs) frames ++ x ∷ []) is

  pub pushed_kept : IsWithin ys kept.body → IsFrame f → AllByRecursion (IsKept ys) after
  pushed_kept inside valid =
      let now : IsKept ys kept = record { within = inside; frame = subst IsFrame (sym is) valid } in
      subst (λ (ks : List KeptFrame). AllByRecursion (IsKept ys) ks) (sym one)
      (subst (λ (ps : List Packet). AllByRecursion (IsKept ps) (frames ++ kept ∷ [])) (sym packets.1)
      (all_kept xs packets.0 frames kept h (subst (λ (ps : List Packet). IsKept ps kept) packets.1 now)))
