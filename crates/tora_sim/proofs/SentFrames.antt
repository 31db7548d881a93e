-- Datagrams as places of stored frames, to which more frames are appended.
use Rattle.std.proofs.Common.{◌≡◌, ℕ, zero, suc, ◌-◌, ◌<◌, nat_lt, cond, Bool, true, false, List, [], ◌∷◌, ◌++◌, length, slice_get, Some, None, Option, is_some, refl, sym, ap, ◌∙◌, subst, arith, append-nil}
use Rattle.std.specs.Prelude.{IfSome, IsSome, option_map}
use Rattle.std.specs.List.{AllByRecursion, cons_option, filter_map}
use Rattle.std.proofs.lemmas.Bool.{lt-ltb}
use Rattle.std.proofs.lemmas.List.Elements.{filter_map-append}
use Rattle.tora_frame.specs.declared.parts.Header.{Header}
use Rattle.tora_frame.specs.declared.parts.Version.{Version}
use Rattle.tora_frame.specs.declared.parts.Version.TheVariants.{One, Two}
use Rattle.tora_frame.specs.declared.parts.Body.TheVariants.{Hello}
use Rattle.tora_frame.specs.FrameParts.{FrameParts, frame_of}
use Rattle.tora_sim.specs.declared.store.kept_hellos.TheConstants.{FIRST_HELLO, MOST_HELLOS}
use Rattle.tora_sim.specs.Datagrams.{IsMore}
use Rattle.tora_sim.specs.SentFrames.{AreWithin, frame_at, hello_at, in_version, sent_frames}

-- a list has an item at each index below its length
pub item_at : {A : Type 0} (xs : List A) (n : ℕ) → n < length xs → (x : A) × (slice_get xs n ≡ Some x)
item_at [] n h = absurd (omega (arith, h))
item_at (x ∷ xs) zero h = (x, refl)
item_at (x ∷ xs) (suc n) h = item_at xs n (omega (arith, h))

-- the index of an item is below the length
pub within : {A : Type 0} (xs : List A) (n : ℕ) (x : A) → slice_get xs n ≡ Some x → n < length xs
within [] n x e = absurd cc
within (y ∷ xs) zero x e = omega arith
within (y ∷ xs) (suc n) x e = omega (arith, within xs n x e)

pub stays_at : {A : Type 0} (xs ys : List A) (n : ℕ) → n < length xs → slice_get (xs ++ ys) n ≡ slice_get xs n
stays_at [] ys n h = absurd (omega (arith, h))
stays_at (x ∷ xs) ys zero h = refl
stays_at (x ∷ xs) ys (suc n) h = stays_at xs ys n (omega (arith, h))

item_stays : {A : Type 0} (xs ys : List A) (n : ℕ) (x : A) → slice_get xs n ≡ Some x → slice_get (xs ++ ys) n ≡ Some x
item_stays xs ys n x e = stays_at xs ys n (within xs n x e) ∙ e

some_of : {A : Type 0} (o : Option A) → IsSome o → (x : A) × (o ≡ Some x)
some_of None h = absurd cc
some_of (Some x) h = (x, refl)

-- the datagrams at places at each of which there is a frame
module _ (frame : ℕ → Option FrameParts) where
  abbrev Each : List ℕ → Type 0
  Each places = AllByRecursion (λ place. IsSome (frame place)) places

  each_at : (places : List ℕ) (k place : ℕ) → Each places → slice_get places k ≡ Some place → IsSome (frame place)
  each_at [] k place h e = absurd cc
  each_at (other ∷ places) zero place h e =
      let same : other ≡ place = cc in
      subst (λ (p : ℕ). IsSome (frame p)) same h.0
  each_at (other ∷ places) (suc k) place h e = each_at places k place h.1 e

  many_frames : (places : List ℕ) → Each places → length (filter_map frame places) ≡ length places
  many_frames [] h = refl
  many_frames (place ∷ places) h =
      let here = some_of (frame place) h.0 in
      ap (λ (o : Option FrameParts). length (cons_option o (filter_map frame places))) here.1 ∙ ap suc (many_frames places h.1)

  frames_at : (places : List ℕ) (k place : ℕ) → Each places → slice_get places k ≡ Some place → frame place ≡ slice_get (filter_map frame places) k
  frames_at [] k place h e = absurd cc
  frames_at (other ∷ places) zero place h e =
      let here = some_of (frame other) h.0 in
      let same : other ≡ place = cc in
      sym (ap (λ (o : Option FrameParts). slice_get (cons_option o (filter_map frame places)) zero) here.1 ∙ sym here.1 ∙ ap frame same)
  frames_at (other ∷ places) (suc k) place h e =
      let here = some_of (frame other) h.0 in
      frames_at places k place h.1 e ∙ sym (ap (λ (o : Option FrameParts). slice_get (cons_option o (filter_map frame places)) (suc k)) here.1)

  no_frames_at : (places : List ℕ) (k : ℕ) → Each places → slice_get places k ≡ None → None ≡ slice_get (filter_map frame places) k
  no_frames_at [] k h e = refl
  no_frames_at (other ∷ places) zero h e = absurd cc
  no_frames_at (other ∷ places) (suc k) h e =
      let here = some_of (frame other) h.0 in
      no_frames_at places k h.1 e ∙ sym (ap (λ (o : Option FrameParts). slice_get (cons_option o (filter_map frame places)) (suc k)) here.1)

-- one more datagram, after more frames may have been stored
module _ (frame after : ℕ → Option FrameParts) (stays : (place : ℕ) (f : FrameParts) → frame place ≡ Some f → after place ≡ Some f) where
  frames_stay : (places : List ℕ) → Each frame places → filter_map after places ≡ filter_map frame places
  frames_stay [] h = refl
  frames_stay (place ∷ places) h =
      let here = some_of (frame place) h.0 in
      ap (λ (o : Option FrameParts). cons_option o (filter_map after places)) (stays place here.0 here.1 ∙ sym here.1)
      ∙ ap (cons_option (frame place)) (frames_stay places h.1)

  frames_more : (places : List ℕ) (place : ℕ) (f : FrameParts) → Each frame places → after place ≡ Some f → filter_map after (places ++ place ∷ []) ≡ filter_map frame places ++ f ∷ []
  frames_more places place f h is =
      filter_map-append after places (place ∷ [])
      ∙ ap (λ (o : Option FrameParts). filter_map after places ++ cons_option o []) is
      ∙ ap (λ (fs : List FrameParts). fs ++ f ∷ []) (frames_stay places h)

  each_more : (places : List ℕ) (place : ℕ) (f : FrameParts) → Each frame places → after place ≡ Some f → Each after (places ++ place ∷ [])
  each_more [] place f h is = (ap (λ (o : Option FrameParts). is_some o) is, tt)
  each_more (other ∷ places) place f h is =
      let here = some_of (frame other) h.0 in
      (ap (λ (o : Option FrameParts). is_some o) (stays other here.0 here.1), each_more places place f h.1 is)

map_stays : {A B : Type 0} (f : A → B) (o after : Option A) (y : B) → ((x : A) → o ≡ Some x → after ≡ Some x) → option_map f o ≡ Some y → option_map f after ≡ Some y
map_stays f None after y h e = absurd cc
map_stays f (Some x) after y h e = ap (option_map f) (h x refl) ∙ e

cond_stays : {A : Type 0} (b : Bool) (x y x' y' : Option A) (f : A) → (x ≡ Some f → x' ≡ Some f) → (y ≡ Some f → y' ≡ Some f) → cond b x y ≡ Some f → cond b x' y' ≡ Some f
cond_stays true x y x' y' f p q e = p e
cond_stays false x y x' y' f p q e = q e

abbrev hello_frame : Header → FrameParts
hello_frame h = frame_of h Hello

hello_stays : (kept more : List Header) (place : ℕ) (h : Header) → hello_at kept place ≡ Some h → hello_at (kept ++ more) place ≡ Some h
hello_stays kept more place h =
    let stays : (v : Version) (n : ℕ) → option_map (in_version v) (slice_get kept n) ≡ Some h → option_map (in_version v) (slice_get (kept ++ more) n) ≡ Some h =
    λ v n. map_stays (in_version v) (slice_get kept n) (slice_get (kept ++ more) n) h (item_stays kept more n) in
    cond_stays (nat_lt place FIRST_HELLO) None _ None _ h (λ e. e)
    (cond_stays (nat_lt (place - FIRST_HELLO) MOST_HELLOS) _ _ _ _ h (stays One (place - FIRST_HELLO)) (stays Two ((place - FIRST_HELLO) - MOST_HELLOS)))

frame_stays : (frames fs : List FrameParts) (kept hs : List Header) (place : ℕ) (f : FrameParts) → frame_at frames kept place ≡ Some f → frame_at (frames ++ fs) (kept ++ hs) place ≡ Some f
frame_stays frames fs kept hs place f =
    cond_stays (nat_lt place FIRST_HELLO) _ _ _ _ f (item_stays frames fs place f)
    (map_stays hello_frame (hello_at kept place) (hello_at (kept ++ hs) place) f (hello_stays kept hs place))

-- the frame of another kind at a low place
pub frame_here : (frames : List FrameParts) (kept : List Header) (place : ℕ) (f : FrameParts) → place < FIRST_HELLO → slice_get frames place ≡ Some f → frame_at frames kept place ≡ Some f
frame_here frames kept place f low e =
    ap (λ (b : Bool). cond b (slice_get frames place) (option_map hello_frame (hello_at kept place))) (lt-ltb place FIRST_HELLO low) ∙ e

hello_of : (b : Bool) (x : Option FrameParts) (o : Option Header) (h : Header) → cond b None o ≡ Some h → cond b x (option_map hello_frame (cond b None o)) ≡ Some (hello_frame h)
hello_of true x o h e = absurd cc
hello_of false x o h e = ap (option_map hello_frame) e

-- the HELLO at a place
pub hello_here : (frames : List FrameParts) (kept : List Header) (place : ℕ) (h : Header) → hello_at kept place ≡ Some h → frame_at frames kept place ≡ Some (hello_frame h)
hello_here frames kept place h = hello_of (nat_lt place FIRST_HELLO) (slice_get frames place) _ h

no_hello_of : (b : Bool) (x : Option FrameParts) (o : Option Header) → cond b None o ≡ None → IsSome (cond b x (option_map hello_frame (cond b None o))) → x ≡ cond b x (option_map hello_frame (cond b None o))
no_hello_of true x o e h = refl
no_hello_of false x None e h = absurd cc
no_hello_of false x (Some y) e h = absurd cc

-- the frame at a place at which there is no HELLO
pub no_hello_here : (frames : List FrameParts) (kept : List Header) (place : ℕ) → hello_at kept place ≡ None → IsSome (frame_at frames kept place) → slice_get frames place ≡ frame_at frames kept place
no_hello_here frames kept place = no_hello_of (nat_lt place FIRST_HELLO) (slice_get frames place) _

-- the datagrams at these places
module _ (frames : List FrameParts) (kept : List Header) (places : List ℕ) (h : AreWithin frames kept places) where
  pub as_many : length (sent_frames frames kept places) ≡ length places
  as_many = many_frames (frame_at frames kept) places h

  pub none_at : (k : ℕ) → slice_get places k ≡ None → None ≡ slice_get (sent_frames frames kept places) k
  none_at k e = no_frames_at (frame_at frames kept) places k h e

  pub hello_sent : (k place : ℕ) (header : Header) → slice_get places k ≡ Some place → hello_at kept place ≡ Some header → Some (frame_of header Hello) ≡ slice_get (sent_frames frames kept places) k
  hello_sent k place header e is = sym (hello_here frames kept place header is) ∙ frames_at (frame_at frames kept) places k place h e

  pub told_sent : (k place : ℕ) (told : Option (Header × ℕ)) → slice_get places k ≡ Some place → option_map (λ t. t.0) told ≡ hello_at kept place
      → IfSome told (λ t. slice_get (sent_frames frames kept places) k ≡ Some (frame_of t.0 Hello))
  told_sent k place None e is = tt
  told_sent k place (Some t) e is = sym (hello_sent k place t.0 e (sym is))

  pub frame_sent : (k place : ℕ) → slice_get places k ≡ Some place → hello_at kept place ≡ None → slice_get frames place ≡ slice_get (sent_frames frames kept places) k
  frame_sent k place e none =
      no_hello_here frames kept place none (each_at (frame_at frames kept) places k place h e)
      ∙ frames_at (frame_at frames kept) places k place h e

-- one more datagram, whose frame is at this place, after more frames may have been stored
module _ (frames after : List FrameParts) (kept kept_after : List Header) (places : List ℕ) (place : ℕ) (f : FrameParts) (more : IsMore frames after)
    (more_kept : IsMore kept kept_after) (is : frame_at after kept_after place ≡ Some f) (h : AreWithin frames kept places) where
  stays : (p : ℕ) (g : FrameParts) → frame_at frames kept p ≡ Some g → frame_at after kept_after p ≡ Some g
  stays p g e =
      subst (λ (fs : List FrameParts). frame_at fs kept_after p ≡ Some g) (sym more.1)
      (subst (λ (hs : List Header). frame_at (frames ++ more.0) hs p ≡ Some g) (sym more_kept.1)
      (frame_stays frames more.0 kept more_kept.0 p g e))

  pub one_more : sent_frames after kept_after (places ++ place ∷ []) ≡ sent_frames frames kept places ++ f ∷ []
  one_more = frames_more (frame_at frames kept) (frame_at after kept_after) stays places place f h is

  pub all_within : AreWithin after kept_after (places ++ place ∷ [])
  all_within = each_more (frame_at frames kept) (frame_at after kept_after) stays places place f h is

-- nothing was appended
pub no_more : {A : Type 0} (xs : List A) → IsMore xs xs
no_more xs = ([], sym (append-nil xs))

-- one more datagram, a HELLO that is stored already
module _ (frames : List FrameParts) (kept : List Header) (places : List ℕ) (place : ℕ) (header : Header) (is : hello_at kept place ≡ Some header) (h : AreWithin frames kept places) where
  pub one_more_hello : sent_frames frames kept (places ++ place ∷ []) ≡ sent_frames frames kept places ++ frame_of header Hello ∷ []
  one_more_hello = one_more frames frames kept kept places place (frame_of header Hello) (no_more frames) (no_more kept) (hello_here frames kept place header is) h

  pub hello_within : AreWithin frames kept (places ++ place ∷ [])
  hello_within = all_within frames frames kept kept places place (frame_of header Hello) (no_more frames) (no_more kept) (hello_here frames kept place header is) h

-- one more datagram, a HELLO that is stored now, at the last index of the HELLOs
module _ (frames : List FrameParts) (kept after : List Header) (places : List ℕ) (place index : ℕ) (header : Header) (new : after ≡ kept ++ in_version One header ∷ [])
    (last : slice_get after index ≡ Some (in_version One header)) (is : hello_at after place ≡ option_map (in_version header.version) (slice_get after index)) (h : AreWithin frames kept places) where
  stored : hello_at after place ≡ Some header
  stored = is ∙ ap (option_map (in_version header.version)) last

  pub new_hello : sent_frames frames after (places ++ place ∷ []) ≡ sent_frames frames kept places ++ frame_of header Hello ∷ []
  new_hello = one_more frames frames kept after places place (frame_of header Hello) (no_more frames) (in_version One header ∷ [], new) (hello_here frames after place header stored) h

  pub new_within : AreWithin frames after (places ++ place ∷ [])
  new_within = all_within frames frames kept after places place (frame_of header Hello) (no_more frames) (in_version One header ∷ [], new) (hello_here frames after place header stored) h
