-- One more byte is torn.
use Rattle.std.proofs.Common.{◌≡◌, ℕ, zero, suc, ◌+◌, ◌%◌, ◌<◌, ◌≤◌, Bool, true, false, List, [], ◌∷◌, length, take, get_or, refl, sym, ◌∙◌, ap, subst, arith, length-take, if◌then◌else◌, Option, Some, None, inl, inr}
use Rattle.std.proofs.Math.ListN.{set}
use Rattle.tora_life.specs.TornBytes.{torn_over}
use Rattle.tora_life.specs.State.{IsImage, IsWhole, MayLeave, seen_of, marks_of, synced_of, after_crash, armed}
use Rattle.tora_life.specs.declared.state.State.{State}
use Rattle.tora_life.specs.declared.state.DiskCall.{DiskCall}
use Rattle.tora_life.specs.declared.state.DiskCall.TheVariants.{Read, Write, Sync}
use Rattle.tora_life.proofs.Images.{synced_image}

pub torn_more : (i : ℕ) (torn : List ℕ) (ms : List Bool) (bytes : List ℕ) (j : ℕ) → j < length ms → get_or ms j false ≡ true → length ms ≤ length bytes → set (torn_over i torn (take j ms) bytes) j (get_or torn ((i + j) % 16) 0) ≡ torn_over i torn (take (suc j) ms) bytes
torn_more i torn [] bytes j lt is le = absurd (omega arith)
torn_more i torn (m ∷ ms) [] j lt is le = absurd (omega arith)
torn_more i torn (m ∷ ms) (b ∷ bytes) zero lt is le =
    let e : i + 0 ≡ i = omega arith in
    ap (λ (n : ℕ). get_or torn (n % 16) 0 ∷ bytes) e ∙ ap (λ (v : Bool). (if v then get_or torn (i % 16) 0 else b) ∷ bytes) (sym is)
torn_more i torn (m ∷ ms) (b ∷ bytes) (suc j) lt is le =
    let e : i + suc j ≡ i + 1 + j = omega arith in
    ap (λ (l : List ℕ). (if m then get_or torn (i % 16) 0 else b) ∷ l) (ap (λ (n : ℕ). set (torn_over (i + 1) torn (take j ms) bytes) j (get_or torn (n % 16) 0)) e ∙ torn_more (i + 1) torn ms bytes j (omega arith) is (omega arith))

pub torn_same : (i : ℕ) (torn : List ℕ) (ms : List Bool) (bytes : List ℕ) (j : ℕ) → j < length ms → get_or ms j false ≡ false → length ms ≤ length bytes → torn_over i torn (take j ms) bytes ≡ torn_over i torn (take (suc j) ms) bytes
torn_same i torn [] bytes j lt is le = absurd (omega arith)
torn_same i torn (m ∷ ms) [] j lt is le = absurd (omega arith)
torn_same i torn (m ∷ ms) (b ∷ bytes) zero lt is le = ap (λ (v : Bool). (if v then get_or torn (i % 16) 0 else b) ∷ bytes) (sym is)
torn_same i torn (m ∷ ms) (b ∷ bytes) (suc j) lt is le = ap (λ (l : List ℕ). (if m then get_or torn (i % 16) 0 else b) ∷ l) (torn_same (i + 1) torn ms bytes j (omega arith) is (omega arith))

-- the torn file is an image
pub torn_image : (i : ℕ) (torn : List ℕ) (ms : List Bool) (bytes : List ℕ) (k : ℕ) → k ≤ length ms → length ms ≤ length bytes → IsImage (take k bytes) ms (take (length ms) (torn_over i torn ms bytes))
torn_image i torn [] bytes zero le fits = omega arith
torn_image i torn [] bytes (suc k) le fits = absurd (omega arith)
torn_image i torn (m ∷ ms) [] k le fits = absurd (omega arith)
torn_image i torn (m ∷ ms) (b ∷ bytes) zero le fits = omega (arith, length-take (length ms) (torn_over (i + 1) torn ms bytes))
torn_image i torn (true ∷ ms) (b ∷ bytes) (suc k) le fits = ((λ not. cc), torn_image (i + 1) torn ms bytes k (omega arith) (omega arith))
torn_image i torn (false ∷ ms) (b ∷ bytes) (suc k) le fits = ((λ not. refl), torn_image (i + 1) torn ms bytes k (omega arith) (omega arith))

pub crash_left : (torn : Option (List ℕ)) (s : State) → IsWhole s → MayLeave s (seen_of (after_crash torn s))
crash_left None s whole = inr (synced_image (synced_of s) (marks_of s))
crash_left (Some torn) s whole =
    let marks : length (marks_of s) ≡ s.reach = omega (arith, length-take s.reach s.written, whole.written, whole.reach) in
    inr (subst (λ (n : ℕ). IsImage (synced_of s) (marks_of s) (take n (torn_over 0 torn (marks_of s) s.synced))) marks
    (torn_image 0 torn (marks_of s) s.synced s.synced_len (omega (arith, marks, whole.synced_len)) (omega (arith, marks, whole.reach, whole.synced))))

-- every image after a crash was an image before it
pub crash_images : (torn : Option (List ℕ)) (s : State) → IsWhole s → (c : List ℕ) → MayLeave (after_crash torn s) c → MayLeave s c
crash_images None s whole c (inl seen) = subst (λ (l : List ℕ). MayLeave s l) (sym seen) (crash_left None s whole)
crash_images None s whole c (inr image) = inr image
crash_images (Some torn) s whole c (inl seen) = subst (λ (l : List ℕ). MayLeave s l) (sym seen) (crash_left (Some torn) s whole)
crash_images (Some torn) s whole c (inr image) = inr image

-- arming a call changes no bytes
pub armed_images : (call : DiskCall) (s : State) (c : List ℕ) → MayLeave (armed call s) c → MayLeave s c
armed_images Read s c left = left
armed_images Write s c left = left
armed_images Sync s c left = left

pub armed_seen : (call : DiskCall) (s : State) → seen_of (armed call s) ≡ seen_of s
armed_seen Read s = refl
armed_seen Write s = refl
armed_seen Sync s = refl

length-torn_over : (i : ℕ) (torn : List ℕ) (ms : List Bool) (bytes : List ℕ) → length (torn_over i torn ms bytes) ≡ length bytes
length-torn_over i torn [] bytes = refl
length-torn_over i torn (m ∷ ms) [] = refl
length-torn_over i torn (m ∷ ms) (b ∷ bytes) = ap suc (length-torn_over (i + 1) torn ms bytes)

pub crash_whole : (torn : Option (List ℕ)) (s : State) → IsWhole s → IsWhole (after_crash torn s)
crash_whole None s whole = record { len = whole.synced_len; synced_len = whole.synced_len; reach = whole.reach; bytes = whole.synced; synced = whole.synced; written = whole.written }
crash_whole (Some torn) s whole = record {
  len = omega arith;
  synced_len = whole.synced_len;
  reach = whole.reach;
  bytes = length-torn_over 0 torn (marks_of s) s.synced ∙ whole.synced;
  synced = whole.synced;
  written = whole.written;
}

-- one step of the loop
pub turn_true : (torn : List ℕ) (ms : List Bool) (before bytes after : List ℕ) (j : ℕ) → bytes ≡ torn_over 0 torn (take j ms) before → after ≡ set bytes j (get_or torn (j % 16) 0) → j < length ms → get_or ms j false ≡ true → length ms ≤ length before → after ≡ torn_over 0 torn (take (j + 1) ms) before
turn_true torn ms before bytes after j so_far is lt marked le =
    let e : j ≡ 0 + j = omega arith in
    let f : suc j ≡ j + 1 = omega arith in
    is ∙ ap (λ (l : List ℕ). set l j (get_or torn (j % 16) 0)) so_far ∙ ap (λ (n : ℕ). set (torn_over 0 torn (take j ms) before) j (get_or torn (n % 16) 0)) e
    ∙ torn_more 0 torn ms before j lt marked le ∙ ap (λ (n : ℕ). torn_over 0 torn (take n ms) before) f

pub turn_false : (torn : List ℕ) (ms : List Bool) (before bytes after : List ℕ) (j : ℕ) → bytes ≡ torn_over 0 torn (take j ms) before → after ≡ bytes → j < length ms → get_or ms j false ≡ false → length ms ≤ length before → after ≡ torn_over 0 torn (take (j + 1) ms) before
turn_false torn ms before bytes after j so_far is lt marked le =
    let f : suc j ≡ j + 1 = omega arith in
    is ∙ so_far ∙ torn_same 0 torn ms before j lt marked le ∙ ap (λ (n : ℕ). torn_over 0 torn (take n ms) before) f
