-- Tags are appended to messages and removed again.
use Rattle.std.proofs.Common.{◌≡◌, ◌∙◌, refl, sym, ap, arith, ℕ, zero, suc, ◌+◌, ◌-◌, ◌<◌, Bool, true, false, List, [], ◌∷◌, ◌++◌, length, map, filter_map, Some, All, Contains, IsTrue, bytes_eq, take-append-drop, nat_le, length-append, get_or, ◌&&◌}
use Rattle.std.proofs.lemmas.List.{length-take-le, take_at, drop_at}
use Rattle.std.proofs.lemmas.List.{get_or-map}
use Rattle.std.proofs.lemmas.Grind.{common_steps}
use Rattle.std.proofs.lemmas.Slice.Eq.{bytes_eq-Decides}
use Rattle.sha2.specs.Sha256.{sha256}
use Rattle.sha2.proofs.Facts256.{length-sha256}
use Rattle.tora_key.specs.Hmac.{masked, hmac_under, tag_of}
use Rattle.tora_key.specs.Sealing.{sealed, front_of, last_of, is_authentic, opened, IsPart, part_end, part_kept, part_left_out}

length-hmac : (key message : List ℕ) → length (hmac_under key message) ≡ 32
unfolding hmac_under
length-hmac key message = length-sha256 (masked 0x5c key ++ sha256 (masked 0x36 key ++ message))

pub length-tag_of : (key message : List ℕ) → length (tag_of key message) ≡ 16
unfolding tag_of
length-tag_of key message = length-take-le 16 (hmac_under key message) (rw (length-hmac key message) (omega arith))

same_bytes : (xs : List ℕ) → bytes_eq xs xs ≡ true
same_bytes xs = grind (arith, common_steps, bytes_eq-Decides xs xs)

pub length-sealed : (key message : List ℕ) → length (sealed key message) ≡ length message + 16
unfolding sealed
length-sealed key message = length-append message (tag_of key message) ∙ ap (λ n. length message + n) (length-tag_of key message)

pub front_of-sealed : (key message : List ℕ) → front_of (sealed key message) ≡ message
unfolding sealed
front_of-sealed key message = take_at message (tag_of key message) _ (omega (arith, length-append message (tag_of key message), length-tag_of key message))

last_of-sealed : (key message : List ℕ) → last_of (sealed key message) ≡ tag_of key message
unfolding sealed
last_of-sealed key message = drop_at message (tag_of key message) _ (omega (arith, length-append message (tag_of key message), length-tag_of key message))

pub is_authentic-sealed : (key message : List ℕ) → is_authentic key (sealed key message) ≡ true
unfolding is_authentic
is_authentic-sealed key message =
    let long : nat_le 16 (length (sealed key message)) ≡ true = rw (length-sealed key message) (grind (arith, common_steps)) in
    rw (long, last_of-sealed key message, front_of-sealed key message) (same_bytes (tag_of key message))

pub opened-sealed : (key message : List ℕ) → opened key (sealed key message) ≡ Some message
opened-sealed key message = rw (is_authentic-sealed key message, front_of-sealed key message) refl

both : (a b : Bool) → a && b ≡ true → b ≡ true
both true b h = h
both false b h = absurd (grind (arith, common_steps, h))

pub sealed-opened : (key bytes : List ℕ) → is_authentic key bytes ≡ true → sealed key (front_of bytes) ≡ bytes
unfolding is_authentic sealed
sealed-opened key bytes h =
    let same : last_of bytes ≡ tag_of key (front_of bytes) = grind (arith, common_steps, both (nat_le 16 (length bytes)) (bytes_eq (last_of bytes) (tag_of key (front_of bytes))) h, bytes_eq-Decides (last_of bytes) (tag_of key (front_of bytes))) in
    rw (← same) (take-append-drop (length bytes - 16) bytes)

-- ---- lists of messages

pub through : (key : List ℕ) (messages : List (List ℕ)) → filter_map (opened key) (map (sealed key) messages) ≡ messages
through key [] = refl
through key (message ∷ messages) = rw (is_authentic-sealed key message, front_of-sealed key message, through key messages) refl

tagged_at : (key bytes : List ℕ) (came : List (List ℕ)) (b : Bool) → is_authentic key bytes ≡ b
    → IsPart (map (sealed key) (filter_map (opened key) came)) came → IsPart (map (sealed key) (filter_map (opened key) (bytes ∷ came))) (bytes ∷ came)
tagged_at key bytes came true e part = rw (e, sealed-opened key bytes e) (part_kept part)
tagged_at key bytes came false e part = rw e (part_left_out part)

pub tagged : (key : List ℕ) (came : List (List ℕ)) → IsPart (map (sealed key) (filter_map (opened key) came)) came
tagged key [] = part_end
tagged key (bytes ∷ came) = tagged_at key bytes came (is_authentic key bytes) refl (tagged key came)

all_cons : {X : Type 0} (P : X → Type 0) (x : X) (xs : List X) → P x → All P xs → All P (x ∷ xs)
all_cons P x xs here all zero d below = here
all_cons P x xs here all (suc k) d below = all k d (omega arith)

-- if bytes are one of the sealed messages, all but their last 16 are that message
opened_contained : (key bytes : List ℕ) (sent : List (List ℕ)) → Contains (map (sealed key) sent) bytes → Contains sent (front_of bytes)
opened_contained key bytes sent (k, below, is) =
    let fewer : k < length sent = grind (arith, common_steps, below) in
    let made : get_or (map (sealed key) sent) k bytes ≡ sealed key (get_or sent k (front_of bytes)) = get_or-map (sealed key) sent k (front_of bytes) bytes fewer in
    let same : sealed key (get_or sent k (front_of bytes)) ≡ bytes = sym made ∙ is in
    (k, fewer, sym (front_of-sealed key (get_or sent k (front_of bytes))) ∙ ap front_of same)

unforged_at : (key bytes : List ℕ) (sent came : List (List ℕ)) (b : Bool) → is_authentic key bytes ≡ b
    → (IsTrue (is_authentic key bytes) → Contains (map (sealed key) sent) bytes) → All (Contains sent) (filter_map (opened key) came) → All (Contains sent) (filter_map (opened key) (bytes ∷ came))
unforged_at key bytes sent came true e made all = rw e (all_cons (Contains sent) (front_of bytes) _ (opened_contained key bytes sent (made e)) all)
unforged_at key bytes sent came false e made all = rw e all

pub unforged : (key : List ℕ) (sent came : List (List ℕ)) → All (λ bytes. IsTrue (is_authentic key bytes) → Contains (map (sealed key) sent) bytes) came → All (Contains sent) (filter_map (opened key) came)
unforged key sent [] made = λ k d below. absurd (omega arith)
unforged key sent (bytes ∷ came) made =
    unforged_at key bytes sent came (is_authentic key bytes) refl (made 0 bytes (omega arith)) (unforged key sent came (λ k d below. made (suc k) d (omega arith)))
