-- The tag of an owner is read as the tag of that owner.
use Rattle.std.proofs.Common.{◌≡◌, ◌≢◌, ◌^◌, ◌-◌, ◌<◌, ℕ, Bool, true, false, List, ◌++◌, length, take, drop, refl, sym, ◌∙◌, ap, arith, length-append, Err}
use Rattle.std.proofs.lemmas.Bool.Decides.{nat_tests}
use Rattle.std.proofs.lemmas.List.{drop_at}
use Rattle.std.proofs.lemmas.Nat.{from_be_bytes-to_be_bytes_4, from_be_bytes-to_be_bytes_8}
use Rattle.std.specs.Int.{w32, w64, to_be_bytes}
use Rattle.std.specs.Str.{bytes_eq}
use Rattle.std.specs.Cmp.Lexicographic.{same_text}
use Rattle.tora_life.specs.declared.numbers.LifeError.TheVariants.{Foreign}
use Rattle.tora_life.specs.declared.tags.Owner.{Owner}
use Rattle.tora_life.specs.declared.tags.Tag.TheVariants.{Of}
use Rattle.tora_life.specs.Migration.{version_by, version_of}
use Rattle.tora_life.specs.Tags.{tag_beginning, word_of, long_of, tag_read, tag_of}
use Rattle.tora_life.proofs.Migrations.{length-tag_of, not_own}

long_back : (n : ℕ) → n < 2 ^ 64 → long_of (to_be_bytes w64 n) ≡ n
unfolding long_of
long_back n lt = from_be_bytes-to_be_bytes_8 n lt

word_back : (n : ℕ) → n < 2 ^ 32 → word_of (to_be_bytes w32 n) ≡ n
unfolding word_of
word_back n lt = from_be_bytes-to_be_bytes_4 n lt

read_as : (tag : List ℕ) (owner : Owner) → length tag ≡ 32 → long_of (take 8 tag) ≡ tag_beginning → word_of (take 4 (drop 8 tag)) ≡ owner.node → word_of (take 4 (drop 12 tag)) ≡ owner.peer
    → long_of (take 8 (drop 16 tag)) ≡ 2 ^ 64 - 1 - tag_beginning → word_of (take 4 (drop 24 tag)) ≡ 2 ^ 32 - 1 - owner.node → word_of (take 4 (drop 28 tag)) ≡ 2 ^ 32 - 1 - owner.peer → tag_read tag ≡ Of owner
unfolding tag_read
read_as tag owner long a b c d e f = grind (arith, nat_tests)

pub read_back : (owner : Owner) → owner.node < 2 ^ 32 → owner.peer < 2 ^ 32 → tag_read (tag_of owner) ≡ Of owner
unfolding tag_of
read_back owner p q =
    read_as (tag_of owner) owner refl (long_back tag_beginning (omega arith)) (word_back owner.node p) (word_back owner.peer q) (long_back (2 ^ 64 - 1 - tag_beginning) (omega arith)) (word_back (2 ^ 32 - 1 - owner.node) (omega arith)) (word_back (2 ^ 32 - 1 - owner.peer) (omega arith))

of_same : (a b : Owner) → Of a ≡ Of b → a ≡ b
of_same a b is = cc

differs : (own : Bool) (xs ys : List ℕ) → own ≡ bytes_eq xs ys → (xs ≡ ys → ⊥) → own ≡ false
differs true xs ys is never = absurd (never (same_text xs ys is))
differs false xs ys is never = refl

pub foreign : (owner other : Owner) (slots : List ℕ) → other.node < 2 ^ 32 → other.peer < 2 ^ 32 → owner.node < 2 ^ 32 → owner.peer < 2 ^ 32 → owner ≢ other → length slots ≡ 32 → version_of owner (slots ++ tag_of other) ≡ Err Foreign
foreign owner other slots p q r s not long =
    let file = slots ++ tag_of other in
    let back : drop 32 file ≡ tag_of other = drop_at slots (tag_of other) 32 long in
    let other_tag : tag_of other ≡ tag_of owner → ⊥ = λ same. not (sym (of_same other owner (sym (read_back other p q) ∙ ap tag_read same ∙ read_back owner r s))) in
    sym (not_own owner file (tag_of other) (omega (arith, length-append slots (tag_of other), length-tag_of other, long)) (differs (bytes_eq (tag_of other) (tag_of owner)) (tag_of other) (tag_of owner) refl other_tag) (sym back))
    ∙ ap version_by (read_back other p q)
