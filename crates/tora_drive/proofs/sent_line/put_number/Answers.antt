use Rattle.std.proofs.Common.{◌-◌, ◌<◌, ◌≤◌, ◌^◌, ◌++◌, ◌∷◌, ◌∙◌, List, ℕ, length, drop, refl, sym, ap, subst, arith}
use Rattle.std.specs.Prelude.{IsAscii}
use Rattle.std.specs.Fmt.{decimal}
use Rattle.std.proofs.lemmas.Fmt.{length-decimal-le, IsAscii-decimal}
use Rattle.std.proofs.lemmas.Grind.{drop-set_at}
use Rattle.std.proofs.lemmas.Str.{IsAscii-append}
use Rattle.std.proofs.lemmas.Str.Ascii.{IsAscii-cons}
use Rattle.tora_drive.proofs.sent_line.put_number.Goals as goal

short : (n : ℕ) → n < 2 ^ 64 → length (decimal n) ≤ 20
short n h = length-decimal-le 20 n (omega arith) (omega arith) h

pub write_digits-first-requires : goal.write_digits-first-requires
write_digits-first-requires c = let k = short c.args.n (omega arith) in (omega (arith, k, c.requires.room.0), c.requires.room.1)

pub overflow_sub-room : goal.overflow_sub-room
overflow_sub-room c = let k = short c.args.n (omega arith) in omega (arith, k, c.requires.room.0, c.write_digits-first.ensures.start)

pub overflow_sub-result : goal.overflow_sub-result
overflow_sub-result c = let k = short c.args.n (omega arith) in omega (arith, k, c.requires.room.0, c.write_digits-first.ensures.start)

pub returns-clause-bounds : goal.returns-clause-bounds
returns-clause-bounds c = let k = short c.args.n (omega arith) in
    (omega (arith, k, c.requires.room.0, c.write_digits-first.ensures.start), omega (arith, k, c.requires.room.0, c.write_digits-first.ensures.start))

pub returns-clause-written : goal.returns-clause-written
returns-clause-written c =
    let k = short c.args.n (omega arith) in
    let first = c.write_digits-first.result in
    drop-set_at c.write_digits-first.new.buf (first - 1) (first - 1) 32 refl (omega (arith, k, c.requires.room.0, c.requires.room.1, c.write_digits-first.ensures.start, c.write_digits-first.auto.buf)) ∙ ap (λ (xs : List ℕ). 32 ∷ xs) (ap (λ j. drop j c.write_digits-first.new.buf) (omega (arith, k, c.requires.room.0, c.write_digits-first.ensures.start)) ∙ c.write_digits-first.ensures.written)

pub returns-clause-ascii : goal.returns-clause-ascii
returns-clause-ascii c = subst IsAscii (sym (returns-clause-written c)) (IsAscii-cons 32 (decimal c.args.n ++ drop c.args.end c.args.room.now) (omega arith) (IsAscii-append (decimal c.args.n) (drop c.args.end c.args.room.now) (IsAscii-decimal c.args.n (omega arith)) c.requires.ascii))
