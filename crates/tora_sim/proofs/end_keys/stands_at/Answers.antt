use Rattle.std.proofs.Common.{ℕ, Some, ◌∙◌, refl, ap, sym, length}
use Rattle.std.proofs.lemmas.Option.{slice_get_read}
use borrow.Author.Tests.{ltb-true}
use Rattle.tora_sim.proofs.Keys.{key_is}
use Rattle.tora_sim.proofs.end_keys.stands_at.Goals as goal

pub returns-then-is_key : goal.returns-then-is_key
returns-then-is_key c =
    let keys = c.args.keys.now in
    slice_get_read keys (length keys) c.args.at c.in-Some.key.now refl (ltb-true c.args.at (length keys) (sym c.in-Some.ensures.lookup.0)) c.in-Some.ensures.lookup.1
    ∙ ap (λ (x : ℕ × ℕ). Some x) (key_is c.args.n c.args.k c.in-Some.key.now (sym c.is_key.ensures ∙ c.if-is_key.true))
