use Rattle.std.proofs.Common.{◌≡◌, ◌∙◌, sym, ap, subst, ℕ, ◌==◌, Option, length}
use Rattle.std.specs.Prelude.{unwrap_or}
use Rattle.std.specs.List.{position_or_len}
use Rattle.tora_core.specs.Links.{IsOnlyPlace}
use Rattle.tora_core.proofs.RowPlaces.{only-of, place-or-length}
use Rattle.tora_core.proofs.table.place_in.Goals as goal

pub returns : goal.returns
returns c =
    let at : c.unwrap_or.result ≡ position_or_len (λ n. n == c.args.k) c.args.names.neighbours.now =
    c.unwrap_or.ensures ∙ ap (λ (o : Option ℕ). unwrap_or o (length c.args.names.neighbours.now)) c.place_near.ensures ∙ place-or-length (λ n. n == c.args.k) c.args.names.neighbours.now in
    subst (λ (i : ℕ). IsOnlyPlace c.args.k i c.args.names.neighbours.now) (sym at) (only-of c.args.k c.args.names.neighbours.now c.requires.0 c.requires.1)
