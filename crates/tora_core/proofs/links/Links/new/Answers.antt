use Rattle.std.proofs.Common.{refl, sym, subst, [], arith}
use Rattle.tora_core.specs.Numbers.{IsAscending}
use Rattle.tora_core.proofs.LinkLemmas.{kept-first, table-is}
use Rattle.tora_core.proofs.PlaceLemmas.{length-first, marked-first, numbers-first, rows-first}
use Rattle.tora_core.proofs.links.Links.new.Goals as goal

pub invariant_of-result : goal.invariant_of-result
invariant_of-result c =
    let ns = c.args.neighbours.now in
    rw (c.in_ok-directions.ensures, c.as_slice.ensures.value, c.in_ok-up.ensures, c.in_ok-places.ensures) (
      kept-first c.args.own ns,
      marked-first ns,
      subst IsAscending (sym (numbers-first ns)) c.requires.ascending,
      (let count = length-first ns in let few = c.requires.few in omega arith),
    )

pub returns : goal.returns
returns c =
    let ns = c.args.neighbours.now in
    rw (c.in_ok-up.ensures, c.in_ok-places.ensures) (table-is c.args.own c.args.own _ [] _ ns refl (rows-first ns) (numbers-first ns))
