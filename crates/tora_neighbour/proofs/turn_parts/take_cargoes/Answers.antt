use Rattle.std.proofs.Common.{◌++◌, [], ◌∷◌, refl, sym, ap, ◌∙◌, arith, length-append, inl, inr}
use Rattle.tora_neighbour.proofs.Chains.{takes_more}
use Rattle.std.proofs.lemmas.List.{append-nil}
use Rattle.tora_arq.specs.EndRange.{link_end_of}
use Rattle.tora_seat.specs.Between.{after_cargo}
use Rattle.tora_neighbour.proofs.Further.{cargoes_more, one_more, none_more}
use Rattle.tora_neighbour.proofs.turn_parts.take_cargoes.Goals as goal

pub loop-count-init : goal.loop-count-init
loop-count-init g c = record { taken = ([], refl, refl, sym (append-nil _), refl); puts = refl; gone = refl }

pub loop-count-preserved : goal.loop-count-preserved
loop-count-preserved g c =
    let h = c.loop-count.invariant in
    let i = h.taken in
    let more = length-append i.0 (c.in-Some.cargo ∷ []) in record {
      taken = (
        i.0 ++ c.in-Some.cargo ∷ [],
        omega (arith, more, i.1),
        c.hand_in.ensures
            ∙ (λ k. link_end_of (i.2 k).settings (after_cargo (i.2 k).state c.in-Some.cargo))
            ∙ ap (link_end_of c.args.end.now.settings) (sym (cargoes_more c.args.end.now.state i.0 c.in-Some.cargo)),
        one_more _ _ _ i.0 c.in-Some.cargo i.3 c.in-Some.ensures.taken,
        takes_more g.H.Hub.did_take c.args.hub.now i.0 c.loop-count.hub c.in-Some.cargo c.take.new.self i.4 c.in-Some.ensures.call,
      );
      puts = c.in-Some.ensures.puts ∙ h.puts;
      gone = c.in-Some.ensures.gone ∙ h.gone;
    }

pub returns-after-loop-count-clause-taken : goal.returns-after-loop-count-clause-taken
returns-after-loop-count-clause-taken g c = let i = c.loop-count.invariant.taken in let end = c.loop-count-test.false in let most = c.loop-count.auto.count-end in (i.0, omega (arith, i.1), i.2, i.3, (c.loop-count.hub, i.4, inr (omega (arith, i.1), refl)))

pub returns-in-None-clause-taken : goal.returns-in-None-clause-taken
returns-in-None-clause-taken g c = let i = c.loop-count.invariant.taken in let test = c.loop-count-test.true in (i.0, omega (arith, i.1), i.2, none_more _ _ _ i.0 i.3 c.in-None.ensures.taken, (c.loop-count.hub, i.4, inl c.in-None.ensures.call))
