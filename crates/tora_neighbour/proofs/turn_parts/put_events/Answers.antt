use Rattle.std.proofs.Common.{◌++◌, [], ◌∷◌, refl, sym, ap, ◌∙◌, subst, Ok}
use Rattle.tora_arq.specs.EndRange.{LinkEndView}
use Rattle.tora_neighbour.specs.Puts.{put_of}
use Rattle.tora_neighbour.proofs.Further.{told_none, told_more, told_all}
use Rattle.tora_seat.specs.declared.what.What.{What}
use Rattle.tora_neighbour.proofs.Chains.{puts_more}
use Rattle.tora_neighbour.proofs.turn_parts.put_events.Goals as goal

pub loop-event-init : goal.loop-event-init
loop-event-init g c = record { settings = refl; told = told_none c.args.end.now.state (g.H.Hub.puts c.args.hub.now) c.args.now; calls = refl; takes = refl }

pub loop-event-preserved : goal.loop-event-preserved
loop-event-preserved g c =
    let h = c.loop-event.invariant in record {
      settings = ap (λ (e : LinkEndView). e.settings) c.in-Some.ensures.state ∙ h.settings;
      told = told_more _ _ _ c.loop-event.end.state _ c.in-Some.event _ _ h.told (sym c.in-Some.ensures.event) (ap (λ (e : LinkEndView). e.state) c.in-Some.ensures.state)
          (c.in_ok-put.ensures.put ∙ ap (λ w. g.H.Hub.puts c.loop-event.hub ++ put_of c.args.now w ∷ []) c.what_of.ensures);
      calls = puts_more g.H.Hub.did_put c.args.now c.args.hub.now h.told.told c.loop-event.hub c.in-Some.event c.put.new.self h.calls
          (subst (λ (w : What). g.H.Hub.did_put c.loop-event.hub c.args.now w (Ok tt) c.put.new.self) c.what_of.ensures c.in_ok-put.ensures.call);
      takes = c.in_ok-put.ensures.takes ∙ h.takes;
    }

pub returns-clause-all : goal.returns-clause-all
returns-clause-all g c =
    let h = c.loop-event.invariant in (
      h.told.told,
      told_all _ _ _ c.loop-event.end.state _ _ h.told (sym c.in_default.ensures.event) (ap (λ (e : LinkEndView). e.state) c.in_default.ensures.state),
      h.told.puts,
      h.calls,
    )
