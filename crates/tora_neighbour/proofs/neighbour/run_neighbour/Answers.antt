use Rattle.std.proofs.Common.{◌≡◌, ℕ, [], ◌∷◌, ◌++◌, refl, sym, ap, ◌∙◌, subst, arith, Option}
use Rattle.tora_arq.specs.Settings.{Settings}
use Rattle.tora_arq.specs.LinkEnd.{EndState}
use Rattle.tora_neighbour.specs.declared.fault.LinkFault.{LinkFault}
use Rattle.tora_neighbour.specs.Tally.{first_tally}
use Rattle.tora_neighbour.specs.Causes.{IsEndOf}
use Rattle.tora_neighbour.proofs.Ends.{end_cause}
use Rattle.tora_neighbour.specs.Turns.{IsTurn, IsLastTurn}
use Rattle.tora_neighbour.proofs.Chains.{calls_more, row_turns}
use Rattle.tora_neighbour.proofs.Runs.{turns_more, beats_more, tally_more, traffic_more, read_more, no_traffic}
use Rattle.tora_neighbour.proofs.neighbour.run_neighbour.Goals as goal

pub loop-init : goal.loop-init
loop-init g c = record {
  settings = refl;
  ready = let z : c.args.link.end.state.last_life ≡ 0 = ap (λ (e : EndState). e.last_life) c.requires.new in omega arith;
  row = omega arith;
  failed = refl;
  disk = refl;
  failures = omega arith;
  so_far = ([], refl, refl, c.new.ensures, no_traffic _, (refl, refl), refl, refl);
}

pub loop-preserved : goal.loop-preserved
loop-preserved g c =
    let h = c.loop.invariant in
    let t = c.in-Ok.ensures.turn in record {
      settings = c.in-Ok.ensures.settings ∙ h.settings;
      ready = c.in-Ok.ensures.ready;
      row = c.in-Ok.ensures.row;
      failed = c.in-Ok.ensures.failed ∙ h.failed;
      disk = c.in-Ok.ensures.disk ∙ h.disk;
      failures = c.in-Ok.ensures.failures (g.W.Wire.failures c.args.link.wire) h.failures;
      so_far = (
        h.so_far.0 ++ t.0 ∷ [],
        turns_more _ _ h.so_far.0 _ t.0 _ h.so_far.1 (subst (λ (s : Settings). IsTurn s c.loop.link.end.state t.0 c.turn.new.link.end.state) h.settings t.1),
        beats_more _ h.so_far.0 c.loop.course.last_beat t.0 _ h.so_far.2 t.2 t.3,
        tally_more first_tally h.so_far.0 c.loop.course.tally t.0 _ h.so_far.3 t.4,
        traffic_more _ _ _ h.so_far.0 (t.0 ∷ []) h.so_far.4 t.5,
        calls_more g.H.Hub.did_take g.H.Hub.did_put g.W.Wire.did_send g.W.Wire.did_receive c.args.hub c.args.link.wire h.so_far.0 c.loop.hub c.loop.link.wire t.0 c.turn.new.hub c.turn.new.link.wire h.so_far.5 t.6,
        read_more g.C.Clock.did_tell c.args.clock.now h.so_far.0 c.loop.clock t.0 c.now-now.new.self h.so_far.6 (subst (λ (n : ℕ). g.C.Clock.did_tell c.loop.clock n c.now-now.new.self) (sym t.7) c.now-now.ensures),
        row_turns 0 c.loop.course.row c.turn.new.course.row h.so_far.0 t.0 h.so_far.7 t.8,
      );
    }

pub returns-in-Err-clause-turns : goal.returns-in-Err-clause-turns
returns-in-Err-clause-turns g c =
    let h = c.loop.invariant in
    let t = c.in-Err.ensures.last in (
      h.so_far.0,
      t.0,
      c.in-Err.ending,
      c.fault_of-fault.ensures,
      record {
        before = c.loop.link.end.state;
        turns_are = h.so_far.1;
        last_beat = c.loop.course.last_beat;
        beats_are = h.so_far.2;
        last_is = subst (λ (s : Settings). IsLastTurn s c.loop.course.last_beat c.loop.link.end.state t.0 c.in-Err.ending c.turn.new.link.end.state) h.settings t.1;
        row = c.turn.new.course.row;
        calls_are = row_turns 0 c.loop.course.row c.turn.new.course.row h.so_far.0 t.0 h.so_far.7 t.6;
        row_is = t.7;
      },
      traffic_more _ _ _ h.so_far.0 (t.0 ∷ []) h.so_far.4 t.3,
      tally_more first_tally h.so_far.0 c.loop.course.tally t.0 _ h.so_far.3 t.2,
      read_more g.C.Clock.did_tell c.args.clock.now h.so_far.0 c.loop.clock t.0 c.now-now.new.self h.so_far.6 (subst (λ (n : ℕ). g.C.Clock.did_tell c.loop.clock n c.now-now.new.self) (sym t.5) c.now-now.ensures),
      (c.loop.hub, c.loop.link.wire, h.so_far.5, t.4),
    )

pub returns-in-Err-clause-cause : goal.returns-in-Err-clause-cause
returns-in-Err-clause-cause g c =
    let h = c.loop.invariant in
    subst
    (λ (f : Option LinkFault). IsEndOf f c.args.link.file.numbers c.turn.new.link.file.numbers (g.D.Disk.failures c.args.link.file.disk) (g.D.Disk.failures c.turn.new.link.file.disk) (g.W.Wire.failures c.args.link.wire) (g.W.Wire.failures c.turn.new.link.wire) (g.H.Hub.gone c.turn.new.hub))
    (sym c.fault_of-fault.ensures)
    (end_cause c.in-Err.ending c.args.link.file.numbers c.loop.link.file.numbers c.turn.new.link.file.numbers (g.D.Disk.failures c.args.link.file.disk) (g.D.Disk.failures c.loop.link.file.disk)
    (g.D.Disk.failures c.turn.new.link.file.disk) c.turn.new.course.row (g.W.Wire.failures c.args.link.wire) (g.W.Wire.failures c.turn.new.link.wire) (g.H.Hub.gone c.turn.new.hub)
    h.failed h.disk (c.in-Err.ensures.failures (g.W.Wire.failures c.args.link.wire) h.failures) c.in-Err.ensures.cause)
