use Rattle.std.proofs.Common.{◌++◌, ◌∷◌, [], ℕ, List, length, refl, sym, ap, subst, ◌∙◌, inl, inr, arith}
use Rattle.std.specs.Prelude.{Option, is_some}
use Rattle.std.specs.Io.KnownBytes.{Appends}
use Rattle.tora_seat.specs.declared.item.Item.{Item}
use Rattle.tora_seat.specs.Rows.{state_of, serving_at}
use Rattle.tora_seat.specs.declared.answer.Answer.{Answer}
use Rattle.tora_seat.specs.declared.what.What.{What}
use Rattle.tora_node.specs.CoreRuns.{reply_text, EndsSo, MayFail, IsWatched}
use Rattle.tora_node.specs.declared.fault.NodeError.{NodeError}
use Rattle.tora_node.specs.StatusLines.{told_in}
use Rattle.tora_node.specs.declared.watch.Told.{Told}
use Rattle.tora_node.proofs.Served.{Appends-nil, nothing_ran, done, goes_on, core_is, may_fail_more, told_before}
use Rattle.tora_node.proofs.core_thread.run_core.Goals as goal

pub loop-init : goal.loop-init
loop-init g c = record {
  faultless = refl;
  lanes = c.requires;
  neighbours = refl;
  lane = refl;
  ran = nothing_ran g.O.OutLanes.did_offer c.args.seat.core.neighbours (state_of c.args.seat) c.args.outs c.args.port.taken (g.W.Write.contents c.args.writer.now);
}

pub returns-in-Err : goal.returns-in-Err
returns-in-Err g c =
    let r = c.loop.invariant.ran in
    let gone = c.in-Err.ensures.gone in
    let ks = c.args.seat.core.neighbours in
    record {
      runs = (
        r.xs,
        gone.0 ∙ r.taken_is,
        r.served,
        r.offered,
        core_is c.accepted_inputs_make_the_core.ensures.runs ks (state_of c.args.seat) (state_of c.loop.end.seat) r.xs r.served,
        (λ none. r.written),
        subst (λ (f : Option NodeError). EndsSo f r.xs c.take.new.self.gone) (sym c.loop.invariant.faultless) (inr (r.goes, gone.1)),
      );
      neighbours = c.loop.invariant.neighbours;
      lane = c.take.ensures.lane.0 ∙ c.loop.invariant.lane;
    }

pub returns-then-is_quit : goal.returns-then-is_quit
returns-then-is_quit g c =
    let h = c.loop.invariant in
    let t = c.serve-answer.ensures.served in
    let ks = c.args.seat.core.neighbours in
    let v = serving_at c.in-Ok.item.now c.serve-answer.new.self t.0 in
    let d = done g.O.OutLanes.did_offer ks (state_of c.args.seat) c.args.outs c.args.port.taken (g.W.Write.contents c.args.writer.now)
    (state_of c.loop.end.seat) c.loop.end.outs c.loop.end.port.taken (g.W.Write.contents c.loop.writer) (told_in c.loop.watch) h.ran
    c.in-Ok.item t.0 c.serve-answer.new.outs c.take.new.self.taken v c.loop.end.seat.core.neighbours h.neighbours c.in-Ok.ensures.taken.0 t.1 t.2 refl in
    let quit = c.is_quit.ensures.quit c.if-is_quit.true in
    let text = g.W.Write.contents c.loop.writer in
    record {
      runs = (
        d.front ++ d.x ∷ [],
        d.taken_is,
        d.served,
        d.offered,
        core_is c.accepted_inputs_make_the_core.ensures.runs ks (state_of c.args.seat) (state_of c.serve-answer.new.self) (d.front ++ d.x ∷ []) d.served,
        (λ none. d.written text (subst (λ (w : What). Appends text text (reply_text (told_in c.loop.watch) c.in-Ok.item.now w v.answer v.seat)) (sym quit) (Appends-nil text))),
        subst (λ (f : Option NodeError). EndsSo f (d.front ++ d.x ∷ []) c.take.new.self.gone) (sym h.faultless) (inl (d.front, d.x, refl, d.goes, ap (λ (i : Item). i.what) d.item_is ∙ quit)),
      );
      neighbours = c.serve-answer.ensures.neighbours ∙ h.neighbours;
      lane = c.take.ensures.lane.0 ∙ h.lane;
    }

pub returns-in-Err-reply : goal.returns-in-Err-reply
returns-in-Err-reply g c =
    let h = c.loop.invariant in
    let t = c.serve-answer.ensures.served in
    let ks = c.args.seat.core.neighbours in
    let v = serving_at c.in-Ok.item.now c.serve-answer.new.self t.0 in
    let d = done g.O.OutLanes.did_offer ks (state_of c.args.seat) c.args.outs c.args.port.taken (g.W.Write.contents c.args.writer.now)
    (state_of c.loop.end.seat) c.loop.end.outs c.loop.end.port.taken (g.W.Write.contents c.loop.writer) (told_in c.loop.watch) h.ran
    c.in-Ok.item t.0 c.serve-answer.new.outs c.take.new.self.taken v c.loop.end.seat.core.neighbours h.neighbours c.in-Ok.ensures.taken.0 t.1 t.2 refl in
    record {
      runs = (
        d.front ++ d.x ∷ [],
        d.taken_is,
        d.served,
        d.offered,
        core_is c.accepted_inputs_make_the_core.ensures.runs ks (state_of c.args.seat) (state_of c.serve-answer.new.self) (d.front ++ d.x ∷ []) d.served,
        (λ none. absurd (cc)),
        (d.front, d.x, refl, d.goes, subst (λ (i : Item). MayFail c.in-Err-reply.fault (IsWatched d.front) i.what) (sym d.item_is) (may_fail_more c.in-Err-reply.fault c.in-Ok.item.what (told_before c.loop.watch d.front d.before) c.in-Err-reply.ensures.err)),
      );
      neighbours = c.serve-answer.ensures.neighbours ∙ h.neighbours;
      lane = c.take.ensures.lane.0 ∙ h.lane;
    }

pub loop-preserved : goal.loop-preserved
loop-preserved g c =
    let h = c.loop.invariant in
    let t = c.serve-answer.ensures.served in
    let ks = c.args.seat.core.neighbours in
    let v = serving_at c.in-Ok.item.now c.serve-answer.new.self t.0 in
    let d = done g.O.OutLanes.did_offer ks (state_of c.args.seat) c.args.outs c.args.port.taken (g.W.Write.contents c.args.writer.now)
    (state_of c.loop.end.seat) c.loop.end.outs c.loop.end.port.taken (g.W.Write.contents c.loop.writer) (told_in c.loop.watch) h.ran
    c.in-Ok.item t.0 c.serve-answer.new.outs c.take.new.self.taken v c.loop.end.seat.core.neighbours h.neighbours c.in-Ok.ensures.taken.0 t.1 t.2 refl in
    let same = c.serve-answer.ensures.neighbours in
    let count = c.serve-answer.ensures.count in
    let new = g.W.Write.contents c.reply.new.writer in
    record {
      faultless = h.faultless;
      lanes = omega (arith, ap (λ (l : List ℕ). length l) same, count, h.lanes);
      neighbours = same ∙ h.neighbours;
      lane = c.take.ensures.lane.0 ∙ h.lane;
      ran = record {
        xs = d.front ++ d.x ∷ [];
        taken_is = d.taken_is;
        served = d.served;
        offered = d.offered;
        written = d.written new (subst (λ (a : Answer). Appends (g.W.Write.contents c.loop.writer) new (reply_text (told_in c.loop.watch) c.in-Ok.item.now c.in-Ok.item.what a v.seat)) c.serve-answer.ensures.answer c.in-Ok-reply.ensures.ok);
        told_is = c.in-Ok-reply.ensures.told ∙ d.told_is;
        watched = λ e. d.watched (ap (λ (t : Option (List Told)). is_some t) (sym c.in-Ok-reply.ensures.told) ∙ e);
        goes = goes_on d.front d.x c.in-Ok.item d.goes d.item_is (c.is_quit.ensures.other c.if-is_quit.false);
      };
    }
