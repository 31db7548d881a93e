use Rattle.std.proofs.Common.{◌≡◌, [], ◌∷◌, ◌++◌, ℕ, List, None, refl, sym, ap, ◌∙◌, subst}
use Rattle.std.proofs.lemmas.List.{append-nil}
use Rattle.tora_arq.specs.LinkEnd.{frame_due, after_transmit}
use Rattle.tora_arq.specs.EndRange.{LinkEndView, link_end_of}
use Rattle.tora_neighbour.proofs.Further.{sent_more, on_err_anyway}
use Rattle.tora_neighbour.proofs.Chains.{sends_more, row_sends}
use Rattle.tora_neighbour.proofs.turn_parts.send_frames.Goals as goal

pub loop-init : goal.loop-init
loop-init g c = record {
  tells = λ yes. yes;
  coming = λ yes. refl;
  row = c.requires;
  failures = λ base rose. rose;
  sent = ([], [], tt, refl, (λ yes. sym (append-nil _)), refl, refl);
}

pub loop-preserved : goal.loop-preserved
loop-preserved g c =
    let h = c.loop.invariant in
    let i = h.sent in
    let f = c.in-Some-poll_transmit_into.frame in
    let more = sent_more c.args.end.now c.args.now c.loop.end c.poll_transmit_into.new.self (g.W.Wire.tells c.loop.wire) (g.W.Wire.tells c.try_send.new.wire)
    (g.W.Wire.tries c.args.wire.now) (g.W.Wire.tries c.loop.wire) (g.W.Wire.tries c.try_send.new.wire) i.0 f c.as_slice.result.now i.2 i.3 i.4
    c.in-Some-poll_transmit_into.ensures.frame c.in-Some-poll_transmit_into.ensures.state c.try_send.ensures.tells c.try_send.ensures.tried (c.as_slice.ensures.value ∙ c.encode_into.ensures.exact) in record {
      tells = λ yes. h.tells (c.try_send.ensures.tells yes);
      coming = λ yes. c.try_send.ensures.coming yes ∙ h.coming (c.try_send.ensures.tells yes);
      row = c.in_ok-try_send.ensures.row;
      failures = λ base rose. c.try_send.ensures.failures base (h.failures base rose);
      sent = (
        i.0 ++ f ∷ [],
        i.1 ++ c.try_send.ensures.call.0 ∷ [],
        more.0,
        more.1,
        more.2,
        sends_more g.W.Wire.did_send c.args.wire.now i.0 i.1 c.loop.wire f c.try_send.ensures.call.0 c.try_send.new.wire i.5
            (subst (λ (bytes : List ℕ). g.W.Wire.did_send c.loop.wire bytes c.try_send.ensures.call.0 c.try_send.new.wire) (c.as_slice.ensures.value ∙ c.encode_into.ensures.exact) c.try_send.ensures.call.1),
        row_sends c.args.row.now c.loop.row c.try_send.new.row i.1 c.try_send.ensures.call.0 i.6 h.row c.try_send.ensures.call.2,
      );
    }

pub returns-in_err-try_send-clause-some :
    goal.returns-in_err-try_send-clause-some
returns-in_err-try_send-clause-some g c =
    let h = c.loop.invariant in
    let i = h.sent in
    let f = c.in-Some-poll_transmit_into.frame in
    let more = sent_more c.args.end.now c.args.now c.loop.end c.poll_transmit_into.new.self (g.W.Wire.tells c.loop.wire) (g.W.Wire.tells c.try_send.new.wire)
    (g.W.Wire.tries c.args.wire.now) (g.W.Wire.tries c.loop.wire) (g.W.Wire.tries c.try_send.new.wire) i.0 f c.as_slice.result.now i.2 i.3 i.4
    c.in-Some-poll_transmit_into.ensures.frame c.in-Some-poll_transmit_into.ensures.state c.try_send.ensures.tells c.try_send.ensures.tried (c.as_slice.ensures.value ∙ c.encode_into.ensures.exact) in
    on_err_anyway c.from_residual.result (
      i.0 ++ f ∷ [],
      i.1 ++ c.try_send.ensures.call.0 ∷ [],
      more.0,
      more.1,
      more.2,
      sends_more g.W.Wire.did_send c.args.wire.now i.0 i.1 c.loop.wire f c.try_send.ensures.call.0 c.try_send.new.wire i.5
          (subst (λ (bytes : List ℕ). g.W.Wire.did_send c.loop.wire bytes c.try_send.ensures.call.0 c.try_send.new.wire) (c.as_slice.ensures.value ∙ c.encode_into.ensures.exact) c.try_send.ensures.call.1),
      row_sends c.args.row.now c.loop.row c.try_send.new.row i.1 c.try_send.ensures.call.0 i.6 h.row c.try_send.ensures.call.2,
    )

pub returns-in-None-poll_transmit_into-clause-all : goal.returns-in-None-poll_transmit_into-clause-all
returns-in-None-poll_transmit_into-clause-all g c =
    let i = c.loop.invariant.sent in (
      i.0,
      i.1,
      i.2,
      subst (λ (x : LinkEndView). frame_due x.settings x.state c.args.now ≡ None) i.3 (sym c.in-None-poll_transmit_into.ensures.frame),
      c.in-None-poll_transmit_into.ensures.state ∙ ap (λ (x : LinkEndView). link_end_of x.settings (after_transmit x.settings x.state c.args.now)) i.3,
      i.4,
      i.5,
      i.6,
    )
