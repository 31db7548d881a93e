use Rattle.std.proofs.Common.{◌≡◌, ◌∙◌, ℕ, ◌+◌, ◌++◌, ◌∷◌, [], length, length-append, List, Result, Ok, Err, sym, ap, arith}
use Rattle.tora_script.specs.declared.channel.line.ChannelLine.{ChannelLine}
use Rattle.tora_script.specs.TableText.{channel_line_of, channel_lines_of}
use Rattle.tora_script.proofs.TableReading.{goes_on, faults, ends, last_goes, last_faults, refuses}
use Rattle.tora_script.proofs.channel.table_text.channel_lines.Goals as goal

pub returns-in-Err : goal.returns-in-Err
returns-in-Err c =
    refuses _ (channel_line_of c.in-Some.piece.now) c.in-Err.error (channel_lines_of c.args.text.now) c.in-Err.ensures (λ h.
    faults (length c.loop-piece.lines.items + 1) c.loop-piece.rest.now c.in-Some.piece.now c.in-Some.after.now c.loop-piece.lines.items (channel_lines_of c.args.text.now) (sym c.in-Some.ensures.parts) h c.loop-piece.invariant.read
    ∙ ap (λ (k : ℕ). Err (k + 1)) (sym (c.len.ensures ∙ c.loop-piece.lines.ok.0)))

pub loop-piece-preserved : goal.loop-piece-preserved
loop-piece-preserved c =
    let items = c.loop-piece.lines.items in
    let k : length (items ++ c.in-Ok.line ∷ []) + 1 ≡ length items + 1 + 1 = simp length-append (omega arith) in
    record {
      read = rw (c.in_ok-push-in-Ok.ensures.items, k) (goes_on (length items + 1) c.loop-piece.rest.now c.in-Some.piece.now c.in-Some.after.now items c.in-Ok.line (channel_lines_of c.args.text.now) (sym c.in-Some.ensures.parts)
          (c.in-Ok.ensures) c.loop-piece.invariant.read);
    }

pub returns-then-is_empty : goal.returns-then-is_empty
returns-then-is_empty c =
    ends (length c.loop-piece.lines.items + 1) c.loop-piece.rest.now c.loop-piece.lines.items (channel_lines_of c.args.text.now) (sym c.in_default.ensures.parts) (sym c.is_empty.ensures ∙ c.if-is_empty.true) c.loop-piece.invariant.read

pub returns-in-Err-numbered_line : goal.returns-in-Err-numbered_line
returns-in-Err-numbered_line c =
    refuses _ (channel_line_of c.loop-piece.rest.now) c.in-Err-numbered_line.error (channel_lines_of c.args.text.now) c.in-Err-numbered_line.ensures (λ h.
    last_faults (length c.loop-piece.lines.items + 1) c.loop-piece.rest.now c.loop-piece.lines.items (channel_lines_of c.args.text.now) (sym c.in_default.ensures.parts) (sym c.is_empty.ensures ∙ c.if-is_empty.false) h c.loop-piece.invariant.read
    ∙ ap (λ (k : ℕ). Err (k + 1)) (sym (c.len-2.ensures ∙ c.loop-piece.lines.ok.0)))

pub returns : goal.returns
returns c =
    last_goes (length c.loop-piece.lines.items + 1) c.loop-piece.rest.now c.loop-piece.lines.items c.in-Ok-numbered_line.line (channel_lines_of c.args.text.now) (sym c.in_default.ensures.parts) (sym c.is_empty.ensures ∙ c.if-is_empty.false)
    (c.in-Ok-numbered_line.ensures) c.loop-piece.invariant.read ∙ sym (ap (λ (t : List ChannelLine). Ok t) c.in_ok-push-in-Ok-numbered_line.ensures.items)
