use Rattle.std.proofs.Common.{◌+◌, length, ap, ◌∙◌}
use Rattle.tora_frame.specs.declared.parts.Header.{Header}
use Rattle.tora_frame.specs.declared.parts.Body.{Body}
use Rattle.tora_frame.specs.FrameParts.{frame_of}
use Rattle.tora_frame.specs.FrameGrammar.{frame_spelling, data_head_length, packets_length}
use Rattle.tora_drive.proofs.LengthLaws.{data_length_is}
use Rattle.tora_drive.proofs.records.length_of.Goals as goal

pub returns-in-Data : goal.returns-in-Data
returns-in-Data c =
    let f = c.args.frame.now in
    let packets = c.in-Data.packets.now in
    c.data_length.ensures ∙ ap (λ (h : Header). 28 + data_head_length h.version + packets_length packets) c.header.ensures.value
    ∙ data_length_is f.header c.in-Data.field-0 c.in-Data.field-1 packets ∙ ap (λ (b : Body). length (frame_spelling (frame_of f.header b))) c.in-Data.ensures.value
