use Rattle.std.proofs.Common.{inl, ap, ◌∙◌}
use Rattle.std.specs.Prelude.{is_some}
use Rattle.tora_script.specs.Table.{lines_of}
use Rattle.tora_lines.specs.LineText.{whole_text}
use Rattle.tora_script.specs.SimulationText.{rules_with}
use Rattle.tora_simulate.proofs.EndingLaws.{ends_within}
use Rattle.tora_commands.proofs.traced_command.run.Goals as goal

pub returns-then-has_bar-2-clause-ends : goal.returns-then-has_bar-2-clause-ends
returns-then-has_bar-2-clause-ends g c =
    let made = c.in-Ok-make_trace.ensures.made in
    inl (
      c.in-Ok.reader,
      made.0,
      is_some c.run_over.new.out.failure,
      c.in-Ok.ensures,
      made.1,
      ends_within (λ paced. paced.reader.file)
          (whole_text (rules_with c.args.asked.setup (lines_of c.args.asked.file.table)))
          g.T.File.Read.remaining g.T.Paths.did_get
          g.W.Write.contents g.W.Output.did_write g.W.Output.did_flush c.new-paced.result c.in-Ok.reader
          c.args.writer.now c.run_over.new.writer
          (is_some c.run_over.new.out.failure) _ (ap (λ opened. opened.file) c.new-paced.ensures ∙ c.new-opened.ensures)
          c.run_over.ensures.ends,
    )

pub returns-clause-ends : goal.returns-clause-ends
returns-clause-ends g c =
    let made = c.in-Ok-make_trace.ensures.made in
    inl (
      c.in-Ok.reader,
      made.0,
      is_some c.run_over-2.new.out.failure,
      c.in-Ok.ensures,
      made.1,
      ends_within (λ opened. opened.file)
          (whole_text (rules_with c.args.asked.setup (lines_of c.args.asked.file.table)))
          g.T.File.Read.remaining g.T.Paths.did_get
          g.W.Write.contents g.W.Output.did_write g.W.Output.did_flush c.new-opened.result c.in-Ok.reader
          c.args.writer.now c.run_over-2.new.writer
          (is_some c.run_over-2.new.out.failure) _ c.new-opened.ensures c.run_over-2.ensures.ends,
    )
