use Rattle.std.proofs.Common.{false, inl, ap, ◌∙◌}
use Rattle.tora_script.specs.Table.{lines_of}
use Rattle.tora_lines.specs.LineText.{whole_text}
use Rattle.tora_script.specs.SimulationText.{rules_with}
use Rattle.tora_simulate.proofs.EndingLaws.{ends_within}
use Rattle.tora_commands.proofs.bar_command.run.Goals as goal

pub returns-in-Ok : goal.returns-in-Ok
returns-in-Ok g c =
    inl (
      c.in-Ok.file,
      c.in-Ok.ensures,
      ends_within (λ paced. paced.reader.file) (whole_text (rules_with c.args.setup (lines_of c.args.table)))
          g.T.File.Read.remaining g.T.Paths.did_get
          g.W.Write.contents g.W.Output.did_write g.W.Output.did_flush c.new-reader.result c.in-Ok.file
          c.args.writer.now c.run_over.new.writer
          false _ (ap (λ opened. opened.file) c.new-reader.ensures ∙ c.new.ensures) c.run_over.ensures,
    )
