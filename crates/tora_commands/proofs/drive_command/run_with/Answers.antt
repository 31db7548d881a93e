use Rattle.std.proofs.Common.{false, inl, inr}
use Rattle.tora_drive.specs.DriveText.{drive_rules, shortened_text}
use Rattle.tora_lines.proofs.ReadLaws.{read_so_within}
use Rattle.tora_simulate.proofs.EndingLaws.{ends_with}
use Rattle.tora_commands.proofs.drive_command.run_with.Goals as goal

pub returns-in-Err : goal.returns-in-Err
returns-in-Err g c = inr (record { failed = c.in-Err.ensures.failed; status_is = c.stop.ensures })

pub returns : goal.returns
returns g c =
    let reads = read_so_within g.R.Input.did_read (λ recent. recent.reader) c.new-reader.result
    c.drive_and_flush-result.new.reader
    c.drive_and_flush-result.result c.drive_and_flush-result.ensures.reads in
    inl (record {
      greeted = c.greet.new.writer;
      greets = c.in-Ok.ensures.greets;
      ends =
          ends_with (shortened_text (drive_rules c.args.setup)) g.R.Input.remaining g.R.Input.did_read
          g.W.Write.contents g.W.Output.did_write g.W.Output.did_flush
          c.args.reader c.new-reader.result.reader c.drive_and_flush-result.new.reader.reader
          c.greet.new.writer c.drive_and_flush-result.new.writer c.drive_and_flush-result.result false _
          c.new-reader.ensures c.drive_and_flush-result.ensures.whole c.drive_and_flush-result.ensures.at_end
          c.drive_and_flush-result.ensures.begun reads c.drive_and_flush-result.ensures.flushed c.status.ensures;
    })
