use Rattle.std.proofs.Common.{inl, inr}
use Rattle.std.specs.Prelude.{is_some}
use Rattle.tora_drive.specs.DriveText.{shortened_text}
use Rattle.tora_drive.specs.Recording.{recorded_rules}
use Rattle.tora_lines.proofs.ReadLaws.{read_so_within}
use Rattle.tora_simulate.proofs.EndingLaws.{ends_with}
use Rattle.tora_commands.proofs.record_command.run_over.Goals as goal

pub returns-in-Err : goal.returns-in-Err
returns-in-Err g c = inr (record { failed = c.in-Err.ensures.failed; status_is = c.stop.ensures })

pub returns : goal.returns
returns g c =
    let reads = read_so_within g.R.Input.did_read (λ recent. recent.reader) c.new-reader.result
    c.drive_and_flush-result.new.reader
    c.drive_and_flush-result.result c.drive_and_flush-result.ensures.reads in
    inl (record {
      greeted = c.greet.new.writer;
      greets = c.in-Ok.ensures.greets;
      ends =
          ends_with (shortened_text (recorded_rules c.args.setup)) g.R.Input.remaining g.R.Input.did_read
          g.W.Write.contents g.W.Output.did_write g.W.Output.did_flush
          c.args.reader c.new-reader.result.reader c.drive_and_flush-result.new.reader.reader
          c.greet.new.writer c.drive_and_flush-result.new.writer c.drive_and_flush-result.result
          (is_some c.flush.new.self.failure) _
          c.new-reader.ensures c.drive_and_flush-result.ensures.whole c.drive_and_flush-result.ensures.at_end
          c.drive_and_flush-result.ensures.begun reads c.drive_and_flush-result.ensures.flushed c.traced_status.ensures;
    })
