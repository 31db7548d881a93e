use Rattle.std.proofs.Common.{◌∙◌, ap}
use Rattle.std.specs.Prelude.{is_some}
use Rattle.tora_script.specs.Table.{lines_of}
use Rattle.tora_lines.proofs.ReadLaws.{read_so_within}
use Rattle.tora_script.specs.SimulationText.{rules_with}
use Rattle.tora_simulate.proofs.EndingLaws.{ends_from}
use Rattle.tora_commands.proofs.traced_command.run_over.Goals as goal

pub returns-clause-ends : goal.returns-clause-ends
returns-clause-ends g c =
    let reads = read_so_within g.R.Input.did_read (λ hashing. hashing.reader.reader) c.new-reader.result
    c.simulate_and_flush-result.new.reader
    c.simulate_and_flush-result.result c.simulate_and_flush-result.ensures.reads in
    ends_from (rules_with c.args.asked.setup (lines_of c.args.asked.file.table)) g.R.Input.remaining g.R.Input.did_read
    g.W.Write.contents g.W.Output.did_write g.W.Output.did_flush
    c.args.reader c.new-reader.result.reader.reader c.simulate_and_flush-result.new.reader.reader.reader
    c.args.writer.now
    c.simulate_and_flush-result.new.writer c.simulate_and_flush-result.result (is_some c.flush.new.self.failure) _
    (ap (λ recent. recent.reader) c.new-reader.ensures ∙ c.new.ensures)
    c.simulate_and_flush-result.ensures.whole c.simulate_and_flush-result.ensures.at_end
    c.simulate_and_flush-result.ensures.begun
    reads c.simulate_and_flush-result.ensures.flushed c.traced_status.ensures
