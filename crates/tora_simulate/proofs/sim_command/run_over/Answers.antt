use Rattle.std.proofs.Common.{false}
use Rattle.tora_script.specs.Table.{lines_of}
use Rattle.tora_lines.proofs.ReadLaws.{read_so_within}
use Rattle.tora_script.specs.SimulationText.{rules_with}
use Rattle.tora_simulate.proofs.EndingLaws.{ends_from}
use Rattle.tora_simulate.proofs.sim_command.run_over.Goals as goal

pub returns : goal.returns
returns g c =
    let reads = read_so_within g.R.Input.did_read (λ recent. recent.reader) c.new-reader.result
    c.simulate_last_and_flush-result.new.reader
    c.simulate_last_and_flush-result.result c.simulate_last_and_flush-result.ensures.reads in
    ends_from (rules_with c.args.setup (lines_of c.args.table)) g.R.Input.remaining g.R.Input.did_read
    g.W.Write.contents g.W.Output.did_write g.W.Output.did_flush
    c.args.reader c.new-reader.result.reader c.simulate_last_and_flush-result.new.reader.reader c.args.writer.now
    c.simulate_last_and_flush-result.new.writer c.simulate_last_and_flush-result.result false _ c.new-reader.ensures
    c.simulate_last_and_flush-result.ensures.whole c.simulate_last_and_flush-result.ensures.at_end
    c.simulate_last_and_flush-result.ensures.begun reads c.simulate_last_and_flush-result.ensures.flushed
    c.status.ensures
