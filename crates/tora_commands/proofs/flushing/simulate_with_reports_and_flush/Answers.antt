use Rattle.tora_simulate.proofs.FlushLaws.{reads_flushed, is_flushed}
use Rattle.tora_commands.proofs.flushing.simulate_with_reports_and_flush.Goals as goal

pub returns-clause-reads : goal.returns-clause-reads
returns-clause-reads g c =
    let handed = c.flushed.ensures.call in
    reads_flushed g.R.Input.did_read c.args.reader.now c.simulate_with_reports-result.new.reader
    c.simulate_with_reports-result.result c.flushed.result handed.0
    c.simulate_with_reports-result.ensures.reads handed.2

pub returns-clause-flushed : goal.returns-clause-flushed
returns-clause-flushed g c =
    let handed = c.flushed.ensures.call in
    is_flushed g.W.Output.did_write g.W.Output.did_flush c.simulate_with_reports-result.new.writer c.flushed.new.writer
    c.simulate_with_reports-result.result c.flushed.result handed.0
    c.simulate_with_reports-result.ensures.failed handed.1 handed.2
