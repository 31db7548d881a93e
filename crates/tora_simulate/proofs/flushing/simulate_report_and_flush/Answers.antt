use Rattle.tora_simulate.proofs.FlushLaws.{reads_flushed, is_flushed}
use Rattle.tora_simulate.proofs.flushing.simulate_report_and_flush.Goals as goal

pub returns-clause-reads : goal.returns-clause-reads
returns-clause-reads g c =
    let handed = c.flushed.ensures.call in
    reads_flushed g.R.Input.did_read c.args.reader.now c.simulate_and_report-ended.new.reader
    c.simulate_and_report-ended.result c.flushed.result handed.0
    c.simulate_and_report-ended.ensures.reads handed.2

pub returns-clause-flushed : goal.returns-clause-flushed
returns-clause-flushed g c =
    let handed = c.flushed.ensures.call in
    is_flushed g.W.Output.did_write g.W.Output.did_flush c.simulate_and_report-ended.new.writer c.flushed.new.writer
    c.simulate_and_report-ended.result c.flushed.result handed.0
    c.simulate_and_report-ended.ensures.failed handed.1 handed.2
