use Rattle.std.proofs.Common.{false}
use Rattle.tora_lines.proofs.ReadLaws.{read_so_within}
use Rattle.tora_script.specs.ReplayText.{replay_rules_of}
use Rattle.tora_simulate.proofs.EndingLaws.{ends_from}
use Rattle.tora_commands.proofs.replay_command.run_with.Goals as goal

pub returns : goal.returns
returns g c =
    let reads = read_so_within g.R.Input.did_read (λ recent. recent.reader) c.new-reader.result
    c.replay_and_flush-result.new.reader
    c.replay_and_flush-result.result c.replay_and_flush-result.ensures.reads in
    ends_from (replay_rules_of c.args.erasure) g.R.Input.remaining g.R.Input.did_read g.W.Write.contents
    g.W.Output.did_write g.W.Output.did_flush
    c.args.reader c.new-reader.result.reader c.replay_and_flush-result.new.reader.reader c.args.writer.now
    c.replay_and_flush-result.new.writer c.replay_and_flush-result.result false _ c.new-reader.ensures
    c.replay_and_flush-result.ensures.whole c.replay_and_flush-result.ensures.at_end
    c.replay_and_flush-result.ensures.begun
    reads c.replay_and_flush-result.ensures.flushed c.status-code.ensures
