-- A replay as a kind of file.
use Rattle.tora_lines.specs.Engine.{Kind}
use Rattle.tora_lines.specs.Kinds.{long_lines_are_faults}
use Rattle.tora_lines.specs.LineText.{text_from}
use Rattle.tora_script.specs.ReplayText.{replay_rules_of}
use Rattle.tora_script.specs.declared.replays.replaying.ReplayFile.{ReplayFile}

abbrev pub replay_kind : Kind ReplayFile
replay_kind = record {
  text = λ f. text_from (replay_rules_of f.erasure) f.replaying;
  long = λ f line h. long_lines_are_faults (replay_rules_of f.erasure) f.replaying line h;
}
