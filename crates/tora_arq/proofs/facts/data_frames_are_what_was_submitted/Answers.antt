use Rattle.tora_arq.specs.LinkRuns.{run_of}
use Rattle.tora_arq.proofs.FactCalls.{call-sends, frame-content, call-first, call-queue}
use Rattle.tora_arq.proofs.FactRuns.{every-run, same_at_each_try}
use Rattle.tora_arq.proofs.facts.data_frames_are_what_was_submitted.Goals as goal

pub returns-clause-frame : goal.returns-clause-frame
returns-clause-frame c = call-sends

pub returns-clause-content : goal.returns-clause-content
returns-clause-content c = frame-content

pub returns-clause-first : goal.returns-clause-first
returns-clause-first c = λ s e call ok own life j k. let f = call-first s e call ok own life j k in (f.0, f.1)

pub returns-clause-queue : goal.returns-clause-queue
returns-clause-queue c = λ s e call ok life submitted end j k q. call-queue s e call ok life submitted j k end q

pub returns-clause-run : goal.returns-clause-run
returns-clause-run c = λ s calls ok. (every-run s calls ok).sent

pub returns-clause-tries : goal.returns-clause-tries
returns-clause-tries c = λ s calls ok. same_at_each_try s (run_of s calls) (every-run s calls ok)
