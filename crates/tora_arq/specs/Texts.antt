-- Sessions, verdicts, reasons and errors as text.
use Rattle.std.specs.Prelude.{ℕ, codes, List, ◌++◌}
use Rattle.std.specs.Fmt.{decimal}
use Rattle.tora_arq.specs.declared.life.Life.{Life}
use Rattle.tora_arq.specs.declared.verdict.Verdict.{Verdict}
use Rattle.tora_arq.specs.declared.verdict.Verdict.TheVariants as Judged
use Rattle.tora_arq.specs.declared.reason.Reason.{Reason}
use Rattle.tora_arq.specs.declared.reason.Reason.TheVariants as Because
use Rattle.tora_arq.specs.declared.submit_error.SubmitError.{SubmitError}
use Rattle.tora_arq.specs.declared.submit_error.SubmitError.TheVariants as Refusal

-- a session as OWN/PEER
abbrev pub written_life : Life → List ℕ
written_life life = decimal life.own ++ codes "/" ++ decimal life.peer

-- a verdict in a word
abbrev pub written_verdict : Verdict → List ℕ
written_verdict Judged.Accepted = codes "accepted"
written_verdict Judged.Repeated = codes "repeated"
written_verdict Judged.Ahead = codes "ahead"
written_verdict Judged.Stale = codes "stale"
written_verdict Judged.Foreign = codes "foreign"
written_verdict Judged.Busy = codes "busy"

-- a reason in words
abbrev pub written_reason : Reason → List ℕ
written_reason Because.Silent = codes "silent"
written_reason Because.NewPeer = codes "new peer"
written_reason Because.Full = codes "full"
written_reason Because.Cut = codes "cut"
written_reason Because.Spent = codes "spent"

-- why a packet is not submitted, in words
abbrev pub written_submit_error : SubmitError → List ℕ
written_submit_error (Refusal.WrongLife packet) = codes "the life is not the bound one"
written_submit_error Refusal.Full = codes "the send queue is full"
written_submit_error Refusal.Spent = codes "the numbers of packets are used up"
