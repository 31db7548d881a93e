-- The words for the faults of a value.
use Rattle.std.specs.Prelude.{codes, List, ℕ}
use Rattle.tora_commands.specs.declared.configuration.reason.Reason.{Reason}
use Rattle.tora_commands.specs.declared.configuration.reason.Reason.TheVariants as Is

abbrev pub reason_text : Reason → List ℕ
reason_text Is.Missing = codes "is missing"
reason_text Is.NoNumber = codes "is no whole number"
reason_text Is.NoId = codes "is not from 1 to 4294967295"
reason_text Is.NoPort = codes "is not from 1 to 65535"
reason_text Is.NoText = codes "is no text"
reason_text Is.NoErasure = codes "is neither `plain` nor `remembered`"
reason_text Is.NoList = codes "is no list"
reason_text Is.NoTable = codes "is no table"
reason_text Is.Repeated = codes "is repeated"
reason_text Is.OwnId = codes "is the node itself"
reason_text Is.Unkeyed = codes "is missing, and the link leaves the loopback"
