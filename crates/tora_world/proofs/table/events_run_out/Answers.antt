use Rattle.std.proofs.Common.{◌+◌, arith}
use Rattle.tora_arq.specs.declared.TheConstants.{WINDOW}
use Rattle.tora_seat.specs.declared.TheConstants.{MOST_CARGOES, MOST_ITEMS}
use Rattle.tora_world.specs.World.{first_world, settings}
use Rattle.tora_world.proofs.Repeats.{items_in_run, cargoes_in_run, turns_end, pulls_end, pumps_end, transmits_end}
use Rattle.tora_world.proofs.table.events_run_out.Goals as goal

pub returns-clause-lanes_in : goal.returns-clause-lanes_in
returns-clause-lanes_in c = λ t times es n. items_in_run es (first_world t times) (λ m. omega arith) n

pub returns-clause-lanes_out : goal.returns-clause-lanes_out
returns-clause-lanes_out c = λ t times events n k. cargoes_in_run events (first_world t times) (λ m j. omega arith) n k

pub returns-clause-turns : goal.returns-clause-turns
returns-clause-turns c = λ w n le. turns_end MOST_ITEMS w n le

pub returns-clause-pulls : goal.returns-clause-pulls
returns-clause-pulls c = λ w n k le. pulls_end MOST_CARGOES w n k le

pub returns-clause-transmits : goal.returns-clause-transmits
returns-clause-transmits c = λ w n k times. transmits_end (WINDOW + 4) w n k (c.polls_of_a_tick_end.ensures.none (settings w n k) (w.ends n k) w.clock (WINDOW + 4) times (omega arith))

pub returns-clause-pumps : goal.returns-clause-pumps
returns-clause-pumps c = λ w n k. pumps_end MOST_ITEMS w n k (omega arith)
