-- The faults of a node.
use Rattle.std.specs.Prelude.{ℕ}
use Rattle.tora_node.specs.declared.fault.NodeError.{NodeError}
use Rattle.tora_node.specs.declared.fault.NodeError.TheVariants.{Memory, Lane, Life, Wire, Output}

abbrev pub node_error_number : NodeError → ℕ
node_error_number Memory = 1
node_error_number Lane = 2
node_error_number (Life peer error) = 3
node_error_number (Wire peer) = 4
node_error_number Output = 5
