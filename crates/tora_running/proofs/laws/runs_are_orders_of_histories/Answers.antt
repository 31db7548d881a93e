use Rattle.tora_running.proofs.Orders.{orders_run, runs_order}
use Rattle.tora_running.proofs.laws.runs_are_orders_of_histories.Goals as goal

pub returns-clause-runs : goal.returns-clause-runs
returns-clause-runs c = λ w parts h order. orders_run parts w h order

pub returns-clause-orders : goal.returns-clause-orders
returns-clause-orders c = λ w parts run. runs_order parts w run
