use Rattle.std.proofs.Common.{Result, Ok, Err, IfOk, IfErr}
use Rattle.tora_life.proofs.InMemory.{opens_by}
use Rattle.tora_tests.proofs.tests.life_files.in_memory.open_in_memory.Goals as goal

if_ok : {A E : Type 0} (r : Result A E) (P Q : A → Type 0) → ((v : A) → P v → Q v) → IfOk r P → IfOk r Q
if_ok (Ok v) P Q so p = so v p
if_ok (Err e) P Q so p = tt

if_err : {A E : Type 0} (r : Result A E) (P Q : E → Type 0) → ((e : E) → P e → Q e) → IfErr r P → IfErr r Q
if_err (Ok v) P Q so p = tt
if_err (Err e) P Q so p = so e p

pub returns-clause-ok : goal.returns-clause-ok
returns-clause-ok c = if_ok c.open.result _ _ (λ file calls. opens_by _ c.args.disk file.disk _ calls) c.open.ensures.calls

pub returns-clause-err : goal.returns-clause-err
returns-clause-err c = if_err c.open.result _ _ (λ fault calls. opens_by _ c.args.disk fault.disk _ calls) c.open.ensures.calls_err
