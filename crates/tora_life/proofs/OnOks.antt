-- Two facts about one result.
use Rattle.std.proofs.Common.{Result, Ok, Err, OnOk}

pub both_ok : {T E A B C : Type 0} → (r : Result T E) → (A → B → C) → OnOk r A → OnOk r B → OnOk r C
both_ok (Ok v) f a b = f a b
both_ok (Err e) f a b = tt

pub if_any : {T E A : Type 0} → (r : Result T E) → A → OnOk r A
if_any (Ok v) a = a
if_any (Err e) a = tt
