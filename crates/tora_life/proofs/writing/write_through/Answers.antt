use Rattle.std.proofs.Common.{List, ℕ, length, refl, sym, subst, Ok, Err, IsTrue}
use Rattle.std.proofs.lemmas.Result.{on_ok_weaker}
use Rattle.tora_life.specs.Disk.{Holds, IsOnlyImage, IsTornFrom}
use Rattle.tora_life.proofs.Images.{torn_same}
use Rattle.tora_life.proofs.Moments.{started, goes_on}
use Rattle.tora_life.proofs.writing.write_through.Goals as goal

pub returns-in-Ok-clause-held : goal.returns-in-Ok-clause-held
returns-in-Ok-clause-held g c = λ tells.
    let d = g.D.Disk in
    let tells' : IsTrue (d.tells c.write_at.new.self) = rw c.write_at.ensures.tells tells in
    on_ok_weaker c.sync.result (λ (only : IsOnlyImage (d.seen c.write_at.new.self) (d.may_leave c.sync.new.self)).
    subst (λ (f : List ℕ). Holds (d.seen c.args.disk.now) c.args.at c.args.bytes.now f) (sym (c.sync.ensures.seen tells')) (c.in-Ok.ensures.written tells)) (c.sync.ensures.durable tells')

pub returns-in-Ok-clause-only : goal.returns-in-Ok-clause-only
returns-in-Ok-clause-only g c = λ tells.
    let d = g.D.Disk in
    let tells' : IsTrue (d.tells c.write_at.new.self) = rw c.write_at.ensures.tells tells in
    on_ok_weaker c.sync.result (λ (only : IsOnlyImage (d.seen c.write_at.new.self) (d.may_leave c.sync.new.self)).
    subst (λ (f : List ℕ). IsOnlyImage f (d.may_leave c.sync.new.self)) (sym (c.sync.ensures.seen tells')) only) (c.sync.ensures.durable tells')

pub returns-in-Ok-clause-any_moment : goal.returns-in-Ok-clause-any_moment
returns-in-Ok-clause-any_moment g c = λ tells.
    let d = g.D.Disk in
    let n = length c.args.bytes.now in
    let P : List ℕ → Type 0 = IsTornFrom c.args.at n (d.may_leave c.args.disk.now) in
    let at_start = started d.moment d.left_since c.args.disk.now P (λ f left. (f, g.met.D.Disk.only_now c.args.disk.now f left, torn_same c.args.at n f)) in
    let torn = goes_on d.moment d.left_since c.args.disk.now c.args.disk.now c.write_at.new.self P _ at_start (c.write_at.ensures.time tells) (c.write_at.ensures.crash tells) in
    let tells' : IsTrue (d.tells c.write_at.new.self) = rw c.write_at.ensures.tells tells in
    goes_on d.moment d.left_since c.args.disk.now c.write_at.new.self c.sync.new.self P _ torn (c.sync.ensures.time tells') (λ f left. c.write_at.ensures.crash tells f (c.sync.ensures.crash tells' f left))

pub returns-in-Ok-clause-calls : goal.returns-in-Ok-clause-calls
returns-in-Ok-clause-calls g c = (Ok c.in-Ok.field-0, c.write_at.new.self, c.in-Ok.ensures.call, (c.sync.result, c.sync.ensures.call, refl))

pub returns-in-Err-clause-any_moment : goal.returns-in-Err-clause-any_moment
returns-in-Err-clause-any_moment g c = λ tells.
    let d = g.D.Disk in
    let n = length c.args.bytes.now in
    let P : List ℕ → Type 0 = IsTornFrom c.args.at n (d.may_leave c.args.disk.now) in
    let at_start = started d.moment d.left_since c.args.disk.now P (λ f left. (f, g.met.D.Disk.only_now c.args.disk.now f left, torn_same c.args.at n f)) in
    goes_on d.moment d.left_since c.args.disk.now c.args.disk.now c.write_at.new.self P _ at_start (c.write_at.ensures.time tells) (c.write_at.ensures.crash tells)

pub returns-in-Err-clause-calls : goal.returns-in-Err-clause-calls
returns-in-Err-clause-calls g c = (Err c.in-Err.error, c.write_at.new.self, c.in-Err.ensures.call, (refl, refl))
