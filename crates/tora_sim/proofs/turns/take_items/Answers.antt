use Rattle.std.proofs.Common.{◌≡◌, ◌∙◌, ℕ, suc, ◌+◌, ◌-◌, Bool, false, Result, Err, sym, ap, subst, arith}
use Rattle.std.specs.Prelude.{slice_set}
use Rattle.tora_world.specs.declared.sim_error.SimError.{SimError}
use Rattle.tora_sim.specs.Lanes.{AreOthersKept, HaveRoom}
use Rattle.tora_sim.specs.Store.{state_of}
use Rattle.tora_sim.specs.Taking.{Takes}
use Rattle.tora_sim.proofs.Rooms.{same_length}
use Rattle.tora_sim.proofs.TakenItems.{Goes, placed, none_taken, roomed, taken_on, none_gone, all_taken, enough_taken, room_refused, one_taken, one_refused}
use Rattle.tora_sim.proofs.turns.take_items.Goals as goal

pub loop-init : goal.loop-init
loop-init c = record {
  taken = none_taken c.args.node.now c.args.links.now.items c.requires.neighbours;
  goes = λ t times clock nodes ds n home h first read.
      let all : c.args.most ≡ c.args.most - 0 = omega arith in
      subst (λ (m : ℕ). Goes t times clock nodes c.args.links.now.items ds n home c.args.most c.args.node.now c.args.links.now.items false m) all (none_gone t times clock nodes c.args.links.now.items ds n home c.args.most c.args.node.now h first read);
}

pub returns-then-waiting-eq0-clause-items : goal.returns-then-waiting-eq0-clause-items
returns-then-waiting-eq0-clause-items c = λ t times clock nodes ds n home h first read.
    let left : c.args.most - c.loop.counter ≡ suc (c.args.most - (c.loop.counter + 1)) = omega (arith, c.loop-test.true) in
    let g = subst (λ (m : ℕ). Goes t times clock nodes c.args.links.now.items ds n home c.args.most c.loop.node c.loop.links.items c.loop.some m) left (c.loop.invariant.goes t times clock nodes ds n home h first read) in
    all_taken t times clock nodes c.args.links.now.items ds n home c.args.most c.args.node.now first read c.loop.node c.loop.invariant.taken.node c.loop.links.items c.loop.some (c.args.most - (c.loop.counter + 1)) g (sym c.waiting.ensures ∙ c.if-waiting-eq0.true)

pub make_room-requires : goal.make_room-requires
make_room-requires c =
    let h = c.loop.invariant.taken in
    let first = h.first in
    let count = h.count in
    let many = h.many in
    omega (arith, c.requires.within, first, count, many, c.first-first.ensures, c.count-count.ensures)

pub turn-requires-clause-within : goal.turn-requires-clause-within
turn-requires-clause-within c =
    let h = c.loop.invariant.taken in
    let first = h.first in
    let count = h.count in
    let many = h.many in
    let same = same_length c.loop.links.items c.make_room.new.links.items c.in-Ok.ensures.same in
    omega (arith, c.requires.within, first, count, many, same)

pub turn-requires-clause-room : goal.turn-requires-clause-room
turn-requires-clause-room c =
    placed (λ a b. HaveRoom c.make_room.new.links.items a b) c.loop.node.first c.loop.node.count c.first-first.result c.count-count.result (sym c.first-first.ensures) (sym c.count-count.ensures) c.in-Ok.ensures.room

pub returns-in-Err-clause-taken : goal.returns-in-Err-clause-taken
returns-in-Err-clause-taken c =
    let e = c.in-Err.ensures in
    let x = c.loop.node in
    let old = c.loop.links.items in
    let new = c.make_room.new.links.items in
    let f = c.first-first.result in
    let n = c.count-count.result in
    roomed c.args.node.now x c.args.links.now.items old new c.loop.invariant.taken e.same
    (placed (λ a b. AreOthersKept old new a b) x.first x.count f n (sym c.first-first.ensures) (sym c.count-count.ensures) e.others)

pub returns-in-Err-clause-items : goal.returns-in-Err-clause-items
returns-in-Err-clause-items c = λ t times clock nodes ds n home h first read.
    let e = c.in-Err.ensures in
    let x = c.loop.node in
    let old = c.loop.links.items in
    let new = c.make_room.new.links.items in
    let left : c.args.most - c.loop.counter ≡ suc (c.args.most - (c.loop.counter + 1)) = omega (arith, c.loop-test.true) in
    let g = subst (λ (m : ℕ). Goes t times clock nodes c.args.links.now.items ds n home c.args.most x old c.loop.some m) left (c.loop.invariant.goes t times clock nodes ds n home h first read) in
    subst (λ (r : Result Bool SimError). Takes (state_of t times clock nodes c.args.links.now.items ds) (state_of t times clock (slice_set nodes home x) new ds) n c.args.most r) (sym (ap Err e.memory))
    (room_refused t times clock nodes c.args.links.now.items ds n home c.args.most c.args.node.now first read x c.loop.invariant.taken.node old c.loop.some (c.args.most - (c.loop.counter + 1)) g (omega (arith, c.waiting.ensures, c.if-waiting-eq0.false)) new e.same)

pub returns-in-Err-turn-clause-taken : goal.returns-in-Err-turn-clause-taken
returns-in-Err-turn-clause-taken c =
    let e = c.in-Ok.ensures in
    let x = c.loop.node in
    let old = c.loop.links.items in
    let new = c.make_room.new.links.items in
    taken_on c.args.node.now x c.args.links.now.items old new c.loop.invariant.taken e.same
    (placed (λ a b. AreOthersKept old new a b) x.first x.count c.first-first.result c.count-count.result (sym c.first-first.ensures) (sym c.count-count.ensures) e.others)
    c.turn.new.node c.turn.new.links.items c.turn.result c.turn.ensures.turned c.turn.ensures.others

pub returns-in-Err-turn-clause-items : goal.returns-in-Err-turn-clause-items
returns-in-Err-turn-clause-items c = λ t times clock nodes ds n home h first read.
    let e = c.in-Ok.ensures in
    let x = c.loop.node in
    let old = c.loop.links.items in
    let new = c.make_room.new.links.items in
    let left : c.args.most - c.loop.counter ≡ suc (c.args.most - (c.loop.counter + 1)) = omega (arith, c.loop-test.true) in
    let g = subst (λ (m : ℕ). Goes t times clock nodes c.args.links.now.items ds n home c.args.most x old c.loop.some m) left (c.loop.invariant.goes t times clock nodes ds n home h first read) in
    let d = c.in-Err-turn.ensures.turned in
    one_refused t times clock nodes c.args.links.now.items ds n home c.args.most c.args.node.now first read x c.loop.invariant.taken.node old c.loop.some (c.args.most - (c.loop.counter + 1)) g (omega (arith, c.waiting.ensures, c.if-waiting-eq0.false)) new e.same
    c.turn.new.node c.turn.new.links.items c.in-Err-turn.error d

pub loop-preserved : goal.loop-preserved
loop-preserved c =
    let e = c.in-Ok.ensures in
    let x = c.loop.node in
    let old = c.loop.links.items in
    let new = c.make_room.new.links.items in
    record {
      taken = taken_on c.args.node.now x c.args.links.now.items old new c.loop.invariant.taken e.same
          (placed (λ a b. AreOthersKept old new a b) x.first x.count c.first-first.result c.count-count.result (sym c.first-first.ensures) (sym c.count-count.ensures) e.others)
          c.turn.new.node c.turn.new.links.items c.turn.result c.turn.ensures.turned c.turn.ensures.others;
      goes = λ t times clock nodes ds n home h first read.
          let left : c.args.most - c.loop.counter ≡ suc (c.args.most - (c.loop.counter + 1)) = omega (arith, c.loop-test.true) in
          let g = subst (λ (m : ℕ). Goes t times clock nodes c.args.links.now.items ds n home c.args.most x old c.loop.some m) left (c.loop.invariant.goes t times clock nodes ds n home h first read) in
          one_taken t times clock nodes c.args.links.now.items ds n home c.args.most c.args.node.now first read x c.loop.invariant.taken.node old c.loop.some (c.args.most - (c.loop.counter + 1)) g (omega (arith, c.waiting.ensures, c.if-waiting-eq0.false)) new e.same
          c.turn.new.node c.turn.new.links.items c.in-Ok-turn.field-0 c.in-Ok-turn.ensures.turned;
    }

pub returns-clause-items : goal.returns-clause-items
returns-clause-items c = λ t times clock nodes ds n home h first read.
    let left : c.args.most - c.loop.counter ≡ 0 = omega (arith, c.loop-test.false) in
    enough_taken t times clock nodes c.args.links.now.items ds n home c.args.most c.args.node.now first read c.loop.node c.loop.invariant.taken.node c.loop.links.items c.loop.some
    (subst (λ (m : ℕ). Goes t times clock nodes c.args.links.now.items ds n home c.args.most c.loop.node c.loop.links.items c.loop.some m) left (c.loop.invariant.goes t times clock nodes ds n home h first read))
