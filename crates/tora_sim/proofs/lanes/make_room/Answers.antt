use Rattle.std.proofs.Common.{◌≡◌, ◌<◌, ◌+◌, ℕ, length, subst, arith}
use Rattle.tora_sim.specs.Lanes.{HaveRoom, AreOthersKept}
use Rattle.tora_sim.proofs.Rooms.{no_room, same_length, alike_on, others_on, more_room}
use Rattle.tora_sim.proofs.lanes.make_room.Goals as goal

pub loop-place-init : goal.loop-place-init
loop-place-init c = no_room c.args.links.now.items c.args.first

pub returns-in_err-make_room-clause-same : goal.returns-in_err-make_room-clause-same
returns-in_err-make_room-clause-same c =
    let l = c.loop-place in
    let many = same_length c.args.links.now.items l.links.items l.invariant.same in
    let within : c.args.first + l.place < length l.links.items = omega (arith, c.loop-place-test.true, c.requires, many) in
    alike_on c.args.links.now.items l.links.items c.args.first l.place l.invariant c.index_mut.result.now c.make_room.new.self within c.index_mut.ensures.value c.in_err-make_room.ensures.same

pub returns-in_err-make_room-clause-others : goal.returns-in_err-make_room-clause-others
returns-in_err-make_room-clause-others c =
    let l = c.loop-place in
    let many = same_length c.args.links.now.items l.links.items l.invariant.same in
    let within : c.args.first + l.place < length l.links.items = omega (arith, c.loop-place-test.true, c.requires, many) in
    others_on c.args.links.now.items l.links.items c.args.first l.place l.invariant c.index_mut.result.now c.make_room.new.self within c.index_mut.ensures.value c.in_err-make_room.ensures.same c.args.count c.loop-place-test.true

pub loop-place-preserved : goal.loop-place-preserved
loop-place-preserved c =
    let l = c.loop-place in
    let many = same_length c.args.links.now.items l.links.items l.invariant.same in
    let within : c.args.first + l.place < length l.links.items = omega (arith, c.loop-place-test.true, c.requires, many) in
    more_room c.args.links.now.items l.links.items c.args.first l.place l.invariant c.index_mut.result.now c.make_room.new.self within c.index_mut.ensures.value c.in_ok-make_room.ensures.same c.in_ok-make_room.ensures.room

pub returns-clause-room : goal.returns-clause-room
returns-clause-room c =
    let l = c.loop-place in
    let all : l.place ≡ c.args.count = omega (arith, c.loop-place-test.false, l.auto.place-end) in
    subst (λ (n : ℕ). HaveRoom l.links.items c.args.first n) all l.invariant.room

pub returns-clause-others : goal.returns-clause-others
returns-clause-others c =
    let l = c.loop-place in
    let all : l.place ≡ c.args.count = omega (arith, c.loop-place-test.false, l.auto.place-end) in
    subst (λ (n : ℕ). AreOthersKept c.args.links.now.items l.links.items c.args.first n) all l.invariant.others
