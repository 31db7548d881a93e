use Rattle.std.proofs.Common.{◌≡◌, ◌<◌, List, slice_get, MatchOption, ap, ◌∙◌, sym, subst, arith, ℕ}
use Rattle.std.specs.Prelude.{⊤}
use Rattle.tora_sim.specs.Lane.{AreWhole}
use Rattle.tora_sim.specs.Lanes.{LanesView, lanes_of, bare_between}
use Rattle.tora_sim.specs.Links.{LinkView}
use Rattle.tora_sim.proofs.Bared.{lanes_before, same_between, others_between, others_stay, turned_from}
use Rattle.tora_sim.proofs.Served.{seat_within}
use Rattle.tora_sim.proofs.OtherEnds.{served_leaves}
use Rattle.tora_sim.proofs.turns.turn.Goals as goal

pub new-lanes-requires-clause-whole : goal.new-lanes-requires-clause-whole
new-lanes-requires-clause-whole c =
    subst (λ (n : ℕ). AreWhole c.replace-lists.result n) (sym c.count.ensures) (subst (λ (xs : List ℕ). AreWhole xs c.args.node.now.count) (sym c.replace-lists.ensures.value) c.requires.whole)

pub into_links-requires : goal.into_links-requires
into_links-requires c =
    let count : c.new-lanes.result.count ≡ c.args.node.now.count = ap (λ (v : LanesView). v.count) c.new-lanes.ensures ∙ c.count.ensures in
    seat_within c.args.node.now c.serve.new.self c.new-lanes.result c.serve.new.lanes c.in-Ok.item c.offers_are_their_own_answers.ensures (omega (arith, count, c.requires.neighbours)) c.in-Ok.ensures.served c.stepped.result c.stepped.ensures

pub returns-in-Ok-clause-turned : goal.returns-in-Ok-clause-turned
returns-in-Ok-clause-turned c =
    let x = c.args.node.now in
    let v = c.new-lanes.result in
    let old = c.args.links.now.items in
    let before : v ≡ lanes_of (bare_between x.first x.count old) x.first x.count = lanes_before v x c.first.result c.count.result c.replace-ends.result.items old c.new-lanes.ensures c.first.ensures c.count.ensures (ap (λ v. v.items) c.replace-ends.ensures.value) in
    turned_from x c.serve.new.self v c.serve.new.lanes c.in-Ok.item old before c.in-Ok.ensures.served c.stepped.result c.into_links.result.items c.stepped.ensures c.into_links.ensures

pub returns-in-Ok-clause-others : goal.returns-in-Ok-clause-others
returns-in-Ok-clause-others c =
    let x = c.args.node.now in
    let v = c.new-lanes.result in
    let old = c.args.links.now.items in
    let before : v ≡ lanes_of (bare_between x.first x.count old) x.first x.count = lanes_before v x c.first.result c.count.result c.replace-ends.result.items old c.new-lanes.ensures c.first.ensures c.count.ensures (ap (λ v. v.items) c.replace-ends.ensures.value) in
    let first : v.first ≡ x.first = ap (λ (u : LanesView). u.first) before in
    let count : v.count ≡ x.count = ap (λ (u : LanesView). u.count) before in
    let within : MatchOption c.stepped.result ⊤ (λ _. c.in-Ok.item.seat < c.serve.new.lanes.count) =
    seat_within x c.serve.new.self v c.serve.new.lanes c.in-Ok.item c.offers_are_their_own_answers.ensures (omega (arith, count, c.requires.neighbours)) c.in-Ok.ensures.served c.stepped.result c.stepped.ensures in
    others_stay x c.serve.new.self v c.serve.new.lanes c.in-Ok.item old before c.in-Ok.ensures.served c.into_links.result.items
    (served_leaves x c.serve.new.self v c.serve.new.lanes c.in-Ok.item c.stepped.result (bare_between c.serve.new.lanes.first c.serve.new.lanes.count c.into_links.result.items) x.first x.count first count c.in-Ok.ensures.served within c.into_links.ensures)

pub returns-in-Err-clause-turned : goal.returns-in-Err-clause-turned
returns-in-Err-clause-turned c =
    let x = c.args.node.now in
    let v = c.new-lanes.result in
    let old = c.args.links.now.items in
    let before : v ≡ lanes_of (bare_between x.first x.count old) x.first x.count = lanes_before v x c.first.result c.count.result c.replace-ends.result.items old c.new-lanes.ensures c.first.ensures c.count.ensures (ap (λ v. v.items) c.replace-ends.ensures.value) in
    (c.in-Err.ensures.memory, c.in-Err.ensures.kept.0, same_between c.serve.new.lanes x old c.into_links-in-Err.result.items (c.in-Err.ensures.kept.1 ∙ before) c.into_links-in-Err.ensures)

pub returns-in-Err-clause-others : goal.returns-in-Err-clause-others
returns-in-Err-clause-others c =
    let x = c.args.node.now in
    let v = c.new-lanes.result in
    let old = c.args.links.now.items in
    let before : v ≡ lanes_of (bare_between x.first x.count old) x.first x.count = lanes_before v x c.first.result c.count.result c.replace-ends.result.items old c.new-lanes.ensures c.first.ensures c.count.ensures (ap (λ v. v.items) c.replace-ends.ensures.value) in
    let same = same_between c.serve.new.lanes x old c.into_links-in-Err.result.items (c.in-Err.ensures.kept.1 ∙ before) c.into_links-in-Err.ensures in
    others_between x.first x.count old c.into_links-in-Err.result.items (λ at away. ap (λ (xs : List LinkView). slice_get xs at) same)
