use Rattle.std.proofs.Common.{◌≡◌, ◌∙◌, ℕ, ◌<◌, ◌≤◌, List, length, sym, ap, subst}
use Rattle.std.specs.Prelude.{map}
use Rattle.tora_core.specs.CoreRun.{CoreView}
use Rattle.tora_core.specs.Numbers.{IsAscending}
use Rattle.tora_lane.specs.NodeLanes.{AreLanes}
use Rattle.tora_lane.specs.Out.{SendEnd}
use Rattle.tora_lane.specs.Ports.{CoreEnd}
use Rattle.tora_seat.specs.Rows.{SeatView, first_seat}
use Rattle.tora_node.specs.NewLinks.{IsOpened}
use Rattle.tora_node.specs.LinkRuns.{name_of, link_ended, link_made, links_of}
use Rattle.tora_node.specs.Threads.{CoreLeaves}
use Rattle.tora_node.proofs.Lists.{as_long}
use Rattle.tora_node.proofs.Runs.{not_started}
use Rattle.tora_node.proofs.Whole.{Left, always, answers, have_ends}
use Rattle.tora_node.proofs.node.run_node.Goals as goal

pub new_links-requires-clause-disks : goal.new_links-requires-clause-disks
new_links-requires-clause-disks g c =
    let ends : map link_ended c.in-Some.ends.items ≡ links_of c.args.parts.config = subst (λ (v : CoreView). map link_ended c.in-Some.ends.items ≡ links_of v) c.into_core-core.ensures.same c.in-Some.ensures in
    c.requires.disks ∙ sym (as_long link_ended (name_of c.args.parts.config.me) c.in-Some.ends.items c.args.parts.config.neighbours ends)

pub new_links-requires-clause-wires : goal.new_links-requires-clause-wires
new_links-requires-clause-wires g c =
    let ends : map link_ended c.in-Some.ends.items ≡ links_of c.args.parts.config = subst (λ (v : CoreView). map link_ended c.in-Some.ends.items ≡ links_of v) c.into_core-core.ensures.same c.in-Some.ensures in
    c.requires.wires ∙ sym (as_long link_ended (name_of c.args.parts.config.me) c.in-Some.ends.items c.args.parts.config.neighbours ends)

pub new_starts-requires-clause-clocks : goal.new_starts-requires-clause-clocks
new_starts-requires-clause-clocks g c =
    let ends : map link_ended c.in-Some.ends.items ≡ links_of c.args.parts.config = subst (λ (v : CoreView). map link_ended c.in-Some.ends.items ≡ links_of v) c.into_core-core.ensures.same c.in-Some.ensures in
    c.requires.clocks ∙ sym (as_long link_made (name_of c.args.parts.config.me) c.in-Ok-new_links.new.items c.args.parts.config.neighbours (c.in-Ok-new_links.ensures.made ∙ ends))

pub returns-in-Err-new_links : goal.returns-in-Err-new_links
returns-in-Err-new_links g c =
    let ends : map link_ended c.in-Some.ends.items ≡ links_of c.args.parts.config = subst (λ (v : CoreView). map link_ended c.in-Some.ends.items ≡ links_of v) c.into_core-core.ensures.same c.in-Some.ensures in
    not_started g.W.Wire.did_send g.W.Wire.did_receive g.C.Clock.did_tell (IsOpened g.D.Disk.syncs g.D.Disk.reads g.D.Disk.writes) g.Wr.Write.contents c.args.parts.config c.args.parts.wires.items c.args.parts.disks.items c.args.parts.clocks.items c.args.parts.command_clock (g.Rd.Read.remaining c.args.reader.now)
    c.args.writer (map link_ended c.in-Some.ends.items) c.in-Err-new_links.fault ends c.in-Err-new_links.ensures.fault c.in-Err-new_links.ensures.failed

pub settled-ended-requires-clause-ends : goal.settled-ended-requires-clause-ends
settled-ended-requires-clause-ends g c =
    let same = c.into_core-core.ensures.same in
    let rests = c.in-Some-run_threads.rests in
    let lanes = c.in-Ok.lanes in
    let asked : length c.neighbours.result.now ≡ length c.args.parts.config.neighbours = ap length c.neighbours.ensures ∙ ap (λ (v : CoreView). length v.neighbours) same in
    let ends : map link_ended c.in-Some.ends.items ≡ links_of c.args.parts.config = subst (λ (v : CoreView). map link_ended c.in-Some.ends.items ≡ links_of v) same c.in-Some.ensures in
    let core = c.in-Ok-new_core_start.ensures.made in
    let left : Left g.W.Wire.did_send g.W.Wire.did_receive g.C.Clock.did_tell (IsOpened g.D.Disk.syncs g.D.Disk.reads g.D.Disk.writes) c.args.parts.config c.args.parts.wires.items c.args.parts.disks.items c.args.parts.clocks.items c.args.parts.command_clock lanes.core lanes.command lanes.links.items lanes.outs.items g.Wr.Write.contents c.args.writer c.in-Ok-new_links.new.items c.in-Some-new_starts.starts.items rests.core rests.links.items = record {
      lanes = subst (λ (n : ℕ). AreLanes n lanes.core lanes.command lanes.links.items lanes.outs.items) asked c.in-Ok.ensures.made.0;
      links_are = c.in-Ok-new_links.ensures.made ∙ ends;
      wires_are = c.in-Ok-new_links.ensures.wired;
      files_are = c.in-Ok-new_links.ensures.opened;
      starts_are = c.in-Some-new_starts.ensures.links;
      hubs_are = c.in-Some-new_starts.ensures.hubs;
      clocks_are = c.in-Some-new_starts.ensures.clocks;
      ran = c.in-Some-run_threads.ensures.links;
      served = subst (λ (x : SeatView × (CoreEnd × (List SendEnd × _))). CoreLeaves g.Wr.Write.contents x.0 x.1.0 x.1.1.0 x.1.1.1 rests.core) (λ i. ((core.0 ∙ ap first_seat same) i, (core.1 i, (core.2 i, core.3 i)))) c.in-Some-run_threads.ensures.core;
      ascending = subst (λ (v : CoreView). IsAscending v.neighbours) same c.into_core-core.ensures.ascending;
    } in
    have_ends _ _ _ _ _ _ _ _ _ _ _ _ _ _ _ _ _ _ _ left

pub returns : goal.returns
returns g c =
    let same = c.into_core-core.ensures.same in
    let rests = c.in-Some-run_threads.rests in
    let lanes = c.in-Ok.lanes in
    let asked : length c.neighbours.result.now ≡ length c.args.parts.config.neighbours = ap length c.neighbours.ensures ∙ ap (λ (v : CoreView). length v.neighbours) same in
    let ends : map link_ended c.in-Some.ends.items ≡ links_of c.args.parts.config = subst (λ (v : CoreView). map link_ended c.in-Some.ends.items ≡ links_of v) same c.in-Some.ensures in
    let core = c.in-Ok-new_core_start.ensures.made in
    let left : Left g.W.Wire.did_send g.W.Wire.did_receive g.C.Clock.did_tell (IsOpened g.D.Disk.syncs g.D.Disk.reads g.D.Disk.writes) c.args.parts.config c.args.parts.wires.items c.args.parts.disks.items c.args.parts.clocks.items c.args.parts.command_clock lanes.core lanes.command lanes.links.items lanes.outs.items g.Wr.Write.contents c.args.writer c.in-Ok-new_links.new.items c.in-Some-new_starts.starts.items rests.core rests.links.items = record {
      lanes = subst (λ (n : ℕ). AreLanes n lanes.core lanes.command lanes.links.items lanes.outs.items) asked c.in-Ok.ensures.made.0;
      links_are = c.in-Ok-new_links.ensures.made ∙ ends;
      wires_are = c.in-Ok-new_links.ensures.wired;
      files_are = c.in-Ok-new_links.ensures.opened;
      starts_are = c.in-Some-new_starts.ensures.links;
      hubs_are = c.in-Some-new_starts.ensures.hubs;
      clocks_are = c.in-Some-new_starts.ensures.clocks;
      ran = c.in-Some-run_threads.ensures.links;
      served = subst (λ (x : SeatView × (CoreEnd × (List SendEnd × _))). CoreLeaves g.Wr.Write.contents x.0 x.1.0 x.1.1.0 x.1.1.1 rests.core) (λ i. ((core.0 ∙ ap first_seat same) i, (core.1 i, (core.2 i, core.3 i)))) c.in-Some-run_threads.ensures.core;
      ascending = subst (λ (v : CoreView). IsAscending v.neighbours) same c.into_core-core.ensures.ascending;
    } in
    let a = answers _ _ _ _ _ _ _ _ _ _ _ _ _ _ _ _ _ _ _ left _ _ _ c.in-Some-run_threads.ensures.commands c.what_was_offered_was_sent.ensures c.settled-ended.result.0 c.settled-ended.ensures.settles in
    rw (c.settled-ended.ensures.writer) (record {
      core = a.core_is_run;
      links = a.links_ran;
      fault = a.fault_is_one;
      cause = a.cause_is;
      count = always ((0 < length c.args.parts.config.neighbours) × (length c.args.parts.config.neighbours ≤ 32)) (subst (λ (n : ℕ). (0 < n) × (n ≤ 32)) asked (c.in-Ok.ensures.made.1, c.in-Ok.ensures.made.2)) c.settled-ended.result.0;
      ran = a.ran_is;
      failed = a.failed_is;
    })
