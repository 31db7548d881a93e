use Rattle.std.proofs.Common.{◌≡◌, ◌∙◌, sym, ap, ◌<◌, ◌++◌, [], length, get_or, refl, Option}
use Rattle.std.specs.Prelude.{filter_map}
use Rattle.std.specs.List.{cons_option}
use Rattle.std.proofs.lemmas.List.Edits.{map_over_more}
use Rattle.tora_packet.specs.declared.Packet.{Packet}
use Rattle.tora_core.specs.declared.Input.TheVariants as In
use Rattle.tora_core.specs.CoreRun.{next_view}
use Rattle.tora_core.specs.Table.{TableView, next_in}
use Rattle.tora_core.proofs.TableViews.{packet_in, packets_in, same-in, take-whole}
use Rattle.tora_core.proofs.SendsSteps.{sends-next, one-more, read-on}
use Rattle.tora_core.proofs.table.link_up.Goals as goal

pub loop-view-preserved : goal.loop-view-preserved
loop-view-preserved c =
    let xs = c.args.views.now in
    let i = c.loop-view.view-index in
    let x = c.view-item.result in
    let h = packet_in (In.LinkUp c.args.k) 0 in
    let lt : i < length xs = c.loop-view-test.true in
    let read : x ≡ get_or xs i x = read-on (next_in (In.LinkUp c.args.k) 0) xs c.loop-view.views i x lt c.loop-view.invariant.views c.view-item.is in
    let sent : c.list.new.sends.items ≡ c.loop-view.sends.items ++ cons_option (h x) [] = c.list.ensures ∙ ap (λ (o : Option Packet). c.loop-view.sends.items ++ cons_option o []) (c.link_up.ensures.packet ∙ ap h (sym c.view-item.is)) in
    let new : c.link_up.new.self ≡ next_in (In.LinkUp c.args.k) 0 x =
    same-in c.link_up.new.self (next_in (In.LinkUp c.args.k) 0 x) (c.link_up.ensures.view ∙ ap (λ (t : TableView). next_view (In.LinkUp c.args.k) 0 t.view) (sym c.view-item.is)) (c.link_up.ensures.neighbours ∙ ap (λ (t : TableView). t.neighbours) (sym c.view-item.is)) in
    record {
      views = rw new (map_over_more (next_in (In.LinkUp c.args.k) 0) xs c.loop-view.views i x lt c.loop-view.invariant.views c.view-item.is);
      sends = sent ∙ sends-next h xs i x c.loop-view.sends.items (h x) lt read refl c.loop-view.invariant.sends;
      room = rw sent (one-more c.loop-view.sends.items (h x) i c.loop-view.invariant.room);
    }

pub returns-clause-sends : goal.returns-clause-sends
returns-clause-sends c =
    let xs = c.args.views.now in
    c.loop-view.invariant.sends ∙ ap (filter_map (packet_in (In.LinkUp c.args.k) 0)) (take-whole c.loop-view.view-index xs c.loop-view-test.false) ∙ packets_in (In.LinkUp c.args.k) 0 xs
