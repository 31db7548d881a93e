use Rattle.std.proofs.Common.{◌++◌, [], None, false, refl, sym, ap, ◌∙◌}
use Rattle.std.proofs.lemmas.List.{append-nil}
use Rattle.std.specs.Prelude.{map}
use Rattle.tora_arq.specs.EndRange.{LinkEndView}
use Rattle.tora_neighbour.specs.Turns.{is_beat_due, idle_turn}
use Rattle.tora_neighbour.specs.Traffic.{entry_of, beat_of}
use Rattle.tora_neighbour.proofs.Assembly.{turn_of, traffic_of, whole_turn, refused_turn, broken_turn}
use Rattle.tora_neighbour.proofs.turn.turn.Goals as goal

pub returns-in-Err-clause-last : goal.returns-in-Err-clause-last
returns-in-Err-clause-last g c =
    let h = c.in-Err.ensures.same in (
      idle_turn c.args.now,
      record { closed = c.in-Err.ensures.closed; nothing = refl; after_is = ap (λ (v : LinkEndView). v.state) h.0 },
      refl,
      traffic_of _ _ (idle_turn c.args.now) h.1 (c.begin.ensures.puts ∙ sym (append-nil _)) (h.2 ∙ sym (append-nil _)) (λ yes. yes) (λ yes. sym (append-nil _))
          (λ yes. record { given = []; coming_is = refl; readings_are = refl }),
      (h.3, refl),
      refl,
      refl,
      c.requires.row,
    )

pub returns-in-Err-exchange-clause-last : goal.returns-in-Err-exchange-clause-last
returns-in-Err-exchange-clause-last g c =
    let b = c.in_default.ensures.begun in
    let x = c.in-Err-exchange.ensures.exchange in
    let w = c.give_up.ensures.told in
    let t = turn_of c.args.now b.0 b.1 x.0 x.2 x.3 x.4 x.1 w.0 w.1 false in (
      t,
      broken_turn c.args.link.now.end c.begin.new.end c.args.now b.0 b.1 b.2 b.3 b.4 c.in-Err-exchange.at x.0 x.2 x.3 c.args.course.now.last_beat x.4 x.1 c.exchange.new.end.state c.give_up.new.end.state w.0 w.1 x.5 w.2,
      x.7,
      traffic_of _ _ t b.5
          (w.3 ∙ ap (λ ps. ps ++ map (entry_of c.args.now) w.0) c.begin.ensures.puts ∙ ap (λ ps. g.H.Hub.puts c.args.hub.now ++ ps) (sym (append-nil (map (entry_of c.args.now) w.0))))
          (c.give_up.ensures.takes ∙ b.6) c.exchange.ensures.tells x.8 x.9,
      (c.begin.new.hub, b.7, x.11, w.4),
      refl,
      x.12,
      c.in-Err-exchange.ensures.broken,
    )

pub returns-in-Err-tell-clause-last : goal.returns-in-Err-tell-clause-last
returns-in-Err-tell-clause-last g c =
    let b = c.in_default.ensures.begun in
    let x = c.in_default-exchange.ensures.exchange in
    let w = c.in-Err-tell.ensures.some in
    let t = turn_of c.args.now b.0 b.1 x.0 x.2 x.3 x.4 x.1 w.0 w.1 false in (
      t,
      refused_turn c.args.link.now.end c.begin.new.end c.args.now b.0 b.1 b.2 b.3 b.4 x.0 x.2 x.3 c.args.course.now.last_beat x.4 x.1 c.exchange.new.end.state c.tell.new.end.state w.0 w.1 x.5 w.2 w.5,
      x.7,
      traffic_of _ _ t b.5
          (w.3 ∙ ap (λ ps. ps ++ map (entry_of c.args.now) w.0) c.begin.ensures.puts ∙ ap (λ ps. g.H.Hub.puts c.args.hub.now ++ ps) (sym (append-nil (map (entry_of c.args.now) w.0))))
          (c.tell.ensures.takes ∙ b.6) c.exchange.ensures.tells x.8 x.9,
      (c.begin.new.hub, x.10.0, b.7, x.10.1, x.10.2, w.4),
      refl,
      x.12,
      c.in_default-exchange.ensures.row,
    )

pub returns-clause-turn : goal.returns-clause-turn
returns-clause-turn g c =
    let b = c.in_default.ensures.begun in
    let x = c.in_default-exchange.ensures.exchange in
    let w = c.in_default-tell.ensures.all in
    let beat = is_beat_due c.args.course.now.last_beat c.args.now in
    let t = turn_of c.args.now b.0 b.1 x.0 x.2 x.3 x.4 x.1 w.0 None beat in (
      t,
      whole_turn c.args.link.now.end c.begin.new.end c.args.now b.0 b.1 b.2 b.3 b.4 x.0 x.2 x.3 x.4 x.1 c.exchange.new.end.state c.tell.new.end.state w.0 beat x.5 w.1,
      refl,
      c.in_default-tell.ensures.last,
      x.7,
      traffic_of _ _ t b.5 (w.2 ∙ ap (λ ps. ps ++ (map (entry_of c.args.now) w.0 ++ beat_of beat c.args.now)) c.begin.ensures.puts) (c.tell.ensures.takes ∙ b.6) c.exchange.ensures.tells x.8 x.9,
      record { taken = c.begin.new.hub; sent = x.10.0; told = w.3.0; takes = b.7; sends = x.10.1; receives = x.10.2; puts = w.3.1; beat = w.3.2 },
      refl,
      x.12,
    )
