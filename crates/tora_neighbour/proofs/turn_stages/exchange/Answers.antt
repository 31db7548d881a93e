use Rattle.std.proofs.Common.{[], List, ℕ, Bool, Some, None, refl, sym, subst, ◌∙◌, ap}
use Rattle.std.proofs.lemmas.List.{append-nil}
use Rattle.std.specs.Prelude.{map, is_err, Option}
use Rattle.tora_arq.specs.EndRange.{LinkEndView}
use Rattle.tora_arq.specs.LinkEnd.{after_transmit}
use Rattle.tora_arq.specs.LinkFacts.{list_of}
use Rattle.tora_neighbour.specs.Intake.{Reading, came_in, intake_in, after_came}
use Rattle.tora_neighbour.specs.Tally.{counted_in}
use Rattle.tora_neighbour.specs.Traffic.{Came}
use Rattle.tora_neighbour.specs.Turns.{after_frames, IsRow}
use Rattle.tora_neighbour.proofs.Chains.{row_more}
use Rattle.tora_neighbour.proofs.Further.{came_none}
use Rattle.tora_neighbour.proofs.Numbers.{kept_transmit, kept_frames, kept_came}
use Rattle.tora_neighbour.proofs.turn_stages.exchange.Goals as goal

pub returns-clause-last : goal.returns-clause-last
returns-clause-last g c =
    let law = c.lives_are_bound_once.ensures.number in
    let e = c.args.end.now in
    let sent = c.in_default.ensures.all in
    let heard = c.receive.ensures.came in
    ap (λ (v : LinkEndView). v.state.last_life) heard.4
    ∙ kept_came law c.send_frames.new.end.settings c.send_frames.new.end.state c.args.now (came_in (Some heard.0) heard.1)
    ∙ ap (λ (v : LinkEndView). v.state.last_life) sent.4
    ∙ kept_transmit law e.settings (after_frames e.settings e.state c.args.now sent.0) c.args.now
    ∙ kept_frames law e.settings e.state c.args.now sent.0

pub returns-in-Err-clause-exchange : goal.returns-in-Err-clause-exchange
returns-in-Err-clause-exchange g c =
    let s = c.in-Err.ensures.some in (
      s.0,
      None,
      s.1,
      None,
      [],
      (s.2, refl, refl, ap (λ (x : LinkEndView). x.state) s.3),
      ap (λ (x : LinkEndView). x.settings) s.3,
      refl,
      s.4,
      (λ yes. came_none (g.W.Wire.coming c.args.wire.now) (g.W.Wire.coming c.send_frames.new.wire) (c.send_frames.ensures.coming yes)),
      tt,
      (s.5, refl),
      subst (λ (xs : List Bool). IsRow c.args.row.now xs c.send_frames.new.row) (sym (append-nil (map is_err s.1))) s.6,
    )

pub returns-in-Err-receive-clause-exchange : goal.returns-in-Err-receive-clause-exchange
returns-in-Err-receive-clause-exchange g c =
    let s = c.in_default.ensures.all in
    let h = c.in-Err-receive.ensures.came in
    let v = c.send_frames.new.end in
    let now = c.args.now in (
      s.0,
      None,
      s.1,
      Some h.0,
      h.1,
      (
        s.2,
        s.3,
        h.7,
        refl,
        ap (λ (x : LinkEndView). x.state) h.4 ∙ ap (λ (came : Option Reading). after_came v.settings v.state now came) h.7 ∙ ap (λ (x : LinkEndView). x.state) s.4,
      ),
      ap (λ (x : LinkEndView). x.settings) h.4 ∙ ap (λ (x : LinkEndView). x.settings) s.4,
      h.5 ∙ ap (λ (came : Option Reading). counted_in (intake_in v.settings v.state now came) c.args.tally.now) h.7,
      (λ yes. c.receive.ensures.tries yes ∙ s.5 (c.receive.ensures.tells yes)),
      (λ yes. subst (λ (cs : List (List ℕ)). Came cs (list_of (came_in (Some h.0) h.1)) (g.W.Wire.coming c.receive.new.wire)) (c.send_frames.ensures.coming (c.receive.ensures.tells yes)) (h.6 yes)),
      tt,
      (c.send_frames.new.wire, s.6, h.2),
      row_more c.args.row.now c.send_frames.new.row c.receive.new.row (map is_err s.1) (is_err h.0) s.7 c.in_default.ensures.row h.3,
    )

pub returns-clause-exchange : goal.returns-clause-exchange
returns-clause-exchange g c =
    let s = c.in_default.ensures.all in
    let h = c.receive.ensures.came in
    let came = came_in (Some h.0) h.1 in
    let e = c.args.end.now in
    let now = c.args.now in (
      s.0,
      intake_in e.settings (after_transmit e.settings (after_frames e.settings e.state now s.0) now) now came,
      s.1,
      Some h.0,
      h.1,
      (s.2, s.3, refl, ap (λ (v : LinkEndView). v.state) h.4 ∙ ap (λ (v : LinkEndView). after_came v.settings v.state now came) s.4),
      ap (λ (v : LinkEndView). v.settings) h.4 ∙ ap (λ (v : LinkEndView). v.settings) s.4,
      h.5 ∙ ap (λ (v : LinkEndView). counted_in (intake_in v.settings v.state now came) c.args.tally.now) s.4,
      (λ yes. c.receive.ensures.tries yes ∙ s.5 (c.receive.ensures.tells yes)),
      (λ yes. subst (λ (cs : List (List ℕ)). Came cs (list_of came) (g.W.Wire.coming c.receive.new.wire)) (c.send_frames.ensures.coming (c.receive.ensures.tells yes)) (h.6 yes)),
      (c.send_frames.new.wire, s.6, h.2),
      tt,
      row_more c.args.row.now c.send_frames.new.row c.receive.new.row (map is_err s.1) (is_err h.0) s.7 c.in_default.ensures.row h.3,
    )
