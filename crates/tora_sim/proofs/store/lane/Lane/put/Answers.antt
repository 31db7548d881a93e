use Rattle.std.proofs.Common.{◌∷◌, [], ◌++◌, ap, ◌∙◌, List, append_assoc, sym, subst}
use Rattle.tora_seat.specs.declared.cargo.Cargo.{Cargo}
use Rattle.tora_sim.specs.Lane.{LaneView, has_place_in, Fits}
use Rattle.tora_sim.proofs.LaneRooms.{push_fits, still_fits}
use Rattle.tora_sim.proofs.store.lane.Lane.put.Goals as goal

pub push-requires : goal.push-requires
push-requires c =
    let l = c.self.inside in
    push_fits l.past.items l.cargoes l.taken c.args.pool.now c.args.spare
    (subst (λ (v : LaneView). Fits v.pulled v.room c.args.pool.now c.args.spare) (sym c.self.view_is) c.requires.room)
    (ap has_place_in c.self.view_is ∙ c.requires.place)

pub returns-clause-put : goal.returns-clause-put
returns-clause-put c =
    let l = c.self.inside in
    ap (λ (cs : List Cargo). l.past.items ++ cs) c.push.ensures.items ∙ sym (append_assoc l.past.items l.cargoes.items (c.args.cargo ∷ [])) ∙ ap (λ (v : LaneView). v.put ++ c.args.cargo ∷ []) c.self.view_is

pub returns-clause-room : goal.returns-clause-room
returns-clause-room c =
    let l = c.self.inside in
    still_fits l.past.items l.cargoes c.push.new.self l.taken c.args.pool.now c.push.new.pool c.args.spare c.push.ensures.places c.self.invariant
    (subst (λ (v : LaneView). Fits v.pulled v.room c.args.pool.now c.args.spare) (sym c.self.view_is) c.requires.room)
