use Rattle.std.proofs.Common.{◌≡◌, Result, Ok, Err, IfOk, OnErr, refl, sym, subst}
use Rattle.tora_arq.specs.declared.arq_error.ArqError.{ArqError}
use Rattle.tora_arq.specs.declared.verdict.Verdict.{Verdict}
use Rattle.tora_life.specs.LifeRun.{owner_in}
use Rattle.tora_sim.specs.Files.{disk_of, IsDrawn}
use Rattle.tora_frame.specs.FrameParts.{frame_of}
use Rattle.tora_frame.specs.declared.parts.Body.TheVariants.{Hello}
use Rattle.tora_arq.specs.LinkEnd.{after_frame}
use Rattle.tora_arq.specs.EndRange.{LinkEndView}
use Rattle.tora_world.specs.World.{owner_of}
use Rattle.tora_sim.proofs.Lasts.{frame_stays, stays_drawn}
use Rattle.tora_sim.proofs.links.LinkParts.receive_hello.Goals as goal

either_end : (r : Result Verdict ArqError) (P : LinkEndView → Type 0) (old new after : LinkEndView) → IfOk r (λ _. new ≡ after) → OnErr r (new ≡ old) → P old → P after → P new
either_end (Ok verdict) P old new after ok err a b = subst P (sym ok) b
either_end (Err e) P old new after ok err a b = subst P (sym err) a

pub invariant_of-self : goal.invariant_of-self
invariant_of-self c =
    let end = c.self.inside.end in
    let disk = disk_of c.self.inside.file.value in
    let after : LinkEndView = record end { state = after_frame end.settings end.state (frame_of c.args.header.now Hello) c.args.now } in (
      either_end c.on_hello.result (λ (e : LinkEndView). IsDrawn e.state.last_life disk) end c.on_hello.new.self after c.on_hello.ensures.state c.on_hello.ensures.same c.self.invariant.0
          (stays_drawn end.state (after_frame end.settings end.state (frame_of c.args.header.now Hello) c.args.now) (after_frame end.settings end.state (frame_of c.args.header.now Hello) c.args.now) _ refl (frame_stays c.lives_are_bound_once.ensures.number end.settings end.state (frame_of c.args.header.now Hello) c.args.now) c.self.invariant.0),
      c.self.invariant.1,
      either_end c.on_hello.result (λ (e : LinkEndView). owner_in disk ≡ owner_of e.settings.me e.settings.peer) end c.on_hello.new.self after c.on_hello.ensures.state c.on_hello.ensures.same c.self.invariant.2 c.self.invariant.2,
    )
