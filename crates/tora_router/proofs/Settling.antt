-- A router that serves events until none waits.
use Rattle.std.proofs.Common.{◌≡◌, ◌+◌, ◌-◌, ◌≤◌, ◌<◌, ℕ, zero, suc, Some, None, refl, sym, ap, ◌∙◌, subst, arith}
use Rattle.tora_arq.specs.declared.link_event.LinkEvent.{LinkEvent}
use Rattle.tora_router.specs.Links.{first_in, event_of, waiting}
use Rattle.tora_router.specs.Router.{RouterState, after_first_event, after_events, settled}
use Rattle.tora_router.proofs.Served.{events_over}
use Rattle.tora_router.proofs.Waiting.{event_waits}

-- some number of events was served so far
pub record SettledSoFar (now : ℕ) (first here : RouterState) : Type 0 where
  pub count : ℕ
  pub served : here ≡ after_events count now first
  pub within : count + waiting here.links ≤ waiting first.links

pub none_served : (now : ℕ) (r : RouterState) → SettledSoFar now r r
none_served now r = record { count = 0; served = refl; within = omega arith }

pub one_served : (now : ℕ) (first here next : RouterState) (found : ℕ × LinkEvent) → first_in event_of here.links ≡ Some found → next ≡ after_first_event now here → SettledSoFar now first here → SettledSoFar now first next
one_served now first here next found e n h =
    let less : waiting (after_first_event now here).links + 1 ≤ waiting here.links = event_waits now here found e in
    let same : waiting next.links ≡ waiting (after_first_event now here).links = ap (λ (r : RouterState). waiting r.links) n in
    record {
      count = suc h.count;
      served = n ∙ ap (after_first_event now) h.served;
      within = omega (arith, less, same, h.within);
    }

pub fewer_wait : (now : ℕ) (here next : RouterState) (found : ℕ × LinkEvent) → first_in event_of here.links ≡ Some found → next ≡ after_first_event now here → waiting next.links < waiting here.links
fewer_wait now here next found e n =
    let less : waiting (after_first_event now here).links + 1 ≤ waiting here.links = event_waits now here found e in
    let same : waiting next.links ≡ waiting (after_first_event now here).links = ap (λ (r : RouterState). waiting r.links) n in
    omega (arith, less, same)

pub all_served : (now : ℕ) (first here : RouterState) → first_in event_of here.links ≡ None → SettledSoFar now first here → here ≡ settled now first
all_served now first here e h =
    let more : ℕ = waiting first.links - h.count in
    let sum : waiting first.links ≡ more + h.count = omega (arith, h.within) in
    let over : after_events (waiting first.links) now first ≡ after_events h.count now first =
    events_over more h.count (waiting first.links) now first sum (sym (ap (λ (r : RouterState). first_in event_of r.links) h.served) ∙ e) in
    h.served ∙ sym over
