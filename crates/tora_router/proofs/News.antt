-- A new router.
use Rattle.std.proofs.Common.{◌≡◌, ℕ, Bool, true, false, List, [], ◌∷◌, Option, None, nat_eq, if◌then◌else◌, refl, ap, ap₂, ◌∙◌}
use Rattle.std.specs.Prelude.{map}
use mathlib.Core.Path.{fun_ext}
use Rattle.tora_arq.specs.declared.life.Life.{Life}
use Rattle.tora_arq.specs.declared.times.Times.{Times}
use Rattle.tora_core.specs.CoreRun.{CoreView}
use Rattle.tora_core.specs.Kept.{destinations_of}
use Rattle.tora_seat.specs.Rows.{SeatView, current_of, pending_of, new_row, first_seat}
use Rattle.tora_router.specs.declared.hop.Hop.{Hop}
use Rattle.tora_router.specs.declared.link.Link.{Link}
use Rattle.tora_router.specs.Router.{RouterView, RouterState, router_of, router_with, new_link, new_hop}

same_either : (b : Bool) (o : Option Life) → o ≡ None → (if b then None else o) ≡ None
same_either true o e = refl
same_either false o e = e

no_current : (ks : List ℕ) (k : ℕ) → current_of (map new_row ks) k ≡ None
no_current [] k = refl
no_current (j ∷ ks) k = same_either (nat_eq k j) (current_of (map new_row ks) k) (no_current ks k)

no_pending : (ks : List ℕ) (k : ℕ) → pending_of (map new_row ks) k ≡ None
no_pending [] k = refl
no_pending (j ∷ ks) k = same_either (nat_eq k j) (pending_of (map new_row ks) k) (no_pending ks k)

module _ (core : CoreView) (times : Times) (first_life : ℕ) where
  abbrev with_lives : (ℕ → Option Life) → (ℕ → Option Life) → RouterState
  with_lives current pending = record (router_with core times first_life) { seat = record { core = core; current = current; pending = pending } }

  pub new_router : (seat : SeatView) (links : List Link) (hops : List Hop) → seat ≡ first_seat core → links ≡ map (new_link core.me times) core.neighbours → hops ≡ map new_hop (destinations_of core.views)
      → router_of (record { seat = seat; links = links; hops = hops; next_life = first_life }) ≡ router_with core times first_life
  new_router seat links hops s l h =
      ap (λ (x : SeatView). router_of (record { seat = x; links = links; hops = hops; next_life = first_life })) s
      ∙ ap (λ (x : List Link). router_of (record { seat = first_seat core; links = x; hops = hops; next_life = first_life })) l
      ∙ ap (λ (x : List Hop). router_of (record { seat = first_seat core; links = map (new_link core.me times) core.neighbours; hops = x; next_life = first_life })) h
      ∙ ap₂ with_lives (fun_ext (no_current core.neighbours)) (fun_ext (no_pending core.neighbours))
