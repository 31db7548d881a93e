-- The effects of the calls of a router.
use Rattle.std.proofs.Common.{◌≡◌, ◌+◌, ◌≤◌, ℕ, zero, suc, Bool, true, false, List, [], ◌∷◌, length, Option, Some, None, Err, Ok, true≢false, refl, sym, ap, ap₂, ◌∙◌, subst, arith}
use Rattle.std.specs.Prelude.{is_some, map, option_map, Result}
use Rattle.tora_frame.specs.declared.FrameError.{FrameError}
use Rattle.tora_frame.specs.FrameParts.{FrameParts}
use Rattle.tora_arq.specs.declared.link_event.LinkEvent.{LinkEvent}
use Rattle.tora_seat.specs.Between.{what_of}
use Rattle.tora_router.specs.declared.link.Link.{Link}
use Rattle.tora_router.specs.Links.{at_place, polled, ticked, heard, cut, first_in, to_peer, event_of, opens_at, peer_at, sent}
use Rattle.tora_router.specs.Router.{RouterView, RouterState, router_of, after_item, item_at, after_event, after_first_event, next_number, ticked_at, at_link, settled, after_datagram, after_cut, frame_in, datagram_of}
use Rattle.tora_router.proofs.Places.{at_place-length}
use Rattle.tora_router.proofs.Frames.{with_count}

module _ (r : RouterView) where
  pub event_served : (now : ℕ) (links : List Link) (found : ℕ × LinkEvent) (after : RouterState) → Some found ≡ first_in event_of r.links → links ≡ at_place (polled found.1) found.0 r.links
      → after ≡ after_item (router_of (record r { links = links })) (item_at found.0 now (what_of found.1)) → after ≡ after_first_event now (router_of r)
  unfolding after_first_event
  event_served now links found after f l a =
      a ∙ ap (λ (ls : List Link). after_item (router_of (record r { links = ls })) (item_at found.0 now (what_of found.1))) l ∙ ap (after_event now (router_of r)) f

  pub no_event : (now : ℕ) → None ≡ first_in event_of r.links → router_of r ≡ after_first_event now (router_of r)
  unfolding after_first_event
  no_event now f = ap (after_event now (router_of r)) f

  pub opened_one : (place now : ℕ) (links : List Link) → links ≡ at_place (ticked r.next_life now) place r.links → true ≡ opens_at r.next_life place r.links
      → router_of (record r { links = links; next_life = r.next_life + 1 }) ≡ ticked_at place now (router_of r)
  opened_one place now links l o =
      let one : r.next_life + 1 ≡ suc r.next_life = omega arith in
      ap₂ (λ (ls : List Link) (n : ℕ). router_of (record r { links = ls; next_life = n })) l (one ∙ ap (λ b. next_number b r.next_life) o)

  pub opened_none : (place now : ℕ) (links : List Link) → links ≡ at_place (ticked r.next_life now) place r.links → false ≡ opens_at r.next_life place r.links
      → router_of (record r { links = links }) ≡ ticked_at place now (router_of r)
  opened_none place now links l o =
      ap₂ (λ (ls : List Link) (n : ℕ). router_of (record r { links = ls; next_life = n })) l (ap (λ b. next_number b r.next_life) o)

  pub datagram_heard : (k now place : ℕ) (reading : Result FrameParts FrameError) (links : List Link) (after : RouterState) → Some (place, tt) ≡ first_in (to_peer k) r.links → links ≡ at_place (heard now reading) place r.links
      → after ≡ settled now (router_of (record r { links = links })) → after ≡ after_datagram k now reading (router_of r)
  datagram_heard k now place reading links after f l a =
      a ∙ ap (λ (ls : List Link). settled now (router_of (record r { links = ls }))) l
      ∙ ap (at_link (router_of r) (λ (p : ℕ). settled now (record (router_of r) { links = at_place (heard now reading) p r.links }))) f

  pub life_cut : (k now place : ℕ) (links : List Link) (after : RouterState) → Some (place, tt) ≡ first_in (to_peer k) r.links → links ≡ at_place cut place r.links
      → after ≡ settled now (router_of (record r { links = links })) → after ≡ after_cut k now (router_of r)
  life_cut k now place links after f l a =
      a ∙ ap (λ (ls : List Link). settled now (router_of (record r { links = ls }))) l
      ∙ ap (at_link (router_of r) (λ (p : ℕ). settled now (record (router_of r) { links = at_place cut p r.links }))) f

pub was_found : {A : Type 0} (o : Option A) → is_some o ≡ true → (x : A) × (o ≡ Some x)
was_found None e = absurd (true≢false (sym e))
was_found (Some x) e = (x, refl)

pub was_none : {A : Type 0} (o : Option A) → is_some o ≡ false → o ≡ None
was_none None e = refl
was_none (Some x) e = absurd (true≢false e)

pub kept : (f : Link → Link) (place : ℕ) (links after : List Link) (count : ℕ) → after ≡ at_place f place links → length links ≡ count → length after ≡ count
kept f place links after count a q = ap length a ∙ at_place-length f place links ∙ q

peer_stays : (now place : ℕ) (links : List Link) → peer_at place (at_place (sent now) place links) ≡ peer_at place links
peer_stays now place [] = refl
peer_stays now zero (link ∷ links) = refl
peer_stays now (suc place) (link ∷ links) = peer_stays now place links

abbrev with_peer : RouterState → ℕ × ℕ → ℕ × ℕ
with_peer r p = (peer_at p.0 r.links, p.1)

abbrev pair : ℕ → ℕ → ℕ × ℕ
pair count peer = (peer, count)

pub datagram_given : (r : RouterState) (now place count peer : ℕ) (links : List Link) → Some (place, count) ≡ option_map with_count (frame_in now r) → peer ≡ peer_at place links → links ≡ at_place (sent now) place r.links
    → Some (peer, count) ≡ option_map (datagram_of r) (frame_in now r)
datagram_given r now place count peer links f p l = go (frame_in now r) f
  where
    same : peer ≡ peer_at place r.links
    same = p ∙ ap (peer_at place) l ∙ peer_stays now place r.links

    go : (frame : Option (ℕ × FrameParts)) → Some (place, count) ≡ option_map with_count frame → Some (peer, count) ≡ option_map (datagram_of r) frame
    go None q = absurd (true≢false (ap is_some q))
    go (Some found) q = ap (λ n. Some (pair count n)) same ∙ ap (option_map (with_peer r)) q
