-- An accepted input may come to the views of a core, and they react to it by the relation.
use Rattle.std.proofs.Common.{◌≡◌, ◌≢◌, refl, ℕ, Bool, true, false, not, ◌==◌, ap, sym, subst, ◌∙◌, inl, inr, List, [], ◌∷◌, Option, Some, None}
use Rattle.std.specs.Prelude.{Contains, if◌then◌else◌, option_map}
use Rattle.std.specs.List.{AllByRecursion}
use Rattle.tora_packet.specs.declared.Packet.{Packet}
use Rattle.tora_packet.specs.declared.Packet.TheVariants.{Qry, Upd, Clr}
use Rattle.tora_packet.specs.AnyPacket.{destination_of}
use Rattle.tora_core.specs.declared.Input.{Input}
use Rattle.tora_core.specs.declared.Input.TheVariants as In
use Rattle.tora_core.specs.declared.rows.Row.{Row}
use Rattle.tora_core.specs.declared.destination.Broadcast.{Broadcast}
use Rattle.tora_core.specs.declared.errors.StepError.{StepError}
use Rattle.tora_core.specs.declared.errors.StepError.TheVariants as Fault
use Rattle.tora_core.specs.Numbers.{has_number}
use Rattle.tora_core.specs.View.{View, neighbours_of, up_neighbours}
use Rattle.tora_core.specs.Rules.{outcome_of, packet_of, view_after, packet_sent}
use Rattle.tora_core.specs.CoreRun.{CoreView, refusal_of, is_from, concerns, next_view, next_packet}
use Rattle.tora_core.specs.Kept.{IsPacketOf, MayCome, IsNeighbour, IsViewOf, IsCore, IsInput}
use Rattle.tora_core.specs.Reacts.{IsUp, IsFromUp, Reacts}
use Rattle.tora_core.proofs.ReactsWords.{IsAmong, all-among, all-from_among, among-Contains, Contains-among, list_any-true, true-list_any, is-same, same-is}
use Rattle.tora_core.proofs.ReactsTotal.{reacts-some}

-- an accepted input passes each check
passed : (b : Bool) (fault : StepError) (rest : Option StepError) → (if not b then Some fault else rest) ≡ None → (b ≡ true) × (rest ≡ None)
passed true fault rest e = (refl, e)
passed false fault rest e = absurd cc

not-passed : (b : Bool) (fault : StepError) (rest : Option StepError) → (if b then Some fault else rest) ≡ None → (b ≡ false) × (rest ≡ None)
not-passed true fault rest e = absurd cc
not-passed false fault rest e = (refl, e)

number-among : (k : ℕ) (numbers : List ℕ) → has_number k numbers ≡ true → IsAmong k numbers
number-among k numbers e =
    let r = list_any-true (λ m. m == k) numbers e in
    subst (λ (m : ℕ). IsAmong m numbers) (same-is r.0 k r.2) r.1

neighbour-among : (k : ℕ) (rows : List Row) → IsAmong k (neighbours_of rows) → (row : Row) × IsAmong row rows × (row.neighbour ≡ k)
neighbour-among k [] i = absurd i
neighbour-among k (row ∷ rows) (inl e) = (row, inl refl, e)
neighbour-among k (row ∷ rows) (inr i) = let r = neighbour-among k rows i in (r.0, inr r.1, r.2)

among-neighbour : (rows : List Row) (row : Row) → IsAmong row rows → IsAmong row.neighbour (neighbours_of rows)
among-neighbour [] row i = absurd i
among-neighbour (r ∷ rows) row (inl e) = inl (ap (λ (x : Row). x.neighbour) e)
among-neighbour (r ∷ rows) row (inr i) = inr (among-neighbour rows row i)

is-up : (me : ℕ) (up : List ℕ) (v : View) (k : ℕ) → IsViewOf me up v → has_number k up ≡ true → IsUp v k
is-up me up v k view e =
    let r = neighbour-among k v.rows (number-among k (up_neighbours v) (subst (λ (ns : List ℕ). has_number k ns ≡ true) (sym view.neighbours) e)) in
    (r.0, Contains-among v.rows r.0 r.1, r.2)

is-apart : (me : ℕ) (up : List ℕ) (v : View) (k : ℕ) → IsViewOf me up v → has_number k up ≡ false → AllByRecursion (λ (row : Row). row.neighbour ≢ k) v.rows
is-apart me up v k view e =
    all-from_among (λ (row : Row). row.neighbour ≢ k) v.rows
    (λ (row : Row) i (s : row.neighbour ≡ k).
    let t = true-list_any (λ m. m == k) (neighbours_of v.rows) row.neighbour (among-neighbour v.rows row i) (is-same row.neighbour k s) in
    let f : has_number k (up_neighbours v) ≡ false = ap (has_number k) view.neighbours ∙ e in
    cc)

packet-may : (k : ℕ) (packet : Packet) (v : View) → IsInput (In.Packet k packet) → is_from k packet ≡ true → destination_of packet ≡ v.destination → IsPacketOf k v.destination packet
packet-may k (Qry d) v is from e = tt
packet-may k (Clr c) v is from e = is
packet-may k (Upd u) v is from e =
    let id : u.height.id ≡ k = same-is u.height.id k from in
    let other : k ≢ v.destination = λ (s : k ≡ v.destination). is.other (id ∙ s ∙ sym e) in
    (record { ranges = is.height; id = id; zero = λ (s : k ≡ v.destination). absurd (other s); above = λ _ t r. is.above t r }, other)

-- an accepted input may come to a view that it concerns, over a link that is up
accepted-may : (c : CoreView) (input : Input) (v : View) → IsCore c → IsInput input → refusal_of c input ≡ None → IsViewOf c.me c.up v → concerns input v.destination ≡ true → MayCome v input × IsFromUp v input
accepted-may c (In.Need d) v core is e view here = (tt, tt)
accepted-may c (In.LinkDown k) v core is e view here = (tt, tt)
accepted-may c (In.LinkUp k) v core is e view here =
    let n = passed (has_number k c.neighbours) Fault.UnknownNeighbour (if has_number k c.up then Some Fault.AlreadyUp else None) e in
    let u = not-passed (has_number k c.up) Fault.AlreadyUp None n.1 in
    let neighbour = all-among (IsNeighbour c.me) c.neighbours k core.neighbours (number-among k c.neighbours n.0) in
    ((neighbour.0, (λ (s : k ≡ v.me). neighbour.1 (s ∙ view.owner)), is-apart c.me c.up v k view u.0), tt)
accepted-may c (In.Packet k packet) v core is e view here =
    let n = passed (has_number k c.neighbours) Fault.UnknownNeighbour (if not (has_number k c.up) then Some Fault.NotUp else if not (is_from k packet) then Some Fault.WrongSender else None) e in
    let u = passed (has_number k c.up) Fault.NotUp (if not (is_from k packet) then Some Fault.WrongSender else None) n.1 in
    let f = passed (is_from k packet) Fault.WrongSender None u.1 in
    (packet-may k packet v is f.0 (sym (same-is v.destination (destination_of packet) here)), is-up c.me c.up v k view u.0)

next-is : (input : Input) (now : ℕ) (v : View) → concerns input v.destination ≡ true → (next_view input now v ≡ view_after v input now) × (next_packet input now v ≡ packet_sent v input now)
next-is input now v here = (if-true (concerns input v.destination) (view_after v input now) v here, if-true (concerns input v.destination) (packet_sent v input now) None here)
  where
    if-true : {X : Type 0} (b : Bool) (x y : X) → b ≡ true → (if b then x else y) ≡ x
    if-true true x y e = refl
    if-true false x y e = absurd cc

-- a view of a core reacts to an accepted input by the relation
pub accepted-reacts : (c : CoreView) (input : Input) (now : ℕ) (v : View) → IsCore c → IsInput input → refusal_of c input ≡ None → Contains c.views v → concerns input v.destination ≡ true
    → (broadcast : Option Broadcast) × Reacts v input now (next_view input now v) broadcast × (next_packet input now v ≡ option_map (packet_of v.destination) broadcast)
accepted-reacts c input now v core is e in_core here =
    let view = all-among (IsViewOf c.me c.up) c.views v core.views (among-Contains c.views v in_core) in
    let may = accepted-may c input v core is e view here in
    let next = next-is input now v here in
    let broadcast = (outcome_of v input now).broadcast in
    (broadcast, subst (λ (w : View). Reacts v input now w broadcast) (sym next.0) (reacts-some v input now view.kept may.0 may.1), next.1)
