-- Events that happen, and their lines, which are appended to a record, if there is one.
use Rattle.std.proofs.Common.{◌≡◌, ℕ, zero, suc, ◌+◌, ◌<◌, ◌≤◌, Bool, true, false, not, ◌||◌, List, [], ◌∷◌, ◌++◌, length, drop, get_or, None, Some, refl, sym, ap, ◌∙◌, subst, append_assoc}
use Rattle.std.specs.Prelude.{is_some}
use Rattle.std.proofs.lemmas.List.{append-nil, drop_more, drop_all}
use Rattle.std.proofs.lemmas.Grind.{flat_map-append}
use Rattle.tora_world.specs.declared.event.Event.{Event}
use Rattle.tora_world.specs.declared.sim_error.SimError.{SimError}
use Rattle.tora_world.specs.World.{World, is_empty, refusal_of, world_after, world_after_all}
use Rattle.tora_script.specs.Rounds.{Plan, repeats, plan_then, each, Happened}
use Rattle.tora_script.proofs.RoundLaws.{Onward, begins, again, refused, impossible, no_more, each_part, each_ends, Happened-then, after_then}
use Rattle.tora_drive.specs.Steps.{step_pass, step_passes}
use Rattle.tora_drive.specs.Recording.{Record, with_record, event_line, events_text, HappenedTold, Told}
use Rattle.tora_drive.proofs.StepLaws.{passes_on, passes_stop}

pub same_record : (r : Record) → with_record r [] ≡ r
same_record None = refl
same_record (Some text) = ap (λ (x : List ℕ). Some x) (append-nil text)

-- one text after another
pub record_then : (r : Record) (a b : List ℕ) → with_record (with_record r a) b ≡ with_record r (a ++ b)
record_then None a b = refl
record_then (Some text) a b = ap (λ (x : List ℕ). Some x) (append_assoc text a b)

events_append : (xs ys : List Event) → events_text (xs ++ ys) ≡ events_text xs ++ events_text ys
events_append xs ys = flat_map-append event_line xs ys

-- some of the events have happened, possibly none; their lines were appended to the record, and these events are left
pub record OnwardTold (w : World) (events : List Event) (now : World) (some : Bool) (left : List Event) (before text : Record) : Type 0 where
  pub onward : Onward w events now some left
  pub tells : with_record text (events_text left) ≡ with_record before (events_text events)

pub told_begins : (w : World) (events : List Event) (before : Record) → OnwardTold w events w false events before before
told_begins w events before = record { onward = begins w events; tells = refl }

-- no event is left
done : (events left : List Event) (before text : Record) → left ≡ [] → with_record text (events_text left) ≡ with_record before (events_text events) → text ≡ with_record before (events_text events)
done events left before text none tells = sym (same_record text) ∙ ap (λ (x : List Event). with_record text (events_text x)) (sym none) ∙ tells

-- the lines of one plan, and then those of another in the world after it
pub text_then : (w mid : World) (plan rest : Plan) (before between after : Record) → mid ≡ world_after_all w (plan w) → between ≡ with_record before (events_text (plan w)) → after ≡ with_record between (events_text (rest mid)) → after ≡ with_record before (events_text (plan_then plan rest w))
text_then w mid plan rest before between after is first next =
    next ∙ ap (λ (x : Record). with_record x (events_text (rest mid))) first ∙ record_then before (events_text (plan w)) (events_text (rest mid))
    ∙ ap (λ (x : List ℕ). with_record before x) (sym (events_append (plan w) (rest mid))) ∙ ap (λ (x : World). with_record before (events_text (plan w ++ rest x))) is

-- ---- one event, repeated

one_left : (now : World) (j : ℕ) (event : Event) → refusal_of now event ≡ None → repeats (suc j) event now ≡ event ∷ repeats j event (world_after now event)
unfolding repeats
one_left now j event free = rw free refl

none_left : (now : World) (j : ℕ) (event : Event) (error : SimError) → refusal_of now event ≡ Some error → repeats (suc j) event now ≡ []
unfolding repeats
none_left now j event error stop = rw stop refl

never : (now : World) (j : ℕ) (event : Event) → is_some (refusal_of now event) ≡ true → repeats (suc j) event now ≡ []
unfolding repeats
never now j event stop = rw stop refl

no_times : (now : World) (event : Event) → repeats zero event now ≡ []
unfolding repeats
no_times now event = refl

pub told_again : (w : World) (events : List Event) (now next : World) (some : Bool) (j : ℕ) (event : Event) (before text more : Record) → OnwardTold w events now some (repeats (suc j) event now) before text → refusal_of now event ≡ None → next ≡ world_after now event
    → more ≡ with_record text (event_line event) → OnwardTold w events next true (repeats j event next) before more
told_again w events now next some j event before text more o free is told = record {
  onward = again w events now next some j event o.onward free is;
  tells =
      ap (λ (x : Record). with_record x (events_text (repeats j event next))) told ∙ record_then text (event_line event) (events_text (repeats j event next))
      ∙ ap (λ (x : World). with_record text (events_text (event ∷ repeats j event x))) is ∙ ap (λ (x : List Event). with_record text (events_text x)) (sym (one_left now j event free)) ∙ o.tells;
}

pub told_refused : (w : World) (events : List Event) (now next : World) (some : Bool) (j : ℕ) (event : Event) (error : SimError) (before text : Record) → OnwardTold w events now some (repeats (suc j) event now) before text → refusal_of now event ≡ Some error → next ≡ world_after now event
    → HappenedTold w events next some before text
told_refused w events now next some j event error before text o stop is = record {
  happened = refused w events now next some j event error o.onward stop is;
  told = done events (repeats (suc j) event now) before text (none_left now j event error stop) o.tells;
}

-- the event is refused, so it was not tried
pub told_impossible : (w : World) (events : List Event) (now : World) (some : Bool) (j : ℕ) (event : Event) (before text : Record) → OnwardTold w events now some (repeats (suc j) event now) before text → is_some (refusal_of now event) ≡ true
    → HappenedTold w events now some before text
told_impossible w events now some j event before text o stop = record {
  happened = impossible w events now some j event o.onward stop;
  told = done events (repeats (suc j) event now) before text (never now j event stop) o.tells;
}

pub told_no_more : (w : World) (events : List Event) (now : World) (some : Bool) (event : Event) (before text : Record) → OnwardTold w events now some (repeats zero event now) before text → HappenedTold w events now some before text
told_no_more w events now some event before text o = record {
  happened = no_more w events now some event o.onward;
  told = done events (repeats zero event now) before text (no_times now event) o.tells;
}

-- ---- a plan for each item of a list

pub told_part : {A : Type 0} (plan : A → Plan) (xs : List A) (i : ℕ) (d : A) (w : World) (events : List Event) (now next : World) (some any : Bool) (before text more : Record) → i < length xs → OnwardTold w events now some (each plan (drop i xs) now) before text
    → HappenedTold now (plan (get_or xs i d) now) next any text more → OnwardTold w events next (some || any) (each plan (drop (i + 1) xs) next) before more
told_part {A} plan xs i d w events now next some any before text more below o h =
    let e : each plan (drop i xs) now ≡ plan_then (plan (get_or xs i d)) (each plan (drop (i + 1) xs)) now = ap (λ (l : List A). each plan l now) (drop_more xs i d below) in
    record {
      onward = each_part plan xs i d w events now next some any below o.onward h.happened;
      tells =
          text_then now next (plan (get_or xs i d)) (each plan (drop (i + 1) xs)) text more (with_record more (events_text (each plan (drop (i + 1) xs) next))) h.happened.after_is h.told refl
          ∙ ap (λ (x : List Event). with_record text (events_text x)) (sym e) ∙ o.tells;
    }

pub told_ends : {A : Type 0} (plan : A → Plan) (xs : List A) (i : ℕ) (w : World) (events : List Event) (now : World) (some : Bool) (before text : Record) → length xs ≤ i → OnwardTold w events now some (each plan (drop i xs) now) before text → HappenedTold w events now some before text
told_ends {A} plan xs i w events now some before text above o = record {
  happened = each_ends plan xs i w events now some above o.onward;
  told = done events (each plan (drop i xs) now) before text (ap (λ (l : List A). each plan l now) (drop_all i xs above)) o.tells;
}

-- nothing was to be done
pub told_nothing : (w : World) (before : Record) → HappenedTold w [] w false before before
told_nothing w before = record { happened = record { after_is = refl; some_is = refl }; told = sym (same_record before) }

pub told_none : (w : World) (events : List Event) (before : Record) → events ≡ [] → HappenedTold w events w false before before
told_none w events before none = subst (λ (x : List Event). HappenedTold w x w false before before) (sym none) (told_nothing w before)

-- there is no record
pub told_nobody : (w : World) (events : List Event) (next : World) (some : Bool) → Happened w events next some → HappenedTold w events next some None None
told_nobody w events next some h = record { happened = h; told = refl }

-- the items before the next one have nothing to do
pub told_over : (w : World) (events : List Event) (now : World) (some : Bool) (left rest : List Event) (before text : Record) → left ≡ rest → OnwardTold w events now some left before text → OnwardTold w events now some rest before text
told_over w events now some left rest before text over o = subst (λ (x : List Event). OnwardTold w events now some x before text) over o

-- ---- one plan after another

pub told_then : (w mid next : World) (some any : Bool) (plan rest : Plan) (before between after : Record) → HappenedTold w (plan w) mid some before between → HappenedTold mid (rest mid) next any between after → HappenedTold w (plan_then plan rest w) next (some || any) before after
told_then w mid next some any plan rest before between after p q = record {
  happened = Happened-then w mid next some any plan rest p.happened q.happened;
  told = text_then w mid plan rest before between after p.happened.after_is p.told q.told;
}

pub all_told_then : (w mid next : World) (plan rest : Plan) (before between after : Record) → Told w (plan w) mid before between → Told mid (rest mid) next between after → Told w (plan_then plan rest w) next before after
all_told_then w mid next plan rest before between after p q = record {
  after_is = after_then w mid next plan rest p.after_is q.after_is;
  told = text_then w mid plan rest before between after p.after_is p.told q.told;
}

pub all_told : (w : World) (events : List Event) (next : World) (some : Bool) (before after : Record) → HappenedTold w events next some before after → Told w events next before after
all_told w events next some before after h = record { after_is = h.happened.after_is; told = h.told }

-- ---- passes

-- the events that are left of the passes, with the world and the record so far
pub record PassesLeft (w : World) (events : List Event) (now : World) (left : List Event) (before text : Record) : Type 0 where
  pub goes : world_after_all now left ≡ world_after_all w events
  pub tells : with_record text (events_text left) ≡ with_record before (events_text events)

some_is : (xs : List Event) → not (is_empty xs) ≡ true → is_empty xs ≡ false
some_is [] h = absurd cc
some_is (x ∷ xs) h = refl

none_is : (xs : List Event) → not (is_empty xs) ≡ false → xs ≡ []
none_is [] h = refl
none_is (x ∷ xs) h = absurd cc

module _ (nodes : List ℕ) (ends silent : List (ℕ × ℕ)) where
  no_pass : (now : World) (j : ℕ) → step_pass nodes ends silent now ≡ [] → step_passes (suc j) nodes ends silent now ≡ []
  unfolding step_passes
  no_pass now j none = rw none refl

  some_pass : (now next : World) (j : ℕ) → Happened now (step_pass nodes ends silent now) next true → step_passes (suc j) nodes ends silent now ≡ plan_then (step_pass nodes ends silent) (step_passes j nodes ends silent) now
  unfolding step_passes
  some_pass now next j h = rw (some_is (step_pass nodes ends silent now) (sym h.some_is)) refl

  pub told_pass : (w : World) (events : List Event) (now next : World) (j : ℕ) (before text more : Record) → PassesLeft w events now (step_passes (suc j) nodes ends silent now) before text → HappenedTold now (step_pass nodes ends silent now) next true text more
      → PassesLeft w events next (step_passes j nodes ends silent next) before more
  told_pass w events now next j before text more o h = record {
    goes = passes_on now next j nodes ends silent (world_after_all w events) o.goes h.happened;
    tells =
        text_then now next (step_pass nodes ends silent) (step_passes j nodes ends silent) text more (with_record more (events_text (step_passes j nodes ends silent next))) h.happened.after_is h.told refl
        ∙ ap (λ (x : List Event). with_record text (events_text x)) (sym (some_pass now next j h.happened)) ∙ o.tells;
  }

  pub told_last : (w : World) (events : List Event) (now next : World) (j : ℕ) (before text more : Record) → PassesLeft w events now (step_passes (suc j) nodes ends silent now) before text → HappenedTold now (step_pass nodes ends silent now) next false text more → Told w events next before more
  told_last w events now next j before text more o h =
      let none : step_pass nodes ends silent now ≡ [] = none_is (step_pass nodes ends silent now) (sym h.happened.some_is) in
      let same : more ≡ text = h.told ∙ ap (λ (x : List Event). with_record text (events_text x)) none ∙ same_record text in
      record {
        after_is = passes_stop now next j nodes ends silent (world_after_all w events) o.goes h.happened;
        told = same ∙ done events (step_passes (suc j) nodes ends silent now) before text (no_pass now j none) o.tells;
      }

  pub told_passes : (w : World) (events : List Event) (now : World) (before text : Record) → PassesLeft w events now (step_passes zero nodes ends silent now) before text → Told w events now before text
  unfolding step_passes
  told_passes w events now before text o = record { after_is = o.goes; told = done events [] before text refl o.tells }
