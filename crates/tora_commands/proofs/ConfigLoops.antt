-- A list that is read value by value, as a loop reads it.
use Rattle.std.proofs.Common.{◌≡◌, ◌∙◌, sym, ap, ℕ, ◌+◌, ◌<◌, ◌≤◌, List, [], ◌∷◌, ◌++◌, length, get_or, drop, Result, Ok, Err}
use Rattle.std.proofs.lemmas.List.{drop_all}
use Rattle.toml.specs.Data.{Data}
use Rattle.toml.specs.View.{view, items_view}
use Rattle.toml.specs.declared.value.Value.{Value}
use Rattle.toml.proofs.Views.{items_view-drop}
use Rattle.tora_commands.specs.ConfigRefusal.{Fault}
use Rattle.tora_commands.specs.declared.configuration.fault.ConfigError.{ConfigError}
use Rattle.tora_commands.specs.declared.configuration.fault.ConfigError.TheVariants as Error
use Rattle.tora_commands.specs.ConfigReading.{◌>>=◌, each_from, Fails}

-- the result of reading the values from index i on, after the items before them
abbrev pub rest_of : {A : Type 0} → (List A → Data → Result A Fault) → List A → ℕ → List Value → Result (List A) Fault
rest_of read before i values = each_from read before (items_view (drop i values))

at_value : {A : Type 0} (read : List A → Data → Result A Fault) (before : List A) (i : ℕ) (values : List Value) (v : Value) → i < length values
    → rest_of read before i values ≡ (read before (view (get_or values i v)) >>= λ next. rest_of read (before ++ next ∷ []) (i + 1) values)
at_value read before i values v below = ap (each_from read before) (items_view-drop values i v below)

pub goes_on : {A : Type 0} (read : List A → Data → Result A Fault) (before : List A) (next : A) (i : ℕ) (values : List Value) (v : Value) (total : Result (List A) Fault)
    → i < length values → v ≡ get_or values i v → read before (view v) ≡ Ok next → rest_of read before i values ≡ total → rest_of read (before ++ next ∷ []) (i + 1) values ≡ total
goes_on {A = A} read before next i values v total below is given so_far =
    let here : read before (view (get_or values i v)) ≡ Ok next = ap (λ (x : Value). read before (view x)) (sym is) ∙ given in
    sym (ap (λ (r : Result A Fault). r >>= λ x. rest_of read (before ++ x ∷ []) (i + 1) values) here) ∙ sym (at_value read before i values v below) ∙ so_far

stops : {A : Type 0} (f : Fault) (read : List A → Data → Result A Fault) (before : List A) (i : ℕ) (values : List Value) (v : Value) (total : Result (List A) Fault)
    → i < length values → v ≡ get_or values i v → read before (view v) ≡ Err f → rest_of read before i values ≡ total → total ≡ Err f
stops {A = A} f read before i values v total below is given so_far =
    let here : read before (view (get_or values i v)) ≡ Err f = ap (λ (x : Value). read before (view x)) (sym is) ∙ given in
    sym so_far ∙ at_value read before i values v below ∙ ap (λ (r : Result A Fault). r >>= λ x. rest_of read (before ++ x ∷ []) (i + 1) values) here

pub ends : {A : Type 0} (e : ConfigError) (read : List A → Data → Result A Fault) (before : List A) (i : ℕ) (values : List Value) (v : Value) (total : Result (List A) Fault)
    → i < length values → v ≡ get_or values i v → Fails e (read before (view v)) → rest_of read before i values ≡ total → Fails e total
ends Error.Memory read before i values v total below is fails so_far = tt
ends (Error.Syntax x) read before i values v total below is fails so_far = absurd fails
ends (Error.UnknownKey key) read before i values v total below is fails so_far = stops _ read before i values v total below is fails so_far
ends (Error.UnknownLinkKey n key) read before i values v total below is fails so_far = stops _ read before i values v total below is fails so_far
ends (Error.Value place reason) read before i values v total below is fails so_far = stops _ read before i values v total below is fails so_far
ends (Error.Core x) read before i values v total below is fails so_far = stops _ read before i values v total below is fails so_far

pub is_done : {A : Type 0} (read : List A → Data → Result A Fault) (before : List A) (i : ℕ) (values : List Value) (total : Result (List A) Fault)
    → length values ≤ i → rest_of read before i values ≡ total → total ≡ Ok before
is_done read before i values total end so_far = sym so_far ∙ ap (λ (vs : List Value). each_from read before (items_view vs)) (drop_all i values end)
