-- Why a new router is refused, as a code.
--     coded          the code of the error is that of the first cause
--     unrefused      without a cause, the only error is that memory ran out
use Rattle.std.proofs.Common.{◌≡◌, ◌⊎◌, inr, ℕ, List, Option, Some, None, Result, Ok, Err, MatchOption, sym, ap, ◌∙◌, subst}
use Rattle.std.specs.Prelude.{option_map}
use Rattle.std.specs.Option.{option_map_or}
use Rattle.tora_router.specs.declared.config.Config.{Config}
use Rattle.tora_router.specs.declared.router_error.RouterError.{RouterError}
use Rattle.tora_router.specs.declared.router_error.RouterError.TheVariants.{Memory}
use Rattle.tora_router.specs.Refusals.{router_refusal}
use Rattle.tora_c.specs.declared.codes.TheConstants.{OK, CHOICE, MEMORY}
use Rattle.tora_c.specs.Codes.{router_code}

abbrev code_of : {X : Type 0} → Result X RouterError → ℕ
code_of (Ok made) = OK
code_of (Err error) = router_code error

pub coded : (X Y : Type 0) (refusal : Option RouterError) (error : RouterError) (code : ℕ) → code ≡ router_code error
    → MatchOption refusal (error ≡ Memory) (λ (e : RouterError). ◌≡◌ {A = Result X RouterError} (Err error) (Err e))
    → MatchOption refusal (code ≡ MEMORY) (λ (e : RouterError). ◌≡◌ {A = Result Y ℕ} (Err code) (Err (router_code e)))
coded X Y None error code is says = is ∙ ap router_code says
coded X Y (Some e) error code is says = ap (λ (c : ℕ). Err c) (is ∙ ap (λ (it : Result X RouterError). code_of it) says)

abbrev refusal_with : List ℕ → List ℕ → ℕ → Option Config → Option ℕ
refusal_with neighbours destinations first_life configured =
    option_map_or (λ config. option_map router_code (router_refusal config neighbours destinations first_life))
    configured (Some CHOICE)

abbrev Answers : Option ℕ → ℕ → Type 0
Answers refusal code = MatchOption refusal ((code ≡ OK) ⊎ (code ≡ MEMORY)) (λ (c : ℕ). code ≡ c)

pub unrefused : (neighbours destinations : List ℕ) (first_life : ℕ) (configured : Option Config) (config : Config) (code : ℕ)
    → Some config ≡ configured → router_refusal config neighbours destinations first_life ≡ None → code ≡ MEMORY
    → Answers (refusal_with neighbours destinations first_life configured) code
unrefused neighbours destinations first_life configured config code chosen accepted memory =
    let none : Answers (refusal_with neighbours destinations first_life (Some config)) code =
    subst (λ (it : Option RouterError). Answers (option_map router_code it) code) (sym accepted) (inr memory) in
    subst (λ (it : Option Config). Answers (refusal_with neighbours destinations first_life it) code) chosen none
