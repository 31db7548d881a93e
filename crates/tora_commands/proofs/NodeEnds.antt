-- How a node ends.
use Rattle.std.proofs.Common.{◌≡◌, ◌⊎◌, ◌+◌, ◌++◌, ◌∷◌, [], inl, inr, ◌∙◌, sym, ap, subst, ℕ, Bool, true, false, List, Option, length, map, Result, Ok, Err, rules}
use Rattle.std.proofs.lemmas.List.{length-map, replicate-append-replicate}
use Rattle.std.specs.Prelude.{IfOk, Some, replicate}
use Rattle.std.specs.declared.io.Error.{Error}
use Rattle.toml.specs.Data.{Members}
use Rattle.toml.specs.Parse.{parse_document}
use Rattle.tora_commands.specs.ConfigEndpoints.{said_endpoint, endpoints_in}
use Rattle.tora_commands.specs.declared.configuration.NodeConfig.{NodeConfig}
use Rattle.tora_commands.specs.declared.configuration.endpoints.LinkEndpoint.{LinkEndpoint}
use Rattle.tora_simulate.specs.Paths.{IsRead}
use Rattle.tora_core.specs.CoreRun.{CoreView}
use Rattle.tora_life.specs.declared.numbers.LifeError.{LifeError}
use Rattle.tora_neighbour.specs.declared.wire.WireError.{WireError}
use Rattle.tora_node.specs.NodeRuns.{EndedView}
use Rattle.tora_node.specs.WholeRuns.{NodeAnswers}
use Rattle.tora_node.specs.declared.fault.NodeError.{NodeError}
use Rattle.tora_commands.specs.Statuses.{EndsNode, HasNoKey, HasNoEndpoints, HasEndpoints, IsConfigOf, IsConfigured, IsNoConfig, IsRefused, IsUnconfigured, IsUneven, IsUnstarted, RanAndEnded, status_of_node}
use Rattle.tora_node.specs.declared.fault.NodeError.TheVariants.{Memory as NoRoom}

-- as many items were made as there are endpoints
pub endpoints_had : {K E : Type 0} (text : List ℕ) (endpoints : List LinkEndpoint) (count : K → ℕ) (made : Result K E) → ((table : Members) → parse_document text ≡ Some table → endpoints_in table ≡ Ok (map said_endpoint endpoints))
    → IfOk made (λ k. count k ≡ length endpoints) → IfOk made (λ k. HasEndpoints text (count k))
endpoints_had text endpoints count (Ok k) exact is = record { endpoints = map said_endpoint endpoints; exact = exact; count_is = length-map endpoints said_endpoint ∙ sym is }
endpoints_had text endpoints count (Err e) exact is = search rules

-- one more copy of the same value
pub one_more_of : {C : Type 0} (n : ℕ) (clock : C) (all : List C) → all ≡ replicate n clock → all ++ clock ∷ [] ≡ replicate (n + 1) clock
one_more_of {C = C} n clock all same = ap (λ (t : List C). t ++ clock ∷ []) same ∙ replicate-append-replicate n 1 clock

module _ {R : Type 0} (did_open : List ℕ → Result R Error → Type 0) where
  pub by_config : (text : List ℕ) (status : ℕ) → IsNoConfig text status ⊎ (status ≡ 5) → IsRefused did_open text status
  by_config text status (inl fault) = inl fault
  by_config text status (inr memory) = inr (inr (inr (inr memory)))

  pub by_endpoints : (text : List ℕ) (status : ℕ) → HasNoEndpoints text status ⊎ (HasNoKey did_open status ⊎ (status ≡ 5)) → IsRefused did_open text status
  by_endpoints text status fault = inr (inr fault)

  pub by_count : (text : List ℕ) (config : NodeConfig) (status : ℕ) → IsConfigOf text config → IsUneven text config status → IsRefused did_open text status
  by_count text config status says uneven = inr (inl (config, says, uneven))

  -- a fault of a text is the refusal of the file from which it was read
  pub refused : (did_read : R → Result (List ℕ) Error → Type 0) (remaining : R → Option (List ℕ)) (path text said : List ℕ) (status : ℕ) → said ≡ text
      → IsRead (did_open path) did_read remaining text → IsRefused did_open said status → IsUnconfigured did_open did_read remaining path status
  refused did_read remaining path text said status same read fault = inr (text, read, subst (λ (t : List ℕ). IsRefused did_open t status) same fault)

  -- how a node ends without a configuration, after its configuration was only checked, and after it was run
  module _ (W : Type 0) (did_read : R → Result (List ℕ) Error → Type 0) (remaining : R → Option (List ℕ)) (path : List ℕ) (answers : NodeConfig → Result EndedView NodeError → Type 0) (old new : W) (is_check : Bool) where
    pub unconfigured : (fault status : ℕ) → status ≡ fault → IsUnconfigured did_open did_read remaining path fault → new ≡ old → EndsNode is_check did_open did_read remaining path answers old new status
    unconfigured fault status same refuses nothing = inl (subst (λ (s : ℕ). IsUnconfigured did_open did_read remaining path s) (sym same) refuses, nothing)

    pub only_read : (config : NodeConfig) (status : ℕ) → IsConfigured did_open did_read remaining path config → is_check ≡ true → status ≡ 0 → new ≡ old → EndsNode is_check did_open did_read remaining path answers old new status
    only_read config status is checks zero nothing = inr (config, is, inl (checks, zero, nothing))

    pub unstarted : (config : NodeConfig) (fault status : ℕ) → IsConfigured did_open did_read remaining path config → is_check ≡ false → status ≡ fault → IsUnstarted fault → new ≡ old → EndsNode is_check did_open did_read remaining path answers old new status
    unstarted config fault status is checks same un nothing = inr (config, is, inr (checks, inl (subst IsUnstarted (sym same) un, nothing)))

    pub run_to_end : (config : NodeConfig) (status : ℕ) → IsConfigured did_open did_read remaining path config → is_check ≡ false
        → (IsUnstarted status × (new ≡ old)) ⊎ RanAndEnded (answers config) status → EndsNode is_check did_open did_read remaining path answers old new status
    run_to_end config status is checks (inl un) = inr (config, is, inr (checks, inl un))
    run_to_end config status is checks (inr ran) = inr (config, is, inr (checks, inr ran))

pub map_right : {A B C : Type 0} → A ⊎ B → (B → C) → A ⊎ C
map_right (inl a) f = inl a
map_right (inr b) f = inr (f b)

-- memory ran out before a node ran, or it ran
pub ran_or_memory : (W : Type 0) (old new : W) (answers : Result EndedView NodeError → Type 0) (ended : Result EndedView NodeError) (status : ℕ) → status ≡ status_of_node ended
    → ((ended ≡ Err NoRoom) × (new ≡ old)) ⊎ answers ended → (IsUnstarted status × (new ≡ old)) ⊎ RanAndEnded answers status
ran_or_memory W old new answers ended status is (inl memory) = inl (inr (inr (is ∙ ap status_of_node memory.0)), memory.1)
ran_or_memory W old new answers ended status is (inr ran) = inr (record { ended = ended; answer = ran; status_is = is })

-- the results of a node that began with one core, if that is equal to another core
pub answers_of : {W D C Wr : Type 0} (send : W → List ℕ → Result (Unit {0}) WireError → W → Type 0) (receive : W → Result (Option ℕ) WireError → List ℕ → W → Type 0) (tell : C → ℕ → C → Type 0) (opened : ℕ → ℕ → D → Result ℕ LifeError → Type 0)
    (contents : Wr → Option (List ℕ)) (first core : CoreView) (wires : List W) (disks : List D) (clocks : List C) (clock : C) (input : Option (List ℕ)) (writer : Wr) (left : Option Wr) (answer : Result EndedView NodeError)
    → first ≡ core → NodeAnswers send receive tell opened contents first wires disks clocks clock input writer left answer → NodeAnswers send receive tell opened contents core wires disks clocks clock input writer left answer
answers_of send receive tell opened contents first core wires disks clocks clock input writer left answer same given = subst (λ (x : CoreView). NodeAnswers send receive tell opened contents x wires disks clocks clock input writer left answer) same given
