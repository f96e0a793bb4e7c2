-- Of one list of events one line is refused, or none is.
use Rattle.std.proofs.Common.{◌≡◌, ◌++◌, ◌∙◌, ℕ, suc, List, [], ◌∷◌, length, refl, ap, sym, subst}
use Rattle.base.specs.declared.event.Event.{Event}
use Rattle.syntax_tree.specs.Plain.{Program}
use Rattle.source_semantics.specs.Config.{Config}
use Rattle.source_semantics.specs.Starts.{Script}
use Rattle.source_semantics.specs.Source.{RunFrom, Step}
use Rattle.source_semantics.specs.Verdicts.{Allowed, IsRefusedAt, Stops}

-- steps are determined
abbrev pub Determined : Type 0
Determined = (g : Program) (s : Script) (c : Config) (e : Event) (a b : Config) → Step g s c e a → Step g s c e b → a ≡ b

module _ (determined : Determined) (g : Program) (s : Script) where
  -- where the first event is another's too, it is allowed
  stops_at : (c : Config) (later more : List Event) (e : Event) (new : Config) → later ≡ e ∷ more → Step g s c e new → Stops g s c later → ⊥
  stops_at c later more e new is step stops = (subst (Stops g s c) is stops) new step

  as_far : (c : Config) (es fs later other : List Event) (one two : Config) → es ++ later ≡ fs ++ other → Allowed g s c es one → Allowed g s c fs two → Stops g s one later → Stops g s two other → length es ≡ length fs
  as_far c [] [] later other one two same allowed also stops ends = refl
  as_far c [] (f ∷ fs) later other one two same allowed also stops ends =
      absurd (stops_at c later (fs ++ other) f also.0 same also.1 (subst (λ (x : Config). Stops g s x later) allowed stops))
  as_far c (e ∷ es) [] later other one two same allowed also stops ends =
      absurd (stops_at c other (es ++ later) e allowed.0 (sym same) allowed.1 (subst (λ (x : Config). Stops g s x other) also ends))
  as_far c (e ∷ es) (f ∷ fs) later other one two same allowed also stops ends =
      let first : e ≡ f = cc in
      let rest : es ++ later ≡ fs ++ other = cc in
      let next : also.0 ≡ allowed.0 = determined g s c f also.0 allowed.0 also.1 (subst (λ (x : Event). Step g s c x allowed.0) first allowed.1) in
      ap (λ n. suc n) (as_far allowed.0 es fs later other one two rest allowed.2 (subst (λ (x : Config). Allowed g s x fs two) next also.2) stops ends)

  pub line_once : (c : Config) (es : List Event) (n m : ℕ) → IsRefusedAt g s c es n → IsRefusedAt g s c es m → n ≡ m
  line_once c es n m one two =
      one.line
      ∙ (ap (λ k. suc k) (as_far c one.earlier two.earlier one.later two.later one.reached two.reached (sym one.parts ∙ two.parts) one.allowed two.allowed one.stops two.stops) ∙ sym two.line)

  runs_on : (c : Config) (es later : List Event) (reached : Config) → RunFrom g s c (es ++ later) → Allowed g s c es reached → Stops g s reached later → ⊥
  runs_on c [] [] reached run allowed stops = (subst (λ (x : Config). Stops g s x []) allowed stops) run
  runs_on c [] (e ∷ later) reached run allowed stops = (subst (λ (x : Config). Stops g s x (e ∷ later)) allowed stops) run.0 run.1
  runs_on c (e ∷ es) later reached run allowed stops =
      runs_on allowed.0 es later reached (subst (λ (x : Config). RunFrom g s x (es ++ later)) (determined g s c e run.0 allowed.0 run.1 allowed.1) run.2) allowed.2 stops

  pub run_or_refused : (c : Config) (es : List Event) (n : ℕ) → RunFrom g s c es → IsRefusedAt g s c es n → ⊥
  run_or_refused c es n run refused = runs_on c refused.earlier refused.later refused.reached (subst (λ (x : List Event). RunFrom g s c x) refused.parts run) refused.allowed refused.stops
