-- From a configuration an event leads to at most one configuration.
use Rattle.std.specs.Prelude.{◌≡◌, List, [], ◌∷◌}
use Rattle.std.proofs.Common.{sym, ◌∙◌, ap, inl, inr}
use Rattle.base.proofs.Lists.{one_some}
use Rattle.base.specs.declared.event.Event.{Event}
use Rattle.syntax_tree.specs.Plain.{Program}
use Rattle.source_semantics.specs.Config.{Config}
use Rattle.source_semantics.specs.Starts.{Script}
use Rattle.source_semantics.specs.Source.{Step, Acts, acts, job_next}

some_first : {A : Type 0} {e : A} {l m : List A} → m ≡ e ∷ l → m ≡ [] → ⊥
some_first p q = cc

same_acts : (g : Program) (s : Script) (c : Config) (e : Event) (a b : Config) → Acts g s c e a → Acts g s c e b → a ≡ b
same_acts g s c e a b x y =
    let one_process : x.process ≡ y.process = one_some x.text y.text in
    let one_job : x.job ≡ y.job = one_some x.state y.state in
    x.after ∙ (ap (λ p. (acts g s c e.tick e.proc (job_next c e.proc p x.job g)).config) one_process
    ∙ (ap (λ j. (acts g s c e.tick e.proc (job_next c e.proc y.process j g)).config) one_job ∙ sym y.after))

pub one_after : (g : Program) (s : Script) (c : Config) (e : Event) (a b : Config) → Step g s c e a → Step g s c e b → a ≡ b
one_after g s c e a b x y =
    elim x.comes [
      | inl p ↦ elim y.comes [
        | inl q ↦ p.after ∙ sym q.after
        | inr q ↦ absurd (some_first p.first q.none_due)
      ]
      | inr p ↦ elim y.comes [
        | inl q ↦ absurd (some_first q.first p.none_due)
        | inr q ↦ same_acts g s c e a b p q
      ]
    ]
