-- The start event that is due next stands at one tick.
use Rattle.std.specs.Prelude.{◌≡◌, ℕ, suc, ◌≤◌, ◌<◌, List, [], ◌∷◌}
use Rattle.std.proofs.Common.{refl, sym, ◌∙◌, ap, inl, inr, subst, arith}
use Rattle.std.proofs.lemmas.Bool.{cases_lt}
use Rattle.base.specs.declared.event.Event.{Event}
use Rattle.syntax_tree.specs.Plain.{Program}
use Rattle.source_semantics.specs.Config.{Config}
use Rattle.source_semantics.specs.Starts.{NoneMissing, Script, due}
use Rattle.source_semantics.specs.Source.{Step, after_start}
use Rattle.replay_reason_spec.specs.Missing.{IsNextStart, MayCome}
use Rattle.replay_reason_spec.specs.Reasons.{IsInReach}

module _ (g : Program) (s : Script) (c : Config) where
  -- before the tick reached none is missing
  pub none_yet : NoneMissing g s c c.tick
  none_yet u low high = absurd (omega (arith, low, high))

  -- nor before an earlier tick
  pub none_less : (t u : ℕ) → u ≤ t → NoneMissing g s c t → NoneMissing g s c u
  none_less t u before none i low high = none i low (omega (arith, before, high))

  -- one tick more
  pub none_more : (t : ℕ) → NoneMissing g s c t → due g s c t ≡ [] → NoneMissing g s c (suc t)
  none_more t none now i low high = elim (cases_lt i t) [
    | inl lt ↦ none i low lt
    | inr ge ↦ let same : t ≡ i = omega (arith, ge, high) in subst (λ k. due g s c k ≡ []) same now
  ]

  -- where none is missing before a tick, none is the next before it
  pub next_is_some : (t : ℕ) (e : Event) → NoneMissing g s c t → IsNextStart g s c t e → ⊥
  next_is_some t e none next = let no : e ∷ next.later ≡ [] = sym next.first ∙ none e.tick next.reached next.before in absurd cc

  -- before some tick one is missing at the latest where it is before another
  pub next_within : (t u : ℕ) (e : Event) → IsNextStart g s c t e → e.tick < u → IsNextStart g s c u e
  next_within t u e next before = record { reached = next.reached; before = before; none_before = next.none_before; later = next.later; first = next.first }

  not_sooner : (t u : ℕ) (e x : Event) → IsNextStart g s c t e → IsNextStart g s c u x → e.tick < x.tick → ⊥
  not_sooner t u e x one two sooner = let no : e ∷ one.later ≡ [] = sym one.first ∙ two.none_before e.tick one.reached sooner in absurd cc

  -- it is one event
  pub next_is_one : (t u : ℕ) (e x : Event) → IsNextStart g s c t e → IsNextStart g s c u x → e ≡ x
  next_is_one t u e x one two = elim (cases_lt e.tick x.tick) [
    | inl lt ↦ absurd (not_sooner t u e x one two lt)
    | inr ge ↦ elim (cases_lt x.tick e.tick) [
      | inl lt ↦ absurd (not_sooner u t x e two one lt)
      | inr le ↦
          let same : e.tick ≡ x.tick = omega (arith, ge, le) in
          let lists : e ∷ one.later ≡ x ∷ two.later = sym one.first ∙ (ap (due g s c) same ∙ two.first) in
          let is : e ≡ x = cc in is
    ]
  ]

  -- where it may come, it is allowed
  pub next_steps : (e : Event) → IsInReach s c e → IsNextStart g s c (suc e.tick) e → MayCome c e → Step g s c e (after_start g c e)
  next_steps e reach next may = record {
    before_end = reach.before_end;
    reached = reach.reached;
    none_missing = next.none_before;
    comes = inl (record { later = next.later; first = next.first; may_start = may; after = refl });
  }
