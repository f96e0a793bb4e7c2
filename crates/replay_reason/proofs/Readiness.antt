-- The process that is to act.
use Rattle.std.specs.Prelude.{◌≡◌, ◌↔◌, ◌<◌, ℕ, suc, IsTrue, Bool, true, false, List, [], ◌∷◌, length}
use Rattle.std.proofs.Common.{refl, sym, ◌∙◌}
use Rattle.std.proofs.lemmas.Option.{slice_get_within}
use Rattle.syntax_tree.specs.Plain.{Program}
use Rattle.source_semantics.specs.Config.{Config}
use Rattle.source_semantics.specs.Source.{before, is_empty, ready_from}
use Rattle.replay_accept.specs.Judged.{IsReady}
use Rattle.replay_reason_spec.specs.Reasons.{ActsNext}

-- a process that is ready is one of those that there are
pub within : (c : Config) (k : ℕ) → IsReady c k → k < length c.jobs
within c k ready = slice_get_within c.jobs k ready.job ready.state

empty_is : (l : List ℕ) → IsTrue (is_empty l) ↔ (l ≡ [])
empty_is [] = (λ h. refl, λ h. refl)
empty_is (k ∷ ks) = (λ h. absurd cc, λ h. absurd cc)

pub is_next : (g : Program) (c : Config) (k : ℕ) (r : Bool) → IsReady c k → r ≡ is_empty (before g c k (ready_from 0 c.jobs)) → IsTrue r ↔ ActsNext g c k
is_next g c k r ready is = (
  λ h. record { job = ready.job; state = ready.state; ready = ready.ready; first = (empty_is (before g c k (ready_from 0 c.jobs))).0 (sym is ∙ h) },
  λ next. is ∙ (empty_is (before g c k (ready_from 0 c.jobs))).1 next.first,
)

-- a process that is not ready is not to act
pub not_ready : (g : Program) (c : Config) (k : ℕ) (r : Bool) → IsTrue r ↔ IsReady c k → r ≡ false → IsTrue false ↔ ActsNext g c k
not_ready g c k r either is = (
  λ h. absurd cc,
  λ next. (let yes : r ≡ true = either.1 (record { job = next.job; state = next.state; ready = next.ready }) in absurd cc),
)
