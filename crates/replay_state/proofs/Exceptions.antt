-- What a process does after an exception.
use Rattle.std.specs.Prelude.{◌≡◌, ℕ, zero, suc, List, [], ◌∷◌, Option, Some, None, option_map, slice_get}
use Rattle.std.proofs.Common.{refl, sym, ◌∙◌, ap}
use Rattle.syntax_tree.specs.Plain.{Process, Program}
use Rattle.source_semantics.specs.Names.{processes}
use Rattle.source_semantics.specs.Config.{Config, Job, changed, with_jobs}
use Rattle.source_semantics.specs.Source.{job_after_raise, on_text}
use Rattle.replay_state.specs.Texts.{After, IsAfter, IsPrepared, handling_at, raised_job}

changed_alike : {A : Type 0} (f h : A → A) (k : ℕ) (xs : List A) → ((x : A) → slice_get xs k ≡ Some x → f x ≡ h x) → changed f k xs ≡ changed h k xs
changed_alike f h k [] same = refl
changed_alike f h zero (x ∷ xs) same = ap (λ y. y ∷ xs) (same x refl)
changed_alike f h (suc k) (x ∷ xs) same = ap (λ l. x ∷ l) (changed_alike f h k xs same)

changed_none : {A : Type 0} (f : A → A) (k : ℕ) (xs : List A) → slice_get xs k ≡ None → changed f k xs ≡ xs
changed_none f k [] none = refl
changed_none f zero (x ∷ xs) none = absurd cc
changed_none f (suc k) (x ∷ xs) none = ap (λ l. x ∷ l) (changed_none f k xs none)

pub prepared_some : (g : Program) (k n : ℕ) (c : Config) (p : Process) (j : Job) (a : After) → slice_get (processes g) k ≡ Some p → slice_get c.jobs k ≡ Some j → IsAfter g p n j.handling a
    → IsPrepared g k n c (Some a)
prepared_some g k n c p j a text state is = λ d same.
    ap (λ o. on_text (λ q i. job_after_raise g n q.handler i) o k d) text
    ∙ ap (with_jobs d) (changed_alike (job_after_raise g n p.handler) (raised_job a) k d.jobs (λ i got.
    is i (let e : Some i.handling ≡ Some j.handling = sym (ap (option_map (λ (x : Job). x.handling)) got) ∙ (same ∙ ap (option_map (λ (x : Job). x.handling)) state) in cc)))

pub prepared_no_job : (g : Program) (k n : ℕ) (c : Config) → slice_get c.jobs k ≡ None → IsPrepared g k n c None
prepared_no_job g k n c none = λ d same. by_case (slice_get (processes g) k) d (nobody d (slice_get d.jobs k) refl same)
  where
    nobody : (d : Config) (o : Option Job) → slice_get d.jobs k ≡ o → handling_at k d ≡ handling_at k c → slice_get d.jobs k ≡ None
    nobody d None e same = e
    nobody d (Some j) e same =
        let is : Some j.handling ≡ None = sym (ap (option_map (λ (x : Job). x.handling)) e) ∙ (same ∙ ap (option_map (λ (x : Job). x.handling)) none) in absurd cc

    by_case : (o : Option Process) (d : Config) → slice_get d.jobs k ≡ None → on_text (λ q i. job_after_raise g n q.handler i) o k d ≡ d
    by_case None d e = refl
    by_case (Some p) d e = ap (with_jobs d) (changed_none (job_after_raise g n p.handler) k d.jobs e)
