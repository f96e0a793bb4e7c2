-- An action of a process leaves every other process as it is, but for waking it.
use Rattle.std.specs.Prelude.{◌≡◌, ℕ, zero, suc, true, List, [], ◌∷◌, Option, Some, None, slice_get}
use Rattle.std.proofs.Common.{refl, sym, ◌∙◌, ap, inl, inr}
use Rattle.syntax_tree.specs.Plain.{Program, Process}
use Rattle.source_semantics.specs.Names.{processes}
use Rattle.source_semantics.specs.Store.{Vars}
use Rattle.source_semantics.specs.Run.{Action, gets, puts, enters, leaves, waits, signals, broadcasts, asks_empty, raises, ends}
use Rattle.source_semantics.specs.Config.{Job, Config, changed, woken, wake_all, inside, leave, vacate, with_jobs, queue, at_tick}
use Rattle.source_semantics.specs.Starts.{Script}
use Rattle.source_semantics.specs.Next.{Next}
use Rattle.source_semantics.specs.Source.{effect, acts, saved, signalled, Stays, on_text, save_job, save_hold, job_after_raise}

other_place : {A : Type 0} (f : A → A) (k j : ℕ) (xs : List A) → (j ≡ k → ⊥) → slice_get (changed f k xs) j ≡ slice_get xs j
other_place f k j [] apart = refl
other_place f zero zero (x ∷ xs) apart = absurd (apart refl)
other_place f zero (suc j) (x ∷ xs) apart = refl
other_place f (suc k) zero (x ∷ xs) apart = refl
other_place f (suc k) (suc j) (x ∷ xs) apart = other_place f k j xs (λ e. apart (ap suc e))

woken_one : (k j : ℕ) (js : List Job) → Stays j js (changed woken k js)
woken_one k j [] = inl refl
woken_one zero zero (x ∷ xs) = inr (x, refl, refl)
woken_one zero (suc j) (x ∷ xs) = inl refl
woken_one (suc k) zero (x ∷ xs) = inl refl
woken_one (suc k) (suc j) (x ∷ xs) = woken_one k j xs

stays_on : (j : ℕ) (a b d : List Job) → Stays j a b → Stays j b d → Stays j a d
stays_on j a b d h k = elim h [
  | inl same ↦ elim k [ inl again ↦ inl (again ∙ same) | inr w ↦ inr (w.0, sym same ∙ w.1, w.2) ]
  | inr v ↦ elim k [
    | inl again ↦ inr (v.0, v.1, again ∙ v.2)
    | inr w ↦ let one : woken v.0 ≡ w.0 = cc in inr (v.0, v.1, w.2 ∙ ap (λ x. Some (woken x)) (sym one))
  ]
]

woken_all : (ks : List ℕ) (j : ℕ) (js : List Job) → Stays j js (wake_all ks js)
woken_all [] j js = inl refl
woken_all (k ∷ ks) j js = stays_on j js (changed woken k js) (wake_all ks (changed woken k js)) (woken_one k j js) (woken_all ks j (changed woken k js))

same : (j : ℕ) (js ks : List Job) → ks ≡ js → Stays j js ks
same j js ks e = inl (ap (λ l. slice_get l j) e)

apart_stays : (f : Job → Job) (k j : ℕ) (js : List Job) → (j ≡ k → ⊥) → Stays j js (changed f k js)
apart_stays f k j js apart = inl (other_place f k j js apart)

vacate_jobs : (m : Option ℕ) (c : Config) → (vacate m c).jobs ≡ c.jobs
vacate_jobs None c = refl
vacate_jobs (Some m) c = refl

save_jobs : (m : Option ℕ) (vs : Vars) (c : Config) → (save_hold m vs c).jobs ≡ c.jobs
save_jobs None vs c = refl
save_jobs (Some m) vs c = refl

text_stays : (f : Process → Job → Job) (p : Option Process) (k j : ℕ) (c : Config) → (j ≡ k → ⊥) → Stays j c.jobs (on_text f p k c).jobs
text_stays f None k j c apart = same j c.jobs c.jobs refl
text_stays f (Some p) k j c apart = apart_stays (f p) k j c.jobs apart

signal_stays : (x j : ℕ) (q : List ℕ) (c : Config) → Stays j c.jobs (signalled x q c).config.jobs
signal_stays x j [] c = same j c.jobs c.jobs refl
signal_stays x j (k ∷ ks) c = woken_one k j c.jobs

effect_stays : (g : Program) (s : Script) (t k : ℕ) (a : Action) (c : Config) (j : ℕ) → (j ≡ k → ⊥) → Stays j c.jobs (effect g s t k a c).config.jobs
effect_stays g s t k (gets d) c j apart = apart_stays _ k j c.jobs apart
effect_stays g s t k (puts d v) c j apart = same j c.jobs c.jobs refl
effect_stays g s t k (enters m) c j apart = same j c.jobs c.jobs refl
effect_stays g s t k (leaves m) c j apart = same j c.jobs _ (vacate_jobs (inside c k) c)
effect_stays g s t k (waits x limit n) c j apart = apart_stays _ k j c.jobs apart
effect_stays g s t k (signals x) c j apart = signal_stays x j (queue c x) c
effect_stays g s t k (broadcasts x) c j apart = woken_all (queue c x) j c.jobs
effect_stays g s t k (asks_empty x) c j apart = apart_stays _ k j c.jobs apart
effect_stays g s t k (raises n) c j apart =
    stays_on j c.jobs (leave c k).jobs _ (same j c.jobs _ (vacate_jobs (inside c k) c)) (text_stays (λ p b. job_after_raise g n p.handler b) (slice_get (processes g) k) k j (leave c k) apart)
effect_stays g s t k ends c j apart = apart_stays _ k j c.jobs apart

-- What process k does leaves every other process as it is, but for waking it.
pub others_stay : (g : Program) (s : Script) (c : Config) (t k : ℕ) (n : Next) (j : ℕ) → (j ≡ k → ⊥) → Stays j c.jobs (acts g s c t k n).config.jobs
others_stay g s c t k n j apart =
    let d : Config = at_tick c t true in
    stays_on j c.jobs (saved d k n).jobs _
    (stays_on j c.jobs (changed (save_job n) k c.jobs) _ (apart_stays (save_job n) k j c.jobs apart) (same j _ _ (save_jobs (inside d k) n.monitor (with_jobs d (changed (save_job n) k c.jobs)))))
    (effect_stays g s t k n.action (saved d k n) j apart)
