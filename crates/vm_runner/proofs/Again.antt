-- A process that goes on as it stood.
use Rattle.std.proofs.Common.{◌≡◌, ◌≢◌, ℕ, List, Some, inl, inr, length, ap, subst, sym, ◌∙◌}
use Rattle.std.specs.Prelude.{slice_get, slice_set}
use Rattle.std.proofs.lemmas.List.{length-set}
use Rattle.base.proofs.Lists.{get_other, get_set, one_some, same_elements}
use Rattle.machine_semantics.specs.Image.{Image}
use Rattle.machine_semantics.specs.State.{Job, Thread, Ready}
use Rattle.vm_stretch.proofs.Lists.{same_or_not}
use Rattle.vm_instructions.specs.declared.activation.Activation.{Activation as Kept}
use Rattle.vm_instructions.specs.Silent.{job_of}
use Rattle.vm_state.specs.declared.threads.SchedulingState.{SchedulingState}
use Rattle.vm_state.specs.declared.threads.SchedulingState.TheVariants as stand
use Rattle.vm_state.specs.Threads.{thread_by}
use Rattle.vm_runner.specs.declared.ranking.Ranking.{Ranking}
use Rattle.vm_runner.specs.Ranking.{IsNumber, IsRanking}

-- where one thread alone changes, the others are those of before
pub one_changes : (old new : List Thread) (k : ℕ) (th was : Thread) → length new ≡ length old → slice_get old k ≡ Some was → slice_get new k ≡ Some th → ((j : ℕ) → j ≢ k → slice_get new j ≡ slice_get old j) → new ≡ slice_set old k th
one_changes old new k th was count at here others =
    same_elements new (slice_set old k th) (count ∙ sym (length-set old k th))
    (λ j x y at_x at_y. elim (same_or_not j k) [
      | inl same ↦
          one_some (subst (λ (i : ℕ). slice_get new i ≡ Some x) same at_x) here
          ∙ sym (one_some (subst (λ (i : ℕ). slice_get (slice_set old k th) i ≡ Some y) same at_y) (get_set old k th was at))
      | inr apart ↦ one_some at_x (others j apart ∙ sym (get_other old k j th (λ is. apart (sym is))) ∙ at_y)
    ])

-- a cell that is ready has the monitor of its process
pub inside_of : (at : SchedulingState) (kept : Kept) (job : Job) → thread_by at kept ≡ Ready job → kept.inside ≡ job.inside
inside_of stand.Idle kept job is = absurd cc
inside_of stand.Ready kept job is = let same : job_of kept ≡ job = cc in ap (λ (j : Job). j.inside) same
inside_of (stand.Waiting c due number) kept job is = absurd cc

-- the ranking stays, for nobody is chosen by what has changed
pub ranking_stays : (image : Image) (ts : List Thread) (k : ℕ) (job new : Job) (r : Ranking) → slice_get ts k ≡ Some (Ready job) → new.inside ≡ job.inside → IsRanking image ts r → IsRanking image (slice_set ts k (Ready new)) r
ranking_stays image ts k job new r at inside is = record {
  few = is.few;
  all = length-set ts k (Ready new) ∙ is.all;
  count = is.count;
  numbers = λ j p th a at_p at_th at_a. elim (same_or_not j k) [
    | inl same ↦
        let there : th ≡ Ready new = one_some (subst (λ (i : ℕ). slice_get (slice_set ts k (Ready new)) i ≡ Some th) same at_th) (get_set ts k (Ready new) (Ready job) at) in
        let number : IsNumber image j p (Ready job) a.number = is.numbers j p (Ready job) a at_p (subst (λ (i : ℕ). slice_get ts i ≡ Some (Ready job)) (sym same) at) at_a in
        subst (λ (x : Thread). IsNumber image j p x a.number) (sym there) (subst (λ (i : _). IsNumber image j p (Ready (record job { inside = i })) a.number) (sym inside) number)
    | inr apart ↦ is.numbers j p th a at_p (sym (get_other ts k j (Ready new) (λ is. apart (sym is))) ∙ at_th) at_a
  ];
  least = is.least;
}
