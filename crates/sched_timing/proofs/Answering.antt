-- The image with a process that an event releases meets the premise.
use Rattle.std.proofs.Common.{◌≡◌, ◌≤◌, ◌<◌, ◌+◌, ◌-◌, ◌⊎◌, inl, inr, ℕ, zero, suc, List, [], ◌∷◌, Some, arith, refl, ap, subst}
use Rattle.std.specs.Prelude.{slice_get, pos}
use Rattle.machine_isa.specs.declared.instr.Instr.{Instr}
use Rattle.machine_isa.specs.declared.instr.Instr.TheVariants as i
use Rattle.base.specs.Capped.{cap}
use Rattle.sched_response.specs.Demand.{IsTask, Solves, demand_at}
use Rattle.machine_semantics.specs.Image.{Process, Line, Occurs}
use Rattle.machine_semantics.specs.Safe.{ProcessFits, ImageFits, part_of}
use Rattle.machine_semantics.specs.Work.{worst_of}
use Rattle.machine_safety.specs.Example.{cost}
use Rattle.machine_safety.proofs.Building.{exact, own_fits}
use Rattle.valid_image.specs.Tasks.{task_of, tasks_of}
use Rattle.sched_timing.specs.Timed.{IsCovered, ImageIsTimed, RespectsFrames}
use Rattle.sched_timing.specs.TimedExample.{answering, answering_process, answering_place, answering_parts, twice, AnswersWithin, AnsweringIsTimed, AnsweringIsInTime}
use Rattle.sched_timing.proofs.Whole.{every_run_is_in_time}

abbrev pub code : List Instr
code = i.Push (pos 1) ∷ i.Out (pos 0) ∷ i.End ∷ []

module _ (deadline : ℕ) (low : 21 ≤ deadline) (high : deadline ≤ 30) where
  -- a fact of the one process
  only : (P : ℕ → Process → Type 0) → P 0 (answering_process deadline) → (k : ℕ) (p : Process) → slice_get (answering deadline code).processes k ≡ Some p → P k p
  only P one zero p at = let is : answering_process deadline ≡ p = cc in subst (λ (x : Process). P 0 x) is one
  only P one (suc k) p at = absurd cc

  process_fits : ProcessFits (answering_place deadline code) (answering_process deadline) (answering_parts 0)
  process_fits = record {
    body = own_fits 1 0 0 (answering_process deadline) refl refl (omega arith) (omega arith);
    code = record {
      mid = 2;
      between = 0;
      first = cost 11 0 0;
      later = cost 0 0 0;
      here = (
        refl,
        record {
          instr = i.Push (pos 1);
          here = refl;
          plain = tt;
          kept = 0;
          taken = refl;
          room = omega arith;
          later = cost 10 0 0;
          more = record {
            instr = i.Out (pos 0);
            here = refl;
            plain = (0, refl, omega arith);
            kept = 0;
            taken = refl;
            room = omega arith;
            later = cost 0 0 0;
            more = (refl, refl);
            covers = exact;
          };
          covers = exact;
        },
      );
      more = (refl, refl);
      covers = exact;
    };
    ends = refl;
    handler = own_fits 1 0 0 (answering_process deadline) refl refl (omega arith) (omega arith);
    handles = λ number listed. absurd cc;
    no_susp = refl;
    no_waits = refl;
  }

  fits : ImageFits (answering_place deadline code) answering_parts
  fits = record {
    routines = λ r routine at. absurd cc;
    bases = λ m monitor at. absurd cc;
    processes = only (λ k p. ProcessFits (answering_place deadline code) p (answering_parts k)) process_fits;
  }

  solved : Solves (tasks_of (answering deadline code)) 0 21
  unfolding demand_at
  solved = record { above = omega arith; within = low; met = omega arith }

  timed : ImageIsTimed (answering_place deadline code) answering_parts
  timed = record {
    some = omega arith;
    few = omega arith;
    limits = only (λ k p. IsTask (task_of (Some p))) (record { frame_low = omega arith; frame_high = omega arith; deadline_low = omega (arith, low); deadline_high = high; run = omega arith; susp = omega arith; waits = omega arith; block = omega arith });
    ranked = only (λ k p. (1 ≤ p.rank) × (p.rank ≤ 1)) (omega arith, omega arith);
    one_each = λ j k p q at_j at_k same. both j k p q at_j at_k;
    covered = only (λ k p. IsCovered 3 (worst_of (answering_parts k)) p) (record { run = omega arith; susp = omega arith; waits = omega arith });
    blocks = λ j k m p q monitor h at_j at_k there. only (λ i x. (l : ℕ) (y : Process) → slice_get (answering deadline code).processes l ≡ Some y → x.rank < y.rank → monitor.ceiling ≤ x.rank → cap ((part_of (answering_parts l) h).stays m) ≤ x.block)
        (only (λ l y. 1 < y.rank → monitor.ceiling ≤ 1 → cap ((part_of (answering_parts l) h).stays m) ≤ 0) (λ lower reaches. absurd (omega (arith, lower)))) j p at_j k q at_k;
    solved = only (λ k p. Solves (tasks_of (answering deadline code)) (p.rank - 1) p.bound) solved;
  } where
    both : (j k : ℕ) (p q : Process) → slice_get (answering deadline code).processes j ≡ Some p → slice_get (answering deadline code).processes k ≡ Some q → j ≡ k
    both zero zero p q at_j at_k = refl
    both zero (suc k) p q at_j at_k = absurd cc
    both (suc j) k p q at_j at_k = absurd cc

  respects : RespectsFrames (answering deadline code) twice
  respects = only (λ k p. p.kind ≡ 1 → (i j t u : ℕ) → (i ≡ j → ⊥) → slice_get twice.lines i ≡ Some (Occurs t p.event) → slice_get twice.lines j ≡ Some (Occurs u p.event) → (t + p.frame ≤ u) ⊎ (u + p.frame ≤ t)) (λ kind. lines) where
    tick_of : Line → ℕ
    tick_of (Occurs t n) = t
    tick_of _ = 0

    lines : (i j t u : ℕ) → (i ≡ j → ⊥) → slice_get twice.lines i ≡ Some (Occurs t 0) → slice_get twice.lines j ≡ Some (Occurs u 0) → (t + 30 ≤ u) ⊎ (u + 30 ≤ t)
    lines zero zero t u differ first second = absurd (differ refl)
    lines zero (suc zero) t u differ first second =
        let a : Occurs 5 0 ≡ Occurs t 0 = cc in
        let b : Occurs 35 0 ≡ Occurs u 0 = cc in
        inl (omega (arith, ap (λ l. tick_of l) a, ap (λ l. tick_of l) b))
    lines (suc zero) zero t u differ first second =
        let a : Occurs 35 0 ≡ Occurs t 0 = cc in
        let b : Occurs 5 0 ≡ Occurs u 0 = cc in
        inr (omega (arith, ap (λ l. tick_of l) a, ap (λ l. tick_of l) b))
    lines (suc zero) (suc zero) t u differ first second = absurd (differ refl)
    lines (suc (suc i)) j t u differ first second = absurd cc
    lines zero (suc (suc j)) t u differ first second = absurd cc
    lines (suc zero) (suc (suc j)) t u differ first second = absurd cc

  answers : AnswersWithin deadline code
  answers = record { fits = fits; timed = timed; respects = respects }

pub answering_is_timed : AnsweringIsTimed code
answering_is_timed deadline low high = answers deadline low high

pub answering_is_in_time : AnsweringIsInTime code
answering_is_in_time deadline low high =
    let a : AnswersWithin deadline code = answers deadline low high in
    every_run_is_in_time (answering_place deadline code) answering_parts twice a.fits a.timed a.respects
