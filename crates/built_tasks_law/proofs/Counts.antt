-- Ranks: by the same deadlines, the same processes rank higher.
use Rattle.std.specs.Prelude.{◌≡◌, ◌+◌, ◌≤◌, ℕ, zero, suc, Bool, true, false, List, [], ◌∷◌, Option, Some, None, length, map, slice_get, unwrap_or, option_map}
use Rattle.std.proofs.Common.{refl, sym, ap, ◌∙◌, arith}
use Rattle.std.proofs.lemmas.List.{length-map}
use Rattle.syntax_tree.specs.Plain.{Process, Program}
use Rattle.sched_response.specs.Counts.{count_below}
use Rattle.sched_program.proofs.RankedLemmas.{count, above, higher_counts}
use Rattle.source_semantics.specs.Names.{processes, deadline_of}
use Rattle.source_semantics.specs.Ranks.{deadlines, higher, rank}
use Rattle.machine_isa.specs.declared.instr.Instr.{Instr}
use Rattle.machine_semantics.specs.Image as image
use Rattle.valid_image.specs.Times.{deadline_at, process_outranks, rank_of, deadline_of as deadline_there}
use Rattle.code_spec.specs.Compiled.{EmitsProcesses, IsCodeOf}
use Rattle.built_tasks_law.proofs.Whole.{as_many_processes}
use Rattle.built_tasks_law.specs.Ranks.{RanksAreOfTheMeaning}

-- no more than there are
higher_most : (k deadline b : ℕ) (ds : List ℕ) → higher k deadline b ds ≤ length ds
higher_most k deadline b [] = omega arith
higher_most k deadline b (f ∷ ds) =
    let rest : higher k deadline (suc b) ds ≤ length ds = higher_most k deadline (suc b) ds in
    let one : count (above f b deadline k) ≤ 1 = worth (above f b deadline k) in
    omega (arith, rest, one)
  where
    worth : (b : Bool) → count b ≤ 1
    worth true = omega arith
    worth false = omega arith

pub rank_most : (g : Program) (k : ℕ) → rank g k ≤ suc (length (processes g))
rank_most g k =
    let most : higher k (unwrap_or (slice_get (deadlines g) k) 0) 0 (deadlines g) ≤ length (deadlines g) = higher_most k (unwrap_or (slice_get (deadlines g) k) 0) 0 (deadlines g) in
    let many : length (deadlines g) ≡ length (processes g) = length-map (processes g) (λ (p : Process). deadline_of g p.activation) in
    omega (arith, most, many)

-- ---- the deadlines of an image

deadlines_same : (g : Program) (code : List Instr) (k p q : ℕ) (ts : List Process) (ips : List image.Process) (i : ℕ) → EmitsProcesses g code k p q ts ips
    → slice_get (map (λ (t : Process). deadline_of g t.activation) ts) i ≡ option_map (λ x. x.deadline) (slice_get ips i)
deadlines_same g code k p q [] [] i h = refl
deadlines_same g code k p q [] (y ∷ ys) i h = absurd h
deadlines_same g code k p q (u ∷ us) [] i h = absurd h
deadlines_same g code k p q (u ∷ us) (y ∷ ys) zero h = ap (λ d. Some d) (sym h.1.deadline)
deadlines_same g code k p q (u ∷ us) (y ∷ ys) (suc i) h = deadlines_same g code (suc k) h.0 q us ys i h.2

there_same : (o : Option image.Process) → deadline_there o ≡ unwrap_or (option_map (λ x. x.deadline) o) 0
there_same None = refl
there_same (Some x) = refl

module _ (g : Program) (m : image.Image) (is : IsCodeOf g m) where
  deadline_same : (i : ℕ) → deadline_at m i ≡ unwrap_or (slice_get (deadlines g) i) 0
  deadline_same i =
      there_same (slice_get m.processes i)
      ∙ ap (λ o. unwrap_or o 0) (sym (deadlines_same g m.code 0 is.between (length m.code) (processes g) m.processes i is.process_code))

  pub rank_same : (k : ℕ) → rank_of m k ≡ rank g k
  rank_same k =
      let many : length m.processes ≡ length (processes g) = as_many_processes g m.code 0 is.between (length m.code) (processes g) m.processes is.process_code in
      let long : length (deadlines g) ≡ length (processes g) = length-map (processes g) (λ (p : Process). deadline_of g p.activation) in
      let counts : higher k (unwrap_or (slice_get (deadlines g) k) 0) 0 (deadlines g) ≡ count_below (λ i. process_outranks m i k) (length (deadlines g)) =
      higher_counts k (unwrap_or (slice_get (deadlines g) k) 0) 0 (deadlines g) (λ i. process_outranks m i k) (λ i f at. same i f at) in
      let all : count_below (λ i. process_outranks m i k) (length m.processes) ≡ count_below (λ i. process_outranks m i k) (length (deadlines g)) = ap (λ n. count_below (λ i. process_outranks m i k) n) (many ∙ sym long) in
      omega (arith, counts, all)
    where
      same : (i f : ℕ) → slice_get (deadlines g) i ≡ Some f → above f (0 + i) (unwrap_or (slice_get (deadlines g) k) 0) k ≡ process_outranks m i k
      same i f at =
          let z : 0 + i ≡ i = omega arith in
          let here : f ≡ deadline_at m i = sym (deadline_same i ∙ ap (λ o. unwrap_or o 0) at) in
          ap (λ n. above f n (unwrap_or (slice_get (deadlines g) k) 0) k) z
          ∙ (ap (λ d. above d i (unwrap_or (slice_get (deadlines g) k) 0) k) here
          ∙ ap (λ d. above (deadline_at m i) i d k) (sym (deadline_same k)))

pub ranks_are_of_the_meaning : RanksAreOfTheMeaning
ranks_are_of_the_meaning g m is k = rank_same g m is k
