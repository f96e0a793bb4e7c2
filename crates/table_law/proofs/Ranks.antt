-- The ranks of processes are those of lines.
use Rattle.std.proofs.Common.{◌≡◌, ◌+◌, ℕ, suc, List, [], ◌∷◌, Some, length, map, refl, ap, sym, ◌∙◌, arith}
use Rattle.std.specs.Prelude.{slice_get, unwrap_or}
use Rattle.std.proofs.lemmas.List.{length-map}
use Rattle.std.proofs.lemmas.Option.{get_or_from_slice_get, unwrap_or-slice_get}
use Rattle.syntax_tree.specs.Plain.{Process}
use Rattle.source_semantics.specs.Names.{deadline_of}
use Rattle.source_semantics.specs.Ranks.{rank, higher, deadlines}
use Rattle.sched_response.specs.Counts.{count_below}
use Rattle.sched_program.proofs.RankedLemmas.{above, higher_counts}
use Rattle.table_format.specs.declared.table.TaskLine.{TaskLine}
use Rattle.table_format.specs.declared.table.TaskTable.{TaskTable}
use Rattle.table_law.specs.Costs.{table_program, process_of, HasProcesses}
use Rattle.table_law.specs.Frames.{HasDeadlines}
use Rattle.table_law.specs.Tasks.{deadline_of_line, deadline_at, line_outranks, rank_of_line}
use Rattle.table_law.specs.Agree.{RanksAreOfTheTable}

module _ (are : HasProcesses) (due : HasDeadlines) (t : TaskTable) where
  each_due : (ps : List TaskLine) → map (λ p. deadline_of (table_program t) p.activation) (map (process_of t) ps) ≡ map deadline_of_line ps
  each_due [] = refl
  each_due (p ∷ ps) = ap (λ (n : ℕ). n ∷ map (λ q. deadline_of (table_program t) q.activation) (map (process_of t) ps)) (due t p) ∙ ap (λ (ns : List ℕ). deadline_of_line p ∷ ns) (each_due ps)

  all_due : deadlines (table_program t) ≡ map deadline_of_line t.tasks
  all_due = ap (λ (ps : List Process). map (λ p. deadline_of (table_program t) p.activation) ps) (are t) ∙ each_due t.tasks

  counted : (k : ℕ) → higher k (unwrap_or (slice_get (map deadline_of_line t.tasks) k) 0) 0 (map deadline_of_line t.tasks) ≡ count_below (λ j. line_outranks t j k) (length t.tasks)
  counted k =
      let ds = map deadline_of_line t.tasks in
      ap (λ d. higher k d 0 ds) (unwrap_or-slice_get ds k 0)
      ∙ (higher_counts k (deadline_at t k) 0 ds (λ j. line_outranks t j k) (λ j d at. same j d at)
      ∙ ap (λ n. count_below (λ j. line_outranks t j k) n) (length-map t.tasks deadline_of_line))
    where
      same : (j d : ℕ) → slice_get (map deadline_of_line t.tasks) j ≡ Some d → above d (0 + j) (deadline_at t k) k ≡ line_outranks t j k
      same j d at =
          let z : 0 + j ≡ j = omega arith in
          ap (λ n. above d n (deadline_at t k) k) z ∙ ap (λ n. above n j (deadline_at t k) k) (sym (get_or_from_slice_get (map deadline_of_line t.tasks) j d 0 at))

  pub one_rank : (k : ℕ) → rank (table_program t) k ≡ rank_of_line t k
  one_rank k =
      let n = count_below (λ j. line_outranks t j k) (length t.tasks) in
      let one : suc n ≡ 1 + n = omega arith in
      ap (λ ds. suc (higher k (unwrap_or (slice_get ds k) 0) 0 ds)) all_due ∙ (ap (λ m. suc m) (counted k) ∙ one)

pub ranks_are : HasProcesses → HasDeadlines → RanksAreOfTheTable
ranks_are are due t k = one_rank are due t k
