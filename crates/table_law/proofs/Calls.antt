-- What the processes and the entries of a table's program call, and which monitors a process
-- reaches.
use Rattle.std.proofs.Common.{◌≡◌, ◌-◌, ℕ, List, [], ◌∷◌, ◌++◌, map, refl, ap, ◌∙◌, arith}
use Rattle.std.proofs.lemmas.List.{append-nil}
use Rattle.syntax_tree.specs.Plain.{Name, Program}
use Rattle.syntax_tree.specs.Placed.{Stmt, plain_stmts, plain_routine, plain_process}
use Rattle.source_semantics.specs.Names.{monitor_number, routine_count}
use Rattle.source_semantics.specs.Ranks.{uses_all, reached, monitors_of}
use Rattle.code_spec.specs.Numbering.{Called, calls_entry, stmts_calls, routine_calls}
use Rattle.sched_program.specs.Tasks.{process_calls}
use Rattle.table_format.specs.declared.table.TaskStay.{TaskStay}
use Rattle.table_format.specs.declared.table.TaskLine.{TaskLine}
use Rattle.table_format.specs.Rules.{least_cost}
use Rattle.table_format.specs.Spending.{Nowhere, in_turn, spend}
use Rattle.table_format.specs.Program.{stay_name, stay_entry, stay_call, table_process}
use Rattle.table_law.proofs.Spends.{Spends, nothing, by_three, by_four, by_five, by_short, by_long, spent}
use Rattle.table_law.proofs.Fits.{TicksFit, LineFits}

-- ---- statements that spend ticks

calls_nothing : (tail : Name) (n : ℕ) (ss : List (Stmt Nowhere)) → Spends tail n ss → stmts_calls (plain_stmts (in_turn ss)) ≡ []
calls_nothing tail n ss nothing = refl
calls_nothing tail n ss (by_three m _ more is few spends) = calls_nothing tail m more spends
calls_nothing tail n ss (by_four m _ more is few spends) = calls_nothing tail m more spends
calls_nothing tail n ss (by_five m _ more is few spends) = calls_nothing tail m more spends
calls_nothing tail n ss (by_short turns m _ more is some few least most spends) = calls_nothing tail m more spends
calls_nothing tail n ss (by_long turns m _ more is some few least most spends) = calls_nothing tail m more spends

uses_nothing : (g : Program) (calls : Name → List ℕ) (tail : Name) (n : ℕ) (ss : List (Stmt Nowhere)) → Spends tail n ss → uses_all g calls (plain_stmts (in_turn ss)) ≡ []
uses_nothing g calls tail n ss nothing = refl
uses_nothing g calls tail n ss (by_three m _ more is few spends) = uses_nothing g calls tail m more spends
uses_nothing g calls tail n ss (by_four m _ more is few spends) = uses_nothing g calls tail m more spends
uses_nothing g calls tail n ss (by_five m _ more is few spends) = uses_nothing g calls tail m more spends
uses_nothing g calls tail n ss (by_short turns m _ more is some few least most spends) = uses_nothing g calls tail m more spends
uses_nothing g calls tail n ss (by_long turns m _ more is some few least most spends) = uses_nothing g calls tail m more spends

-- ---- entries

pub entry_calls : (tail : Name) (ticks : ℕ) → TicksFit ticks → routine_calls (plain_routine (stay_entry tail ticks)) ≡ []
entry_calls tail ticks fits =
    ap (λ (cs : List Called). cs ++ []) (calls_nothing tail (ticks - 3) (spend tail (ticks - 3)) (spent tail (ticks - 3) fits.met (omega (arith, fits.few))))

-- ---- processes

abbrev pub call_of : (tail : Name) → TaskStay → Called
call_of tail s = calls_entry s.monitor (stay_name s.ticks ++ tail)

stays_calls : (tail : Name) (all : List TaskStay) (ss : List (Stmt Nowhere)) → stmts_calls (plain_stmts (in_turn ss)) ≡ []
    → stmts_calls (plain_stmts (in_turn (map (stay_call tail) all ++ ss))) ≡ map (call_of tail) all
stays_calls tail [] ss none = none
stays_calls tail (s ∷ all) ss none = ap (λ (cs : List Called). call_of tail s ∷ cs) (stays_calls tail all ss none)

stays_uses : (g : Program) (calls : Name → List ℕ) (tail : Name) (all : List TaskStay) (ss : List (Stmt Nowhere)) → uses_all g calls (plain_stmts (in_turn ss)) ≡ []
    → uses_all g calls (plain_stmts (in_turn (map (stay_call tail) all ++ ss))) ≡ map (λ s. monitor_number g s.monitor) all
stays_uses g calls tail [] ss none = none
stays_uses g calls tail (s ∷ all) ss none = ap (λ (ns : List ℕ). monitor_number g s.monitor ∷ ns) (stays_uses g calls tail all ss none)

module _ (tail : Name) (line : TaskLine) (fit : LineFits line) where
  spends : Spends tail (line.cost - least_cost line) (spend tail (line.cost - least_cost line))
  spends = spent tail (line.cost - least_cost line) fit.met (omega (arith, fit.cost_few))

  pub line_calls : process_calls (plain_process (table_process tail line)) ≡ map (call_of tail) line.stays
  line_calls =
      ap (λ (cs : List Called). cs ++ []) (stays_calls tail line.stays (spend tail (line.cost - least_cost line)) (calls_nothing tail (line.cost - least_cost line) _ spends))
      ∙ append-nil (map (call_of tail) line.stays)

  pub line_uses : (g : Program) → monitors_of g (plain_process (table_process tail line)) ≡ map (λ s. monitor_number g s.monitor) line.stays
  line_uses g =
      let calls = reached g (plain_process (table_process tail line)) (routine_count g) in
      ap (λ (ns : List ℕ). ns ++ []) (stays_uses g calls tail line.stays (spend tail (line.cost - least_cost line)) (uses_nothing g calls tail (line.cost - least_cost line) _ spends))
      ∙ append-nil (map (λ (s : TaskStay). monitor_number g s.monitor) line.stays)
