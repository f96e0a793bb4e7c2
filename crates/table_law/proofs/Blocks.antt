-- The blocks of a table's program are the table's.
use Rattle.std.proofs.Common.{◌≡◌, ◌≤◌, ◌<◌, ℕ, Option, Some, None, refl, ap, sym, ◌∙◌, subst, true, arith}
use Rattle.std.specs.Prelude.{IsSomeAnd, min}
use Rattle.base.specs.Capped.{cap}
use Rattle.syntax_tree.specs.Plain.{Program}
use Rattle.syntax_tree.specs.Placed.{plain, plain_process, plain_routine}
use Rattle.source_semantics.specs.Names.{monitor_number}
use Rattle.source_semantics.specs.Ranks.{rank, ceiling}
use Rattle.code_spec.specs.Layout.{Owner, by_program, by_process, by_monitor}
use Rattle.code_spec.specs.Numbering.{Text}
use Rattle.code_cost_spec.specs.Levels.{stay_of_entry}
use Rattle.sched_program.specs.Tasks.{process_comes_to, IsLowerStay, IsBlock}
use Rattle.table_format.specs.declared.table.TaskTable.{TaskTable}
use Rattle.table_format.specs.Program.{stay_entry, table_process, program_with}
use Rattle.table_law.proofs.Fits.{TicksFit, TableFits}
use Rattle.table_law.proofs.Members.{Elem}
use Rattle.table_law.proofs.Parts.{process_there}
use Rattle.table_law.proofs.Costs.{stays_so_long}
use Rattle.table_law.specs.Tasks.{rank_of_line, IsStayBelow, IsTableBlock}
use Rattle.table_law.proofs.Elements.{elem_from, contains_from, same_greatest}
use Rattle.table_law.proofs.TaskEntries.{entry_text}
use Rattle.table_law.proofs.Comes.{stay_fit, stay_in, comes_by_stay, stay_comes, stay_numbered, declared_entry}
use Rattle.table_law.proofs.Ceilings.{line_of, ceiling_to_program, ceiling_to_table}

some_and : (o : Option ℕ) (P : ℕ → Type 0) → IsSomeAnd o P → (c : ℕ) × (o ≡ Some c) × P c
some_and None P is = absurd is
some_and (Some c) P is = (c, refl, is)

monitor_of : Owner → ℕ
monitor_of (by_monitor m) = m
monitor_of by_program = 0
monitor_of (by_process k) = 0

same_owner_monitor : (i j : ℕ) → by_monitor i ≡ by_monitor j → i ≡ j
unfolding monitor_of
same_owner_monitor i j same = ap monitor_of same

module _ (tail : _) (t : TaskTable) (fits : TableFits t) (ranks : (k : ℕ) → rank (plain (program_with tail t)) k ≡ rank_of_line t k) where
  abbrev program : Program
  program = plain (program_with tail t)

  counted : (monitor ticks : ℕ) → TicksFit ticks → cap (stay_of_entry program (entry_text tail monitor ticks)) ≡ ticks
  counted monitor ticks fit = ap cap (stays_so_long tail program monitor ticks fit) ∙ (let few : min ticks 1000000001 ≡ ticks = omega (arith, fit.few) in few)

  stay_to_program : (held ticks : ℕ) → IsStayBelow t held ticks → IsLowerStay program held ticks
  stay_to_program held ticks is =
      let s = is.stay in
      let e : Elem s is.line.stays = elem_from is.line.stays s is.stays in
      let monitor = monitor_number program s.monitor in
      let number = stay_numbered tail t fits s (stay_in tail t fits is.number is.line is.there s e) in
      record {
        number = is.number;
        process = plain_process (table_process tail is.line);
        there = process_there tail t is.number is.line is.there;
        lower = subst (λ n. held < n) (sym (ranks is.number)) is.lower;
        monitor = monitor;
        reaches_up = subst (λ o. IsSomeAnd o (λ c. c ≤ held)) (sym (ceiling_to_program tail t fits ranks s.monitor is.ceiling is.is_ceiling)) is.reaches_up;
        entry = plain_routine (stay_entry tail s.ticks);
        at = number.0;
        declared = number.1;
        called = stay_comes tail t fits is.number is.line is.there s e;
        stays = is.so_long ∙ sym (counted monitor s.ticks (stay_fit tail t fits is.number is.line is.there s e).ticks);
      }

  stay_to_table : (held ticks : ℕ) → IsLowerStay program held ticks → IsStayBelow t held ticks
  stay_to_table held ticks is =
      let goal : Text = record { owner = by_monitor is.monitor; routine = is.entry } in
      let it = line_of tail t fits ranks is.number is.process is.there in
      let comes : process_comes_to program goal is.number (plain_process (table_process tail it.0)) ≡ true = ap (process_comes_to program goal is.number) (sym it.2) ∙ is.called in
      let one = comes_by_stay tail t fits is.number it.0 it.1 goal (declared_entry tail t fits is.at goal is.declared) comes in
      let s = one.0 in
      let monitor : is.monitor ≡ monitor_number program s.monitor = same_owner_monitor is.monitor (monitor_number program s.monitor) (ap (λ x. x.owner) one.2) in
      let up = some_and (ceiling program is.monitor) (λ c. c ≤ held) is.reaches_up in
      record {
        number = is.number;
        line = it.0;
        there = it.1;
        lower = subst (λ n. held < n) (ranks is.number) is.lower;
        stay = s;
        stays = contains_from it.0.stays s one.1;
        ceiling = up.0;
        is_ceiling = ceiling_to_table tail t fits ranks s.monitor up.0 (ap (ceiling program) (sym monitor) ∙ up.1);
        reaches_up = up.2;
        so_long = is.stays
            ∙ (ap (λ x. cap (stay_of_entry program x)) one.2 ∙ counted (monitor_number program s.monitor) s.ticks (stay_fit tail t fits is.number it.0 it.1 s one.1).ticks);
      }

  pub block_to_program : (held block : ℕ) → IsTableBlock t held block → IsBlock program held block
  block_to_program held block is = same_greatest (IsStayBelow t held) (IsLowerStay program held) block (stay_to_program held) (stay_to_table held) is

  pub block_to_table : (held block : ℕ) → IsBlock program held block → IsTableBlock t held block
  block_to_table held block is = same_greatest (IsLowerStay program held) (IsStayBelow t held) block (stay_to_table held) (stay_to_program held) is
