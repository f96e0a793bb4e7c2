-- The heights of the routines and the processes of the load.
use Rattle.std.proofs.Common.{◌≡◌, ◌≤◌, ℕ, zero, suc, Bool, true, false, ◌∷◌, Some, All, map, sym, subst, arith}
use Rattle.std.specs.Prelude.{filter_map, slice_get}
use Rattle.std.proofs.lemmas.Option.{none-some, same_Some}
use Rattle.std.proofs.lemmas.List.Elements.{All-nil, All-cons}
use Rattle.syntax_tree.specs.Plain as plain_of
use Rattle.syntax_tree.specs.Placed.{plain_decl, plain_process, plain_routine}
use Rattle.source_semantics.specs.Names.{process_in, processes, routine_count}
use Rattle.code_spec.specs.Layout.{by_process, by_monitor}
use Rattle.code_spec.specs.Numbering.{Text, texts_from}
use Rattle.code_cost_spec.specs.Heights.{stack_of}
use Rattle.code_cost_spec.specs.Levels.{calls_at, stack_of_process}
use Rattle.code_cost.specs.Rules.{routine_stack}
use Rattle.load.specs.declared.program.DrawnProcess.{DrawnProcess}
use Rattle.load.specs.Program.{is_even, drawn, add_entry, pause_entry, load_process, processes_from}
use Rattle.load_text_law.proofs.Lengths.{with_pause}
use Rattle.load_text_law.proofs.Lists.{no_texts, load}

-- ---- processes

-- where calls are known to nest so deep
with_is : (deep : ℕ) (even : Bool) (key count k number : ℕ) (d : DrawnProcess)
    → stack_of (load key count) (by_process k) (calls_at deep (load key count)) (with_pause even count number d) ≤ 5
unfolding calls_at
with_is zero true key count k number d = omega arith
with_is zero false key count k number d = omega arith
with_is (suc deep) true key count k number d = omega arith
with_is (suc deep) false key count k number d = omega arith

stacks_from : (deep key count k before left at : ℕ) (p : plain_of.Process) → slice_get (filter_map process_in (map plain_decl (processes_from key count before left))) at ≡ Some p
    → stack_of (load key count) (by_process k) (calls_at deep (load key count)) p ≤ 5
stacks_from deep key count k before zero at p there = absurd (none-some p there)
stacks_from deep key count k before (suc left) zero p there =
    let one = process_of in
    subst (λ q. stack_of (load key count) (by_process k) (calls_at deep (load key count)) q ≤ 5) (same_Some one p there)
    (with_is deep (is_even (suc before)) key count k (suc before) (drawn key before))
  where
    process_of : plain_of.Process
    process_of = plain_process (load_process count (suc before) (drawn key before))
stacks_from deep key count k before (suc left) (suc at) p there = stacks_from deep key count k (suc before) left at p there

pub stacks_are : (key count at : ℕ) (p : plain_of.Process) → slice_get (processes (load key count)) at ≡ Some p → stack_of_process (load key count) at p ≤ 5
stacks_are key count at p there = stacks_from (routine_count (load key count)) key count at 0 count at p there

-- ---- routines

abbrev pub IsLow : plain_of.Program → Text → Type 0
IsLow g t = routine_stack g t.owner t.routine ≤ 2

add_low : (key count : ℕ) → IsLow (load key count) (record { owner = by_monitor 0; routine = plain_routine add_entry })
add_low key count = omega arith

pause_low : (key count : ℕ) → IsLow (load key count) (record { owner = by_monitor 0; routine = plain_routine pause_entry })
pause_low key count = omega arith

pub all_low : (key count : ℕ) → All (IsLow (load key count)) (texts_from 0 0 (load key count).decls)
all_low key count =
    let P = IsLow (load key count) in
    let add : Text = record { owner = by_monitor 0; routine = plain_routine add_entry } in
    let pause : Text = record { owner = by_monitor 0; routine = plain_routine pause_entry } in
    let others : All P (texts_from 0 1 (map plain_decl (processes_from key count 0 count))) = subst (λ ts. All P ts) (sym (no_texts key count 0 count 0)) (All-nil P) in
    let more = texts_from 0 1 (map plain_decl (processes_from key count 0 count)) in
    All-cons P add (pause ∷ more) (add_low key count) (All-cons P pause more (pause_low key count) others)
