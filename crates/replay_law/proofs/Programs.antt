-- What is made of routines, processes and a program.
use Rattle.std.proofs.Common.{ℕ, suc, List, [], ◌∷◌, Option, Some, None, pos}
use Rattle.syntax_tree.specs.Plain.{Answers, Handler, Process, Program, Routine}
use Rattle.source_semantics.specs.Names.{processes}
use Rattle.machine_isa.specs.declared.instr.Instr.TheVariants as i
use Rattle.machine_isa.specs.Bytes.{HasWords}
use Rattle.code_spec.specs.Layout.{Owner, by_program, by_process, by_monitor, Scope, routine_vars_words}
use Rattle.code_spec.specs.Numbering.{Text, numbered}
use Rattle.code_spec.specs.Compiled.{process_scope, routine_scope}
use Rattle.codegen_spec.specs.declared.code.Code.{Code}
use Rattle.codegen_spec.specs.Told.{fit, range_told}
use Rattle.codegen_spec.specs.Made.{Out, begun, expr_out, stmts_out}
use Rattle.codegen_spec.specs.Parts.{opened, answer_out, inner_out, entered, left, routine_out, return_of, text_made, texts_made, body_out, ended, handler_out, process_out, process_made, processes_made, nothing_made, program_made}
use Rattle.replay_law.specs.MadeWords.{MadeCodeHasWords}
use Rattle.replay_law.proofs.Codes.{Each, Good, all_of, one, none, fit_word, push_good, range_good, kind_is, expr_good}
use Rattle.replay_law.proofs.Statements.{stmts_good}

-- ---- routines

answer_good : (g : Program) (c : Scope) (a : Option Answers) (o : Out) → Good o → Good (answer_out g c a o)
answer_good g c None o good = good
answer_good g c (Some a) o good = range_good (range_told g a.kind) (expr_out g c a.value o) (kind_is g a.kind) (expr_good g c a.value o good)

inner_good : (g : Program) (c : Scope) (r : Routine) (o : Out) → Good o → Good (inner_out g c r o)
inner_good g c r o good = answer_good g c r.answers (stmts_out g c r.body o) (stmts_good g c r.body o good)

entered_good : (m : ℕ) (o : Out) → Good o → Good (entered m o)
entered_good m o good = push_good o (i.Enter (fit (pos m))) good (one (fit (pos m)) (fit_word (pos m)))

left_good : (m : ℕ) (o : Out) → Good o → Good (left m o)
left_good m o good = push_good o (i.Leave (fit (pos m))) good (one (fit (pos m)) (fit_word (pos m)))

routine_good : (g : Program) (c : Scope) (w : Owner) (r : Routine) (o : Out) → Good o → Good (routine_out g c w r o)
routine_good g c by_program r o good = inner_good g c r o good
routine_good g c (by_process k) r o good = inner_good g c r o good
routine_good g c (by_monitor m) r o good = left_good m (inner_out g c r (entered m o)) (inner_good g c r (entered m o) (entered_good m o good))

return_words : (a : Option Answers) → HasWords (return_of a)
return_words None = none
return_words (Some a) = none

text_each : (g : Program) (t : Text) (k : Code) → Each k.instrs → Each (text_made g t k).instrs
text_each g t k each =
    push_good (routine_out g (routine_scope g t) (routine_scope g t).owner t.routine (opened (routine_vars_words g t.routine) k.instrs)) (return_of t.routine.answers)
    (routine_good g (routine_scope g t) (routine_scope g t).owner t.routine (opened (routine_vars_words g t.routine) k.instrs) each) (return_words t.routine.answers)

texts_each : (g : Program) (ts : List Text) (k : Code) → Each k.instrs → Each (texts_made g ts k).instrs
texts_each g [] k each = each
texts_each g (t ∷ ts) k each = texts_each g ts (text_made g t k) (text_each g t k each)

-- ---- processes

ended_good : (o : Out) → Good o → Good (ended o)
ended_good o good = push_good o i.End good none

handler_good : (g : Program) (c : Scope) (h : Option Handler) (o : Out) → Good o → Good (process_out g c h o)
handler_good g c None o good = good
handler_good g c (Some h) o good = ended_good (handler_out g c h o) (stmts_good g c h.body (begun o) good)

process_each : (g : Program) (c : Scope) (p : Process) (k : Code) → Each k.instrs → Each (process_made g c p k).instrs
process_each g c p k each =
    handler_good g c p.handler (ended (body_out g c p k.instrs)) (ended_good (body_out g c p k.instrs) (stmts_good g c p.body (opened 0 k.instrs) each))

processes_each : (g : Program) (n : ℕ) (ps : List Process) (k : Code) → Each k.instrs → Each (processes_made g n ps k).instrs
processes_each g n [] k each = each
processes_each g n (p ∷ ps) k each = processes_each g (suc n) ps (process_made g (process_scope g n p) p k) (process_each g (process_scope g n p) p k each)

-- ---- a program

pub made_code_has_words : MadeCodeHasWords
made_code_has_words g =
    all_of (program_made g).instrs (processes_each g 0 (processes g) (texts_made g (numbered g) nothing_made) (texts_each g (numbered g) nothing_made tt))
