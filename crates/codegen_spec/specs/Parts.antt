-- What the generator makes of routines, processes and a program.
use Rattle.std.specs.Prelude.{ℕ, suc, List, [], ◌∷◌, ◌++◌, Option, Some, None, min, pos, length, option_map}
use Rattle.syntax_tree.specs.Plain.{Answers, Handler, Process, Program, Routine}
use Rattle.source_semantics.specs.Names.{processes}
use Rattle.machine_isa.specs.declared.instr.Instr.{Instr}
use Rattle.machine_isa.specs.declared.instr.Instr.TheVariants as i
use Rattle.image_format.specs.Kept.{stay}
use Rattle.code_spec.specs.Layout.{Owner, by_program, by_process, by_monitor, Scope, routine_vars_words}
use Rattle.code_spec.specs.Numbering.{Text, numbered}
use Rattle.code_spec.specs.Compiled.{process_scope, routine_scope}
use Rattle.codegen_spec.specs.declared.code.Part.{Part}
use Rattle.codegen_spec.specs.declared.code.Code.{Code}
use Rattle.codegen_spec.specs.Told.{fit, range_told}
use Rattle.codegen_spec.specs.Made.{Out, begun, closed, expr_out, joined, push, range_out, stmts_out}

-- a part begins behind the code that there is; its first loop has its variable at this word of the
-- frame
abbrev pub opened : ℕ → List Instr → Out
opened w code = record { code = code; segs = []; from = length code; word = w }

-- a part from an address on, whose last instruction stands outside its tree
abbrev pub part_of : ℕ → Out → Out → Part
part_of start inner o = record { start = start; end = length o.code; tree = closed inner }

-- ---- routines

-- the result of a function, with the check of its range
abbrev pub answer_out : Program → Scope → Option Answers → Out → Out
answer_out g c None o = o
answer_out g c (Some a) o = range_out (range_told g a.kind) (expr_out g c a.value o)

-- the statements of a routine and its result
abbrev pub inner_out : Program → Scope → Routine → Out → Out
inner_out g c r o = answer_out g c r.answers (stmts_out g c r.body o)

-- the monitor is entered, and a part with segments of its own begins
abbrev pub entered : ℕ → Out → Out
entered m o = begun (push o (i.Enter (fit (pos m))))

-- the monitor is left: what was made since it was entered is a stay
abbrev pub left : ℕ → Out → Out
left m o = joined (push o (i.Leave (fit (pos m)))) [] (stay (min m 65535) (closed o))

-- a routine but for the return that ends it; an entry is a stay in its monitor
abbrev pub routine_out : Program → Scope → Owner → Routine → Out → Out
routine_out g c by_program r o = inner_out g c r o
routine_out g c (by_process k) r o = inner_out g c r o
routine_out g c (by_monitor m) r o = left m (inner_out g c r (entered m o))

abbrev pub return_of : Option Answers → Instr
return_of None = i.Return
return_of (Some a) = i.ReturnValue

-- behind the code of all before it, the routine
abbrev pub with_routine : Code → Out → Instr → Code
with_routine k o j = record {
  instrs = (push o j).code;
  routines = k.routines ++ part_of (length k.instrs) o (push o j) ∷ [];
  processes = k.processes;
}

-- a routine whose parameters and variables take so many words
abbrev pub routine_made : Program → Scope → ℕ → Routine → Code → Code
routine_made g c w r k = with_routine k (routine_out g c c.owner r (opened w k.instrs)) (return_of r.answers)

abbrev pub text_made : Program → Text → Code → Code
text_made g t k = routine_made g (routine_scope g t) (routine_vars_words g t.routine) t.routine k

abbrev pub texts_made : Program → List Text → Code → Code
texts_made g [] k = k
texts_made g (t ∷ ts) k = texts_made g ts (text_made g t k)

-- ---- processes

-- the body, which ends
abbrev pub body_out : Program → Scope → Process → List Instr → Out
body_out g c p code = stmts_out g c p.body (opened 0 code)

abbrev pub ended : Out → Out
ended o = push o i.End

-- the handler behind the body, its loops behind those of the body
abbrev pub handler_out : Program → Scope → Handler → Out → Out
handler_out g c h o = stmts_out g c h.body (begun o)

-- the code of a process with its handler, if it has one
abbrev pub process_out : Program → Scope → Option Handler → Out → Out
process_out g c None o = o
process_out g c (Some h) o = ended (handler_out g c h o)

-- the handler as a part, behind the body that has ended
abbrev pub handler_part : Program → Scope → Out → Handler → Part
handler_part g c o h = part_of (length o.code) (handler_out g c h o) (ended (handler_out g c h o))

abbrev pub with_process : Program → Scope → Option Handler → Code → Out → Code
with_process g c h k o = record {
  instrs = (process_out g c h (ended o)).code;
  routines = k.routines;
  processes = k.processes ++ record {
    body = part_of (length k.instrs) o (ended o);
    handler = option_map (λ x. handler_part g c (ended o) x) h;
  } ∷ [];
}

abbrev pub process_made : Program → Scope → Process → Code → Code
process_made g c p k = with_process g c p.handler k (body_out g c p k.instrs)

-- the processes from number n on
abbrev pub processes_made : Program → ℕ → List Process → Code → Code
processes_made g n [] k = k
processes_made g n (p ∷ ps) k = processes_made g (suc n) ps (process_made g (process_scope g n p) p k)

-- ---- a program

abbrev pub nothing_made : Code
nothing_made = record { instrs = []; routines = []; processes = [] }

-- all routines by number, then all processes in the order of the text
abbrev pub program_made : Program → Code
program_made g = processes_made g 0 (processes g) (texts_made g (numbered g) nothing_made)
