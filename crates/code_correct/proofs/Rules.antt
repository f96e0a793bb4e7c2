-- A well-formed program keeps the rules that the law of one process asks for.
use Rattle.std.specs.Prelude.{ℕ, []}
use Rattle.source_semantics.specs.Names.{routine_count}
use Rattle.source_semantics.specs.Nesting.{StmtsBelow, AnswersBelow}
use Rattle.source_semantics.specs.Ranks.{uses_all, reached}
use Rattle.code_spec.specs.Numbering.{Text, stmts_calls, answers_calls, routine_calls}
use Rattle.code_spec.specs.Compiled.{routine_scope}
use Rattle.code_spec.specs.Memory.{Setting}
use Rattle.code_correct.specs.Known.{IsProper}
use Rattle.static_semantics.specs.Here.{own_of}
use Rattle.static_semantics.specs.Statements.{AllFit}
use Rattle.static_semantics.specs.WellFormed.{AnswersFit}
use Rattle.codegen_law.proofs.Mirror.{here_of}
use Rattle.codegen_law.proofs.RuledTexts.{AgreeAll, agree_front, agree_back, Whole, Place, UsesIn, stmts_proper}
use Rattle.codegen_law.proofs.Rules.{answers_below, answers_proper}

-- a routine with its own text
pub routine_proper : (e : Setting) (w : Whole e) (n : ℕ) (t : Text) → Place e (routine_scope e.program t) [] (own_of t.routine) → AllFit (here_of e (routine_scope e.program t) [] (own_of t.routine)) t.routine.body
    → AnswersFit e.program (here_of e (routine_scope e.program t) [] (own_of t.routine)) t.routine.answers → StmtsBelow e.order.level n t.routine.body → AnswersBelow e.order.level n t.routine.answers
    → AgreeAll e (routine_scope e.program t) (routine_calls t.routine) → UsesIn e (uses_all e.program (reached e.program e.text (routine_count e.program)) t.routine.body) → IsProper e t n
routine_proper e w n t place fit answers below answers_below agree used = record {
  body = stmts_proper e w n t.routine.body (routine_scope e.program t) [] (own_of t.routine) place fit below (agree_front e (routine_scope e.program t) (stmts_calls t.routine.body) (answers_calls t.routine.answers) agree) used;
  answers = answers_proper e w n (routine_scope e.program t) (own_of t.routine) place t.routine.answers answers answers_below (agree_back e (routine_scope e.program t) (stmts_calls t.routine.body) (answers_calls t.routine.answers) agree);
}
