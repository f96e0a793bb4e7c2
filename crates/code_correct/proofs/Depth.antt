-- Calls come to what they come to, at every depth.
use Rattle.std.specs.Prelude.{◌≡◌, ◌≤◌, ◌<◌, ℕ, zero, suc, true, false, List, [], Option, Some, None, ℤ}
use Rattle.std.proofs.Common.{refl, sym, subst, arith}
use Rattle.std.proofs.lemmas.Bool.{false≢true, both_ways}
use Rattle.syntax_tree.specs.Plain.{Answers}
use Rattle.base.specs.Words.{Answer, word, raised, with_word}
use Rattle.source_semantics.specs.Names.{routine_count}
use Rattle.source_semantics.specs.Store.{range_of, checked}
use Rattle.source_semantics.specs.Run.{Memory, Calls, Run, goes, exits, fails, answers, stops, value, run_all}
use Rattle.source_semantics.specs.Next.{answer_after, calls_to}
use Rattle.machine_isa.specs.declared.instr.Instr.{Instr}
use Rattle.machine_isa.specs.declared.instr.Instr.TheVariants as i
use Rattle.machine_semantics.specs.State.{Operand}
use Rattle.machine_semantics.specs.Effect.{Own}
use Rattle.code_spec.specs.Layout.{Owner, by_program, by_process, by_monitor, Scope, routine_vars_words}
use Rattle.code_spec.specs.Emits.{IsLine, At}
use Rattle.code_spec.specs.Compiled.{routine_scope, is_function, enter_code, EmitsAnswer, EmitsEnd}
use Rattle.code_spec.specs.Steps.{Words, stand, Runs, arrived}
use Rattle.code_spec.specs.Memory.{Setting, site_of, Before, before_of, Same, Fits, FitsOthers, Here}
use Rattle.code_spec.specs.Proper.{IsMine, ProperExpr, ProperAnswers}
use Rattle.code_spec.specs.Stands.{point}
use Rattle.code_spec.specs.Comes.{Raising, Got, Left, Reached}
use Rattle.code_correct.specs.Known.{Answered, CallsCome, IsProper, HasCode}
use Rattle.code_correct.proofs.Steps.{then_runs, line_none}
use Rattle.code_correct.proofs.Gets.{then_gets, range_gets}
use Rattle.code_correct.proofs.Expressions.{value_gets}
use Rattle.code_correct.proofs.Stores.{Laid}
use Rattle.code_correct.proofs.Layouts.{routine_room}
use Rattle.code_correct.proofs.Statements.{all_runs}

-- ---- the parts of a routine that is no entry

starts_at : (e : Setting) (code : List Instr) (p q : ℕ) (r : Owner) → IsMine e r → IsLine code p q (enter_code r) → p ≡ q
starts_at e code p q by_program mine line = line_none code p q line
starts_at e code p q (by_process k) mine line = line_none code p q line
starts_at e code p q (by_monitor m) mine line = absurd mine

returns_at : (e : Setting) (c : Scope) (p q : ℕ) (r : Owner) → IsMine e r → EmitsEnd e.program e.image.code c r p q None → At e.image.code p i.Return
returns_at e c p q by_program mine line = line.has.0
returns_at e c p q (by_process k) mine line = line.has.0
returns_at e c p q (by_monitor m) mine line = absurd mine

gives_at : (e : Setting) (c : Scope) (p q : ℕ) (r : Owner) (a : Answers) → IsMine e r → EmitsEnd e.program e.image.code c r p q (Some a) → (x : ℕ) × EmitsAnswer e.program e.image.code c p x a × At e.image.code x i.ReturnValue
gives_at e c p q by_program a mine h = (h.0, h.1, h.2.has.0)
gives_at e c p q (by_process k) a mine h = (h.0, h.1, h.2.has.0)
gives_at e c p q (by_monitor m) a mine h = absurd mine

is_a_function : (e : Setting) (r : Owner) (an : Option Answers) (a : Answers) → an ≡ Some a → IsMine e r → is_function r an ≡ true
is_a_function e r None a is mine = absurd cc
is_a_function e by_program (Some b) a is mine = refl
is_a_function e (by_process k) (Some b) a is mine = refl
is_a_function e (by_monitor m) (Some b) a is mine = absurd mine

-- ---- answers

-- a result expression, with the check of its range
pub answer_gets : (e : Setting) (n : ℕ) (calls : Calls) (code : HasCode e) (known : CallsCome e n calls) (o : Own) (c : Scope) (fixed : List ℤ) (before : Before) (m : Memory) → Here e o c
    → (p q : ℕ) (os : List Operand) (a : Answers) (w : Words) → Fits e o c fixed before w m → EmitsAnswer e.program e.image.code c p q a → ProperExpr e c n a.value
    → Runs e.image (Got e o c fixed before m q os (with_word (value (site_of e c calls) m a.value) (λ v. checked (range_of e.program a.kind) v))) (stand o w p os)
answer_gets e n calls code known o c fixed before m here p q os a w f emits ok =
    then_gets e o c fixed before m here p emits.0 q (stand o w p os) os os (value (site_of e c calls) m a.value) (λ v. checked (range_of e.program a.kind) v)
    (value_gets e n calls code.routines known o c fixed before m here p emits.0 os a.value w emits.1 ok f)
    (λ v u g. range_gets e o c fixed before m here u emits.0 q os v (range_of e.program a.kind) g emits.2)

-- the variables that a function leaves as they were
moved_others : (e : Setting) (inside : Option ℕ) (owned shared : List ℤ) (k m : Memory) → (k.process ≡ m.process) × (k.monitor ≡ m.monitor) → FitsOthers e inside owned shared k.process k.monitor → FitsOthers e inside owned shared m.process m.monitor
moved_others e inside owned shared k m same f = subst (λ y. FitsOthers e inside owned shared m.process y) same.1 (subst (λ y. FitsOthers e inside owned shared y k.monitor) same.0 f)

moved_raising : (e : Setting) (o : Own) (n : ℕ) (k m : Memory) (b : Own) → (k.process ≡ m.process) × (k.monitor ≡ m.monitor) → Raising e o n k.process k.monitor b → Raising e o n m.process m.monitor b
moved_raising e o n k m b same h = record { instr = h.instr; here = h.here; raises = h.raises; inside = h.inside; handling = h.handling; frame = h.frame; others = moved_others e b.job.inside b.owned b.shared k m same h.others }

got_answered : (e : Setting) (o : Own) (c : Scope) (fixed : List ℤ) (m k : Memory) (q : ℕ) (a : Answer) (b : Own) → c.is_function ≡ true → Same c (before_of m) k → At e.image.code q i.ReturnValue → Got e o c fixed (before_of m) k q [] a b → Answered e o m a b
got_answered e o c fixed m k q (word v) b fn same at g = (g.0, moved_others e o.job.inside g.0.owned g.0.shared k m (g.1.same fn) g.1.others, q, at, g.2)
got_answered e o c fixed m k q (raised n) b fn same at g = moved_raising e o n k m b (same fn) g

-- the body of a function, and then its answer
answered_from : (e : Setting) (n : ℕ) (calls : Calls) (code : HasCode e) (known : CallsCome e n calls) (o : Own) (c : Scope) (fixed : List ℤ) (m : Memory) → Here e o c → c.is_function ≡ true → c.exit ≡ None
    → (p q : ℕ) (a : Answers) (r : Run) (start : Own) → EmitsAnswer e.program e.image.code c p q a → At e.image.code q i.ReturnValue → ProperExpr e c n a.value
    → Runs e.image (Reached e o (point c fixed o.job.inside false p []) (before_of m) r) start → Runs e.image (Answered e o m (answer_after (site_of e c calls) (Some a) r)) start
answered_from e n calls code known o c fixed m here fn ex p q a (goes k) start emits at ok h =
    then_runs h (λ b g. subst (λ y. Runs e.image (Answered e o m (answer_after (site_of e c calls) (Some a) (goes k))) y) (sym g.4)
    (then_runs (answer_gets e n calls code known o c fixed (before_of m) k here p q [] a g.0 g.1 emits ok)
    (λ b2 g2. arrived (got_answered e o c fixed m k q (with_word (value (site_of e c calls) k a.value) (λ v. checked (range_of e.program a.kind) v)) b2 fn g.1.same at g2))))
answered_from e n calls code known o c fixed m here fn ex p q a (exits k) start emits at ok h =
    then_runs h (λ b g. absurd (subst (λ y. Left e o (point c fixed o.job.inside false p []) fixed (before_of m) k y b) ex g))
answered_from e n calls code known o c fixed m here fn ex p q a (fails j k) start emits at ok h = then_runs h (λ b g. arrived (moved_raising e o j k m b (g.0 fn) g.1))
answered_from e n calls code known o c fixed m here fn ex p q a (answers v k) start emits at ok h = then_runs h (λ b g. absurd (false≢true g.0))
answered_from e n calls code known o c fixed m here fn ex p q a (stops x inside is k) start emits at ok h = then_runs h (λ b g. absurd (both_ways c.is_function g.0 fn))

-- ---- depth

deeper : (e : Setting) (n k : ℕ) (calls : Calls) → k ≤ n → CallsCome e n calls → CallsCome e k calls
deeper e n k calls le known = record {
  gives = λ f t a there is an mine below run. known.gives f t a there is an mine (omega arith) run;
  runs = λ f t there is an mine below run. known.runs f t there is an mine (omega arith) run;
}

pub calls_come : (e : Setting) → HasCode e → Laid e → (n : ℕ) → CallsCome e n (calls_to e.program e.text n)
unfolding calls_to
calls_come e code laid zero = record {
  gives = λ f t a there is an mine below run. absurd (omega arith);
  runs = λ f t there is an mine below run. absurd (omega arith);
}
calls_come e code laid (suc n) = record {
  gives = λ f t a there is an mine below run o fixed w m here fits.
      let low : e.order.level f ≤ n = omega arith in
      let few : e.order.level f < routine_count e.program = code.few f t is mine in
      let c : Scope = routine_scope e.program t in
      let end : (x : ℕ) × EmitsAnswer e.program e.image.code (routine_scope e.program t) there.emits.behind x a × At e.image.code x i.ReturnValue =
      gives_at e (routine_scope e.program t) there.emits.behind there.next t.owner a mine (subst (λ y. EmitsEnd e.program e.image.code (routine_scope e.program t) t.owner there.emits.behind there.next y) an there.emits.rest) in
      let proper : IsProper e t (e.order.level f) = code.proper f t is mine run in
      let known : CallsCome e (e.order.level f) (calls_to e.program e.text n) = deeper e n (e.order.level f) (calls_to e.program e.text n) low (calls_come e code laid n) in
      subst (λ y. Runs e.image (Answered e o m (answer_after (site_of e (routine_scope e.program t) (calls_to e.program e.text n)) y (run_all (site_of e (routine_scope e.program t) (calls_to e.program e.text n)) m t.routine.body))) (stand o w there.row.start [])) (sym an)
      (subst (λ y. Runs e.image (Answered e o m (answer_after (site_of e (routine_scope e.program t) (calls_to e.program e.text n)) (Some a) (run_all (site_of e (routine_scope e.program t) (calls_to e.program e.text n)) m t.routine.body))) (stand o w y []))
      (sym (starts_at e e.image.code there.row.start there.emits.inside t.owner mine there.emits.enters))
      (answered_from e (e.order.level f) (calls_to e.program e.text n) code known o (routine_scope e.program t) fixed m here (is_a_function e t.owner t.routine.answers a an mine) refl there.emits.behind end.0 a
      (run_all (site_of e (routine_scope e.program t) (calls_to e.program e.text n)) m t.routine.body) (stand o w there.emits.inside []) end.1 end.2 (subst (λ y. ProperAnswers e (routine_scope e.program t) (e.order.level f) y) an proper.answers)
      (all_runs e code laid (e.order.level f) (omega arith) (calls_to e.program e.text n) known o (before_of m) t.routine.body (routine_scope e.program t) fixed m (routine_vars_words e.program t.routine) there.emits.inside there.emits.behind [] w here tt
      (routine_room e.program t) fits there.emits.body proper.body)));
  runs = λ f t there is an mine below run o fixed w m here fits.
      let low : e.order.level f ≤ n = omega arith in
      let few : e.order.level f < routine_count e.program = code.few f t is mine in
      let proper : IsProper e t (e.order.level f) = code.proper f t is mine run in
      let known : CallsCome e (e.order.level f) (calls_to e.program e.text n) = deeper e n (e.order.level f) (calls_to e.program e.text n) low (calls_come e code laid n) in (
        there.emits.behind,
        returns_at e (routine_scope e.program t) there.emits.behind there.next t.owner mine (subst (λ y. EmitsEnd e.program e.image.code (routine_scope e.program t) t.owner there.emits.behind there.next y) an there.emits.rest),
        subst (λ y. Runs e.image (Reached e o (point (routine_scope e.program t) fixed o.job.inside false there.emits.behind []) (before_of m) (run_all (site_of e (routine_scope e.program t) (calls_to e.program e.text n)) m t.routine.body)) (stand o w y []))
            (sym (starts_at e e.image.code there.row.start there.emits.inside t.owner mine there.emits.enters))
            (all_runs e code laid (e.order.level f) (omega arith) (calls_to e.program e.text n) known o (before_of m) t.routine.body (routine_scope e.program t) fixed m (routine_vars_words e.program t.routine) there.emits.inside there.emits.behind [] w here tt
            (routine_room e.program t) fits there.emits.body proper.body),
      );
}
