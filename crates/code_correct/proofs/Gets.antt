-- What code gets: steps, answers one after another, calls.
use Rattle.std.specs.Prelude.{◌≡◌, ◌+◌, ◌-◌, ℕ, Bool, true, false, List, [], ◌∷◌, ◌++◌, Option, Some, None, ℤ, pos, length}
use Rattle.std.proofs.Common.{refl, sym, ◌∙◌, ap, subst, arith, append-nil}
use Rattle.syntax_tree.specs.Plain.{Answers}
use Rattle.base.specs.Words.{Answer, word, raised, with_word}
use Rattle.source_semantics.specs.Store.{Range, Vars, checked}
use Rattle.source_semantics.specs.Run.{Memory, own_vars, with_own}
use Rattle.machine_isa.specs.declared.instr.Instr.{Instr}
use Rattle.machine_isa.specs.declared.instr.Instr.TheVariants as i
use Rattle.machine_semantics.specs.State.{Operand, Value, State, zeros}
use Rattle.machine_semantics.specs.Effect as table
use Rattle.machine_semantics.specs.Effect.{Own, Outcome, Goes, Raises, Stuck, effect}
use Rattle.code_spec.specs.Layout.{Owner, by_program, by_process, by_monitor, Scope, count, routine_words, routine_places}
use Rattle.code_spec.specs.Numbering.{Text, number_of}
use Rattle.code_spec.specs.Code.{range_code}
use Rattle.code_spec.specs.Emits.{IsLine, At}
use Rattle.code_spec.specs.Compiled.{routine_scope, is_function}
use Rattle.code_spec.specs.Steps.{Words, words, stand, Runs, arrived, moved}
use Rattle.code_spec.specs.Memory.{Setting, Before, before_of, Fits, MayRun, Here}
use Rattle.code_spec.specs.Proper.{IsMine}
use Rattle.code_spec.specs.Comes.{Raising, Got}
use Rattle.code_correct.specs.Known.{IsThere, HoldValues, pushed}
use Rattle.code_correct.proofs.Steps.{then_runs, fits_left, told, range_told, line_one, line_none}
use Rattle.code_correct.proofs.Frames.{new_frame, new_locals, no_values, behind_params, taken, values_count}

module _ (e : Setting) (o : Own) (c : Scope) (fixed : List ℤ) (before : Before) (m : Memory) (here : Here e o c) where
  -- one silent instruction that changes no word
  pub step_runs : (G : Own → Type 0) (w : Words) (p q : ℕ) (os below : List Operand) (j : Instr) → Fits e o c fixed before w m → At e.image.code p j
      → ((s : State) (u : Words) → Fits e o c fixed before u m → effect e.image s j (stand o u (p + 1) os) ≡ Goes (stand o u q below))
      → ((u : Words) → Fits e o c fixed before u m → Runs e.image G (stand o u q below)) → Runs e.image G (stand o w p os)
  step_runs G w p q os below j f here_is h k =
      moved j (λ us. stand o (words w.locals w.owned us) q below) here_is
      (λ s us same. h s (words w.locals w.owned us) (fits_left e o c fixed before w us m f same))
      (λ us same. k (words w.locals w.owned us) (fits_left e o c fixed before w us m f same))

  pub raise_here : (w : Words) (p : ℕ) (os : List Operand) (j : Instr) (n : ℕ) → Fits e o c fixed before w m → At e.image.code p j
      → ((s : State) (u : Words) → Fits e o c fixed before u m → effect e.image s j (stand o u (p + 1) os) ≡ Raises n) → Raising e o n m.process m.monitor (stand o w p os)
  raise_here w p os j n f here_is h = record {
    instr = j;
    here = here_is;
    raises = λ s us same. h s (words w.locals w.owned us) (fits_left e o c fixed before w us m f same);
    inside = refl;
    handling = refl;
    frame = here.frame w.locals f.frame.size;
    others = f.others;
  }

  -- one instruction that gives an answer
  pub told_gets : (w : Words) (p q : ℕ) (os below : List Operand) (j : Instr) (a : Answer) → Fits e o c fixed before w m → At e.image.code p j → q ≡ p + 1
      → ((s : State) (u : Words) → Fits e o c fixed before u m → effect e.image s j (stand o u (p + 1) os) ≡ told o u (p + 1) below a)
      → Runs e.image (Got e o c fixed before m q below a) (stand o w p os)
  told_gets w p q os below j a f here_is end h = subst (λ n. Runs e.image (Got e o c fixed before m n below a) (stand o w p os)) (sym end) (by_answer a h)
    where
      by_answer : (a : Answer) → ((s : State) (u : Words) → Fits e o c fixed before u m → effect e.image s j (stand o u (p + 1) os) ≡ told o u (p + 1) below a)
          → Runs e.image (Got e o c fixed before m (p + 1) below a) (stand o w p os)
      by_answer (word v) h = step_runs (Got e o c fixed before m (p + 1) below (word v)) w p (p + 1) os (Value v ∷ below) j f here_is h (λ u g. arrived (u, g, refl))
      by_answer (raised n) h = arrived (raise_here w p os j n f here_is h)

  -- an answer, and what follows where it is a word
  pub then_gets : (p r q : ℕ) (start : Own) (between below : List Operand) (a : Answer) (next : ℤ → Answer) → Runs e.image (Got e o c fixed before m r between a) start
      → ((v : ℤ) (u : Words) → Fits e o c fixed before u m → Runs e.image (Got e o c fixed before m q below (next v)) (stand o u r (Value v ∷ between)))
      → Runs e.image (Got e o c fixed before m q below (with_word a next)) start
  then_gets p r q start between below (word v) next h k =
      then_runs h (λ b g. subst (λ x. Runs e.image (Got e o c fixed before m q below (next v)) x) (sym g.2) (k v g.0 g.1))
  then_gets p r q start between below (raised n) next h k = h

  -- the check of a range
  pub range_gets : (w : Words) (p q : ℕ) (os : List Operand) (v : ℤ) (r : Option Range) → Fits e o c fixed before w m → IsLine e.image.code p q (range_code r)
      → Runs e.image (Got e o c fixed before m q os (checked r v)) (stand o w p (Value v ∷ os))
  range_gets w p q os v None f line =
      subst (λ n. Runs e.image (Got e o c fixed before m n os (word v)) (stand o w p (Value v ∷ os))) (line_none e.image.code p q line) (arrived (w, f, refl))
  range_gets w p q os v (Some r) f line =
      let one : At e.image.code p (i.Range r.low r.high) × (q ≡ p + 1) = line_one e.image.code p q (i.Range r.low r.high) line in
      told_gets w p q (Value v ∷ os) os (i.Range r.low r.high) (checked (Some r) v) f one.0 one.1 (λ s u g. range_told e.image s o u (p + 1) os r v)

-- ---- calls

-- a process whose innermost frame is called from these words and operands, and goes on at an address
abbrev pub calling : Own → Words → ℕ → List Operand → Own
calling o u back below =
    record o { job = record (o.job) { callers = record { back = back; locals = u.locals; operands = below } ∷ o.job.callers } }

call_told : (e : Setting) (s : State) (o : Own) (u : Words) (q : ℕ) (t : Text) (there : IsThere e t) (values : List ℤ) (vs : Vars) (below : List Operand) → HoldValues e.program t.routine.params values vs
    → effect e.image s (i.Call (pos (number_of e.program t))) (stand o u q (pushed values below))
    ≡ Goes (stand (calling o u q below) (words (new_locals e.program t.routine values) u.owned u.shared) there.row.start [])
call_told e s o u q t there values vs below h =
    ap (λ r. table.call r (stand o u q (pushed values below))) there.found
    ∙ (ap (λ n. table.called there.row (table.arguments n (pushed values below) []) (stand o u q (pushed values below))) (there.params ∙ many)
    ∙ (ap (λ a. table.called there.row a (stand o u q (pushed values below))) (taken values below 0 [] ∙ ap (λ l. Some (l, below)) (append-nil values))
    ∙ ap (λ n. Goes (stand (calling o u q below) (words (values ++ zeros n) u.owned u.shared) there.row.start [])) (rest there.row.locals there.row.params there.locals there.params)))
  where
    many : count t.routine.params ≡ length values + 0
    many = let same : length values ≡ count t.routine.params = values_count e.program t.routine.params values vs h in omega arith

    rest : (a b : ℕ) → a ≡ routine_words e.program t.routine → b ≡ count t.routine.params → a - b ≡ behind_params e.program t.routine
    rest a b is_a is_b = omega arith

-- the frame of a routine, entered
pub entered_fits : (e : Setting) (o : Own) (c : Scope) (fixed : List ℤ) (before : Before) (m : Memory) (u : Words) (q : ℕ) (below : List Operand) (t : Text) (values : List ℤ) (vs : Vars)
    → HoldValues e.program t.routine.params values vs → Fits e o c fixed before u m
    → Fits e (calling o u q below) (routine_scope e.program t) (no_values (routine_places e.program t.routine)) (before_of (with_own m (own_vars e.program t.routine vs)))
    (words (new_locals e.program t.routine values) u.owned u.shared) (with_own m (own_vars e.program t.routine vs))
entered_fits e o c fixed before m u q below t values vs h f =
    record { frame = new_frame e.program t values vs h; others = f.others; same = λ is. (refl, refl) }

pub called_here : (e : Setting) (o : Own) (c : Scope) (fixed : List ℤ) (before : Before) (m : Memory) (u : Words) (q : ℕ) (below : List Operand) (t : Text) → Here e o c → Fits e o c fixed before u m
    → MayRun e o.job.inside t.owner (is_function t.owner t.routine.answers) → Here e (calling o u q below) (routine_scope e.program t)
called_here e o c fixed before m u q below t here f may = record { may_run = may; frame = λ locals size. here.frame u.locals f.frame.size }

-- a function may be called everywhere
pub function_may : (e : Setting) (inside : Option ℕ) (r : Owner) (an : Option Answers) (a : Answers) → an ≡ Some a → IsMine e r → MayRun e inside r (is_function r an)
function_may e inside r None a is mine = absurd cc
function_may e inside by_program (Some b) a is mine = λ no_function. absurd (not_both no_function)
  where
    not_both : true ≡ false → ⊥
    not_both h = cc
function_may e inside (by_process k) (Some b) a is mine = (mine, λ no_function. absurd (not_both no_function))
  where
    not_both : true ≡ false → ⊥
    not_both h = cc
function_may e inside (by_monitor k) (Some b) a is mine = absurd mine

-- outside all monitors every routine may be called
pub outside_may : (e : Setting) (inside : Option ℕ) (r : Owner) (b : Bool) → inside ≡ None → IsMine e r → MayRun e inside r b
outside_may e inside by_program b out mine = λ h. out
outside_may e inside (by_process k) b out mine = (mine, λ h. out)
outside_may e inside (by_monitor k) b out mine = absurd mine

-- a call, with its arguments above the operands
pub call_runs : (e : Setting) (o : Own) (c : Scope) (fixed : List ℤ) (before : Before) (m : Memory) (G : Own → Type 0) (w : Words) (p : ℕ) (below : List Operand) (t : Text) (there : IsThere e t) (values : List ℤ) (vs : Vars)
    → Fits e o c fixed before w m → HoldValues e.program t.routine.params values vs → At e.image.code p (i.Call (pos (number_of e.program t)))
    → ((u : Words) → Fits e o c fixed before u m
    → Runs e.image G (stand (calling o u (p + 1) below) (words (new_locals e.program t.routine values) u.owned u.shared) there.row.start []))
    → Runs e.image G (stand o w p (pushed values below))
call_runs e o c fixed before m G w p below t there values vs f h here_is k =
    moved (i.Call (pos (number_of e.program t)))
    (λ us. stand (calling o (words w.locals w.owned us) (p + 1) below) (words (new_locals e.program t.routine values) w.owned us) there.row.start []) here_is
    (λ s us same. call_told e s o (words w.locals w.owned us) (p + 1) t there values vs below h)
    (λ us same. k (words w.locals w.owned us) (fits_left e o c fixed before w us m f same))
