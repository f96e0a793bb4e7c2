-- Statements that others see, and what is stored to.
use Rattle.std.specs.Prelude.{◌≡◌, ◌+◌, ℕ, false, List, [], ◌∷◌, ◌++◌, Option, Some, None, ℤ, pos, length, slice_get}
use Rattle.std.proofs.Common.{refl, sym, ◌∙◌, ap, subst, arith}
use Rattle.syntax_tree.specs.Plain.{Name, Expr, Ref, whole, part, assign}
use Rattle.source_semantics.specs.Names.{condition_number}
use Rattle.source_semantics.specs.Run.{Memory, Calls, Site, Target, Run, stops, Item, receive, enter_again, Action, waits, value, with_value, with_target, condition_here, waits_here, store_to, run}
use Rattle.machine_isa.specs.declared.instr.Instr.{Instr}
use Rattle.machine_isa.specs.declared.instr.Instr.TheVariants as i
use Rattle.machine_semantics.specs.State.{Operand}
use Rattle.machine_semantics.specs.Effect.{Own}
use Rattle.code_spec.specs.Layout.{Owner, by_program, by_process, by_monitor, home_of, Scope}
use Rattle.code_spec.specs.Code.{code_of, index_code, put_code, ref_name}
use Rattle.code_spec.specs.Emits.{IsLine, At, condition_of, monitor_of}
use Rattle.code_spec.specs.Steps.{Words, stand, Runs, arrived}
use Rattle.code_spec.specs.Memory.{Setting, site_of, AllApart, Before, Same, Fits, MayRun, Here}
use Rattle.code_spec.specs.Proper.{ProperExpr, ProperIndex, ProperRef, ProperTarget, Waiting}
use Rattle.code_spec.specs.Stands.{Point, point, there, Stands, index_on, target_code}
use Rattle.code_spec.specs.Comes.{Reached, Acting, Does, IsAwaited, inside_after}
use Rattle.code_correct.specs.Known.{AllThere, CallsCome}
use Rattle.code_correct.proofs.Steps.{line_front, line_back, line_one, line_rest}
use Rattle.code_correct.proofs.Expressions.{value_gets}
use Rattle.code_correct.proofs.Stores.{Laid}
use Rattle.code_correct.proofs.Targets.{value_runs, store_runs}
use Rattle.code_correct.proofs.Items.{owner_stays}

module _ (e : Setting) (o : Own) (c : Scope) (fixed : List ℤ) (before : Before) (m : Memory) (here : Here e o c) where
  -- the instruction of an action in a text's own frame
  pub acting_here : c.is_function ≡ false → (z : Point) (w : Words) (p : ℕ) (os below : List Operand) (j : Instr) (a : Action) (rest : List Item) → Fits e o c fixed before w m → At e.image.code p j → Does e a j os below o.job.inside → IsAwaited a rest
      → Stands e (point c fixed (inside_after a o.job.inside) false (p + 1) below) rest z → Acting e o z a [] rest m (stand o w p os)
  acting_here acts z w p os below j a rest f at does awaited stands = record {
    frames = [];
    below = below;
    instr = j;
    here = at;
    does = does;
    awaited = awaited;
    callers = refl;
    inside = refl;
    handling = refl;
    frame = here.frame w.locals f.frame.size;
    others = f.others;
    stands = record {
      scope = c;
      fixed = fixed;
      home = ap (λ t. home_of t) (owner_stays e (point c fixed (inside_after a o.job.inside) false (p + 1) below) rest z stands);
      acts = acts;
      fits = f.frame;
      stands = stands;
    };
  }

  -- where a statement leads to
  abbrev pub Behind : ℕ → List Operand → Point
  Behind q os = point c fixed o.job.inside false q os

  -- what remains is a store
  pub storing : (i : Option ℕ) (q p : ℕ) (os : List Operand) (t : Target) → i ≡ o.job.inside → AllApart c.own → ProperTarget e c t.name t.index → IsLine e.image.code p q (target_code e.program c t.name t.index)
      → Stands e (point c fixed i false p (index_on t.index os)) (receive t ∷ []) (Behind q os)
  storing i q p os t same apart ok line = (
    q,
    os,
    record {
      start = p;
      onward = there;
      operands = refl;
      code = line;
      proper = ok;
      apart = apart;
      may_run = subst (λ y. MayRun e y c.owner c.is_function) (sym same) here.may_run;
    },
    tt,
    (q, there, ap (λ y. point c fixed y false q os) same),
  )

  -- nothing remains
  pub nothing : (i : Option ℕ) (p q : ℕ) (os : List Operand) → i ≡ o.job.inside → p ≡ q → Stands e (point c fixed i false p os) [] (Behind q os)
  nothing i p q os same end = (p, there, ap (λ y. point c fixed y false p os) same ∙ ap (λ y. point c fixed o.job.inside false y os) end)

-- the conditions of the source are those of the code
abbrev pub site_by : Setting → Calls → Owner → Site
site_by e k r = record { program = e.program; process = e.text; home = home_of r; calls = k }

pub condition_is : (e : Setting) (k : Calls) (r : Owner) (x : Name) → condition_here (site_by e k r) x ≡ condition_of e.program r x
condition_is e k by_program x = refl
condition_is e k (by_process j) x = refl
condition_is e k (by_monitor j) x = refl

module _ (e : Setting) (n : ℕ) (calls : Calls) (all : AllThere e) (known : CallsCome e n calls) (o : Own) (c : Scope) (fixed : List ℤ) (before : Before) (m : Memory) (here : Here e o c) where
  -- the index of what is stored to, and what follows
  pub target_runs : (z : Point) → z.scope ≡ c → (p q : ℕ) (os : List Operand) (r : Ref) (js : List Instr) (next : Target → Run) (w : Words) → IsLine e.image.code p q (index_code e.program c r ++ js) → ProperIndex e c n r → ProperRef e c r → Fits e o c fixed before w m
      → ((ix : Option ℤ) (u : Words) → ProperTarget e c (ref_name r) ix → ((a b : ℕ) → IsLine e.image.code a b (put_code e.program c r) → IsLine e.image.code a b (target_code e.program c (ref_name r) ix)) → Fits e o c fixed before u m
      → Runs e.image (Reached e o z before (next (record { name = ref_name r; index = ix }))) (stand o u (p + length (index_code e.program c r)) (index_on ix os)))
      → Runs e.image (Reached e o z before (with_target (site_of e c calls) m r next)) (stand o w p os)
  target_runs z within p q os (whole x) js next w line ok ref f k =
      subst (λ y. Runs e.image (Reached e o z before (next (record { name = x; index = None }))) (stand o w y os)) (none p) (k None w ref (λ a b l. l) f)
    where
      none : (y : ℕ) → y + 0 ≡ y
      none y = omega arith
  target_runs z within p q os (part x g) js next w line ok ref f k =
      value_runs e o c fixed before m here z (p + length (code_of e.program c g)) (stand o w p os) os (value (site_of e c calls) m g) (λ v. next (record { name = x; index = Some v })) (subst (λ t. Same t before m) (sym within) f.same)
      (value_gets e n calls all known o c fixed before m here p (p + length (code_of e.program c g)) os g w (line_front e.image.code p q (code_of e.program c g) js line) ok f)
      (λ v u h. k (Some v) u ref (λ a b l. l) h)

  -- an assignment
  pub assign_runs : Laid e → AllApart c.own → (p q : ℕ) (os : List Operand) (r : Ref) (x : Expr) (w : Words) → IsLine e.image.code p q (index_code e.program c r ++ (code_of e.program c x ++ put_code e.program c r))
      → ProperIndex e c n r → ProperRef e c r → ProperExpr e c n x → Fits e o c fixed before w m
      → Runs e.image (Reached e o (point c fixed o.job.inside false q os) before (run (site_of e c calls) m (assign r x))) (stand o w p os)
  assign_runs laid apart p q os r x w line index ref ok f =
      let a : ℕ = p + length (index_code e.program c r) in
      let rest : IsLine e.image.code (p + length (index_code e.program c r)) q (code_of e.program c x ++ put_code e.program c r) = line_back e.image.code p q (index_code e.program c r) (code_of e.program c x ++ put_code e.program c r) line in
      let last : IsLine e.image.code (p + length (index_code e.program c r) + length (code_of e.program c x)) q (put_code e.program c r) = line_back e.image.code (p + length (index_code e.program c r)) q (code_of e.program c x) (put_code e.program c r) rest in
      target_runs (point c fixed o.job.inside false q os) refl p q os r (code_of e.program c x ++ put_code e.program c r) (λ t. with_value (value (site_of e c calls) m x) m (λ v. store_to (home_of c.owner) m t v)) w line index ref f
      (λ ix u target same g. value_runs e o c fixed before m here (point c fixed o.job.inside false q os) (p + length (index_code e.program c r) + length (code_of e.program c x)) (stand o u (p + length (index_code e.program c r)) (index_on ix os)) (index_on ix os)
      (value (site_of e c calls) m x) (λ v. store_to (home_of c.owner) m (record { name = ref_name r; index = ix }) v) g.same
      (value_gets e n calls all known o c fixed before m here (p + length (index_code e.program c r)) (p + length (index_code e.program c r) + length (code_of e.program c x)) (index_on ix os) x u
      (line_front e.image.code (p + length (index_code e.program c r)) q (code_of e.program c x) (put_code e.program c r) rest) ok g)
      (λ v y h. store_runs e laid o c fixed before m here apart (ref_name r) ix y (p + length (index_code e.program c r) + length (code_of e.program c x)) q os v h target
      (same (p + length (index_code e.program c r) + length (code_of e.program c x)) q last)))

  -- an action that answers, between the index and the store
  pub answered_runs : AllApart c.own → c.is_function ≡ false → (p q : ℕ) (os : List Operand) (r : Ref) (j : Instr) (a : Action) (w : Words) → IsLine e.image.code p q (index_code e.program c r ++ (j ∷ put_code e.program c r))
      → ProperIndex e c n r → ProperRef e c r → ((below : List Operand) → Does e a j below below o.job.inside) → ((t : Target) → IsAwaited a (receive t ∷ [])) → inside_after a o.job.inside ≡ o.job.inside → Fits e o c fixed before w m
      → Runs e.image (Reached e o (point c fixed o.job.inside false q os) before (with_target (site_of e c calls) m r (λ t. stops a [] (receive t ∷ []) m))) (stand o w p os)
  answered_runs apart may p q os r j a w line index ref does awaited same f =
      let rest : IsLine e.image.code (p + length (index_code e.program c r)) q (j ∷ put_code e.program c r) = line_back e.image.code p q (index_code e.program c r) (j ∷ put_code e.program c r) line in
      target_runs (point c fixed o.job.inside false q os) refl p q os r (j ∷ put_code e.program c r) (λ t. stops a [] (receive t ∷ []) m) w line index ref f
      (λ ix u target conv g. arrived (
        may,
        acting_here e o c fixed before m here may (point c fixed o.job.inside false q os) u (p + length (index_code e.program c r)) (index_on ix os) (index_on ix os) j a (receive (record { name = ref_name r; index = ix }) ∷ []) g rest.has.0 (does (index_on ix os))
            (awaited (record { name = ref_name r; index = ix }))
            (storing e o c fixed before m here (inside_after a o.job.inside) q (p + length (index_code e.program c r) + 1) os (record { name = ref_name r; index = ix }) same apart target
            (conv (p + length (index_code e.program c r) + 1) q (line_rest e.image.code (p + length (index_code e.program c r)) q j (put_code e.program c r) rest))),
      ))

  -- an action that answers nothing, and after which nothing remains
  pub plain_runs : c.is_function ≡ false → (p q : ℕ) (os below : List Operand) (j : Instr) (a : Action) (w : Words) → IsLine e.image.code p q (j ∷ []) → Does e a j os below o.job.inside → IsAwaited a [] → inside_after a o.job.inside ≡ o.job.inside
      → Fits e o c fixed before w m → Runs e.image (Reached e o (point c fixed o.job.inside false q below) before (stops a [] [] m)) (stand o w p os)
  plain_runs may p q os below j a w line does awaited same f =
      let one : At e.image.code p j × (q ≡ p + 1) = line_one e.image.code p q j line in
      arrived (
        may,
        acting_here e o c fixed before m here may (point c fixed o.job.inside false q below) w p os below j a [] f one.0 does awaited
            (nothing e o c fixed before m here (inside_after a o.job.inside) (p + 1) q below same (sym one.1)),
      )

  -- a wait, after which the monitor is entered again
  pub wait_runs : c.is_function ≡ false → (p q : ℕ) (os : List Operand) (x : Name) (limit number : ℕ) (w : Words)
      → IsLine e.image.code p q (i.Wait (pos (condition_of e.program c.owner x)) (pos limit) (pos number) ∷ i.Reenter (pos (monitor_of c.owner)) ∷ []) → Waiting e c x → Fits e o c fixed before w m
      → Runs e.image (Reached e o (point c fixed o.job.inside false q os) before (waits_here (site_of e c calls) x limit number m)) (stand o w p os)
  wait_runs may p q os x limit number w line waiting f =
      let mon : ℕ = waiting.monitor in
      let inside : o.job.inside ≡ Some waiting.monitor = subst (λ r. MayRun e o.job.inside r c.is_function) waiting.owner here.may_run in
      let end : q ≡ p + 2 = line.end in
      let then_is : p + 1 + 1 ≡ q = omega arith in
      let again : At e.image.code (p + 1) (i.Reenter (pos waiting.monitor)) = subst (λ r. At e.image.code (p + 1) (i.Reenter (pos (monitor_of r)))) waiting.owner line.has.1.0 in
      let there_is : slice_get e.image.conditions (condition_number e.program waiting.monitor x) ≡ Some waiting.monitor =
      subst (λ r. slice_get e.image.conditions (condition_of e.program r x) ≡ Some waiting.monitor) waiting.owner waiting.condition in
      subst (λ t. Runs e.image (Reached e o (point c fixed o.job.inside false q os) before t) (stand o w p os)) (sym (ap (λ r. waits_here (site_by e calls r) x limit number m) waiting.owner))
      (arrived (
        may,
        acting_here e o c fixed before m here may (point c fixed o.job.inside false q os) w p os os (i.Wait (pos (condition_of e.program c.owner x)) (pos limit) (pos number))
            (waits (condition_number e.program waiting.monitor x) limit number) (enter_again waiting.monitor ∷ []) f line.has.0
            (waiting.monitor, ap (λ r. i.Wait (pos (condition_of e.program r x)) (pos limit) (pos number)) waiting.owner, refl, inside, there_is) (λ r. r) (
              p + 1,
              record { onward = there; here = again; outside = refl; reaches = waiting.reaches },
              tt,
              nothing e o c fixed before m here (Some waiting.monitor) (p + 1 + 1) q os (sym inside) then_is,
            ),
      ))
