-- The code of an expression comes to its value.
use Rattle.std.specs.Prelude.{◌≡◌, ◌+◌, ℕ, List, [], ◌∷◌, ◌++◌, Some, ℤ, pos, length}
use Rattle.std.proofs.Common.{refl, sym, subst}
use Rattle.syntax_tree.specs.Plain.{Name, Param, Answers, Expr, literal, truth, variable, element, call, minus, negation, paren, row, Exprs, no_exprs, exprs, Operands, no_operands, operand}
use Rattle.base.specs.Words.{Answer, word, raised, with_word, negated, of_bool}
use Rattle.source_semantics.specs.Operators.{operated}
use Rattle.source_semantics.specs.Store.{range_of, checked}
use Rattle.source_semantics.specs.Run.{Memory, Calls, Bound, bound, unbound, with_argument, added, arguments, value, row_value, value_of, read_element, slot_in, operated_not, called, answer_of, own_vars, with_own}
use Rattle.machine_isa.specs.declared.instr.Instr.{Instr}
use Rattle.machine_isa.specs.declared.instr.Instr.TheVariants as i
use Rattle.machine_semantics.specs.State.{Operand, Value, State}
use Rattle.machine_semantics.specs.Effect.{Own, effect}
use Rattle.code_spec.specs.Layout.{Scope, home_of, spot_of, routine_places}
use Rattle.code_spec.specs.Numbering.{Text, number_of}
use Rattle.code_spec.specs.Code.{code_of, row_code, args_code, call_code, range_code, load_name, load_element, constant_named, op_instr}
use Rattle.code_spec.specs.Emits.{IsLine, At}
use Rattle.code_spec.specs.Steps.{Words, words, stand, Runs, arrived, moved}
use Rattle.code_spec.specs.Memory.{Setting, site_of, Before, Fits, FitsOthers, Here}
use Rattle.code_spec.specs.Proper.{found_of, ProperExpr, ProperRow, ProperArgs, Callee}
use Rattle.code_spec.specs.Comes.{Got}
use Rattle.code_correct.specs.Known.{IsThere, AllThere, Answered, CallsCome, pushed, GotAll}
use Rattle.code_correct.proofs.Steps.{then_runs, others_left, line_front, line_back, line_one, line_none, line_rest, told, answer_told, op_told, not_told}
use Rattle.code_correct.proofs.Loads.{name_told, element_is_told, spot_pair}
use Rattle.code_correct.proofs.Frames.{new_locals, no_values}
use Rattle.code_correct.proofs.Gets.{told_gets, then_gets, range_gets, calling, call_runs, entered_fits, called_here, function_may}

module _ (e : Setting) (o : Own) (c : Scope) (fixed : List ℤ) (before : Before) (m : Memory) (here : Here e o c) where
  -- code, and one instruction more
  one_more : (w : Words) (p q : ℕ) (os : List Operand) (js : List Instr) (j : Instr) (a : Answer) (next : ℤ → Answer) → IsLine e.image.code p q (js ++ (j ∷ []))
      → Runs e.image (Got e o c fixed before m (p + length js) os a) (stand o w p os)
      → ((s : State) (v : ℤ) (u : Words) → Fits e o c fixed before u m → effect e.image s j (stand o u (p + length js + 1) (Value v ∷ os)) ≡ told o u (p + length js + 1) os (next v))
      → Runs e.image (Got e o c fixed before m q os (with_word a next)) (stand o w p os)
  one_more w p q os js j a next line h k =
      let last : At e.image.code (p + length js) j × (q ≡ p + length js + 1) = line_one e.image.code (p + length js) q j (line_back e.image.code p q js (j ∷ []) line) in
      then_gets e o c fixed before m here p (p + length js) q (stand o w p os) os os a next h
      (λ v u f. told_gets e o c fixed before m here u (p + length js) q (Value v ∷ os) os j (next v) f last.0 last.1 (λ s x g. k s v x g))

  alone : (w : Words) (p q : ℕ) (os : List Operand) (j : Instr) (a : Answer) → Fits e o c fixed before w m → IsLine e.image.code p q (j ∷ [])
      → ((s : State) (u : Words) → Fits e o c fixed before u m → effect e.image s j (stand o u (p + 1) os) ≡ told o u (p + 1) os a)
      → Runs e.image (Got e o c fixed before m q os a) (stand o w p os)
  alone w p q os j a f line h =
      let one : At e.image.code p j × (q ≡ p + 1) = line_one e.image.code p q j line in
      told_gets e o c fixed before m here w p q os os j a f one.0 one.1 h

  -- an argument with its check, and what follows where it is a word
  argument_gets : (p q : ℕ) (w : Words) (os : List Operand) (v : Param) (ps : List Param) (js ks : List Instr) (a : Answer) (next : ℤ → Bound)
      → IsLine e.image.code p q (js ++ (range_code (range_of e.program v.kind) ++ ks))
      → Runs e.image (Got e o c fixed before m (p + length js) os a) (stand o w p os)
      → ((x : ℤ) (u : Words) → Fits e o c fixed before u m
      → Runs e.image (GotAll e o c fixed before m (v ∷ ps) q os (next x)) (stand o u (p + length js + length (range_code (range_of e.program v.kind))) (Value x ∷ os)))
      → Runs e.image (GotAll e o c fixed before m (v ∷ ps) q os (with_argument e.program v a next)) (stand o w p os)
  argument_gets p q w os v ps js ks (raised n) next line h k = h
  argument_gets p q w os v ps js ks (word x) next line h k =
      then_runs h (λ b g. subst (λ y. Runs e.image (GotAll e o c fixed before m (v ∷ ps) q os (with_argument e.program v (word x) next)) y) (sym g.2)
      (checked_gets (checked (range_of e.program v.kind) x) (stand o g.0 (p + length js) (Value x ∷ os))
      (range_gets e o c fixed before m here g.0 (p + length js) (p + length js + length (range_code (range_of e.program v.kind))) os x (range_of e.program v.kind) g.1
      (line_front e.image.code (p + length js) q (range_code (range_of e.program v.kind)) ks (line_back e.image.code p q js _ line)))))
    where
      checked_gets : (chk : Answer) (start : Own) → Runs e.image (Got e o c fixed before m (p + length js + length (range_code (range_of e.program v.kind))) os chk) start
          → Runs e.image (GotAll e o c fixed before m (v ∷ ps) q os (elim chk as (λ t. Bound) [ word y ↦ next y | raised n ↦ unbound n ])) start
      checked_gets (word y) start h = then_runs h (λ b g. subst (λ z. Runs e.image (GotAll e o c fixed before m (v ∷ ps) q os (next y)) z) (sym g.2) (k y g.0 g.1))
      checked_gets (raised n) start h = h

  -- the arguments behind one that is a word
  added_gets : (q : ℕ) (start : Own) (os : List Operand) (v : Param) (ps : List Param) (x : ℤ) (b : Bound) → Runs e.image (GotAll e o c fixed before m ps q (Value x ∷ os) b) start
      → Runs e.image (GotAll e o c fixed before m (v ∷ ps) q os (added e.program v x b)) start
  added_gets q start os v ps x (bound vs) h = then_runs h (λ b g. arrived (x ∷ g.0, (refl, g.1), g.2, g.3, g.4))
  added_gets q start os v ps x (unbound n) h = h

  -- the answer of a function is back in its caller's frame
  returned : (u : Words) (p : ℕ) (below : List Operand) (k : Memory) (a : Answer) (start : Own) → k.process ≡ m.process → k.monitor ≡ m.monitor → Fits e o c fixed before u m
      → Runs e.image (Answered e (calling o u p below) k a) start → Runs e.image (Got e o c fixed before m p below a) start
  returned u p below k (word v) start same_process same_monitor f h =
      then_runs h (λ b g. subst (λ y. Runs e.image (Got e o c fixed before m p below (word v)) y) (sym g.4)
      (moved i.ReturnValue (λ us. stand o (words u.locals g.0.owned us) p (Value v ∷ below)) g.3 (λ s us same. refl)
      (λ us same. arrived (
        words u.locals g.0.owned us,
        record {
          frame = f.frame;
          others = subst (λ y. FitsOthers e o.job.inside g.0.owned us m.process y) same_monitor (subst (λ y. FitsOthers e o.job.inside g.0.owned us y k.monitor) same_process
              (others_left e o.job.inside g.0.owned g.0.shared us k.process k.monitor g.1 same));
          same = f.same;
        },
        refl,
      ))))
  returned u p below k (raised n) start same_process same_monitor f h =
      then_runs h (λ b g. arrived (record {
        instr = g.instr;
        here = g.here;
        raises = g.raises;
        inside = g.inside;
        handling = g.handling;
        frame = g.frame;
        others = subst (λ y. FitsOthers e b.job.inside b.owned b.shared m.process y) same_monitor (subst (λ y. FitsOthers e b.job.inside b.owned b.shared y k.monitor) same_process g.others);
      }))

module _ (e : Setting) (n : ℕ) (calls : Calls) (there : AllThere e) (known : CallsCome e n calls) (o : Own) (c : Scope) (fixed : List ℤ) (before : Before) (m : Memory) (here : Here e o c) where
  -- a call of a function, whose arguments are there
  function_gets : (q : ℕ) (os : List Operand) (f : Name) (t : Text) (a : Answers) (start : Own) (p : ℕ) (b : Bound) → Callee e c n f t → t.routine.answers ≡ Some a
      → At e.image.code p (i.Call (pos (number_of e.program t))) → q ≡ p + 1 → Runs e.image (GotAll e o c fixed before m t.routine.params p os b) start
      → Runs e.image (Got e o c fixed before m q os (answer_of (site_of e c calls) m (found_of t) b)) start
  function_gets q os f t a start p (unbound k) callee is at end h = h
  function_gets q os f t a start p (bound vs) callee is at end h =
      let code : IsThere e t = there f t callee.in_source callee.mine in
      then_runs h (λ b g. subst (λ y. Runs e.image (Got e o c fixed before m q os (answer_of (site_of e c calls) m (found_of t) (bound vs))) y) (sym g.4)
      (subst (λ z. Runs e.image (Got e o c fixed before m z os (answer_of (site_of e c calls) m (found_of t) (bound vs))) (stand o g.2 p (pushed g.0 os))) (sym end)
      (call_runs e o c fixed before m (Got e o c fixed before m (p + 1) os (answer_of (site_of e c calls) m (found_of t) (bound vs))) g.2 p os t code g.0 vs g.3 g.1 at
      (λ u f2. returned e o c fixed before m here u (p + 1) os (with_own m (own_vars e.program t.routine vs)) (calls.answer (found_of t) (with_own m (own_vars e.program t.routine vs)))
      (stand (calling o u (p + 1) os) (words (new_locals e.program t.routine g.0) u.owned u.shared) code.row.start []) refl refl f2
      (known.gives f t a code callee.in_source is callee.mine callee.below callee.runs (calling o u (p + 1) os) (no_values (routine_places e.program t.routine))
      (words (new_locals e.program t.routine g.0) u.owned u.shared) (with_own m (own_vars e.program t.routine vs))
      (called_here e o c fixed before m u (p + 1) os t here f2 (function_may e o.job.inside t.owner t.routine.answers a is callee.mine))
      (entered_fits e o c fixed before m u (p + 1) os t g.0 vs g.1 f2))))))

  mutual
    pub value_gets : (p q : ℕ) (os : List Operand) (x : Expr) (w : Words) → IsLine e.image.code p q (code_of e.program c x) → ProperExpr e c n x → Fits e o c fixed before w m
        → Runs e.image (Got e o c fixed before m q os (value (site_of e c calls) m x)) (stand o w p os)
    value_gets p q os (literal k) w line ok f = alone e o c fixed before m here w p q os (i.Push (pos k)) (word (pos k)) f line (λ s u g. refl)
    value_gets p q os (truth b) w line ok f = alone e o c fixed before m here w p q os (i.Push (of_bool b)) (word (of_bool b)) f line (λ s u g. refl)
    value_gets p q os (variable x) w line ok f =
        alone e o c fixed before m here w p q os (load_name (spot_of e.program c x) (constant_named e.program x)) (value_of (site_of e c calls) m x) f line
        (λ s u g. name_told e.image s o u (p + 1) os (constant_named e.program x) (spot_of e.program c x) (slot_in (home_of c.owner) m x) ok (spot_pair e o c fixed before u m x here g))
    value_gets p q os (element x g) w line ok f =
        one_more e o c fixed before m here w p q os (code_of e.program c g) (load_element (spot_of e.program c x)) (value (site_of e c calls) m g) (λ v. read_element (slot_in (home_of c.owner) m x) v) line
        (value_gets p (p + length (code_of e.program c g)) os g w (line_front e.image.code p q (code_of e.program c g) _ line) ok.0 f)
        (λ s v u h. element_is_told e.image s o u (p + length (code_of e.program c g) + 1) os v (spot_of e.program c x) (slot_in (home_of c.owner) m x) ok.1 (spot_pair e o c fixed before u m x here h))
    value_gets p q os (call f es) w line ok fits =
        let t : Text = ok.0 in
        let whole : IsLine e.image.code p q (args_code e.program c es t.routine.params ++ (i.Call (pos (number_of e.program t)) ∷ [])) =
        subst (λ r. IsLine e.image.code p q (call_code e.program r (λ ps. args_code e.program c es ps))) ok.2.in_code line in
        let last : At e.image.code (p + length (args_code e.program c es t.routine.params)) (i.Call (pos (number_of e.program t))) × (q ≡ p + length (args_code e.program c es t.routine.params) + 1) =
        line_one e.image.code (p + length (args_code e.program c es t.routine.params)) q (i.Call (pos (number_of e.program t)))
        (line_back e.image.code p q (args_code e.program c es t.routine.params) (i.Call (pos (number_of e.program t)) ∷ []) whole) in
        subst (λ r. Runs e.image (Got e o c fixed before m q os (called (site_of e c calls) m r (λ ps. arguments (site_of e c calls) m es ps))) (stand o w p os)) (sym ok.2.in_source)
        (function_gets q os f t ok.1 (stand o w p os) (p + length (args_code e.program c es t.routine.params)) (arguments (site_of e c calls) m es t.routine.params) ok.2 ok.3 last.0 last.1
        (args_gets p (p + length (args_code e.program c es t.routine.params)) os es t.routine.params w (line_front e.image.code p q (args_code e.program c es t.routine.params) _ whole) ok.4 fits))
    value_gets p q os (minus g) w line ok f =
        one_more e o c fixed before m here w p q os (code_of e.program c g) i.Neg (value (site_of e c calls) m g) (λ v. negated v) line
        (value_gets p (p + length (code_of e.program c g)) os g w (line_front e.image.code p q (code_of e.program c g) _ line) ok f)
        (λ s v u h. answer_told o u (p + length (code_of e.program c g) + 1) os (negated v))
    value_gets p q os (negation g) w line ok f =
        one_more e o c fixed before m here w p q os (code_of e.program c g) i.Not (value (site_of e c calls) m g) (λ v. operated_not v) line
        (value_gets p (p + length (code_of e.program c g)) os g w (line_front e.image.code p q (code_of e.program c g) _ line) ok f)
        (λ s v u h. not_told e.image s o u (p + length (code_of e.program c g) + 1) os v)
    value_gets p q os (paren g) w line ok f = value_gets p q os g w line ok f
    value_gets p q os (row g r) w line ok f =
        then_gets e o c fixed before m here p (p + length (code_of e.program c g)) q (stand o w p os) os os (value (site_of e c calls) m g) (λ v. row_value (site_of e c calls) m r v)
        (value_gets p (p + length (code_of e.program c g)) os g w (line_front e.image.code p q (code_of e.program c g) (row_code e.program c r) line) ok.0 f)
        (λ v u h. row_gets (p + length (code_of e.program c g)) q os r v u (line_back e.image.code p q (code_of e.program c g) (row_code e.program c r) line) ok.1 h)

    pub row_gets : (p q : ℕ) (os : List Operand) (r : Operands) (v : ℤ) (w : Words) → IsLine e.image.code p q (row_code e.program c r) → ProperRow e c n r → Fits e o c fixed before w m
        → Runs e.image (Got e o c fixed before m q os (row_value (site_of e c calls) m r v)) (stand o w p (Value v ∷ os))
    row_gets p q os no_operands v w line ok f =
        subst (λ k. Runs e.image (Got e o c fixed before m k os (word v)) (stand o w p (Value v ∷ os))) (line_none e.image.code p q line) (arrived (w, f, refl))
    row_gets p q os (operand op g r) v w line ok f =
        let rest : IsLine e.image.code (p + length (code_of e.program c g)) q (op_instr op ∷ row_code e.program c r) = line_back e.image.code p q (code_of e.program c g) (op_instr op ∷ row_code e.program c r) line in
        then_gets e o c fixed before m here p (p + length (code_of e.program c g)) q (stand o w p (Value v ∷ os)) (Value v ∷ os) os (value (site_of e c calls) m g)
        (λ u. with_word (operated op v u) (λ z. row_value (site_of e c calls) m r z))
        (value_gets p (p + length (code_of e.program c g)) (Value v ∷ os) g w (line_front e.image.code p q (code_of e.program c g) _ line) ok.0 f)
        (λ u x h. then_gets e o c fixed before m here (p + length (code_of e.program c g)) (p + length (code_of e.program c g) + 1) q (stand o x (p + length (code_of e.program c g)) (Value u ∷ Value v ∷ os)) os os
        (operated op v u) (λ z. row_value (site_of e c calls) m r z)
        (told_gets e o c fixed before m here x (p + length (code_of e.program c g)) (p + length (code_of e.program c g) + 1) (Value u ∷ Value v ∷ os) os (op_instr op) (operated op v u) h rest.has.0 refl
        (λ s y g2. op_told e.image s o y (p + length (code_of e.program c g) + 1) os op v u))
        (λ z y h2. row_gets (p + length (code_of e.program c g) + 1) q os r z y (line_rest e.image.code (p + length (code_of e.program c g)) q (op_instr op) (row_code e.program c r) rest) ok.1 h2))

    pub args_gets : (p q : ℕ) (os : List Operand) (es : Exprs) (ps : List Param) (w : Words) → IsLine e.image.code p q (args_code e.program c es ps) → ProperArgs e c n es ps → Fits e o c fixed before w m
        → Runs e.image (GotAll e o c fixed before m ps q os (arguments (site_of e c calls) m es ps)) (stand o w p os)
    args_gets p q os no_exprs [] w line ok f =
        subst (λ k. Runs e.image (GotAll e o c fixed before m [] k os (bound [])) (stand o w p os)) (line_none e.image.code p q line) (arrived ([], tt, w, f, refl))
    args_gets p q os no_exprs (v ∷ ps) w line ok f = absurd ok
    args_gets p q os (exprs x es) [] w line ok f = absurd ok
    args_gets p q os (exprs x es) (v ∷ ps) w line ok f =
        argument_gets e o c fixed before m here p q w os v ps (code_of e.program c x) (args_code e.program c es ps) (value (site_of e c calls) m x)
        (λ y. added e.program v y (arguments (site_of e c calls) m es ps)) line
        (value_gets p (p + length (code_of e.program c x)) os x w (line_front e.image.code p q (code_of e.program c x) _ line) ok.0 f)
        (λ y u g. added_gets e o c fixed before m here q (stand o u (p + length (code_of e.program c x) + length (range_code (range_of e.program v.kind))) (Value y ∷ os)) os v ps y (arguments (site_of e c calls) m es ps)
        (args_gets (p + length (code_of e.program c x) + length (range_code (range_of e.program v.kind))) q (Value y ∷ os) es ps u
        (line_back e.image.code (p + length (code_of e.program c x)) q (range_code (range_of e.program v.kind)) (args_code e.program c es ps) (line_back e.image.code p q (code_of e.program c x) _ line)) ok.1 g))
