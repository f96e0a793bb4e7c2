-- Locals, stacks and words.
use Rattle.std.specs.Prelude.{◌≡◌, ◌≤◌, ◌+◌, ℕ, zero, suc, List, [], ◌∷◌, length, Some, None, slice_get, max, min}
use Rattle.std.proofs.Common.{refl, sym, ap, subst, ◌∙◌, arith}
use Rattle.std.proofs.lemmas.Bool.{eq-eqb}
use Rattle.syntax_tree.specs.Plain.{Process, Program}
use Rattle.syntax_tree.specs.Plain as tree
use Rattle.source_semantics.specs.Names.{monitors}
use Rattle.machine_semantics.specs.Image as image
use Rattle.valid_image.specs.Fault.{unless}
use Rattle.valid_image.specs.Tables.{handler_found, found_or_nothing}
use Rattle.valid_image.specs.Sizes.{below, other, depth_of, needed_stack, end_of_words, due_base, words_over_all, size_fault}
use Rattle.code_spec.specs.Layout.{routine_words, words_of, monitor_vars, count}
use Rattle.code_spec.specs.Numbering.{numbered}
use Rattle.code_spec.specs.Compiled.{AreMonitors, IsCodeOf}
use Rattle.code_cost_spec.specs.Heights.{stmts_height, handler_height}
use Rattle.code_cost_spec.specs.Levels.{calls_of, process_names}
use Rattle.code_measures.specs.Declared.{IsBelow, IsSound, Declares, declared_calls}
use Rattle.code_measures.proofs.Likes.{process_same}
use Rattle.code_measures.proofs.Rows.{stands}
use Rattle.code_measures.proofs.Bodies.{text_at, body, calls_all, handler_same}
use Rattle.code_measures.proofs.CostPart.{none_all, both_none, enough}

abbrev due_from : ℕ → List image.Monitor → ℕ → ℕ
due_from b ms zero = b
due_from b ms (suc j) = end_of_words (slice_get ms j)

due_next : (y : image.Monitor) (ys : List image.Monitor) (b j : ℕ) → due_from (y.base + y.words) ys j ≡ due_from b (y ∷ ys) (suc j)
due_next y ys b zero = refl
due_next y ys b (suc j) = refl

due_is : (ms : List image.Monitor) (j : ℕ) → due_from 0 ms j ≡ due_base ms j
due_is ms zero = refl
due_is ms (suc j) = refl

bases_follow : (g : Program) (b : ℕ) (ms : List tree.Monitor) (ks : List image.Monitor) (j : ℕ) (x : image.Monitor) → AreMonitors g b ms ks → slice_get ks j ≡ Some x → x.base ≡ due_from b ks j
bases_follow g b [] [] j x h at = absurd cc
bases_follow g b [] (y ∷ ys) j x h at = absurd h
bases_follow g b (k ∷ ks) [] j x h at = absurd h
bases_follow g b (k ∷ ks) (y ∷ ys) zero x h at = let same : y ≡ x = cc in subst (λ z. z.base ≡ b) same h.0
bases_follow g b (k ∷ ks) (y ∷ ys) (suc j) x h at =
    bases_follow g (y.base + y.words) ks ys j x (subst (λ z. AreMonitors g z ks ys) (further h.0 h.1) h.2) at ∙ due_next y ys b j
  where
    further : y.base ≡ b → y.words ≡ words_of g (monitor_vars k) → b + words_of g (monitor_vars k) ≡ y.base + y.words
    further e f = omega (arith, e, f)

module _ (g : Program) (m : image.Image) (is : IsCodeOf g m) (sound : IsSound g) (declares : Declares g m) where
  locals_fit : (r : ℕ) (x : image.Routine) → slice_get m.routines r ≡ Some x → below x.locals x.params ≡ None
  locals_fit r x at =
      let t = text_at g m.code 0 is.between (numbered g) m.routines r x is.routine_code at in
      let s = stands g m is r t.0 t.1 in
      let same_x : s.x ≡ x = (let e : Some s.x ≡ Some x = sym s.there ∙ at in cc) in
      let p : s.x.params ≡ count t.0.routine.params = s.is_r.params in
      let l : s.x.locals ≡ routine_words g t.0.routine = s.is_r.locals in
      subst (λ y. below y.locals y.params ≡ None) same_x (enough s.x.locals s.x.params (omega (arith, p, l)))

  stack_fits : (k : ℕ) (x : image.Process) → slice_get m.processes k ≡ Some x → below x.stack (needed_stack m x) ≡ None
  stack_fits k x at =
      let b = body g m is sound declares k x at in
      let like = process_same g (λ y. IsBelow g (length (numbered g)) y) (declared_calls g) (calls_of g) (calls_all g m is sound declares) k b.text (sound.bodies k b.text b.there) in
      let d = declares.bodies k b.text x b.there at in
      let deep : depth_of m x ≡ max (stmts_height g (process_names g k b.text).owner (declared_calls g) b.text.body) (handler_height g (process_names g k b.text).owner (declared_calls g) b.text.handler) =
      ap (λ o. max (found_or_nothing o).depth (found_or_nothing (handler_found m x x.handler_tree)).depth) b.measured.body_is
      ∙ (ap (λ o. max b.measured.body.depth (found_or_nothing o).depth) (handler_same g m is sound declares x x.handler_tree ∙ b.measured.handler_is) ∙ b.measured.height) in
      enough _ _ (fits b.emits.locals (deep ∙ like.height) d.stack)
    where
      fits : {l w d h s : ℕ} → l ≡ w → d ≡ h → s ≡ w + h → l + min d 4097 ≤ s
      fits e f h = omega (arith, e, f, h)

  -- sizes are as declared
  pub no_size_fault : words_over_all m ≤ 1048576 → size_fault m ≡ None
  no_size_fault few =
      both_none _ _ (none_all (λ r x. below x.locals x.params) m.routines (λ j x at. locals_fit j x at))
      (both_none _ _ (none_all (λ k x. below x.stack (needed_stack m x)) m.processes (λ j x at. stack_fits j x at))
      (both_none _ _ (none_all (λ j x. other x.base (due_base m.monitors j)) m.monitors
      (λ j x at. ap (λ b. unless b x.base (due_base m.monitors j)) (eq-eqb x.base (due_base m.monitors j) (bases_follow g 0 (monitors g) m.monitors j x is.monitor_words at ∙ due_is m.monitors j))))
      (enough 1048576 (words_over_all m) few)))
