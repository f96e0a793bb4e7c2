-- What the pieces of a whole image call.
use Rattle.std.specs.Prelude.{◌≡◌, ◌+◌, ◌-◌, ◌++◌, ◌≤◌, ◌<◌, ◌&&◌, ◌||◌, ℕ, zero, suc, Bool, true, false, cond, List, [], ◌∷◌, length, map, Some, None, nat_le, nat_lt, slice_get}
use Rattle.std.proofs.Common.{refl, sym, ap, subst, ◌∙◌, arith}
use Rattle.std.proofs.lemmas.Bool.Decides.{nat_tests}
use Rattle.std.proofs.lemmas.Option.{slice_get_within, same_Some}
use Rattle.std.proofs.lemmas.List.{length-map, length-append}
use Rattle.syntax_tree.specs.Plain.{Process, Program}
use Rattle.source_semantics.specs.Names.{processes}
use Rattle.machine_isa.specs.declared.instr.Instr.{Instr}
use Rattle.machine_semantics.specs.Image as image
use Rattle.valid_image.specs.Pieces.{piece_of_routine, piece_of_process, pieces, belongs, called_by, called_from, called, piece_number}
use Rattle.valid_image.specs.Tables.{some_of}
use Rattle.code_spec.specs.Layout.{by_process}
use Rattle.code_spec.specs.Numbering.{Text, called_text, routine_calls, numbered}
use Rattle.code_spec.specs.Compiled.{EmitsRoutine, EmitsRoutines, EmitsProcess, EmitsProcesses, IsCodeOf}
use Rattle.code_measures.specs.Declared.{IsBelow, IsSound}
use Rattle.sched_program.specs.Tasks.{some_called, process_calls}
use Rattle.built_tasks_law.specs.Calls.{by_number, RoutinesCallTheirTexts, ProcessesCallTheirTexts}
use Rattle.built_tasks_law.proofs.Tests.{or_false, or_three, or_both, some_both, passes}
use Rattle.built_tasks_law.proofs.Spans.{some_at, Spans, in_order}
use Rattle.built_tasks_law.proofs.Routines.{routine_span, process_span}
use Rattle.built_tasks_law.proofs.Pieces.{Laid, laid_both, Lies, lies}

-- ---- lists

pub as_many_routines : (g : Program) (code : List Instr) (p q : ℕ) (ts : List Text) (rs : List image.Routine) → EmitsRoutines g code p q ts rs → length rs ≡ length ts
as_many_routines g code p q [] [] h = refl
as_many_routines g code p q [] (y ∷ ys) h = absurd h
as_many_routines g code p q (u ∷ us) [] h = absurd h
as_many_routines g code p q (u ∷ us) (y ∷ ys) h = ap (λ n. suc n) (as_many_routines g code h.0 q us ys h.4)

pub as_many_processes : (g : Program) (code : List Instr) (k p q : ℕ) (ts : List Process) (rs : List image.Process) → EmitsProcesses g code k p q ts rs → length rs ≡ length ts
as_many_processes g code k p q [] [] h = refl
as_many_processes g code k p q [] (y ∷ ys) h = absurd h
as_many_processes g code k p q (u ∷ us) [] h = absurd h
as_many_processes g code k p q (u ∷ us) (y ∷ ys) h = ap (λ n. suc n) (as_many_processes g code (suc k) h.0 q us ys h.2)

-- ---- the calls of a piece

module _ (test : ℕ → Bool) (m : image.Image) (k : ℕ) where
  from_split : (n j a : ℕ) → some_of test (called_from m k (n + j) a) ≡ some_of test (called_from m k n a) || some_of test (called_from m k j (a + n))
  from_split zero j a =
      let z : 0 + j ≡ j = omega arith in
      let y : a ≡ a + 0 = omega arith in
      ap (λ i. some_of test (called_from m k i a)) z ∙ ap (λ b. some_of test (called_from m k j b)) y
  from_split (suc n) j a =
      let z : suc n + j ≡ suc (n + j) = omega arith in
      let y : a + 1 + n ≡ a + suc n = omega arith in
      let here : List ℕ = cond (belongs m k a) (called_by (slice_get m.code a)) [] in
      ap (λ i. some_of test (called_from m k i a)) z
      ∙ (some_both test here (called_from m k (n + j) (a + 1))
      ∙ (ap (λ b. some_of test here || b) (from_split n j (a + 1))
      ∙ (sym (or_three (some_of test here) (some_of test (called_from m k n (a + 1))) (some_of test (called_from m k j (a + 1 + n))))
      ∙ (ap (λ b. b || some_of test (called_from m k j (a + 1 + n))) (sym (some_both test here (called_from m k n (a + 1))))
      ∙ ap (λ b. some_of test (called_from m k (suc n) a) || some_of test (called_from m k j b)) y))))

  from_outside : (n a : ℕ) → ((x : ℕ) → a ≤ x → x < a + n → belongs m k x ≡ false) → some_of test (called_from m k n a) ≡ false
  from_outside zero a out = refl
  from_outside (suc n) a out =
      ap (λ b. some_of test (cond b (called_by (slice_get m.code a)) [] ++ called_from m k n (a + 1))) (out a (omega arith) (omega arith))
      ∙ from_outside n (a + 1) (λ x le lt. out x (omega (arith, le)) (omega (arith, lt)))

  from_inside : (n a : ℕ) → ((x : ℕ) → a ≤ x → x < a + n → belongs m k x ≡ true) → some_of test (called_from m k n a) ≡ some_at test m.code a n
  from_inside zero a own = refl
  from_inside (suc n) a own =
      ap (λ b. some_of test (cond b (called_by (slice_get m.code a)) [] ++ called_from m k n (a + 1))) (own a (omega arith) (omega arith))
      ∙ (some_both test (called_by (slice_get m.code a)) (called_from m k n (a + 1))
      ∙ ap (λ z. passes test (slice_get m.code a) || z) (from_inside n (a + 1) (λ x le lt. own x (omega (arith, le)) (omega (arith, lt)))))

  -- those between two addresses, where just the addresses between belong to it
  pub between : (low n high after : ℕ) → high ≡ low + n → length m.code ≡ high + after → ((x : ℕ) → x < length m.code → belongs m k x ≡ (nat_le low x && nat_lt x high))
      → some_of test (called m k) ≡ some_at test m.code low n
  between low n high after is all own =
      ap (λ i. some_of test (called_from m k i 0)) whole
      ∙ (from_split low (n + after) 0
      ∙ (or_both (from_outside low 0 (λ x le lt. own x (omega (arith, lt, is, all)) ∙ before x (omega (arith, lt))))
      (from_split n after (0 + low)
      ∙ or_both (ap (λ a. some_of test (called_from m k n a)) start ∙ from_inside n low (λ x le lt. own x (omega (arith, lt, is, all)) ∙ within x le (omega (arith, lt, is))))
      (from_outside after (0 + low + n) (λ x le lt. own x (omega (arith, lt, is, all)) ∙ behind x (omega (arith, le, is)))))
      ∙ or_false (some_at test m.code low n)))
    where
      whole : length m.code ≡ low + (n + after)
      whole = omega (arith, is, all)

      start : 0 + low ≡ low
      start = omega arith

      before : (x : ℕ) → x < low → (nat_le low x && nat_lt x high) ≡ false
      before x lt = let e : nat_le low x ≡ false = grind (arith, nat_tests, lt) in ap (λ z. z && nat_lt x high) e

      within : (x : ℕ) → low ≤ x → x < high → (nat_le low x && nat_lt x high) ≡ true
      within x le lt =
          let e : nat_le low x ≡ true = grind (arith, nat_tests, le) in
          let h : nat_lt x high ≡ true = grind (arith, nat_tests, lt) in
          ap (λ z. z && nat_lt x high) e ∙ h

      behind : (x : ℕ) → high ≤ x → (nat_le low x && nat_lt x high) ≡ false
      behind x le = let h : nat_lt x high ≡ false = grind (arith, nat_tests, le) in ap (λ z. nat_le low x && z) h ∙ no (nat_le low x)
        where
          no : (b : Bool) → (b && false) ≡ false
          no true = refl
          no false = refl

-- ---- the image of a program

module _ (g : Program) (m : image.Image) (is : IsCodeOf g m) (sound : IsSound g) (test : ℕ → Bool) where
  -- what is known of piece k, which lies from p to q
  record Calls (k p q : ℕ) : Type 0 where
    routine : (t : Text) → slice_get (numbered g) k ≡ Some t → Spans test m.code p q (some_called (by_number g test) (called_text g t.owner) (routine_calls t.routine))
    process : (j : ℕ) (t : Process) → k ≡ piece_number m j → slice_get (processes g) j ≡ Some t → Spans test m.code p q (some_called (by_number g test) (called_text g (by_process j)) (process_calls t))

  routines_many : length m.routines ≡ length (numbered g)
  routines_many = as_many_routines g m.code 0 is.between (numbered g) m.routines is.routine_code

  processes_many : length m.processes ≡ length (processes g)
  processes_many = as_many_processes g m.code 0 is.between (length m.code) (processes g) m.processes is.process_code

  routine_known : (k p q : ℕ) (u : Text) → slice_get (numbered g) k ≡ Some u → EmitsRoutine g m.code u p q → k < length m.routines → (p ≤ q) × Calls k p q
  routine_known k p q u at emits low =
      let s = routine_span g test (λ y. IsBelow g k y) m.code u p q (sound.routines k u at) emits in (
        in_order test m.code p q (some_called (by_number g test) (called_text g u.owner) (routine_calls u.routine)) s,
        record {
          routine = λ t there. subst (λ y. Spans test m.code p q (some_called (by_number g test) (called_text g y.owner) (routine_calls y.routine))) (same_Some u t (sym at ∙ there)) s;
          process = λ j t e there. absurd (omega (arith, low, e));
        },
      )

  routines_laid : (k p q : ℕ) (ts : List Text) (rs : List image.Routine) → EmitsRoutines g m.code p q ts rs → ((r : ℕ) (t : Text) → slice_get ts r ≡ Some t → slice_get (numbered g) (k + r) ≡ Some t)
      → k + length rs ≤ length m.routines → Laid Calls k p (map piece_of_routine rs) q
  routines_laid k p q [] [] h at low = h
  routines_laid k p q [] (y ∷ ys) h at low = absurd h
  routines_laid k p q (u ∷ us) [] h at low = absurd h
  routines_laid k p q (u ∷ us) (y ∷ ys) h at low =
      let here : k + 0 ≡ k = omega arith in
      let one = routine_known k p h.0 u (subst (λ n. slice_get (numbered g) n ≡ Some u) here (at 0 u refl)) h.3 (omega (arith, low)) in
      (h.0, h.2, one.0, one.1, routines_laid (suc k) h.0 q us ys h.4 (λ r t there. further r t (at (suc r) t there)) (omega (arith, low)))
    where
      further : (r : ℕ) (t : Text) → slice_get (numbered g) (k + suc r) ≡ Some t → slice_get (numbered g) (suc k + r) ≡ Some t
      further r t e = let z : k + suc r ≡ suc k + r = omega arith in subst (λ n. slice_get (numbered g) n ≡ Some t) z e

  process_known : (j p q : ℕ) (u : Process) (x : image.Process) → slice_get (processes g) j ≡ Some u → EmitsProcess g m.code j u p q x → (p ≤ q) × Calls (length m.routines + j) p q
  process_known j p q u x at emits =
      let s = process_span g test (λ y. IsBelow g (length (numbered g)) y) m.code j u p q x (sound.bodies j u at) emits in (
        in_order test m.code p q (some_called (by_number g test) (called_text g (by_process j)) (process_calls u)) s,
        record {
          routine = λ t there. absurd (omega (arith, slice_get_within (numbered g) (length m.routines + j) t there, routines_many));
          process = λ i t e there. other i t (omega (arith, e)) there s;
        },
      )
    where
      other : (i : ℕ) (t : Process) → j ≡ i → slice_get (processes g) i ≡ Some t → Spans test m.code p q (some_called (by_number g test) (called_text g (by_process j)) (process_calls u))
          → Spans test m.code p q (some_called (by_number g test) (called_text g (by_process i)) (process_calls t))
      other i t same there s =
          subst (λ n. Spans test m.code p q (some_called (by_number g test) (called_text g (by_process n)) (process_calls t))) same
          (subst (λ y. Spans test m.code p q (some_called (by_number g test) (called_text g (by_process j)) (process_calls y))) (same_Some u t (sym at ∙ (ap (λ n. slice_get (processes g) n) same ∙ there))) s)

  processes_laid : (j p q : ℕ) (ts : List Process) (rs : List image.Process) → EmitsProcesses g m.code j p q ts rs → ((i : ℕ) (t : Process) → slice_get ts i ≡ Some t → slice_get (processes g) (j + i) ≡ Some t)
      → Laid Calls (length m.routines + j) p (map piece_of_process rs) q
  processes_laid j p q [] [] h at = h
  processes_laid j p q [] (y ∷ ys) h at = absurd h
  processes_laid j p q (u ∷ us) [] h at = absurd h
  processes_laid j p q (u ∷ us) (y ∷ ys) h at =
      let here : j + 0 ≡ j = omega arith in
      let next : length m.routines + suc j ≡ suc (length m.routines + j) = omega arith in
      let one = process_known j p h.0 u y (subst (λ n. slice_get (processes g) n ≡ Some u) here (at 0 u refl)) h.1 in
      (h.0, h.1.start, one.0, one.1, subst (λ n. Laid Calls n h.0 (map piece_of_process ys) q) next (processes_laid (suc j) h.0 q us ys h.2 (λ i t there. further i t (at (suc i) t there))))
    where
      further : (i : ℕ) (t : Process) → slice_get (processes g) (j + suc i) ≡ Some t → slice_get (processes g) (suc j + i) ≡ Some t
      further i t e = let z : j + suc i ≡ suc j + i = omega arith in subst (λ n. slice_get (processes g) n ≡ Some t) z e

  all_laid : Laid Calls 0 0 (pieces m) (length m.code)
  all_laid =
      laid_both Calls 0 0 is.between (length m.code) (map piece_of_routine m.routines) (map piece_of_process m.processes)
      (routines_laid 0 0 is.between (numbered g) m.routines is.routine_code (λ r t at. subst (λ n. slice_get (numbered g) n ≡ Some t) (flat r) at) (omega arith))
      (subst (λ n. Laid Calls n is.between (map piece_of_process m.processes) (length m.code)) many (processes_laid 0 is.between (length m.code) (processes g) m.processes is.process_code (λ i t at. subst (λ n. slice_get (processes g) n ≡ Some t) (flat i) at)))
    where
      flat : (n : ℕ) → n ≡ 0 + n
      flat n = omega arith

      many : length m.routines + 0 ≡ 0 + length (map piece_of_routine m.routines)
      many = let e : length (map piece_of_routine m.routines) ≡ length m.routines = length-map m.routines piece_of_routine in omega (arith, e)

  pieces_many : length (pieces m) ≡ length m.routines + length m.processes
  pieces_many =
      let e = length-append (map piece_of_routine m.routines) (map piece_of_process m.processes) in
      let r = length-map m.routines piece_of_routine in
      let p = length-map m.processes piece_of_process in
      omega (arith, e, r, p)

  -- what a piece that lies there calls
  of_piece : (k : ℕ) (b : Bool) → k < length (pieces m) → ((p q : ℕ) → Calls k p q → Spans test m.code p q b) → some_of test (called m k) ≡ b
  of_piece k b low known =
      let z : 0 + k ≡ k = omega arith in
      let l = subst (λ n. Lies Calls 0 (pieces m) 0 n (length m.code) 0) z (lies Calls 0 0 (length m.code) (pieces m) k all_laid low) in
      let s = known l.low l.high l.known in
      let inside : l.high ≤ length m.code = l.inside in
      between test m k l.low s.many l.high (length m.code - l.high) s.end (omega (arith, inside)) (λ x lt. l.own x None tt lt) ∙ s.is

  pub routine_calls_text : (r : ℕ) (t : Text) → slice_get (numbered g) r ≡ Some t → some_of test (called m r) ≡ some_called (by_number g test) (called_text g t.owner) (routine_calls t.routine)
  routine_calls_text r t at =
      of_piece r (some_called (by_number g test) (called_text g t.owner) (routine_calls t.routine)) (omega (arith, slice_get_within (numbered g) r t at, routines_many, pieces_many)) (λ p q c. c.routine t at)

  pub process_calls_text : (k : ℕ) (p : Process) → slice_get (processes g) k ≡ Some p → some_of test (called m (piece_number m k)) ≡ some_called (by_number g test) (called_text g (by_process k)) (process_calls p)
  process_calls_text k p at =
      of_piece (piece_number m k) (some_called (by_number g test) (called_text g (by_process k)) (process_calls p)) (omega (arith, slice_get_within (processes g) k p at, processes_many, pieces_many)) (λ a b c. c.process k p refl at)

pub routines_call_their_texts : RoutinesCallTheirTexts
routines_call_their_texts g m is sound test r t at = routine_calls_text g m is sound test r t at

pub processes_call_their_texts : ProcessesCallTheirTexts
processes_call_their_texts g m is sound test k p at = process_calls_text g m is sound test k p at
