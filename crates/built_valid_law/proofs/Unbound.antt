-- A function of the program reaches neither entries nor routines of processes.
use Rattle.std.specs.Prelude.{◌≡◌, ◌≤◌, ◌<◌, ◌+◌, ◌++◌, ◌&&◌, ◌||◌, not, ℕ, zero, suc, Bool, true, false, cond, ℤ, pos, negsuc, List, [], ◌∷◌, length, Option, Some, None, nat_eq, nat_lt, take, slice_get}
use Rattle.std.proofs.Common.{refl, sym, ap, subst, ◌∙◌, arith}
use Rattle.std.proofs.lemmas.Bool.{ltb-true, not-true}
use Rattle.std.proofs.lemmas.Option.{slice_get_within}
use Rattle.base.proofs.Lists.{take_get}
use Rattle.syntax_tree.specs.Plain.{Process, Program}
use Rattle.machine_isa.specs.declared.instr.Instr.{Instr}
use Rattle.machine_isa.specs.declared.instr.Instr.TheVariants as i
use Rattle.machine_semantics.specs.Image as image
use Rattle.valid_image.specs.Pieces.{belongs, called_by, called_from, called}
use Rattle.valid_image.specs.Tables.{Reach, reach, reach_of, bound_of, bound_at, some_of}
use Rattle.valid_image.specs.Operands.{Whose, is_open_some, may_be_inside, may_call, bad}
use Rattle.code_spec.specs.Layout.{Owner, by_program, by_process, home_of, routine_words}
use Rattle.code_spec.specs.Numbering.{Text, numbered, number_of}
use Rattle.code_spec.specs.Compiled.{kind_number, IsCodeOf}
use Rattle.static_semantics.specs.Here.{in_routine}
use Rattle.static_semantics.specs.Statements.{may_call as calls_more}
use Rattle.static_semantics.specs.WellFormed.{IsWellFormed}
use Rattle.codegen_law.proofs.NameNumbers.{IsText}
use Rattle.codegen_law.specs.Ruled.{NamesApart}
use Rattle.codegen_law.specs.Numbered.{CallsText}
use Rattle.codegen_law.proofs.NumberedLemmas.{listed_text}
use Rattle.code_measures.specs.Declared.{IsBelow}
use Rattle.code_measures.proofs.Firsts.{row_is, rows_before}
use Rattle.code_measures.proofs.Rows.{stands}
use Rattle.codegen_law.proofs.Owners.{text_stands}
use Rattle.codegen_law.proofs.SoundLemmas.{are_numbered, text_sound, below}
use Rattle.built_valid_law.specs.Areas.{DevicesGoOneWay}
use Rattle.built_valid_law.specs.Has.{RoutineHas}
use Rattle.built_valid_law.specs.Kept.{PieceKeeps}
use Rattle.built_valid_law.proofs.EmittedLemmas.{routine_piece_keeps}
use Rattle.built_valid_law.specs.Fine.{IsFine, MayCall, Stands}
use Rattle.built_valid_law.proofs.Texts.{routines_are_fine}
use Rattle.built_valid_law.proofs.Standing.{program_stands}
use Rattle.built_valid_law.proofs.Calls.{IsMine, called_ok, IsFunction, IsShared, calls_functions}

passes : (b : Bool) (z : ℤ) → bad b z ≡ None → b ≡ true
passes true z e = refl
passes false z e = absurd cc

first_true : (a b : Bool) → a && b ≡ true → a ≡ true
first_true true b e = refl
first_true false b e = absurd cc

second_true : (a b : Bool) → a && b ≡ true → b ≡ true
second_true true b e = e
second_true false b e = absurd cc

some_neither : (test : ℕ → Bool) (xs ys : List ℕ) → some_of test xs ≡ false → some_of test ys ≡ false → some_of test (xs ++ ys) ≡ false
some_neither test [] ys h k = k
some_neither test (x ∷ xs) ys h k = by (test x) h (some_neither test xs ys)
  where
    by : (b : Bool) → b || some_of test xs ≡ false → (some_of test xs ≡ false → some_of test ys ≡ false → some_of test (xs ++ ys) ≡ false) → b || some_of test (xs ++ ys) ≡ false
    by true h f = absurd cc
    by false h f = f h k

-- code that would do as an entry's, below number r
abbrev as_entry : (r locals : ℕ) → Whose
as_entry r locals = record { number = r; kind = 2; owner = 0; locals = locals }

module _ (m : image.Image) (r locals : ℕ) where
  abbrev rows : List Reach
  rows = take r (reach m)

  -- calls nothing bound
  call_unbound : (q : ℕ) → may_call m (as_entry r locals) (pos q) ≡ true → bound_at rows q ≡ false
  call_unbound q h =
      let known : nat_lt q r && is_open_some (as_entry r locals) (slice_get m.routines q) ≡ true = first_true (nat_lt q r && is_open_some (as_entry r locals) (slice_get m.routines q)) (may_be_inside m (as_entry r locals) q) h in
      let inside : may_be_inside m (as_entry r locals) q ≡ true = second_true (nat_lt q r && is_open_some (as_entry r locals) (slice_get m.routines q)) (may_be_inside m (as_entry r locals) q) h in
      let low : q < r = ltb-true q r (first_true (nat_lt q r) (is_open_some (as_entry r locals) (slice_get m.routines q)) known) in
      ap (λ o. bound_of o) (take_get r q (reach m) low) ∙ not-true (bound_at (reach m) q) inside

  instr_unbound : (j : Instr) → IsFine m (as_entry r locals) j → some_of (bound_at rows) (called_by (Some j)) ≡ false
  instr_unbound (i.Call (pos q)) h = ap (λ b. b || false) (call_unbound q (passes (may_call m (as_entry r locals) (pos q)) (pos q) h))
  instr_unbound (i.Call (negsuc q)) h = refl
  instr_unbound j h = refl

  at_unbound : (k a : ℕ) → PieceKeeps m (IsFine m (as_entry r locals)) k → some_of (bound_at rows) (cond (belongs m k a) (called_by (slice_get m.code a)) []) ≡ false
  at_unbound k a keeps = by (belongs m k a) refl
    where
      there : (o : Option Instr) → slice_get m.code a ≡ o → belongs m k a ≡ true → some_of (bound_at rows) (called_by o) ≡ false
      there None is mine = refl
      there (Some j) is mine = instr_unbound j (keeps a j mine is)

      by : (b : Bool) → belongs m k a ≡ b → some_of (bound_at rows) (cond b (called_by (slice_get m.code a)) []) ≡ false
      by true mine = there (slice_get m.code a) refl mine
      by false mine = refl

  from_unbound : (k n a : ℕ) → PieceKeeps m (IsFine m (as_entry r locals)) k → some_of (bound_at rows) (called_from m k n a) ≡ false
  from_unbound k zero a keeps = refl
  from_unbound k (suc n) a keeps =
      some_neither (bound_at rows) (cond (belongs m k a) (called_by (slice_get m.code a)) []) (called_from m k n (a + 1)) (at_unbound k a keeps) (from_unbound k n (a + 1) keeps)

  pub row_unbound : (x : image.Routine) → slice_get m.routines r ≡ Some x → x.kind ≡ 0 → PieceKeeps m (IsFine m (as_entry r locals)) r → bound_at (reach m) r ≡ false
  row_unbound x there kind keeps =
      let long : length rows ≡ r = rows_before (reach_of m) m.routines r (omega (arith, slice_get_within m.routines r x there)) in
      ap (λ o. bound_of o) (row_is (reach_of m) m.routines r x there)
      ∙ (ap (λ n. not (nat_eq n 0) || some_of (bound_at rows) (called m (length rows))) kind
      ∙ (ap (λ n. some_of (bound_at rows) (called m n)) long ∙ from_unbound r (length m.code) 0 keeps))

module _ (g : Program) (m : image.Image) (form : IsWellFormed g) (names : NamesApart g) (one : DevicesGoOneWay g) (is : IsCodeOf g m) where
  no_process : (w : Whose) (u : Text) → u.owner ≡ by_program → IsMine w u.owner
  no_process w u e k h = absurd (differs k (sym e ∙ h))
    where
      differs : (k : ℕ) → by_program ≡ by_process k → ⊥
      differs k f = cc

  calls_no_more : (u : Text) → IsFunction u → (p : Process) → calls_more (in_routine g p (home_of u.owner) u.routine) ≡ false
  calls_no_more u f p = ap (λ o. calls_more (in_routine g p (home_of o) u.routine)) f.owner ∙ ap (λ b. not (false || b)) f.answers

  shared : (o : Owner) → o ≡ by_program → IsShared o
  shared o e = subst (λ y. IsShared y) (sym e) tt

  room : (a b : ℕ) → a ≡ b → b ≤ a
  room a b e = omega (arith, e)

  abbrev whole_text : Text → Text
  whole_text u = record { owner = u.owner; routine = u.routine }

  is_text : (r : ℕ) (u : Text) → slice_get (numbered g) r ≡ Some u → IsText g (whole_text u)
  is_text r u at = listed_text g names.differ u ((are_numbered g form names).listed r u at)

  pub unbound : (n r : ℕ) (u : Text) → r < n → slice_get (numbered g) r ≡ Some u → IsFunction u → bound_at (reach m) r ≡ false
  unbound zero r u lt at f = absurd (omega (arith, lt))
  unbound (suc n) r u lt at f =
      let s = stands g m is r u at in
      let text : IsText g (whole_text u) = is_text r u at in
      let w : Whose = as_entry r s.x.locals in
      let may : (v : Text) → CallsText g (whole_text u) v → MayCall g m w v =
      λ v called.
      let b : IsBelow g r v = below g form names r u v at called in
      called_ok g m form names is w u.owner called.call v called.means (no_process w u f.owner) b.low
      (λ entry. unbound n (number_of g v) v (omega (arith, b.low, lt)) b.there (calls_functions g form names u.owner u.routine text (shared u.owner f.owner) (calls_no_more u f) v called)) in
      let stood = text_stands g form names u.owner u.routine text in
      let has : RoutineHas (IsFine m w) g u =
      routines_are_fine g m w stood.process u (subst (λ o. Stands g m w o) (sym f.owner) (program_stands g m form names one is w)) (room s.x.locals (routine_words g u.routine) s.is_r.locals)
      (text_sound g form names (MayCall g m w) u.owner u.routine text may) stood.fits in
      row_unbound m r s.x.locals s.x s.there (s.is_r.kind ∙ ap (λ o. kind_number o) f.owner) (routine_piece_keeps (IsFine m w) g m is r u at has)
