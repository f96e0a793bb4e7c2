-- Pieces follow one another, and an address that belongs to one lies in its code.
use Rattle.std.specs.Prelude.{◌≡◌, ◌+◌, ◌++◌, ◌≤◌, ◌<◌, ◌⊎◌, ◌&&◌, ℕ, suc, true, false, cond, List, [], ◌∷◌, length, map, Option, Some, None, nat_le, slice_get}
use Rattle.std.proofs.Common.{inl, inr, refl, sym, ap, subst, ◌∙◌, arith}
use Rattle.std.proofs.lemmas.Bool.{cases_lt, le-leb, lt-leb, eqb-true}
use Rattle.std.proofs.lemmas.List.{length-map}
use Rattle.syntax_tree.specs.Plain.{Stmt, assign, assign_entry, assign_empty, perform, perform_entry, when, when_else, loop, exit_when, get, put, wait, signal, broadcast, except, assert, Stmts, no_stmts, stmts, Answers, Handler, Process, Program}
use Rattle.source_semantics.specs.Names.{processes}
use Rattle.machine_isa.specs.declared.instr.Instr.{Instr}
use Rattle.machine_semantics.specs.Image as image
use Rattle.valid_image.specs.Pieces.{Piece, Owner, piece_of_routine, piece_of_process, pieces, closest, comes_closer, is_owner, belongs, piece_number}
use Rattle.code_spec.specs.Layout.{Owner as WhoseText, by_program, by_process, by_monitor, Scope, loops_in, loops, routine_vars_words}
use Rattle.code_spec.specs.Numbering.{Text, numbered}
use Rattle.code_spec.specs.Emits.{IsLine, inner, Emits, EmitsAll}
use Rattle.code_spec.specs.Compiled.{routine_scope, process_scope, enter_code, EmitsAnswer, EmitsEnd, EmitsRoutine, EmitsRoutines, EmitsHandler, EmitsProcess, EmitsProcesses, IsCodeOf}

-- ---- code goes forward

module _ (g : Program) (code : List Instr) where
  line_on : (p q : ℕ) (js : List Instr) → IsLine code p q js → p ≤ q
  line_on p q js l = omega (arith, l.end)

  mutual
    stmt_on : (s : Stmt) (c : Scope) (w p q : ℕ) → Emits g code c w p q s → p ≤ q
    stmt_on (assign r e) c w p q m = line_on p q _ m
    stmt_on (assign_entry r mon en es) c w p q m = line_on p q _ m
    stmt_on (assign_empty r x) c w p q m = line_on p q _ m
    stmt_on (perform f es) c w p q m = line_on p q _ m
    stmt_on (perform_entry mon en es) c w p q m = line_on p q _ m
    stmt_on (when e a) c w p q m = omega (arith, line_on p m.0 _ m.2, stmts_on a c w (m.0 + 1) m.1 m.4, m.6)
    stmt_on (when_else e a b) c w p q m = omega (arith, line_on p m.0 _ m.2, stmts_on a c w (m.0 + 1) m.1 m.4, stmts_on b c (w + loops a) (m.1 + 1) q m.6)
    stmt_on (loop x low high ss) c w p q m = omega (arith, stmts_on ss (inner c x w q) (suc w) (p + 1 + 1 + 1) m.0 m.2, m.4)
    stmt_on (exit_when e) c w p q m = omega (arith, line_on p m.0 _ m.2, m.5)
    stmt_on (get d r) c w p q m = line_on p q _ m
    stmt_on (put d e) c w p q m = line_on p q _ m
    stmt_on (wait x limit number) c w p q m = line_on p q _ m
    stmt_on (signal x) c w p q m = line_on p q _ m
    stmt_on (broadcast x) c w p q m = line_on p q _ m
    stmt_on (except n) c w p q m = line_on p q _ m
    stmt_on (assert e) c w p q m = omega (arith, line_on p m.0 _ m.1, m.5)

    stmts_on : (ss : Stmts) (c : Scope) (w p q : ℕ) → EmitsAll g code c w p q ss → p ≤ q
    stmts_on no_stmts c w p q m = omega (arith, m)
    stmts_on (stmts s ss) c w p q m = omega (arith, stmt_on s c w p m.0 m.1, stmts_on ss c (w + loops_in s) m.0 q m.2)

  answer_on : (a : Answers) (c : Scope) (p q : ℕ) → EmitsAnswer g code c p q a → p ≤ q
  answer_on a c p q m = omega (arith, line_on p m.0 _ m.1, line_on m.0 q _ m.2)

  end_on : (o : WhoseText) (a : Option Answers) (c : Scope) (p q : ℕ) → EmitsEnd g code c o p q a → p ≤ q
  end_on by_program None c p q m = line_on p q _ m
  end_on by_program (Some a) c p q m = omega (arith, answer_on a c p m.0 m.1, line_on m.0 q _ m.2)
  end_on (by_process k) None c p q m = line_on p q _ m
  end_on (by_process k) (Some a) c p q m = omega (arith, answer_on a c p m.0 m.1, line_on m.0 q _ m.2)
  end_on (by_monitor k) None c p q m = line_on p q _ m
  end_on (by_monitor k) (Some a) c p q m = omega (arith, answer_on a c p m.0 m.1, line_on m.0 q _ m.2)

  routine_on : (t : Text) (p q : ℕ) → EmitsRoutine g code t p q → p ≤ q
  routine_on t p q m =
      let first : p ≤ m.inside = line_on p m.inside (enter_code t.owner) m.enters in
      let body : m.inside ≤ m.behind = stmts_on t.routine.body (routine_scope g t) (routine_vars_words g t.routine) m.inside m.behind m.body in
      let rest : m.behind ≤ q = end_on t.owner t.routine.answers (routine_scope g t) m.behind q m.rest in
      omega (arith, first, body, rest)

  handler_on : (k : ℕ) (t : Process) (o : Option Handler) (p q : ℕ) (ip : image.Process) → EmitsHandler g code k t o p q ip → p ≤ q
  handler_on k t None p q ip m = omega (arith, m.0)
  handler_on k t (Some d) p q ip m = omega (arith, stmts_on d.body (process_scope g k t) (loops t.body) p m.0 m.1, line_on m.0 q _ m.2)

  process_on : (k : ℕ) (t : Process) (p q : ℕ) (ip : image.Process) → EmitsProcess g code k t p q ip → p ≤ q
  process_on k t p q ip m =
      let body : p ≤ m.behind = stmts_on t.body (process_scope g k t) 0 p m.behind m.body in
      let rest : m.behind + 1 ≤ q = handler_on k t t.handler (m.behind + 1) q ip m.handler in
      omega (arith, body, rest)

-- ---- pieces in a row

-- the pieces from number k on, from p to q one after the other; of each it is known what lies there
abbrev Chain : (ℕ → ℕ → ℕ → Type 0) → (k p : ℕ) → List Piece → (q : ℕ) → Type 0
Chain R k p [] q = q ≡ p
Chain R k p (y ∷ ys) q = (next : ℕ) × (y.start ≡ p) × (p ≤ next) × R k p next × Chain R (suc k) next ys q

-- what lies around an address
pub record Around (R : ℕ → ℕ → ℕ → Type 0) (k a : ℕ) : Type 0 where
  pub from : ℕ
  pub to : ℕ
  pub is : R k from to
  pub low : from ≤ a
  pub high : a < to

abbrev NotBehind : Option Owner → ℕ → Type 0
NotBehind None p = Unit {0}
NotBehind (Some b) p = b.start ≤ p

comes : (best : Option Owner) (start a : ℕ) → start ≤ a → NotBehind best start → comes_closer best start a ≡ true
comes None start a le h = le-leb start a le
comes (Some b) start a le h = ap (λ x. x && nat_le b.start start) (le-leb start a le) ∙ le-leb b.start start h

goes_past : (best : Option Owner) (start a : ℕ) → a < start → comes_closer best start a ≡ false
goes_past None start a lt = lt-leb start a lt
goes_past (Some b) start a lt = ap (λ x. x && nat_le b.start start) (lt-leb start a lt)

module _ (R : ℕ → ℕ → ℕ → Type 0) where
  chain_joined : (k p mid q n : ℕ) (xs ys : List Piece) → n ≡ k + length xs → Chain R k p xs mid → Chain R n mid ys q → Chain R k p (xs ++ ys) q
  chain_joined k p mid q n [] ys e h j = let same : n ≡ k = omega (arith, e) in subst (λ a. Chain R k a ys q) h (subst (λ v. Chain R v mid ys q) same j)
  chain_joined k p mid q n (x ∷ xs) ys e h j = (h.0, h.1, h.2, h.3, chain_joined (suc k) h.0 mid q n xs ys (omega (arith, e)) h.4 j)

  passed : (ps : List Piece) (k p q a : ℕ) (best : Option Owner) → Chain R k p ps q → a < p → closest ps k a best ≡ best
  passed [] k p q a best h lt = refl
  passed (y ∷ ys) k p q a best h lt =
      ap (λ b. closest ys (suc k) a (cond b (Some (record { number = k; start = y.start })) best)) (goes_past best y.start a (omega (arith, lt, h.1)))
      ∙ passed ys (suc k) h.0 q a best h.4 (omega (arith, lt, h.2))

  around : (ps : List Piece) (k p q a : ℕ) (best : Option Owner) (o : Owner) → Chain R k p ps q → p ≤ a → a < q → NotBehind best p → closest ps k a best ≡ Some o → Around R o.number a
  around [] k p q a best o h low high behind is = absurd (omega (arith, h, low, high))
  around (y ∷ ys) k p q a best o h low high behind is = elim (cases_lt a h.0) [
    | inl lt ↦ subst (λ z. Around R z.number a) (same (sym (passed ys (suc k) h.0 q a here h.4 lt) ∙ rest)) (record { from = p; to = h.0; is = h.3; low = low; high = lt })
    | inr le ↦ around ys (suc k) h.0 q a here o h.4 le high (omega (arith, h.1, h.2)) rest
  ]
    where
      here : Option Owner
      here = Some (record { number = k; start = y.start })

      rest : closest ys (suc k) a here ≡ Some o
      rest = ap (λ b. closest ys (suc k) a (cond b here best)) (sym (comes best y.start a (omega (arith, low, h.1)) (subst (λ v. NotBehind best v) (sym h.1) behind))) ∙ is

      same : here ≡ Some o → record { number = k; start = y.start } ≡ o
      same e = cc

-- ---- the pieces of an image

pub record OfRoutine (g : Program) (code : List Instr) (k p q : ℕ) : Type 0 where
  pub text : Text
  pub there : slice_get (numbered g) k ≡ Some text
  pub emits : EmitsRoutine g code text p q

pub record OfProcess (g : Program) (m : image.Image) (k p q : ℕ) : Type 0 where
  pub number : ℕ
  pub is : k ≡ piece_number m number
  pub text : Process
  pub there : slice_get (processes g) number ≡ Some text
  pub made : image.Process
  pub in_image : slice_get m.processes number ≡ Some made
  pub emits : EmitsProcess g m.code number text p q made

abbrev pub OfText : Program → image.Image → (k p q : ℕ) → Type 0
OfText g m k p q = OfRoutine g m.code k p q ⊎ OfProcess g m k p q

module _ (R : ℕ → ℕ → ℕ → Type 0) (g : Program) (code : List Instr) where
  routines_chain : (k p q : ℕ) (ts : List Text) (rs : List image.Routine) → EmitsRoutines g code p q ts rs
      → ((r : ℕ) (t : Text) (a b : ℕ) → slice_get ts r ≡ Some t → EmitsRoutine g code t a b → R (k + r) a b) → Chain R k p (map piece_of_routine rs) q
  routines_chain k p q [] [] h f = h
  routines_chain k p q [] (y ∷ ys) h f = absurd h
  routines_chain k p q (u ∷ us) [] h f = absurd h
  routines_chain k p q (u ∷ us) (y ∷ ys) h f =
      let flat : k + 0 ≡ k = omega arith in (
        h.0,
        h.2,
        routine_on g code u p h.0 h.3,
        subst (λ n. R n p h.0) flat (f 0 u p h.0 refl h.3),
        routines_chain (suc k) h.0 q us ys h.4 (λ r t a b there emits. let e : k + suc r ≡ suc k + r = omega arith in subst (λ n. R n a b) e (f (suc r) t a b there emits)),
      )

  processes_chain : (n k p q : ℕ) (ts : List Process) (rs : List image.Process) → EmitsProcesses g code k p q ts rs
      → ((r : ℕ) (t : Process) (x : image.Process) (a b : ℕ) → slice_get ts r ≡ Some t → slice_get rs r ≡ Some x → EmitsProcess g code (k + r) t a b x → R (n + r) a b) → Chain R n p (map piece_of_process rs) q
  processes_chain n k p q [] [] h f = h
  processes_chain n k p q [] (y ∷ ys) h f = absurd h
  processes_chain n k p q (u ∷ us) [] h f = absurd h
  processes_chain n k p q (u ∷ us) (y ∷ ys) h f =
      let flat : n + 0 ≡ n = omega arith in
      let none : k ≡ k + 0 = omega arith in (
        h.0,
        h.1.start,
        process_on g code k u p h.0 y h.1,
        subst (λ v. R v p h.0) flat (f 0 u y p h.0 refl refl (subst (λ j. EmitsProcess g code j u p h.0 y) none h.1)),
        processes_chain (suc n) (suc k) h.0 q us ys h.2
            (λ r t x a b there made emits. let e : n + suc r ≡ suc n + r = omega arith in
            let d : suc k + r ≡ k + suc r = omega arith in
            subst (λ v. R v a b) e (f (suc r) t x a b there made (subst (λ j. EmitsProcess g code j t a b x) d emits))),
      )

pub routines_counted : (g : Program) (code : List Instr) (p q : ℕ) (ts : List Text) (rs : List image.Routine) → EmitsRoutines g code p q ts rs → length rs ≡ length ts
routines_counted g code p q [] [] h = refl
routines_counted g code p q [] (y ∷ ys) h = absurd h
routines_counted g code p q (u ∷ us) [] h = absurd h
routines_counted g code p q (u ∷ us) (y ∷ ys) h = ap (λ n. suc n) (routines_counted g code h.0 q us ys h.4)

owner_is : (k : ℕ) (x : Option Owner) → is_owner k x ≡ true → (o : Owner) × (x ≡ Some o) × (o.number ≡ k)
owner_is k None h = absurd cc
owner_is k (Some o) h = (o, refl, eqb-true o.number k h)

module _ (g : Program) (m : image.Image) (is : IsCodeOf g m) where
  all_chain : Chain (OfText g m) 0 0 (pieces m) (length m.code)
  all_chain =
      chain_joined (OfText g m) 0 0 is.between (length m.code) (length m.routines) (map piece_of_routine m.routines) (map piece_of_process m.processes) (omega (arith, length-map m.routines piece_of_routine))
      (routines_chain (OfText g m) g m.code 0 0 is.between (numbered g) m.routines is.routine_code
      (λ r t a b there emits. inl (record { text = t; there = let e : r ≡ 0 + r = omega arith in subst (λ n. slice_get (numbered g) n ≡ Some t) e there; emits = emits })))
      (processes_chain (OfText g m) g m.code (length m.routines) 0 is.between (length m.code) (processes g) m.processes is.process_code
      (λ r t x a b there made emits. let e : 0 + r ≡ r = omega arith in
      inr (record { number = r; is = refl; text = t; there = there; made = x; in_image = made; emits = subst (λ j. EmitsProcess g m.code j t a b x) e emits })))

  pub lies : (k a : ℕ) → a < length m.code → belongs m k a ≡ true → Around (OfText g m) k a
  lies k a lt h =
      let o = owner_is k (closest (pieces m) 0 a None) h in
      subst (λ n. Around (OfText g m) n a) o.2 (around (OfText g m) (pieces m) 0 0 (length m.code) a None o.0 all_chain (omega arith) lt tt o.1)
