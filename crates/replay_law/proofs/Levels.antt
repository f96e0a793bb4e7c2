-- The statements of a program text nest at most 64 deep, and each routine has an owner that is there.
use Rattle.std.proofs.Common.{◌≡◌, ◌≤◌, ◌<◌, ◌+◌, ◌++◌, inl, inr, ℕ, zero, suc, List, [], ◌∷◌, length, map, filter_map, Option, Some, None, arith, subst}
use Rattle.std.specs.Prelude.{Contains, slice_get}
use Rattle.base.proofs.Members.{front_or_behind, none_in}
use Rattle.syntax_tree.specs.Plain as plain_of
use Rattle.syntax_tree.specs.Placed.{Stmt, assign, assign_entry, assign_empty, perform, perform_entry, when, when_else, loop, exit_when, get, put, wait, signal, broadcast, except, assert, Stmts, no_stmts, stmts, Routine, Handler, Decl, constant, device, event, routine, monitor, process, Prog, plain, plain_decl, plain_handler, plain_process, plain_routine, plain_stmt, plain_stmts, optional}
use Rattle.syntax_tree.specs.declared.place.Place.{Place}
use Rattle.syntax.specs.Words.{Tok}
use Rattle.syntax.specs.ExprGrammar.{Each}
use Rattle.syntax.specs.StmtGrammar.{IsStmt, AreStmts}
use Rattle.syntax.specs.Grammar.{IsDecl, IsEntry, IsHandler, IsRoutine}
use Rattle.source_semantics.specs.Names.{monitor_in, monitors, process_in, processes}
use Rattle.code_spec.specs.Layout.{Owner, by_program, by_process, by_monitor}
use Rattle.code_spec.specs.Numbering.{Text, texts_from, texts_of}
use Rattle.front_end.specs.Source.{IsTreeOf}
use Rattle.replay_law.proofs.Nesting.{Nests, StmtNests}

-- ---- statements

mutual
  stmt_nests : (n : ℕ) (s : Stmt Place) (ts us : List (Tok Place)) → IsStmt n s ts us → StmtNests n (plain_stmt s)
  stmt_nests n (assign r e) ts us t = tt
  stmt_nests n (assign_entry r mon p entry q es) ts us t = tt
  stmt_nests n (assign_empty r cond p) ts us t = tt
  stmt_nests n (perform p m es) ts us t = tt
  stmt_nests n (perform_entry p mon entry q es) ts us t = tt
  stmt_nests zero (when p e a) ts us t = absurd t
  stmt_nests (suc n) (when p e a) ts us t = stmts_nest n a _ _ t.2.2.2.1
  stmt_nests zero (when_else p e a b) ts us t = absurd t
  stmt_nests (suc n) (when_else p e a b) ts us t = (stmts_nest n a _ _ t.2.2.2.1, stmts_nest n b _ _ t.2.2.2.2.2.1)
  stmt_nests zero (loop p m q low high a) ts us t = absurd t
  stmt_nests (suc n) (loop p m q low high a) ts us t = stmts_nest n a _ _ t.2.2.2.2.2.2.2.1
  stmt_nests n (exit_when p e) ts us t = tt
  stmt_nests n (get p dev q r) ts us t = tt
  stmt_nests n (put p dev q e) ts us t = tt
  stmt_nests n (wait p cond q limit number) ts us t = tt
  stmt_nests n (signal p cond q) ts us t = tt
  stmt_nests n (broadcast p cond q) ts us t = tt
  stmt_nests n (except p number) ts us t = tt
  stmt_nests n (assert p e) ts us t = tt

  stmts_nest : (n : ℕ) (ss : Stmts Place) (ts us : List (Tok Place)) → AreStmts n ss ts us → Nests n (plain_stmts ss)
  stmts_nest n no_stmts ts us t = tt
  stmts_nest n (stmts s ss) ts us t = (stmt_nests n s ts t.0 t.1, stmts_nest n ss t.0 us t.2)

-- ---- texts

-- an owner among so many processes and monitors
abbrev pub OwnerIsThere : (processes monitors : ℕ) → Owner → Type 0
OwnerIsThere ps ms by_program = Unit {0}
OwnerIsThere ps ms (by_process k) = k < ps
OwnerIsThere ps ms (by_monitor m) = m < ms

pub record TextFits (ps ms : ℕ) (t : Text) : Type 0 where
  pub owner : OwnerIsThere ps ms t.owner
  pub nests : Nests 64 t.routine.body

abbrev AllText : (Text → Type 0) → List Text → Type 0
AllText P [] = Unit {0}
AllText P (t ∷ ts) = P t × AllText P ts

joined : (P : Text → Type 0) (ts us : List Text) → AllText P ts → AllText P us → AllText P (ts ++ us)
joined P [] us h k = k
joined P (t ∷ ts) us h k = (h.0, joined P ts us h.1 k)

text_at : (P : Text → Type 0) (ts : List Text) (t : Text) → AllText P ts → Contains ts t → P t
text_at P [] t h c = absurd (none_in t c)
text_at P (u ∷ us) t h c = elim (front_or_behind u us t c) [ inl e ↦ subst P e h.0 | inr i ↦ text_at P us t h.1 i ]

routine_nests : (r : Routine Place) (ts us : List (Tok Place)) → IsRoutine r ts us → Nests 64 (plain_routine r).body
routine_nests r ts us t = stmts_nest 64 r.body _ _ t.2.2.2.2.2.2.2.2.1

module _ (ps ms : ℕ) where
  routines_fit : (o : Owner) → OwnerIsThere ps ms o → (rs : List (Routine Place)) (ts us : List (Tok Place)) → Each IsRoutine rs ts us → AllText (TextFits ps ms) (texts_of o (map plain_routine rs))
  routines_fit o there [] ts us t = tt
  routines_fit o there (r ∷ rs) ts us t = (record { owner = there; nests = routine_nests r ts t.0 t.1 }, routines_fit o there rs t.0 us t.2)

  entries_fit : (o : Owner) → OwnerIsThere ps ms o → (rs : List (Routine Place)) (ts us : List (Tok Place)) → Each IsEntry rs ts us → AllText (TextFits ps ms) (texts_of o (map plain_routine rs))
  entries_fit o there [] ts us t = tt
  entries_fit o there (r ∷ rs) ts us t = (record { owner = there; nests = routine_nests r _ _ t.1.2 }, entries_fit o there rs t.0 us t.2)

  texts_fit : (k m : ℕ) (ds : List (Decl Place)) (ts us : List (Tok Place)) → k + length (filter_map process_in (map plain_decl ds)) ≤ ps → m + length (filter_map monitor_in (map plain_decl ds)) ≤ ms
      → Each IsDecl ds ts us → AllText (TextFits ps ms) (texts_from k m (map plain_decl ds))
  texts_fit k m [] ts us of_ps of_ms t = tt
  texts_fit k m (constant n p c ∷ ds) ts us of_ps of_ms t = texts_fit k m ds t.0 us of_ps of_ms t.2
  texts_fit k m (device n p o ∷ ds) ts us of_ps of_ms t = texts_fit k m ds t.0 us of_ps of_ms t.2
  texts_fit k m (event n p ∷ ds) ts us of_ps of_ms t = texts_fit k m ds t.0 us of_ps of_ms t.2
  texts_fit k m (routine r ∷ ds) ts us of_ps of_ms t = (record { owner = tt; nests = routine_nests r ts t.0 t.1 }, texts_fit k m ds t.0 us of_ps of_ms t.2)
  texts_fit k m (monitor d ∷ ds) ts us of_ps of_ms t =
      joined (TextFits ps ms) (texts_of (by_monitor m) (map plain_routine d.entries)) (texts_from k (suc m) (map plain_decl ds)) (entries_fit (by_monitor m) (omega (arith, of_ms)) d.entries _ _ t.1.2.2.2.1)
      (texts_fit k (suc m) ds t.0 us of_ps (omega (arith, of_ms)) t.2)
  texts_fit k m (process p ∷ ds) ts us of_ps of_ms t =
      joined (TextFits ps ms) (texts_of (by_process k) (map plain_routine p.routines)) (texts_from (suc k) m (map plain_decl ds)) (routines_fit (by_process k) (omega (arith, of_ps)) p.routines _ _ t.1.2.2.2.2.2.1)
      (texts_fit (suc k) m ds t.0 us (omega (arith, of_ps)) of_ms t.2)

-- ---- processes

abbrev pub HandlerNests : Option plain_of.Handler → Type 0
HandlerNests None = Unit {0}
HandlerNests (Some h) = Nests 64 h.body

pub record ProcessNests (p : plain_of.Process) : Type 0 where
  pub body : Nests 64 p.body
  pub handler : HandlerNests p.handler

handler_nests : (o : Option (Handler Place)) (ts us : List (Tok Place)) → IsHandler o ts us → HandlerNests (optional plain_handler o)
handler_nests None ts us t = tt
handler_nests (Some h) ts us t = stmts_nest 64 h.body _ _ t.2.2.2.2

processes_nest : (ds : List (Decl Place)) (ts us : List (Tok Place)) → Each IsDecl ds ts us → (k : ℕ) (p : plain_of.Process) → slice_get (filter_map process_in (map plain_decl ds)) k ≡ Some p → ProcessNests p
processes_nest [] ts us t k p at = absurd cc
processes_nest (constant n q c ∷ ds) ts us t k p at = processes_nest ds t.0 us t.2 k p at
processes_nest (device n q o ∷ ds) ts us t k p at = processes_nest ds t.0 us t.2 k p at
processes_nest (event n q ∷ ds) ts us t k p at = processes_nest ds t.0 us t.2 k p at
processes_nest (routine r ∷ ds) ts us t k p at = processes_nest ds t.0 us t.2 k p at
processes_nest (monitor m ∷ ds) ts us t k p at = processes_nest ds t.0 us t.2 k p at
processes_nest (process x ∷ ds) ts us t zero p at =
    let same : plain_process x ≡ p = cc in
    subst ProcessNests same (record { body = stmts_nest 64 x.body _ _ t.1.2.2.2.2.2.2.2.1; handler = handler_nests x.handler _ _ t.1.2.2.2.2.2.2.2.2.1 })
processes_nest (process x ∷ ds) ts us t (suc k) p at = processes_nest ds t.0 us t.2 k p at

-- ---- a program

module _ (text : List ℕ) (g : Prog Place) (tree : IsTreeOf text g) where
  abbrev decls : Each IsDecl g.decls tree.grown.2.0 tree.grown.2.2.0
  decls = tree.grown.2.2.1

  pub text_fits : (t : Text) → Contains (texts_from 0 0 (plain g).decls) t → TextFits (length (processes (plain g))) (length (monitors (plain g))) t
  text_fits t c =
      let ps = length (processes (plain g)) in
      let ms = length (monitors (plain g)) in
      text_at (TextFits ps ms) (texts_from 0 0 (plain g).decls) t (texts_fit ps ms 0 0 g.decls tree.grown.2.0 tree.grown.2.2.0 (omega arith) (omega arith) decls) c

  pub process_nests : (k : ℕ) (p : plain_of.Process) → slice_get (processes (plain g)) k ≡ Some p → ProcessNests p
  process_nests k p at = processes_nest g.decls tree.grown.2.0 tree.grown.2.2.0 decls k p at
