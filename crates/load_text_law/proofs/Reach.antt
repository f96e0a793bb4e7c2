-- No routine of the load calls another, and no handler waits or calls.
use Rattle.std.proofs.Common.{◌≡◌, ℕ, zero, suc, ◌⊎◌, inl, inr, true, false, ◌||◌, List, [], ◌∷◌, ◌++◌, Some, None, codes, refl, ap, sym, ◌∙◌, subst, All, arith}
use Rattle.std.specs.Prelude.{Contains}
use Rattle.std.proofs.lemmas.List.Elements.{All-nil, All-cons, All-contains}
use Rattle.syntax_tree.specs.declared.place.Place.{Place}
use Rattle.syntax_tree.specs.Plain.{Name}
use Rattle.syntax_tree.specs.Placed.{literal, variable, whole, Stmt, assign, put, wait, signal, Stmts, no_stmts, stmts, Routine, Handler, Process, Prog}
use Rattle.syntax_tree.specs.Bare.{bare, bare_expr, bare_stmt, bare_stmts, bare_handler}
use Rattle.syntax_tree.specs.Parts.{processes, routines}
use Rattle.static_names.specs.Occurrences.{names, declared_at}
use Rattle.static_calls.specs.Calls.{Declared, stmt_calls, stmts_calls, answer_calls, routine_calls, stmt_waits, stmts_wait}
use Rattle.static_calls.specs.Reaching.{Calls, Reaches, by_call, by_calls, CallsWaiter, HandlerWaits, ReachFails}
use Rattle.load.specs.Program.{of_number, of_name, to_name, add_entry, pause_entry, load_handler, load_program}
use Rattle.load_text_law.proofs.Shapes.{some_there, none_there, HasShape, has_shape, AreLoad, no_more, one_more}
use Rattle.load_text_law.proofs.Parts.{TwoEntries, two_entries}
use Rattle.load_text_law.proofs.Processes as ps

-- ---- statements that call nothing

assigns : (s : Stmt Place) (name from : Name) → bare_stmt s ≡ assign (to_name name) (of_name from) → (declared : Declared) (more : List Place) → stmt_calls declared s more ≡ more
assigns (assign (whole p n) (variable q v)) name from same declared more = refl
assigns s name from same declared more = cc

signals : (s : Stmt Place) (cond : Name) → bare_stmt s ≡ signal tt cond tt → (declared : Declared) (more : List Place) → stmt_calls declared s more ≡ more
signals (signal p c q) cond same declared more = refl
signals s cond same declared more = cc

waits : (s : Stmt Place) (cond : Name) (limit number : ℕ) → bare_stmt s ≡ wait tt cond tt (of_number limit) (of_number number) → (declared : Declared) (more : List Place) → stmt_calls declared s more ≡ more
waits (wait p c q l n) cond limit number same declared more = refl
waits s cond limit number same declared more = cc

record IsQuiet (s : Stmt Place) : Type 0 where
  calm : stmt_waits s ≡ false
  calls : (declared : Declared) (more : List Place) → stmt_calls declared s more ≡ more

puts : (s : Stmt Place) (dev : Name) (n : ℕ) → bare_stmt s ≡ put tt dev tt (literal tt n) → IsQuiet s
puts (put p d q (literal r k)) dev n same = record { calm = refl; calls = λ declared more. refl }
puts s dev n same = absurd cc

-- ---- bodies

add_body : (ss : Stmts Place) → bare_stmts ss ≡ add_entry.body → (declared : Declared) (more : List Place) → stmts_calls declared ss more ≡ more
add_body (stmts s (stmts t no_stmts)) same declared more =
    let first : bare_stmt s ≡ assign (to_name (codes "n")) (of_name (codes "v")) = cc in
    let second : bare_stmt t ≡ signal tt (codes "c") tt = cc in
    assigns s (codes "n") (codes "v") first declared (stmt_calls declared t more) ∙ signals t (codes "c") second declared more
add_body no_stmts same declared more = cc
add_body (stmts s no_stmts) same declared more = cc
add_body (stmts s (stmts t (stmts u ss))) same declared more = cc

pause_body : (ss : Stmts Place) → bare_stmts ss ≡ pause_entry.body → (declared : Declared) (more : List Place) → stmts_calls declared ss more ≡ more
pause_body (stmts s no_stmts) same declared more =
    let first : bare_stmt s ≡ wait tt (codes "c") tt (of_number 50) (of_number 10) = cc in
    waits s (codes "c") 50 10 first declared more
pause_body no_stmts same declared more = cc
pause_body (stmts s (stmts t ss)) same declared more = cc

record AreQuiet (ss : Stmts Place) : Type 0 where
  calm : stmts_wait ss ≡ false
  calls : (declared : Declared) → stmts_calls declared ss [] ≡ []

handler_body : (ss : Stmts Place) → bare_stmts ss ≡ load_handler.body → AreQuiet ss
handler_body (stmts s no_stmts) same =
    let it = puts s (codes "dst") 0 cc in
    record { calm = ap (λ b. b || false) it.calm; calls = λ declared. it.calls declared [] }
handler_body no_stmts same = absurd cc
handler_body (stmts s (stmts t ss)) same = absurd cc

abbrev IsQuietProcess : Process Place → Type 0
IsQuietProcess p = (h : Handler Place) → p.handler ≡ Some h → AreQuiet h.body

-- ---- routines

module _ (key count : ℕ) (g : Prog Place) (s : HasShape key count g.decls) where
  calls_nothing : (r : Routine Place) (declared : Declared) → ((more : List Place) → stmts_calls declared r.body more ≡ more) → r.value ≡ None → routine_calls declared r ≡ []
  calls_nothing r declared body value = body (answer_calls declared r.value []) ∙ ap (λ v. answer_calls declared v []) value

  entries : TwoEntries s.m.entries
  entries = two_entries s.m s.like

  its_routines : routines g.decls ≡ entries.add ∷ entries.pause ∷ []
  its_routines =
      ap routines s.is ∙ ap (λ (rs : List (Routine Place)). s.m.entries ++ rs) (ps.no_routines key count s.list s.are)
      ∙ ap (λ (rs : List (Routine Place)). rs ++ []) entries.is

  none_called : (declared : Declared) → All (λ r. routine_calls declared r ≡ []) (routines g.decls)
  none_called declared =
      let P : Routine Place → Type 0 = λ r. routine_calls declared r ≡ [] in
      let add = calls_nothing entries.add declared (add_body entries.add.body (ap (λ r. r.body) entries.add_like) declared) (none_there bare_expr entries.add.value (ap (λ r. r.value) entries.add_like)) in
      let pause = calls_nothing entries.pause declared (pause_body entries.pause.body (ap (λ r. r.body) entries.pause_like) declared) (none_there bare_expr entries.pause.value (ap (λ r. r.value) entries.pause_like)) in
      subst (λ rs. All P rs) (sym its_routines) (All-cons P entries.add (entries.pause ∷ []) add (All-cons P entries.pause [] pause (All-nil P)))

  nothing_in : (xs : List Place) (x : Place) → xs ≡ [] → Contains xs x → ⊥
  nothing_in xs x none has =
      let there : Contains [] x = subst (λ (ys : List Place). Contains ys x) none has in
      absurd (omega (arith, there.1))

  no_calls : (p q : Place) → Calls g p q → ⊥
  no_calls p q c =
      let declared = declared_at (names g) in
      nothing_in (routine_calls declared c.caller) q (All-contains (λ r. routine_calls declared r ≡ []) (routines g.decls) c.caller (none_called declared) c.listed) c.call

  no_reach : (p q : Place) → Reaches g p q → ⊥
  no_reach p q (by_call c) = no_calls p q c
  no_reach p q (by_calls c more) = no_calls p _ c

  -- ---- handlers

  quiet_handlers : (before left : ℕ) (list : List (Process Place)) → AreLoad key count before left list
      → All IsQuietProcess list
  quiet_handlers before zero [] no_more = All-nil IsQuietProcess
  quiet_handlers before zero (p ∷ others) are = elim are [ ]
  quiet_handlers before (suc left) [] are = elim are [ ]
  quiet_handlers before (suc left) (p ∷ others) (one_more _ _ same are) =
      let there = some_there bare_handler p.handler load_handler (ap (λ x. x.handler) same) in
      let body = handler_body there.one.body (ap (λ h. h.body) there.like) in
      All-cons IsQuietProcess p others (λ h has. let is : there.one ≡ h = cc in subst (λ (k : Handler Place). AreQuiet k.body) is body) (quiet_handlers (suc before) left others are)

  its_processes : processes g.decls ≡ s.list
  its_processes = ap processes s.is ∙ ps.processes-are s.list

  no_waits : (place : Place) → HandlerWaits g place → ⊥
  no_waits place w =
      let all = subst (λ qs. All IsQuietProcess qs) (sym its_processes) (quiet_handlers 0 count s.list s.are) in
      let quiet = All-contains IsQuietProcess (processes g.decls) w.one all w.listed w.handler w.has in
      by quiet w.comes_to
    where
      by : AreQuiet w.handler.body → (stmts_wait w.handler.body ≡ true) ⊎ CallsWaiter g w.handler → ⊥
      by quiet (inl waiting) = (let calm = quiet.calm in cc)
      by quiet (inr calling) = nothing_in (stmts_calls (declared_at (names g)) w.handler.body []) calling.callee (quiet.calls (declared_at (names g))) calling.call

  pub kept : (number : ℕ) (place : Place) → ¬ ReachFails g number place
  kept number place (inl itself) = no_reach place place itself.1.round
  kept number place (inr waiting) = no_waits place waiting.1

pub reach_kept : (key count : ℕ) (g : Prog Place) → bare g ≡ load_program key count → (number : ℕ) (place : Place) → ¬ ReachFails g number place
reach_kept key count g same = kept key count g (has_shape key count g same)
