-- The tokens of declarations and programs, in other places.
use Rattle.std.proofs.Common.{◌≡◌, Option, Some, None, refl}
use Rattle.syntax_tree.specs.Placed.{Constant, Scalar, int, boolean, subrange, Kind, scalar, array, Var, Param, Expr, RoutineKind, procedure, function, Routine, Member, variable_member, condition_member, Monitor, Activation, periodic, at_event, Handler, Process, Decl, constant, device, event, routine, monitor, process, Prog, optional}
use Rattle.syntax_tree.specs.Bare.{bare_constant, bare_scalar, bare_kind, bare_var, bare_param, bare_expr, bare_routine, bare_member, bare_monitor, bare_activation, bare_handler, bare_process, bare_decl, bare}
use Rattle.syntax.specs.Words as w
use Rattle.syntax.specs.Words.{Word, named, number, Tok, words_of}
use Rattle.syntax.specs.ExprGrammar.{IsConstant}
use Rattle.syntax.specs.Grammar.{MOST_LEVELS, IsScalar, IsKind, IsVar, IsParam, kind_word, IsResult, IsValue, IsRoutine, IsMember, IsEntry, IsMonitor, IsDeadline, IsFirst, IsActivation, IsHandler, IsProcess, way_word, IsDecl, IsProg}
use Rattle.syntax_printer.proofs.Moves.{Moves, at-moves, a-moves, nothing-moves, ◌⋆◌, never-moves, made, each-moves, listed-moves, some-listed-moves}
use Rattle.syntax_printer.proofs.MovedExprs.{constant-moves, expr-moves}
use Rattle.syntax_printer.proofs.MovedStmts.{stmts-moves}

module _ {P Q : Type 0} where
  scalar-moves : (s : Scalar P) → Moves {P = P} {Q = Q} {Y = Scalar Q} (IsScalar s) IsScalar (λ h. bare_scalar h ≡ bare_scalar s)
  scalar-moves int =
      made (a-moves w.INT)
      (λ y. int) (λ y os vs t. t) (λ y l. refl)
  scalar-moves boolean =
      made (a-moves w.BOOLEAN)
      (λ y. boolean) (λ y os vs t. t) (λ y l. refl)
  scalar-moves (subrange low high) =
      made (constant-moves low ⋆ a-moves w.RANGE ⋆ constant-moves high)
      (λ y. subrange y.one y.two.two) (λ y os vs t. t) (λ y l. let low_like = l.one in let high_like = l.two.two in λ i. subrange (low_like i) (high_like i))

  kind-moves : (k : Kind P) → Moves {P = P} {Q = Q} {Y = Kind Q} (IsKind k) IsKind (λ h. bare_kind h ≡ bare_kind k)
  kind-moves (scalar s) =
      made (scalar-moves s)
      (λ y. scalar y) (λ y os vs t. t) (λ y l. let s_like = l in λ i. scalar (s_like i))
  kind-moves (array low high s) =
      made (a-moves w.ARRAY ⋆ constant-moves low ⋆ a-moves w.RANGE ⋆ constant-moves high ⋆ a-moves w.OF ⋆ scalar-moves s)
      (λ y. array y.two.one y.two.two.two.one y.two.two.two.two.two) (λ y os vs t. t) (λ y l. let low_like = l.two.one in let high_like = l.two.two.two.one in let s_like = l.two.two.two.two.two in λ i. array (low_like i) (high_like i) (s_like i))

  var-moves : (v : Var P) → Moves {P = P} {Q = Q} {Y = Var Q} (IsVar v) IsVar (λ h. bare_var h ≡ bare_var v)
  var-moves v =
      made (a-moves w.VAR ⋆ at-moves (named v.name) v.place ⋆ a-moves w.COLON ⋆ kind-moves v.kind)
      (λ y. record { name = v.name; place = y.two.one; kind = y.two.two.two }) (λ y os vs t. t) (λ y l. let k_like = l.two.two.two in λ i. record { name = v.name; place = tt; kind = k_like i })

  param-moves : (v : Param P) → Moves {P = P} {Q = Q} {Y = Param Q} (IsParam v) IsParam (λ h. bare_param h ≡ bare_param v)
  param-moves v =
      made (at-moves (named v.name) v.place ⋆ a-moves w.COLON ⋆ scalar-moves v.kind)
      (λ y. record { name = v.name; place = y.one; kind = y.two.two }) (λ y os vs t. t) (λ y l. let k_like = l.two.two in λ i. record { name = v.name; place = tt; kind = k_like i })

  result-moves : (k : RoutineKind) (s : Option (Scalar P)) → Moves {P = P} {Q = Q} {Y = Option (Scalar Q)} (IsResult k s) (IsResult k) (λ h. optional bare_scalar h ≡ optional bare_scalar s)
  result-moves procedure None = made nothing-moves (λ y. None) (λ y os vs t. t) (λ y l. refl)
  result-moves procedure (Some s) = never-moves (λ ts us took. took)
  result-moves function None = never-moves (λ ts us took. took)
  result-moves function (Some s) =
      made (a-moves w.RETURNS ⋆ scalar-moves s)
      (λ y. Some y.two) (λ y os vs t. t) (λ y l. let s_like = l.two in λ i. Some (s_like i))

  value-moves : (k : RoutineKind) (e : Option (Expr P)) → Moves {P = P} {Q = Q} {Y = Option (Expr Q)} (IsValue k e) (IsValue k) (λ h. optional bare_expr h ≡ optional bare_expr e)
  value-moves procedure None = made nothing-moves (λ y. None) (λ y os vs t. t) (λ y l. refl)
  value-moves procedure (Some e) = never-moves (λ ts us took. took)
  value-moves function None = never-moves (λ ts us took. took)
  value-moves function (Some e) =
      made (a-moves w.RETURN ⋆ expr-moves 5 MOST_LEVELS e)
      (λ y. Some y.two) (λ y os vs t. t) (λ y l. let e_like = l.two in λ i. Some (e_like i))

  routine-moves : (r : Routine P) → Moves {P = P} {Q = Q} {Y = Routine Q} (IsRoutine r) IsRoutine (λ h. bare_routine h ≡ bare_routine r)
  routine-moves r =
      made (a-moves (kind_word r.kind) ⋆ at-moves (named r.name) r.place ⋆ a-moves w.LEFT_PAREN ⋆ some-listed-moves IsParam IsParam bare_param bare_param param-moves r.params ⋆ a-moves w.RIGHT_PAREN ⋆ result-moves r.kind r.result ⋆ each-moves IsVar IsVar bare_var bare_var var-moves r.vars ⋆ a-moves w.BEGIN ⋆ stmts-moves MOST_LEVELS r.body ⋆ value-moves r.kind r.value ⋆ a-moves w.END ⋆ at-moves (named r.close) r.close_place)
      (λ y. record { kind = r.kind; name = r.name; place = y.two.one; params = y.two.two.two.one; result = y.two.two.two.two.two.one; vars = y.two.two.two.two.two.two.one; body = y.two.two.two.two.two.two.two.two.one; value = y.two.two.two.two.two.two.two.two.two.one; close = r.close; close_place = y.two.two.two.two.two.two.two.two.two.two.two }) (λ y os vs t. t) (λ y l. let params_like = l.two.two.two.one in let result_like = l.two.two.two.two.two.one in let vars_like = l.two.two.two.two.two.two.one in let body_like = l.two.two.two.two.two.two.two.two.one in let value_like = l.two.two.two.two.two.two.two.two.two.one in λ i. record { kind = r.kind; name = r.name; place = tt; params = params_like i; result = result_like i; vars = vars_like i; body = body_like i; value = value_like i; close = r.close; close_place = tt })

  member-moves : (m : Member P) → Moves {P = P} {Q = Q} {Y = Member Q} (IsMember m) IsMember (λ h. bare_member h ≡ bare_member m)
  member-moves (variable_member v) =
      made (var-moves v)
      (λ y. variable_member y) (λ y os vs t. t) (λ y l. let v_like = l in λ i. variable_member (v_like i))
  member-moves (condition_member n p) =
      made (a-moves w.CONDITION ⋆ at-moves (named n) p)
      (λ y. condition_member n y.two) (λ y os vs t. t) (λ y l. refl)

  entry-moves : (r : Routine P) → Moves {P = P} {Q = Q} {Y = Routine Q} (IsEntry r) IsEntry (λ h. bare_routine h ≡ bare_routine r)
  entry-moves r =
      made (a-moves w.ENTRY ⋆ routine-moves r)
      (λ y. y.two) (λ y os vs t. t) (λ y l. let r_like = l.two in λ i. r_like i)

  monitor-moves : (m : Monitor P) → Moves {P = P} {Q = Q} {Y = Monitor Q} (IsMonitor m) IsMonitor (λ h. bare_monitor h ≡ bare_monitor m)
  monitor-moves m =
      made (a-moves w.MONITOR ⋆ at-moves (named m.name) m.place ⋆ each-moves IsMember IsMember bare_member bare_member member-moves m.members ⋆ each-moves IsEntry IsEntry bare_routine bare_routine entry-moves m.entries ⋆ a-moves w.END ⋆ at-moves (named m.close) m.close_place)
      (λ y. record { name = m.name; place = y.two.one; members = y.two.two.one; entries = y.two.two.two.one; close = m.close; close_place = y.two.two.two.two.two }) (λ y os vs t. t) (λ y l. let members_like = l.two.two.one in let entries_like = l.two.two.two.one in λ i. record { name = m.name; place = tt; members = members_like i; entries = entries_like i; close = m.close; close_place = tt })

  first-moves : (c : Option (Constant P)) → Moves {P = P} {Q = Q} {Y = Option (Constant Q)} (IsFirst c) IsFirst (λ h. optional bare_constant h ≡ optional bare_constant c)
  first-moves None = made nothing-moves (λ y. None) (λ y os vs t. t) (λ y l. refl)
  first-moves (Some c) =
      made (a-moves w.FIRST ⋆ a-moves w.ACTIVATION ⋆ a-moves w.AT_TIME ⋆ constant-moves c)
      (λ y. Some y.two.two.two) (λ y os vs t. t) (λ y l. let c_like = l.two.two.two in λ i. Some (c_like i))

  deadline-moves : (c : Option (Constant P)) → Moves {P = P} {Q = Q} {Y = Option (Constant Q)} (IsDeadline c) IsDeadline (λ h. optional bare_constant h ≡ optional bare_constant c)
  deadline-moves None = made nothing-moves (λ y. None) (λ y os vs t. t) (λ y l. refl)
  deadline-moves (Some c) =
      made (a-moves w.DEADLINE ⋆ constant-moves c)
      (λ y. Some y.two) (λ y os vs t. t) (λ y l. let c_like = l.two in λ i. Some (c_like i))

  activation-moves : (x : Activation P) → Moves {P = P} {Q = Q} {Y = Activation Q} (IsActivation x) IsActivation (λ h. bare_activation h ≡ bare_activation x)
  activation-moves (periodic frame deadline first) =
      made (a-moves w.PERIODIC ⋆ a-moves w.FRAME ⋆ constant-moves frame ⋆ deadline-moves deadline ⋆ first-moves first)
      (λ y. periodic y.two.two.one y.two.two.two.one y.two.two.two.two) (λ y os vs t. t)
      (λ y l. let frame_like = l.two.two.one in let deadline_like = l.two.two.two.one in let first_like = l.two.two.two.two in λ i. periodic (frame_like i) (deadline_like i) (first_like i))
  activation-moves (at_event e p frame deadline) =
      made (a-moves w.AT_EVENT ⋆ at-moves (named e) p ⋆ a-moves w.FRAME ⋆ constant-moves frame ⋆ deadline-moves deadline)
      (λ y. at_event e y.two.one y.two.two.two.one y.two.two.two.two) (λ y os vs t. t)
      (λ y l. let frame_like = l.two.two.two.one in let deadline_like = l.two.two.two.two in λ i. at_event e tt (frame_like i) (deadline_like i))

  handler-moves : (h : Option (Handler P)) → Moves {P = P} {Q = Q} {Y = Option (Handler Q)} (IsHandler h) IsHandler (λ g. optional bare_handler g ≡ optional bare_handler h)
  handler-moves None = made nothing-moves (λ y. None) (λ y os vs t. t) (λ y l. refl)
  handler-moves (Some h) =
      made (a-moves w.HANDLER ⋆ a-moves w.LEFT_PAREN ⋆ listed-moves IsConstant IsConstant bare_constant bare_constant constant-moves h.numbers ⋆ a-moves w.RIGHT_PAREN ⋆ stmts-moves MOST_LEVELS h.body)
      (λ y. Some (record { numbers = y.two.two.one; body = y.two.two.two.two })) (λ y os vs t. t) (λ y l. let numbers_like = l.two.two.one in let body_like = l.two.two.two.two in λ i. Some (record { numbers = numbers_like i; body = body_like i }))

  process-moves : (p : Process P) → Moves {P = P} {Q = Q} {Y = Process Q} (IsProcess p) IsProcess (λ h. bare_process h ≡ bare_process p)
  process-moves p =
      made (a-moves w.PROCESS ⋆ at-moves (named p.name) p.place ⋆ a-moves w.COLON ⋆ activation-moves p.activation ⋆ each-moves IsVar IsVar bare_var bare_var var-moves p.vars ⋆ each-moves IsRoutine IsRoutine bare_routine bare_routine routine-moves p.routines ⋆ a-moves w.BEGIN ⋆ stmts-moves MOST_LEVELS p.body ⋆ handler-moves p.handler ⋆ a-moves w.END ⋆ at-moves (named p.close) p.close_place)
      (λ y. record { name = p.name; place = y.two.one; activation = y.two.two.two.one; vars = y.two.two.two.two.one; routines = y.two.two.two.two.two.one; body = y.two.two.two.two.two.two.two.one; handler = y.two.two.two.two.two.two.two.two.one; close = p.close; close_place = y.two.two.two.two.two.two.two.two.two.two }) (λ y os vs t. t) (λ y l. let activation_like = l.two.two.two.one in let vars_like = l.two.two.two.two.one in let routines_like = l.two.two.two.two.two.one in let body_like = l.two.two.two.two.two.two.two.one in let handler_like = l.two.two.two.two.two.two.two.two.one in λ i. record { name = p.name; place = tt; activation = activation_like i; vars = vars_like i; routines = routines_like i; body = body_like i; handler = handler_like i; close = p.close; close_place = tt })

  decl-moves : (x : Decl P) → Moves {P = P} {Q = Q} {Y = Decl Q} (IsDecl x) IsDecl (λ h. bare_decl h ≡ bare_decl x)
  decl-moves (constant n p c) =
      made (a-moves w.CONST ⋆ at-moves (named n) p ⋆ a-moves w.ASSIGN ⋆ constant-moves c)
      (λ y. constant n y.two.one y.two.two.two) (λ y os vs t. t) (λ y l. let c_like = l.two.two.two in λ i. constant n tt (c_like i))
  decl-moves (device n p is_out) =
      made (a-moves w.DEVICE ⋆ at-moves (named n) p ⋆ a-moves w.COLON ⋆ a-moves (way_word is_out))
      (λ y. device n y.two.one is_out) (λ y os vs t. t) (λ y l. refl)
  decl-moves (event n p) =
      made (a-moves w.EVENT ⋆ at-moves (named n) p)
      (λ y. event n y.two) (λ y os vs t. t) (λ y l. refl)
  decl-moves (routine r) =
      made (routine-moves r)
      (λ y. routine y) (λ y os vs t. t) (λ y l. let r_like = l in λ i. routine (r_like i))
  decl-moves (monitor m) =
      made (monitor-moves m)
      (λ y. monitor y) (λ y os vs t. t) (λ y l. let m_like = l in λ i. monitor (m_like i))
  decl-moves (process p) =
      made (process-moves p)
      (λ y. process y) (λ y os vs t. t) (λ y l. let p_like = l in λ i. process (p_like i))

  pub prog-moves : (g : Prog P) → Moves {P = P} {Q = Q} {Y = Prog Q} (IsProg g) IsProg (λ h. bare h ≡ bare g)
  prog-moves g =
      made (a-moves w.PROGRAM ⋆ at-moves (named g.name) g.place ⋆ each-moves IsDecl IsDecl bare_decl bare_decl decl-moves g.decls ⋆ a-moves w.END ⋆ at-moves (named g.close) g.close_place)
      (λ y. record { name = g.name; place = y.two.one; decls = y.two.two.one; close = g.close; close_place = y.two.two.two.two }) (λ y os vs t. t) (λ y l. let decls_like = l.two.two.one in λ i. record { name = g.name; place = tt; decls = decls_like i; close = g.close; close_place = tt })
