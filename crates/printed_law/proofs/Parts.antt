-- The statements and results of a tree and of the tree with other places, one by one.
use Rattle.std.proofs.Common.{◌≡◌, Bool, true, false, List, [], ◌∷◌, map, Option, Some, None, refl}
use Rattle.syntax_tree.specs.Placed.{Scalar, Expr, Ref, whole, part, Stmt, assign, assign_entry, assign_empty, perform, perform_entry, when, when_else, loop, exit_when, get, put, wait, signal, broadcast, except, assert, Stmts, no_stmts, stmts, RoutineKind, procedure, function, Routine, Handler, Decl, constant, device, event, routine, monitor, process, Prog, optional}
use Rattle.syntax_tree.specs.declared.place.Place.{Place}
use Rattle.static_declarations.specs.declared.home.StmtContext.{StmtContext}
use Rattle.static_declarations.specs.declared.home.StmtContext.TheVariants as home_is
use Rattle.static_declarations.specs.declared.home.Where.{Where}
use Rattle.static_declarations.specs.Parts as parts
use Rattle.static_declarations.specs.Parts.{Part, statement, answer, stmt_place, looped, outside_loops, home_of}
use Rattle.printed_law.specs.Moved.{moved_scalar, moved_expr, moved_ref, moved_stmt, moved_stmts, moved_routine, moved_handler, moved_decl, moved}
use Rattle.printed_law.proofs.Both.{Both, here, Pairwise}

abbrev pub LikeHome : {X : Type 0} → (a b : X → Place) → StmtContext → StmtContext → Type 0
LikeHome a b home_is.Free home_is.Free = Unit {0}
LikeHome a b home_is.Entry home_is.Entry = Unit {0}
LikeHome a b (home_is.Function p) (home_is.Function q) = Both a b p q
LikeHome a b x y = ⊥

pub record LikeWhere {X : Type 0} (a b : X → Place) (v w : Where) : Type 0 where
  pub home : LikeHome a b v.home w.home
  pub in_loop : v.in_loop ≡ w.in_loop

pub data LikePart {X : Type 0} (a b : X → Place) : Part → Part → Type 0 where
  statements : {v w : Where} → LikeWhere a b v w → (s : Stmt X) → LikePart a b (statement v (moved_stmt a s)) (statement w (moved_stmt b s))
  results : (x : X) (s : Scalar X) (e : Expr X) → LikePart a b (answer (a x) (moved_scalar a s) (moved_expr a e)) (answer (b x) (moved_scalar b s) (moved_expr b e))

record Ps {X : Type 0} (a b : X → Place) (xs ys : List Part) : Type 0 where
  are : Pairwise (LikePart a b) xs ys

module _ {X : Type 0} (a b : X → Place) where
  ref-place-like : (r : Ref X) → Both a b (parts.ref_place (moved_ref a r)) (parts.ref_place (moved_ref b r))
  ref-place-like (whole p n) = here a b p
  ref-place-like (part p n e) = here a b p

  pub stmt-place-like : (s : Stmt X) → Both a b (stmt_place (moved_stmt a s)) (stmt_place (moved_stmt b s))
  stmt-place-like (assign r e) = ref-place-like r
  stmt-place-like (assign_entry r mon p entry q es) = ref-place-like r
  stmt-place-like (assign_empty r cond p) = ref-place-like r
  stmt-place-like (perform p n es) = here a b p
  stmt-place-like (perform_entry p mon entry q es) = here a b p
  stmt-place-like (when p e ss) = here a b p
  stmt-place-like (when_else p e ss ts) = here a b p
  stmt-place-like (loop p n q low high ss) = here a b p
  stmt-place-like (exit_when p e) = here a b p
  stmt-place-like (get p dev q r) = here a b p
  stmt-place-like (put p dev q e) = here a b p
  stmt-place-like (wait p cond q limit number) = here a b p
  stmt-place-like (signal p cond q) = here a b p
  stmt-place-like (broadcast p cond q) = here a b p
  stmt-place-like (except p number) = here a b p
  stmt-place-like (assert p e) = here a b p

  own-part : (v w : Where) → LikeWhere a b v w → (s : Stmt X) {xs ys : List Part} → Ps a b xs ys → Ps a b (statement v (moved_stmt a s) ∷ xs) (statement w (moved_stmt b s) ∷ ys)
  own-part v w like s rest = record { are = (statements like s, rest.are) }

  looped-like : (v w : Where) → LikeWhere a b v w → LikeWhere a b (looped v) (looped w)
  looped-like v w like = record { home = like.home; in_loop = refl }

  mutual
    stmt-like : (v w : Where) → LikeWhere a b v w → (s : Stmt X) {xs ys : List Part} → Ps a b xs ys → Ps a b (parts.stmt_parts v (moved_stmt a s) xs) (parts.stmt_parts w (moved_stmt b s) ys)
    stmt-like v w like (assign r e) rest = own-part v w like (assign r e) rest
    stmt-like v w like (assign_entry r mon p entry q es) rest = own-part v w like (assign_entry r mon p entry q es) rest
    stmt-like v w like (assign_empty r cond p) rest = own-part v w like (assign_empty r cond p) rest
    stmt-like v w like (perform p n es) rest = own-part v w like (perform p n es) rest
    stmt-like v w like (perform_entry p mon entry q es) rest = own-part v w like (perform_entry p mon entry q es) rest
    stmt-like v w like (when p e ss) rest = own-part v w like (when p e ss) (stmts-like v w like ss rest)
    stmt-like v w like (when_else p e ss ts) rest = own-part v w like (when_else p e ss ts) (stmts-like v w like ss (stmts-like v w like ts rest))
    stmt-like v w like (loop p n q low high ss) rest = own-part v w like (loop p n q low high ss) (stmts-like (looped v) (looped w) (looped-like v w like) ss rest)
    stmt-like v w like (exit_when p e) rest = own-part v w like (exit_when p e) rest
    stmt-like v w like (get p dev q r) rest = own-part v w like (get p dev q r) rest
    stmt-like v w like (put p dev q e) rest = own-part v w like (put p dev q e) rest
    stmt-like v w like (wait p cond q limit number) rest = own-part v w like (wait p cond q limit number) rest
    stmt-like v w like (signal p cond q) rest = own-part v w like (signal p cond q) rest
    stmt-like v w like (broadcast p cond q) rest = own-part v w like (broadcast p cond q) rest
    stmt-like v w like (except p number) rest = own-part v w like (except p number) rest
    stmt-like v w like (assert p e) rest = own-part v w like (assert p e) rest

    stmts-like : (v w : Where) → LikeWhere a b v w → (ss : Stmts X) {xs ys : List Part} → Ps a b xs ys → Ps a b (parts.stmts_parts v (moved_stmts a ss) xs) (parts.stmts_parts w (moved_stmts b ss) ys)
    stmts-like v w like no_stmts rest = rest
    stmts-like v w like (stmts s ss) rest = stmt-like v w like s (stmts-like v w like ss rest)

  home-like : (is_entry : Bool) (k : RoutineKind) (x : X) → LikeHome a b (home_of is_entry k (a x)) (home_of is_entry k (b x))
  home-like true k x = tt
  home-like false procedure x = tt
  home-like false function x = here a b x

  free-like : LikeWhere a b (outside_loops home_is.Free) (outside_loops home_is.Free)
  free-like = record { home = tt; in_loop = refl }

  answer-like : (x : X) (s : Option (Scalar X)) (e : Option (Expr X)) {xs ys : List Part} → Ps a b xs ys
      → Ps a b (parts.answer_parts (a x) (optional (moved_scalar a) s) (optional (moved_expr a) e) xs) (parts.answer_parts (b x) (optional (moved_scalar b) s) (optional (moved_expr b) e) ys)
  answer-like x None None rest = rest
  answer-like x None (Some e) rest = rest
  answer-like x (Some s) None rest = rest
  answer-like x (Some s) (Some e) rest = record { are = (results x s e, rest.are) }

  routine-like : (is_entry : Bool) (r : Routine X) {xs ys : List Part} → Ps a b xs ys → Ps a b (parts.routine_parts is_entry (moved_routine a r) xs) (parts.routine_parts is_entry (moved_routine b r) ys)
  routine-like is_entry r rest =
      stmts-like (outside_loops (home_of is_entry r.kind (a r.place))) (outside_loops (home_of is_entry r.kind (b r.place))) (record { home = home-like is_entry r.kind r.place; in_loop = refl }) r.body
      (answer-like r.place r.result r.value rest)

  routines-like : (is_entry : Bool) (rs : List (Routine X)) {xs ys : List Part} → Ps a b xs ys → Ps a b (parts.routines_parts is_entry (map (moved_routine a) rs) xs) (parts.routines_parts is_entry (map (moved_routine b) rs) ys)
  routines-like is_entry [] rest = rest
  routines-like is_entry (r ∷ rs) rest = routine-like is_entry r (routines-like is_entry rs rest)

  handler-like : (h : Option (Handler X)) {xs ys : List Part} → Ps a b xs ys → Ps a b (parts.handler_parts (optional (moved_handler a) h) xs) (parts.handler_parts (optional (moved_handler b) h) ys)
  handler-like None rest = rest
  handler-like (Some h) rest = stmts-like (outside_loops home_is.Free) (outside_loops home_is.Free) free-like h.body rest

  decls-like : (ds : List (Decl X)) {xs ys : List Part} → Ps a b xs ys → Ps a b (parts.decls_parts (map (moved_decl a) ds) xs) (parts.decls_parts (map (moved_decl b) ds) ys)
  decls-like [] rest = rest
  decls-like (constant name p c ∷ ds) rest = decls-like ds rest
  decls-like (device name p is_out ∷ ds) rest = decls-like ds rest
  decls-like (event name p ∷ ds) rest = decls-like ds rest
  decls-like (routine r ∷ ds) rest = routine-like false r (decls-like ds rest)
  decls-like (monitor m ∷ ds) rest = routines-like true m.entries (decls-like ds rest)
  decls-like (process p ∷ ds) rest = routines-like false p.routines (stmts-like (outside_loops home_is.Free) (outside_loops home_is.Free) free-like p.body (handler-like p.handler (decls-like ds rest)))

  pub parts-like : (t : Prog X) → Pairwise (LikePart a b) (parts.parts (moved a t)) (parts.parts (moved b t))
  parts-like t = (decls-like t.decls (record { are = tt })).are
