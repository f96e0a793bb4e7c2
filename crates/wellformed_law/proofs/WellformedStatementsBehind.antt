-- What stands behind a statement among the names and parts of a program.
use Rattle.std.proofs.Common.{List, [], ◌∷◌, Contains, is_some}
use Rattle.base.proofs.Members.{at_front, behind}
use Rattle.syntax_tree.specs.Plain.{Name}
use Rattle.syntax_tree.specs.Placed.{Constant, Stmt, assign, assign_entry, assign_empty, perform, perform_entry, when, when_else, loop, exit_when, get, put, wait, signal, broadcast, except, assert, Stmts, no_stmts, stmts, Prog}
use Rattle.syntax_tree.specs.declared.place.Place.{Place}
use Rattle.static_names.specs.declared.kind.NameUse.TheVariants as want_is
use Rattle.static_names.specs.Reach.{Site, inside, through}
use Rattle.static_names.specs.Occurrences.{Occurrence, declares, used, uses, names, constant_names, expr_names, exprs_names, ref_names, entry_names, loop_name, stmt_names, stmts_names}
use Rattle.static_declarations.specs.declared.home.Where.{Where}
use Rattle.static_declarations.specs.Parts.{Part, statement, looped, stmt_parts, stmts_parts, parts}
use Rattle.static_semantics.specs.Judged.{AreNames, AreParts}
use Rattle.wellformed_law.proofs.Uses.{more_names}
use Rattle.wellformed_law.proofs.Expressions.{expr_rest, exprs_rest, ref_rest, constant_rest}

pub head_name : (g : Prog Place) (o : Occurrence) (more : List Occurrence) → AreNames g (o ∷ more) → Contains (names g) o
head_name g o more h = h o (at_front o more)

pub head_part : (g : Prog Place) (x : Part) (rest : List Part) → AreParts g (x ∷ rest) → Contains (parts g) x
head_part g x rest h = h x (at_front x rest)

pub more_parts : (g : Prog Place) (x : Part) (rest : List Part) → AreParts g (x ∷ rest) → AreParts g rest
more_parts g x rest h y there = h y (behind x rest y there)

pub entry_rest : (g : Prog Place) (site : Site) (k : Name) (p : Place) (x : Name) (q : Place) (more : List Occurrence) → AreNames g (entry_names site k p x q more) → AreNames g more
entry_rest g site k p x q more h = more_names g (used x q want_is.Entry (through site k x)) more (more_names g (uses site k p want_is.Monitor) (used x q want_is.Entry (through site k x) ∷ more) h)

pub entry_use : (g : Prog Place) (site : Site) (k : Name) (p : Place) (x : Name) (q : Place) (more : List Occurrence) → AreNames g (entry_names site k p x q more) → Contains (names g) (used x q want_is.Entry (through site k x))
entry_use g site k p x q more h = head_name g (used x q want_is.Entry (through site k x)) more (more_names g (uses site k p want_is.Monitor) (used x q want_is.Entry (through site k x) ∷ more) h)

-- the names of a loop's bounds and of its statements, its variable being in reach in these
abbrev pub loop_names : Site → Name → Place → Constant Place → Constant Place → Stmts Place → List Occurrence → List Occurrence
loop_names site x q low high a more = constant_names site low (constant_names site high (stmts_names (inside (loop_name x q ∷ []) site) a more))

pub loop_rest : (g : Prog Place) (site : Site) (x : Name) (q : Place) (low high : Constant Place) (a : Stmts Place) (more : List Occurrence)
    → AreNames g (declares x q (is_some (site.means x)) ∷ loop_names site x q low high a more) → AreNames g (loop_names site x q low high a more)
loop_rest g site x q low high a more h = more_names g (declares x q (is_some (site.means x))) (loop_names site x q low high a more) h

mutual
  pub stmt_rest : (g : Prog Place) (site : Site) (s : Stmt Place) (more : List Occurrence) → AreNames g (stmt_names site s more) → AreNames g more
  stmt_rest g site (assign r e) more h = expr_rest g site e more (ref_rest g site r (expr_names site e more) h)
  stmt_rest g site (assign_entry r k p x q es) more h =
      exprs_rest g site es more (entry_rest g site k p x q (exprs_names site es more) (ref_rest g site r (entry_names site k p x q (exprs_names site es more)) h))
  stmt_rest g site (assign_empty r x p) more h = more_names g (uses site x p want_is.Condition) more (ref_rest g site r (uses site x p want_is.Condition ∷ more) h)
  stmt_rest g site (perform p x es) more h = exprs_rest g site es more (more_names g (uses site x p want_is.Routine) (exprs_names site es more) h)
  stmt_rest g site (perform_entry p k x q es) more h = exprs_rest g site es more (entry_rest g site k p x q (exprs_names site es more) h)
  stmt_rest g site (when p e a) more h = stmts_rest g site a more (expr_rest g site e (stmts_names site a more) h)
  stmt_rest g site (when_else p e a b) more h = stmts_rest g site b more (stmts_rest g site a (stmts_names site b more) (expr_rest g site e (stmts_names site a (stmts_names site b more)) h))
  stmt_rest g site (loop p x q low high a) more h =
      let inner : Site = inside (loop_name x q ∷ []) site in
      let declared : AreNames g (constant_names site low (constant_names site high (stmts_names inner a more))) = loop_rest g site x q low high a more h in
      stmts_rest g inner a more (constant_rest g site high (stmts_names inner a more) (constant_rest g site low (constant_names site high (stmts_names inner a more)) declared))
  stmt_rest g site (exit_when p e) more h = expr_rest g site e more h
  stmt_rest g site (get p x q r) more h = ref_rest g site r more (more_names g (uses site x q want_is.Device) (ref_names site r more) h)
  stmt_rest g site (put p x q e) more h = expr_rest g site e more (more_names g (uses site x q want_is.Device) (expr_names site e more) h)
  stmt_rest g site (wait p x q limit number) more h =
      constant_rest g site number more (constant_rest g site limit (constant_names site number more) (more_names g (uses site x q want_is.Condition) (constant_names site limit (constant_names site number more)) h))
  stmt_rest g site (signal p x q) more h = more_names g (uses site x q want_is.Condition) more h
  stmt_rest g site (broadcast p x q) more h = more_names g (uses site x q want_is.Condition) more h
  stmt_rest g site (except p number) more h = constant_rest g site number more h
  stmt_rest g site (assert p e) more h = expr_rest g site e more h

  pub stmts_rest : (g : Prog Place) (site : Site) (ss : Stmts Place) (more : List Occurrence) → AreNames g (stmts_names site ss more) → AreNames g more
  stmts_rest g site no_stmts more h = h
  stmts_rest g site (stmts s ss) more h = stmts_rest g site ss more (stmt_rest g site s (stmts_names site ss more) h)

mutual
  pub stmt_parts_rest : (g : Prog Place) (w : Where) (s : Stmt Place) (rest : List Part) → AreParts g (stmt_parts w s rest) → AreParts g rest
  stmt_parts_rest g w (assign r e) rest h = more_parts g (statement w (assign r e)) rest h
  stmt_parts_rest g w (assign_entry r k p x q es) rest h = more_parts g (statement w (assign_entry r k p x q es)) rest h
  stmt_parts_rest g w (assign_empty r x p) rest h = more_parts g (statement w (assign_empty r x p)) rest h
  stmt_parts_rest g w (perform p x es) rest h = more_parts g (statement w (perform p x es)) rest h
  stmt_parts_rest g w (perform_entry p k x q es) rest h = more_parts g (statement w (perform_entry p k x q es)) rest h
  stmt_parts_rest g w (when p e a) rest h = stmts_parts_rest g w a rest (more_parts g (statement w (when p e a)) (stmts_parts w a rest) h)
  stmt_parts_rest g w (when_else p e a b) rest h = stmts_parts_rest g w b rest (stmts_parts_rest g w a (stmts_parts w b rest) (more_parts g (statement w (when_else p e a b)) (stmts_parts w a (stmts_parts w b rest)) h))
  stmt_parts_rest g w (loop p x q low high a) rest h = stmts_parts_rest g (looped w) a rest (more_parts g (statement w (loop p x q low high a)) (stmts_parts (looped w) a rest) h)
  stmt_parts_rest g w (exit_when p e) rest h = more_parts g (statement w (exit_when p e)) rest h
  stmt_parts_rest g w (get p x q r) rest h = more_parts g (statement w (get p x q r)) rest h
  stmt_parts_rest g w (put p x q e) rest h = more_parts g (statement w (put p x q e)) rest h
  stmt_parts_rest g w (wait p x q limit number) rest h = more_parts g (statement w (wait p x q limit number)) rest h
  stmt_parts_rest g w (signal p x q) rest h = more_parts g (statement w (signal p x q)) rest h
  stmt_parts_rest g w (broadcast p x q) rest h = more_parts g (statement w (broadcast p x q)) rest h
  stmt_parts_rest g w (except p number) rest h = more_parts g (statement w (except p number)) rest h
  stmt_parts_rest g w (assert p e) rest h = more_parts g (statement w (assert p e)) rest h

  pub stmts_parts_rest : (g : Prog Place) (w : Where) (ss : Stmts Place) (rest : List Part) → AreParts g (stmts_parts w ss rest) → AreParts g rest
  stmts_parts_rest g w no_stmts rest h = h
  stmts_parts_rest g w (stmts s ss) rest h = stmts_parts_rest g w ss rest (stmt_parts_rest g w s (stmts_parts w ss rest) h)

-- the statement itself is a part
pub own_part : (g : Prog Place) (w : Where) (s : Stmt Place) (rest : List Part) → AreParts g (stmt_parts w s rest) → Contains (parts g) (statement w s)
own_part g w (assign r e) rest h = head_part g (statement w (assign r e)) rest h
own_part g w (assign_entry r k p x q es) rest h = head_part g (statement w (assign_entry r k p x q es)) rest h
own_part g w (assign_empty r x p) rest h = head_part g (statement w (assign_empty r x p)) rest h
own_part g w (perform p x es) rest h = head_part g (statement w (perform p x es)) rest h
own_part g w (perform_entry p k x q es) rest h = head_part g (statement w (perform_entry p k x q es)) rest h
own_part g w (when p e a) rest h = head_part g (statement w (when p e a)) (stmts_parts w a rest) h
own_part g w (when_else p e a b) rest h = head_part g (statement w (when_else p e a b)) (stmts_parts w a (stmts_parts w b rest)) h
own_part g w (loop p x q low high a) rest h = head_part g (statement w (loop p x q low high a)) (stmts_parts (looped w) a rest) h
own_part g w (exit_when p e) rest h = head_part g (statement w (exit_when p e)) rest h
own_part g w (get p x q r) rest h = head_part g (statement w (get p x q r)) rest h
own_part g w (put p x q e) rest h = head_part g (statement w (put p x q e)) rest h
own_part g w (wait p x q limit number) rest h = head_part g (statement w (wait p x q limit number)) rest h
own_part g w (signal p x q) rest h = head_part g (statement w (signal p x q)) rest h
own_part g w (broadcast p x q) rest h = head_part g (statement w (broadcast p x q)) rest h
own_part g w (except p number) rest h = head_part g (statement w (except p number)) rest h
own_part g w (assert p e) rest h = head_part g (statement w (assert p e)) rest h
