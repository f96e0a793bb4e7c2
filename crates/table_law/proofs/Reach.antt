-- No rule for what is reached by calls fails of a table's program: entries call nothing, and there
-- is no handler.
use Rattle.std.proofs.Common.{◌≡◌, ◌<◌, ◌+◌, ℕ, zero, suc, ◌⊎◌, inl, inr, List, [], ◌∷◌, ◌++◌, Option, Some, None, length, get_or, refl, ap, sym, ◌∙◌, subst, arith}
use Rattle.std.specs.Prelude.{Contains}
use Rattle.syntax_tree.specs.declared.place.Place.{Place}
use Rattle.syntax_tree.specs.Placed.{Stmts, Routine, Process, Decl, Prog}
use Rattle.syntax_tree.specs.Parts.{routines, processes}
use Rattle.static_names.specs.Occurrences.{names, declared_at}
use Rattle.static_calls.specs.Calls.{Declared, stmts_calls, answer_calls, routine_calls}
use Rattle.static_calls.specs.Reaching.{Calls, Reaches, by_call, by_calls, ReachFails}
use Rattle.table_format.specs.declared.table.TaskTable.{TaskTable}
use Rattle.table_law.proofs.Lists.{Every, both}
use Rattle.table_law.proofs.Shapes.{IsBody, ended, clears, keeps, lowers, turns, turns_twice, enters, Nothing, IsSomeEntry, IsDeclOf, an_event, a_monitor, a_process}

pub one_of_all : {A : Type 0} (P : A → Type 0) (xs : List A) (x : A) → Every P xs → Contains xs x → P x
one_of_all P [] x all (k, below, is) = absurd (omega arith)
one_of_all P (y ∷ xs) x all (zero, below, is) = subst P is all.0
one_of_all P (y ∷ xs) x all (suc k, below, is) = one_of_all P xs x all.1 (k, omega (arith, below), is)

nothing_called : (tail : List ℕ) (declared : Declared) (ss : Stmts Place) → IsBody tail Nothing ss → (more : List Place) → stmts_calls declared ss more ≡ more
nothing_called tail declared ss ended more = refl
nothing_called tail declared ss (clears p q v rest body) more = nothing_called tail declared rest body more
nothing_called tail declared ss (keeps p q rest body) more = nothing_called tail declared rest body more
nothing_called tail declared ss (lowers p q r v rest body) more = nothing_called tail declared rest body more
nothing_called tail declared ss (turns p q low high k rest from up some few body) more = nothing_called tail declared rest body more
nothing_called tail declared ss (turns_twice p q low high k a b least most rest from up some few from_one to_most body) more = nothing_called tail declared rest body more
nothing_called tail declared ss (enters p q m e rest may body) more = absurd may

calls_none : (tail : List ℕ) (declared : Declared) (r : Routine Place) → IsSomeEntry tail r → routine_calls declared r ≡ []
calls_none tail declared r some =
    nothing_called tail declared r.body some.is.body (answer_calls declared r.value []) ∙ ap (λ o. answer_calls declared o []) some.is.value

module _ (tail : List ℕ) (t : TaskTable) where
  pub entries_all : (ds : List (Decl Place)) → Every (IsDeclOf tail t) ds → Every (IsSomeEntry tail) (routines ds)
  entries_all [] are = tt
  entries_all (d ∷ ds) are = one d are.0 (entries_all ds are.1)
    where
      one : (d : Decl Place) → IsDeclOf tail t d → Every (IsSomeEntry tail) (routines ds) → Every (IsSomeEntry tail) (routines (d ∷ ds))
      one d (an_event name place) rest = rest
      one d (a_monitor name m is) rest = both (IsSomeEntry tail) m.entries (routines ds) is.entries rest
      one d (a_process line p is) rest = subst (λ rs. Every (IsSomeEntry tail) (rs ++ routines ds)) (sym is.routines) rest

  pub no_handlers : (ds : List (Decl Place)) → Every (IsDeclOf tail t) ds → Every (λ p. p.handler ≡ None) (processes ds)
  no_handlers [] are = tt
  no_handlers (d ∷ ds) are = one d are.0 (no_handlers ds are.1)
    where
      one : (d : Decl Place) → IsDeclOf tail t d → Every (λ p. p.handler ≡ None) (processes ds) → Every (λ p. p.handler ≡ None) (processes (d ∷ ds))
      one d (an_event name place) rest = rest
      one d (a_monitor name m is) rest = rest
      one d (a_process line p is) rest = (is.handler, rest)

nowhere : {A : Type 0} (x : A) → Contains [] x → ⊥
nowhere x (k, below, is) = omega (arith, below)

differ : {A : Type 0} (o : Option A) (x : A) → o ≡ None → o ≡ Some x → ⊥
differ None x none some = cc
differ (Some y) x none some = cc

module _ (tail : List ℕ) (t : TaskTable) (g : Prog Place) (are : Every (IsDeclOf tail t) g.decls) where
  no_call : (p q : Place) → Calls g p q → ⊥
  no_call p q c =
      let entry = one_of_all (IsSomeEntry tail) (routines g.decls) c.caller (entries_all tail t g.decls are) c.listed in
      nowhere q (subst (λ ps. Contains ps q) (calls_none tail (declared_at (names g)) c.caller entry) c.call)

  reaches_nothing : (p q : Place) → Reaches g p q → ⊥
  reaches_nothing p q (by_call c) = no_call p q c
  reaches_nothing p q (by_calls {q = r} c more) = no_call p r c

  pub no_reach_fails : (number : ℕ) (place : Place) → ¬ ReachFails g number place
  no_reach_fails number place (inl itself) = reaches_nothing place place itself.1.round
  no_reach_fails number place (inr waits) =
      let w = waits.1 in
      let none = one_of_all (λ p. p.handler ≡ None) (processes g.decls) w.one (no_handlers tail t g.decls are) w.listed in
      differ w.one.handler w.handler none w.has
