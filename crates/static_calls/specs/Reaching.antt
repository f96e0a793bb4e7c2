-- What is reached by calls: no routine reaches itself, and no handler reaches a wait.
use Rattle.std.specs.Prelude.{◌≡◌, ℕ, true, ◌⊎◌, List, [], ◌∷◌, ◌++◌, Option, Some, None, All, Contains}
use Rattle.syntax_tree.specs.Placed.{Routine, Handler, Process, Prog}
use Rattle.syntax_tree.specs.Parts.{routines, processes}
use Rattle.syntax_tree.specs.declared.place.Place.{Place}
use Rattle.static_names.specs.Occurrences.{names, declared_at}
use Rattle.static_calls.specs.Calls.{routine_calls, stmts_calls, stmts_wait}

-- one routine calls the other, each by the place of its name
pub record Calls (g : Prog Place) (from to : Place) : Type 0 where
  pub caller : Routine Place
  pub listed : Contains (routines g.decls) caller
  pub is : caller.place ≡ from
  pub call : Contains (routine_calls (declared_at (names g)) caller) to

-- a routine reaches another by one call or more
pub data Reaches (g : Prog Place) : Place → Place → Type 0 where
  by_call : {p q : Place} → Calls g p q → Reaches g p q
  by_calls : {p q r : Place} → Calls g p q → Reaches g q r → Reaches g p r

-- a routine waits that stands at the place
pub record Waits (g : Prog Place) (place : Place) : Type 0 where
  pub waiter : Routine Place
  pub listed : Contains (routines g.decls) waiter
  pub is : waiter.place ≡ place
  pub wait : stmts_wait waiter.body ≡ true

-- a call of the routine comes to a wait
pub record ReachesWait (g : Prog Place) (place : Place) : Type 0 where
  pub waiter : Place
  pub waits : Waits g waiter
  pub reached : (place ≡ waiter) ⊎ Reaches g place waiter

-- a routine whose name stands at the place reaches itself by calls
pub record ReachesItself (g : Prog Place) (place : Place) : Type 0 where
  pub one : Routine Place
  pub listed : Contains (routines g.decls) one
  pub is : one.place ≡ place
  pub round : Reaches g place place

-- one of the routines that the statements of a handler call comes to a wait
pub record CallsWaiter (g : Prog Place) (h : Handler Place) : Type 0 where
  pub callee : Place
  pub call : Contains (stmts_calls (declared_at (names g)) h.body []) callee
  pub waits : ReachesWait g callee

-- a handler waits, or calls a routine that comes to a wait; the place is that of the process's name
pub record HandlerWaits (g : Prog Place) (place : Place) : Type 0 where
  pub one : Process Place
  pub listed : Contains (processes g.decls) one
  pub is : one.place ≡ place
  pub handler : Handler Place
  pub has : one.handler ≡ Some handler
  pub comes_to : (stmts_wait handler.body ≡ true) ⊎ CallsWaiter g handler

-- a rule for what is reached fails at a place of the program
abbrev pub ReachFails : Prog Place → ℕ → Place → Type 0
ReachFails g number place = ((number ≡ 31) × ReachesItself g place) ⊎ ((number ≡ 35) × HandlerWaits g place)

-- the routine stands at the place, or reaches it by calls
abbrev pub ComesTo : Prog Place → (place callee : Place) → Type 0
ComesTo g place callee = (callee ≡ place) ⊎ Reaches g callee place

-- it is the first of the callees that comes to the place
pub record IsFirstTo (g : Prog Place) (place : Place) (callees : List Place) (callee : Place) : Type 0 where
  pub before : List Place
  pub behind : List Place
  pub order : callees ≡ before ++ callee ∷ behind
  pub comes : ComesTo g place callee
  pub none_before : All (λ other. ¬ ComesTo g place other) before

-- a routine whose name stands at the place reaches itself, and first by its call of the callee
pub record ComesBackBy (g : Prog Place) (place callee : Place) : Type 0 where
  pub caller : Routine Place
  pub listed : Contains (routines g.decls) caller
  pub is : caller.place ≡ place
  pub first : IsFirstTo g place (routine_calls (declared_at (names g)) caller) callee

-- by the call of which routine one at the place reaches itself; by none, where none does
abbrev pub IsWayBack : Prog Place → Place → Option Place → Type 0
IsWayBack g place None = ¬ ReachesItself g place
IsWayBack g place (Some callee) = ComesBackBy g place callee
