-- Statements that are well formed where they stand.
use Rattle.std.specs.Prelude.{◌≡◌, ℕ, Bool, true, false, not, ◌||◌, List, [], ◌∷◌, Some, None, ℤ, pos, ◌+ℤ◌, int_le, int_lt, IsSome, Contains}
use Rattle.base.specs.Words.{is_word, within}
use Rattle.syntax_tree.specs.Plain.{Name, Constant, literal_constant, named_constant, Stmt, assign, assign_entry, assign_empty, perform, perform_entry, when, when_else, loop, exit_when, get, put, wait, signal, broadcast, except, assert, Stmts, no_stmts, stmts, device, Program}
use Rattle.static_declarations.specs.declared.sort.Sort.{Sort}
use Rattle.static_declarations.specs.declared.sort.Sort.TheVariants as sort_is
use Rattle.source_semantics.specs.Names.{named, constants, constant_among}
use Rattle.source_semantics.specs.Run.{routine_named, entry_named}
use Rattle.static_semantics.specs.Here.{Here, in_loop, is_monitor, conditions_here}
use Rattle.static_semantics.specs.Typed.{answer_sort, params_of, IsOf, AreArguments, IsTarget, CallsEntry}

-- the name of a constant, if it has one, is among those that are known
abbrev pub IsKnown : List (Name × ℤ) → Constant → Type 0
IsKnown known (literal_constant minus n) = Unit {0}
IsKnown known (named_constant minus x) = IsSome (named (λ k. k.0) x known)

-- a word that is known
pub record IsConstant (known : List (Name × ℤ)) (c : Constant) : Type 0 where
  pub known_name : IsKnown known c
  pub word : is_word (constant_among known c) ≡ true

-- a constant of the program from low to high
pub record IsWithin (g : Program) (low high : ℕ) (c : Constant) : Type 0 where
  pub constant : IsConstant (constants g) c
  pub limits : within (pos low) (pos high) (constant_among (constants g) c) ≡ true

-- the bounds of a loop: at most 1,000,000 turns, and behind the last the variable is still a word
pub record AreTurns (g : Program) (low high : Constant) : Type 0 where
  pub low_constant : IsConstant (constants g) low
  pub high_constant : IsConstant (constants g) high
  pub order : int_le (constant_among (constants g) low) (constant_among (constants g) high) ≡ true
  pub ends : int_lt (constant_among (constants g) high) (pos 2147483647) ≡ true
  pub few : int_lt (constant_among (constants g) high) (constant_among (constants g) low +ℤ pos 1000000) ≡ true

-- neither an entry nor a function calls entries and procedures
abbrev pub may_call : Here → Bool
may_call c = not (is_monitor c.home || c.is_function)

-- a loop is around
abbrev pub is_looped : List Name → Bool
is_looped [] = false
is_looped (i ∷ is) = true

-- a condition of the monitor whose text it is
abbrev pub IsCondition : Here → Name → Type 0
IsCondition c x = Contains (conditions_here c.program c.home) x

abbrev mutual
  pub Fits : Here → Stmt → Type 0
  Fits c (assign r e) = (s : Sort) × IsTarget c s r × IsOf c s e
  Fits c (assign_entry r m e es) = (may_call c ≡ true) × ((s : Sort) × IsTarget c s r × (answer_sort (entry_named c.program m e) ≡ Some s)) × CallsEntry c m e es
  Fits c (assign_empty r x) = IsTarget c sort_is.Truth r × IsCondition c x
  Fits c (perform f es) = (may_call c ≡ true) × (answer_sort (routine_named c.program c.process f) ≡ None) × AreArguments c (params_of (routine_named c.program c.process f)) es
  Fits c (perform_entry m e es) = (may_call c ≡ true) × (answer_sort (entry_named c.program m e) ≡ None) × CallsEntry c m e es
  Fits c (when e a) = IsOf c sort_is.Truth e × AllFit c a
  Fits c (when_else e a b) = IsOf c sort_is.Truth e × AllFit c a × AllFit c b
  Fits c (loop i low high ss) = AreTurns c.program low high × AllFit (in_loop i c) ss
  Fits c (exit_when e) = (is_looped c.turns ≡ true) × IsOf c sort_is.Truth e
  Fits c (get d r) = (c.is_function ≡ false) × Contains c.program.decls (device d false) × IsTarget c sort_is.Number r
  Fits c (put d e) = (c.is_function ≡ false) × Contains c.program.decls (device d true) × IsOf c sort_is.Number e
  Fits c (wait x limit number) = IsCondition c x × IsWithin c.program 1 1000000000 limit × IsWithin c.program 10 999 number
  Fits c (signal x) = IsCondition c x
  Fits c (broadcast x) = IsCondition c x
  Fits c (except number) = IsWithin c.program 10 999 number
  Fits c (assert e) = IsOf c sort_is.Truth e

  pub AllFit : Here → Stmts → Type 0
  AllFit c no_stmts = Unit {0}
  AllFit c (stmts s ss) = Fits c s × AllFit c ss
