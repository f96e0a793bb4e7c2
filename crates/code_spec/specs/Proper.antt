-- What the static rules give of a text where it stands, as far as its code comes to its meaning by
-- it.
use Rattle.std.specs.Prelude.{◌≡◌, ℕ, zero, suc, ◌<◌, Bool, true, false, List, [], ◌∷◌, Option, Some, None, ℤ, pos, ◌+ℤ◌, ◌-ℤ◌, slice_get}
use Rattle.syntax_tree.specs.Plain.{Name, Param, Expr, literal, truth, variable, element, call, minus, negation, paren, row, Exprs, no_exprs, exprs, Operands, no_operands, operand, Ref, whole, part, Stmt, assign, assign_entry, assign_empty, perform, perform_entry, when, when_else, loop, exit_when, get, put, wait, signal, broadcast, except, assert, Stmts, no_stmts, stmts, Answers}
use Rattle.base.specs.Words.{word, in_word}
use Rattle.source_semantics.specs.Names.{constant_value, monitor_number}
use Rattle.source_semantics.specs.Store.{up_to}
use Rattle.source_semantics.specs.Run.{Found, routine_named, entry_named}
use Rattle.source_semantics.specs.Ranks.{monitors_of, includes}
use Rattle.machine_semantics.specs.Image.{Monitor}
use Rattle.code_spec.specs.Layout.{Owner, by_program, by_process, by_monitor, home_of, single, array, in_frame, Spot, Scope, spot_of}
use Rattle.code_spec.specs.Numbering.{Text, routine_in, entry_in}
use Rattle.code_spec.specs.Code.{constant_named, range_of_spot, ref_name}
use Rattle.code_spec.specs.Emits.{inner, condition_of}
use Rattle.code_spec.specs.Memory.{Setting}

-- ---- names

-- the name is a variable of one word, or a constant
abbrev pub IsValue : Option Spot → Option (Name × ℤ) → Type 0
IsValue (Some s) k = s.place.shape ≡ single
IsValue None (Some k) = Unit {0}
IsValue None None = ⊥

-- the variable is an array
abbrev pub IsArray : Option Spot → Type 0
IsArray None = ⊥
IsArray (Some s) = (low : ℤ) × (len : ℕ) × (s.place.shape ≡ array low len)

-- the variable is one word
abbrev pub IsSingle : Option Spot → Type 0
IsSingle None = ⊥
IsSingle (Some s) = s.place.shape ≡ single

-- the variable may be assigned to: it is no loop's, and in a function it is of its frame
abbrev pub IsFree : Bool → Option Spot → Type 0
IsFree is_function None = ⊥
IsFree is_function (Some s) = (s.place.fixed ≡ false) × (is_function ≡ true → s.area ≡ in_frame)

-- ---- calls

-- the same as the meaning of programs has it
abbrev pub found_of : Text → Found
found_of t = record { home = home_of t.owner; routine = t.routine }

-- a routine of the program, or of the process
abbrev pub IsMine : Setting → Owner → Type 0
IsMine e by_program = Unit {0}
IsMine e (by_process k) = k ≡ e.number
IsMine e (by_monitor m) = ⊥

-- the name in a call means this routine, in the code as in the source, and it is of a lower level
pub record Callee (e : Setting) (c : Scope) (n : ℕ) (f : Name) (t : Text) : Type 0 where
  pub in_code : routine_in e.program c.owner f ≡ Some t
  pub in_source : routine_named e.program e.text f ≡ Some (found_of t)
  pub mine : IsMine e t.owner
  pub below : e.order.level f < n
  pub runs : e.order.runs f ≡ true

-- the monitor is one that the process's text calls entries of
pub record Reaches (e : Setting) (m : ℕ) : Type 0 where
  pub monitor : Monitor
  pub there : slice_get e.image.monitors m ≡ Some monitor
  pub reached : includes m (monitors_of e.program e.text) ≡ true

-- the names in a call of an entry mean this one
pub record Entry (e : Setting) (mon entry : Name) (t : Text) : Type 0 where
  pub in_code : entry_in e.program mon entry ≡ Some t
  pub in_source : entry_named e.program mon entry ≡ Some (found_of t)
  pub owner : t.owner ≡ by_monitor (monitor_number e.program mon)
  pub reaches : Reaches e (monitor_number e.program mon)

-- ---- expressions: calls in them are of routines below the level n

abbrev mutual
  pub ProperExpr : Setting → Scope → ℕ → Expr → Type 0
  ProperExpr e c n (literal v) = Unit {0}
  ProperExpr e c n (truth b) = Unit {0}
  ProperExpr e c n (variable x) = IsValue (spot_of e.program c x) (constant_named e.program x)
  ProperExpr e c n (element x i) = ProperExpr e c n i × IsArray (spot_of e.program c x)
  ProperExpr e c n (call f es) = (t : Text) × (a : Answers) × Callee e c n f t × (t.routine.answers ≡ Some a) × ProperArgs e c n es t.routine.params
  ProperExpr e c n (minus i) = ProperExpr e c n i
  ProperExpr e c n (negation i) = ProperExpr e c n i
  ProperExpr e c n (paren i) = ProperExpr e c n i
  ProperExpr e c n (row i r) = ProperExpr e c n i × ProperRow e c n r

  pub ProperRow : Setting → Scope → ℕ → Operands → Type 0
  ProperRow e c n no_operands = Unit {0}
  ProperRow e c n (operand op i r) = ProperExpr e c n i × ProperRow e c n r

  -- as many arguments as parameters
  pub ProperArgs : Setting → Scope → ℕ → Exprs → List Param → Type 0
  ProperArgs e c n no_exprs [] = Unit {0}
  ProperArgs e c n no_exprs (p ∷ ps) = ⊥
  ProperArgs e c n (exprs i es) [] = ⊥
  ProperArgs e c n (exprs i es) (p ∷ ps) = ProperExpr e c n i × ProperArgs e c n es ps

abbrev pub ProperAnswers : Setting → Scope → ℕ → Option Answers → Type 0
ProperAnswers e c n None = Unit {0}
ProperAnswers e c n (Some a) = ProperExpr e c n a.value

-- ---- what is stored to

abbrev pub ProperIndex : Setting → Scope → ℕ → Ref → Type 0
ProperIndex e c n (whole x) = Unit {0}
ProperIndex e c n (part x i) = ProperExpr e c n i

abbrev pub ProperRef : Setting → Scope → Ref → Type 0
ProperRef e c (whole x) = IsSingle (spot_of e.program c x) × IsFree c.is_function (spot_of e.program c x)
ProperRef e c (part x i) = IsArray (spot_of e.program c x) × IsFree c.is_function (spot_of e.program c x)

-- the same once the index is evaluated
abbrev pub ProperTarget : Setting → Scope → Name → Option ℤ → Type 0
ProperTarget e c x None = IsSingle (spot_of e.program c x) × IsFree c.is_function (spot_of e.program c x)
ProperTarget e c x (Some i) = IsArray (spot_of e.program c x) × IsFree c.is_function (spot_of e.program c x)

-- ---- statements

-- so many times the value can be counted up by one
abbrev pub CountsOn : ℤ → ℕ → Type 0
CountsOn v zero = Unit {0}
CountsOn v (suc n) = (in_word (v +ℤ pos 1) ≡ word (v +ℤ pos 1)) × CountsOn (v +ℤ pos 1) n

-- a text that is no entry
abbrev pub IsOutside : Owner → Type 0
IsOutside by_program = Unit {0}
IsOutside (by_process k) = Unit {0}
IsOutside (by_monitor m) = ⊥

-- a text that may have what others see: it is no function
abbrev pub MayAct : Scope → Type 0
MayAct c = c.is_function ≡ false

-- a call of an entry, from a text that is no entry and no function
pub record CallsEntry (e : Setting) (c : Scope) (n : ℕ) (mon entry : Name) (es : Exprs) (t : Text) : Type 0 where
  pub may_act : MayAct c
  pub outside : IsOutside c.owner
  pub entry_is : Entry e mon entry t
  pub args : ProperArgs e c n es t.routine.params

-- the condition is of the monitor whose text it is
pub record Waiting (e : Setting) (c : Scope) (x : Name) : Type 0 where
  pub monitor : ℕ
  pub owner : c.owner ≡ by_monitor monitor
  pub condition : slice_get e.image.conditions (condition_of e.program c.owner x) ≡ Some monitor
  pub reaches : Reaches e monitor

abbrev mutual
  pub Proper : Setting → Scope → ℕ → Stmt → Type 0
  Proper e c n (assign r i) = ProperIndex e c n r × ProperRef e c r × ProperExpr e c n i
  Proper e c n (assign_entry r m en es) =
      ProperIndex e c n r × ProperRef e c r × ((t : Text) × (a : Answers) × (t.routine.answers ≡ Some a) × CallsEntry e c n m en es t)
  Proper e c n (assign_empty r x) = ProperIndex e c n r × ProperRef e c r × (range_of_spot (spot_of e.program c (ref_name r)) ≡ None) × MayAct c
  Proper e c n (perform f es) = MayAct c × IsOutside c.owner × ((t : Text) × Callee e c n f t × (t.routine.answers ≡ None) × ProperArgs e c n es t.routine.params)
  Proper e c n (perform_entry m en es) = (t : Text) × (t.routine.answers ≡ None) × CallsEntry e c n m en es t
  Proper e c n (when i a) = ProperExpr e c n i × ProperAll e c n a
  Proper e c n (when_else i a b) = ProperExpr e c n i × ProperAll e c n a × ProperAll e c n b
  Proper e c n (loop x low high ss) =
      ((k : ℕ) × (up_to (constant_value e.program high -ℤ constant_value e.program low) ≡ suc k) × CountsOn (constant_value e.program low) (suc k))
      × ((w : ℕ) (q : ℕ) → ProperAll e (inner c x w q) n ss)
  Proper e c n (exit_when i) = ProperExpr e c n i
  Proper e c n (get d r) = ProperIndex e c n r × ProperRef e c r × MayAct c
  Proper e c n (put d i) = ProperExpr e c n i × MayAct c
  Proper e c n (wait x limit number) = Waiting e c x × MayAct c
  Proper e c n (signal x) = MayAct c
  Proper e c n (broadcast x) = MayAct c
  Proper e c n (except number) = Unit {0}
  Proper e c n (assert i) = ProperExpr e c n i

  pub ProperAll : Setting → Scope → ℕ → Stmts → Type 0
  ProperAll e c n no_stmts = Unit {0}
  ProperAll e c n (stmts s ss) = Proper e c n s × ProperAll e c n ss
