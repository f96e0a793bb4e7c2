-- The code of statements. The addresses inside the code of a statement are told by existing.
use Rattle.std.specs.Prelude.{◌≡◌, ℕ, suc, ◌+◌, ◌-ℤ◌, true, List, [], ◌∷◌, ◌++◌, Some, None, ℤ, pos, length, slice_get}
use Rattle.syntax_tree.specs.Plain.{Name, Stmt, assign, assign_entry, assign_empty, perform, perform_entry, when, when_else, loop, exit_when, get, put, wait, signal, broadcast, except, assert, Stmts, no_stmts, stmts, Program}
use Rattle.source_semantics.specs.Names.{constant_value, count_value, device_number, condition_number}
use Rattle.source_semantics.specs.Store.{up_to}
use Rattle.machine_isa.specs.declared.instr.Instr.{Instr}
use Rattle.machine_isa.specs.declared.instr.Instr.TheVariants as i
use Rattle.code_spec.specs.Layout.{Owner, by_program, by_process, by_monitor, Place, single, Scope, loops_in, loops}
use Rattle.code_spec.specs.Numbering.{routine_in, entry_in}
use Rattle.code_spec.specs.Code.{code_of, args_code, call_code, index_code, store_code, put_code}

-- the code has these instructions from an address on
abbrev pub Has : List Instr → ℕ → List Instr → Type 0
Has code p [] = Unit {0}
Has code p (j ∷ js) = (slice_get code p ≡ Some j) × Has code (p + 1) js

-- the code from p to q is these instructions
pub record IsLine (code : List Instr) (p q : ℕ) (js : List Instr) : Type 0 where
  pub has : Has code p js
  pub end : q ≡ p + length js

abbrev pub At : List Instr → ℕ → Instr → Type 0
At code p j = slice_get code p ≡ Some j

-- where a loop's variable lies: at this word of the frame
abbrev pub counter_place : Name → ℕ → Place
counter_place x w = record { name = x; range = None; word = w; shape = single; fixed = true }

-- where the body of a loop stands: its variable is in reach, and an exit goes behind the loop
abbrev pub inner : Scope → Name → ℕ → ℕ → Scope
inner c x w q = record c { own = counter_place x w ∷ c.own; exit = Some q }

-- how many turns a loop has
abbrev pub turns_of : (low high : ℤ) → ℕ
turns_of low high = up_to (high -ℤ low)

-- the condition of the monitor whose text it is, and that monitor
abbrev pub condition_of : Program → Owner → Name → ℕ
condition_of g (by_monitor m) x = condition_number g m x
condition_of g by_program x = 0
condition_of g (by_process k) x = 0

abbrev pub monitor_of : Owner → ℕ
monitor_of (by_monitor m) = m
monitor_of by_program = 0
monitor_of (by_process k) = 0

-- The code from p to q is that of the statement, whose first loop in the text, if it has one, has
-- its variable at word w of the frame.
abbrev mutual
  pub Emits : Program → List Instr → Scope → (w p q : ℕ) → Stmt → Type 0
  Emits g code c w p q (assign r e) = IsLine code p q (index_code g c r ++ (code_of g c e ++ put_code g c r))
  Emits g code c w p q (assign_entry r m e es) =
      IsLine code p q (index_code g c r ++ (call_code g (entry_in g m e) (λ ps. args_code g c es ps) ++ put_code g c r))
  Emits g code c w p q (assign_empty r x) = IsLine code p q (index_code g c r ++ (i.Empty (pos (condition_of g c.owner x)) ∷ store_code g c r))
  Emits g code c w p q (perform f es) = IsLine code p q (call_code g (routine_in g c.owner f) (λ ps. args_code g c es ps))
  Emits g code c w p q (perform_entry m e es) = IsLine code p q (call_code g (entry_in g m e) (λ ps. args_code g c es ps))
  Emits g code c w p q (when e a) =
      (r : ℕ) × (mid : ℕ) × IsLine code p r (code_of g c e) × At code r (i.JumpZero (pos (mid + 1))) × EmitsAll g code c w (r + 1) mid a
      × At code mid (i.Jump (pos q)) × (q ≡ mid + 1)
  Emits g code c w p q (when_else e a b) =
      (r : ℕ) × (mid : ℕ) × IsLine code p r (code_of g c e) × At code r (i.JumpZero (pos (mid + 1))) × EmitsAll g code c w (r + 1) mid a
      × At code mid (i.Jump (pos q)) × EmitsAll g code c (w + loops a) (mid + 1) q b
  Emits g code c w p q (loop x low high ss) =
      (mid : ℕ)
      × Has code p (i.Push (constant_value g low) ∷ i.StoreLocal (pos w) ∷ i.Repeats (pos (turns_of (constant_value g low) (constant_value g high))) ∷ [])
      × EmitsAll g code (inner c x w q) (suc w) (p + 1 + 1 + 1) mid ss
      × Has code mid (i.LoadLocal (pos w) ∷ i.Push (pos 1) ∷ i.Add ∷ i.StoreLocal (pos w) ∷ i.Repeat (pos (p + 1 + 1 + 1)) ∷ [])
      × (q ≡ mid + 1 + 1 + 1 + 1 + 1)
  Emits g code c w p q (exit_when e) = (r : ℕ) × (y : ℕ) × IsLine code p r (code_of g c e) × (c.exit ≡ Some y) × At code r (i.Exit (pos y)) × (q ≡ r + 1)
  Emits g code c w p q (get d r) = IsLine code p q (index_code g c r ++ (i.In (pos (device_number g d)) ∷ put_code g c r))
  Emits g code c w p q (put d e) = IsLine code p q (code_of g c e ++ (i.Out (pos (device_number g d)) ∷ []))
  Emits g code c w p q (wait x limit number) =
      IsLine code p q (i.Wait (pos (condition_of g c.owner x)) (pos (count_value g limit)) (pos (count_value g number)) ∷ i.Reenter (pos (monitor_of c.owner)) ∷ [])
  Emits g code c w p q (signal x) = IsLine code p q (i.Signal (pos (condition_of g c.owner x)) ∷ [])
  Emits g code c w p q (broadcast x) = IsLine code p q (i.Broadcast (pos (condition_of g c.owner x)) ∷ [])
  Emits g code c w p q (except n) = IsLine code p q (i.Raise (pos (count_value g n)) ∷ [])
  Emits g code c w p q (assert e) =
      (r : ℕ) × IsLine code p r (code_of g c e) × At code r (i.JumpZero (pos (r + 1 + 1))) × At code (r + 1) (i.Jump (pos q))
      × At code (r + 1 + 1) (i.Raise (pos 4)) × (q ≡ r + 1 + 1 + 1)

  pub EmitsAll : Program → List Instr → Scope → (w p q : ℕ) → Stmts → Type 0
  EmitsAll g code c w p q no_stmts = q ≡ p
  EmitsAll g code c w p q (stmts s ss) = (r : ℕ) × Emits g code c w p r s × EmitsAll g code c (w + loops_in s) r q ss
