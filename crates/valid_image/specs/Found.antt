-- What the code of a tree comes to, computed from left to right: its height, its worst cost and its
-- depth, or nothing where the code is not of the tree or a rule of heights fails.
use Rattle.std.specs.Prelude.{◌+◌, ◌-◌, ◌*◌, ◌&&◌, ℕ, zero, suc, Bool, true, false, ℤ, pos, negsuc, List, Option, Some, None, max, nat_eq, nat_lt, nat_le, slice_get}
use Rattle.machine_isa.specs.declared.instr.Instr.{Instr}
use Rattle.machine_isa.specs.declared.instr.Instr.TheVariants as i
use Rattle.machine_isa.specs.Ticks.{ticks}
use Rattle.base.specs.Capped.{cap}
use Rattle.base.specs.declared.capped.Cost.{Cost}
use Rattle.machine_semantics.specs.Trees.{Seg, Segs, Line, Fork, Rep, Call, Stay, Wait, Exit, Nil, Cons, size, size_of}
use Rattle.machine_isa.specs.Operands.{takes, gives}

-- what is known of a routine that may be called: its parameters, results and locals, its greatest
-- height with those of the routines that it calls, and its cost
pub record Known : Type 0 where
  pub params : ℕ
  pub results : ℕ
  pub locals : ℕ
  pub depth : ℕ
  pub cost : Cost

-- the height after the code, its worst cost, and the greatest height in it; heights count from the
-- innermost loop's counter
pub record Found : Type 0 where
  pub height : ℕ
  pub cost : Cost
  pub depth : ℕ

-- ---- costs

abbrev pub amount : (run susp waits : ℕ) → Cost
amount r s w = record { run = r; susp = s; waits = w }

-- each component up to where it is counted
abbrev pub capped : Cost → Cost
capped c = amount (cap c.run) (cap c.susp) (cap c.waits)

abbrev pub plus : Cost → Cost → Cost
plus c d = amount (c.run + d.run) (c.susp + d.susp) (c.waits + d.waits)

abbrev pub greater : Cost → Cost → Cost
greater c d = amount (max c.run d.run) (max c.susp d.susp) (max c.waits d.waits)

-- so many ticks of execution besides
abbrev pub longer : ℕ → Cost → Cost
longer n c = amount (n + c.run) c.susp c.waits

-- a loop of so many turns
abbrev pub turns : ℕ → Cost → Cost
turns n c = amount (2 + n * (c.run + 3)) (n * c.susp) (n * c.waits)

-- ---- tests of one instruction

abbrev pub is_pos : ℕ → ℤ → Bool
is_pos n (pos m) = nat_eq m n
is_pos n (negsuc m) = false

-- the numbers 30 to 41 and 48 stand in no Line
abbrev pub in_line : Instr → Bool
in_line (i.JumpZero t) = false
in_line (i.Jump t) = false
in_line (i.Repeats n) = false
in_line (i.Repeat t) = false
in_line (i.Exit t) = false
in_line (i.Call r) = false
in_line i.Return = false
in_line i.ReturnValue = false
in_line (i.Enter m) = false
in_line (i.Leave m) = false
in_line (i.Wait c limit number) = false
in_line (i.Reenter m) = false
in_line i.End = false
in_line _ = true

abbrev pub is_jump_zero : ℕ → Option Instr → Bool
is_jump_zero n (Some (i.JumpZero t)) = is_pos n t
is_jump_zero n _ = false

abbrev pub is_jump : ℕ → Option Instr → Bool
is_jump n (Some (i.Jump t)) = is_pos n t
is_jump n _ = false

abbrev pub is_repeats : ℕ → Option Instr → Bool
is_repeats n (Some (i.Repeats t)) = is_pos n t
is_repeats n _ = false

abbrev pub is_repeat : ℕ → Option Instr → Bool
is_repeat n (Some (i.Repeat t)) = is_pos n t
is_repeat n _ = false

abbrev pub is_call : ℕ → Option Instr → Bool
is_call n (Some (i.Call t)) = is_pos n t
is_call n _ = false

abbrev pub is_enter : ℕ → Option Instr → Bool
is_enter n (Some (i.Enter t)) = is_pos n t
is_enter n _ = false

abbrev pub is_leave : ℕ → Option Instr → Bool
is_leave n (Some (i.Leave t)) = is_pos n t
is_leave n _ = false

-- to the end of the innermost loop
abbrev pub is_exit : Option ℕ → Option Instr → Bool
is_exit (Some n) (Some (i.Exit t)) = is_pos n t
is_exit _ _ = false

-- back into the monitor of the Stay that it stands in
abbrev pub is_reenter : Option ℕ → Option Instr → Bool
is_reenter (Some n) (Some (i.Reenter t)) = is_pos n t
is_reenter _ _ = false

-- the instruction that ends a routine: RETV where it gives a value back, else RET
abbrev pub is_return : Bool → Option Instr → Bool
is_return true (Some i.ReturnValue) = true
is_return false (Some i.Return) = true
is_return _ _ = false

abbrev pub is_end : Option Instr → Bool
is_end (Some i.End) = true
is_end _ = false

-- a number that is no number of ticks counts as none
abbrev pub natural : ℤ → ℕ
natural (pos n) = n
natural (negsuc n) = 0

-- the limit of a wait
abbrev pub limit_at : Option Instr → Option ℕ
limit_at (Some (i.Wait c limit number)) = Some (natural limit)
limit_at _ = None

-- ---- steps of the computation

abbrev pub guard : Bool → Option Found → Option Found
guard true f = f
guard false f = None

abbrev pub joined : Found → Option Found → Option Found
joined f None = None
joined f (Some g) = Some (record { height = g.height; cost = plus f.cost g.cost; depth = max f.depth g.depth })

-- one piece of the code, and the next from its height on
abbrev pub chain : Option Found → (ℕ → Option Found) → Option Found
chain None next = None
chain (Some f) next = joined f (next f.height)

-- one instruction of a Line, and the rest from its height on
abbrev pub plain_step : Option Instr → ℕ → (ℕ → Option Found) → Option Found
plain_step None h next = None
plain_step (Some instr) h next =
    guard (in_line instr && nat_le (takes instr) h)
    (joined (record { height = gives instr + (h - takes instr); cost = amount (ticks instr) 0 0; depth = gives instr + (h - takes instr) }) (next (gives instr + (h - takes instr))))

abbrev pub line : List Instr → ℕ → (at h : ℕ) → Option Found
line code zero at h = Some (record { height = h; cost = amount 0 0 0; depth = 0 })
line code (suc n) at h = plain_step (slice_get code at) h (line code n (at + 1))

-- both arms end at one height
abbrev pub arms : Option Found → Option Found → Option Found
arms None second = None
arms (Some f) None = None
arms (Some f) (Some g) = guard (nat_eq f.height g.height) (Some (record { height = f.height; cost = greater (longer 3 f.cost) (longer 2 g.cost); depth = max f.depth g.depth }))

-- a turn ends where it began
abbrev pub loop : ℕ → (h : ℕ) → Option Found → Option Found
loop n h None = None
loop n h (Some f) = guard (nat_eq f.height 0) (Some (record { height = h; cost = turns n f.cost; depth = suc h + f.depth }))

abbrev pub call : (h : ℕ) → Option Known → Option Found
call h None = None
call h (Some k) =
    guard (nat_le k.params h)
    (Some (record { height = k.results + (h - k.params); cost = longer 6 k.cost; depth = max (k.results + (h - k.params)) (h - k.params + 2 + k.locals + k.depth) }))

abbrev pub wait : (h : ℕ) → Option ℕ → Option Found
wait h None = None
wait h (Some limit) = Some (record { height = h; cost = amount 10 limit 1; depth = 0 })

-- ---- the whole computation, of code in no Stay or in that of the monitor held; out is the end of
-- the innermost loop

abbrev mutual
  pub found : (code : List Instr) (known : List Known) (out held : Option ℕ) → Seg → (at h : ℕ) → Option Found
  found code known out held (Line zero) at h = None
  found code known out held (Line (suc n)) at h = line code (suc n) at h
  found code known out held (Fork first second) at zero = None
  found code known out held (Fork first second) at (suc h) =
      guard (is_jump_zero (at + 1 + size first + 1) (slice_get code at) && is_jump (at + size first + size second + 2) (slice_get code (at + 1 + size first)))
      (arms (founds code known out held first (at + 1) h) (founds code known out held second (at + 1 + size first + 1) h))
  found code known out held (Rep n body) at h =
      guard (nat_lt 0 n && (is_repeats n (slice_get code at) && is_repeat (at + 1) (slice_get code (at + 1 + size body))))
      (loop n h (founds code known (Some (at + 1 + size body + 1)) held body (at + 1) 0))
  found code known out held (Call r) at h = guard (is_call r (slice_get code at)) (call h (slice_get known r))
  found code known out held (Stay m body) at h = None
  found code known out held Wait at h = guard (is_reenter held (slice_get code (at + 1))) (wait h (limit_at (slice_get code at)))
  found code known out held Exit at h = guard (nat_eq h 1 && is_exit out (slice_get code at)) (Some (record { height = 0; cost = amount 3 0 0; depth = 0 }))

  pub founds : (code : List Instr) (known : List Known) (out held : Option ℕ) → Segs → (at h : ℕ) → Option Found
  founds code known out held Nil at h = Some (record { height = h; cost = amount 0 0 0; depth = 0 })
  founds code known out held (Cons head rest) at h = chain (found code known out held head at h) (founds code known out held rest (at + size_of head))

-- an entry: its tree is one Stay
abbrev pub entry : (code : List Instr) (known : List Known) (m : ℕ) → Segs → (at : ℕ) → Option Found
entry code known m (Cons (Stay n body) Nil) at =
    guard (nat_eq n m && (is_enter m (slice_get code at) && is_leave m (slice_get code (at + 1 + size body))))
    (chain (founds code known None (Some m) body (at + 1) 0) (λ h. Some (record { height = h; cost = amount 8 0 0; depth = 0 })))
entry code known m _ at = None

-- it ends at the height
abbrev pub ended : ℕ → Option Found → Option Found
ended n None = None
ended n (Some f) = guard (nat_eq f.height n) (Some f)

-- the code of a routine: the tree of an entry is one Stay, that of any other has none
abbrev pub tree_found : List Instr → List Known → (monitor : Option ℕ) → Segs → (at : ℕ) → Option Found
tree_found code known (Some m) tree at = entry code known m tree at
tree_found code known None tree at = founds code known None None tree at 0
