-- The paths through a segment tree, and what each costs. A path is a choice of an arm of each Fork
-- that it comes to, and of whether it goes on at each EXIT or leaves the innermost loop there. A
-- call counts what is known of the routine, a wait its limit.
use Rattle.std.specs.Prelude.{◌≡◌, ◌+◌, ◌⊎◌, ℕ, zero, suc, Bool, true, false, List, Option, Some, None, slice_get}
use Rattle.machine_isa.specs.declared.instr.Instr.{Instr}
use Rattle.machine_isa.specs.Ticks.{ticks}
use Rattle.base.specs.declared.capped.Cost.{Cost}
use Rattle.machine_semantics.specs.Trees.{Seg, Segs, Line, Fork, Rep, Call, Stay, Wait, Exit, Nil, Cons, size, size_of}
use Rattle.valid_image.specs.Found.{Known, amount, plus, longer, limit_at}

-- paths by whether they leave the innermost loop, and by what they cost
abbrev pub Paths : Type 1
Paths = (leaves : Bool) → Cost → Type 0

abbrev pub ticks_of : Option Instr → ℕ
ticks_of None = 0
ticks_of (Some instr) = ticks instr

-- the ticks of so many instructions
abbrev pub ticks_from : List Instr → (n at : ℕ) → ℕ
ticks_from code zero at = 0
ticks_from code (suc n) at = ticks_of (slice_get code at) + ticks_from code n (at + 1)

-- JZ, and the JMP behind the first arm where that is not left
abbrev pub jumps : (leaves : Bool) → ℕ
jumps true = 2
jumps false = 3

-- so many turns, each with its REP; a turn that leaves the loop is the last
abbrev pub Turns : Paths → ℕ → Cost → Type 0
Turns P zero c = c ≡ amount 0 0 0
Turns P (suc n) c = ((d : Cost) × (e : Cost) × P false d × Turns P n e × (c ≡ plus (longer 3 d) e)) ⊎ P true c

-- one piece of the code, and the next where that is come to
abbrev pub Then : Paths → Paths → Paths
Then P Q leaves c = ((d : Cost) × (e : Cost) × P false d × Q leaves e × (c ≡ plus d e)) ⊎ ((leaves ≡ true) × P true c)

abbrev pub Either : Paths → Paths → Paths
Either P Q leaves c = ((d : Cost) × P leaves d × (c ≡ longer (jumps leaves) d)) ⊎ ((d : Cost) × Q leaves d × (c ≡ longer 2 d))

abbrev pub Loop : Paths → ℕ → Paths
Loop P n leaves c = (leaves ≡ false) × ((d : Cost) × Turns P n d × (c ≡ longer 2 d))

-- the one path that goes on and costs this
abbrev pub Only : Cost → Paths
Only cost leaves c = (leaves ≡ false) × (c ≡ cost)

abbrev pub Calls : Option Known → Paths
Calls None leaves c = ⊥
Calls (Some k) leaves c = Only (longer 6 k.cost) leaves c

abbrev pub Waits : Option ℕ → Paths
Waits None leaves c = ⊥
Waits (Some limit) leaves c = Only (amount 10 limit 1) leaves c

-- what is done in a monitor, with ENTER and LEAVE
abbrev pub Inside : Paths → Paths
Inside P leaves c = (leaves ≡ false) × ((d : Cost) × P false d × (c ≡ plus d (amount 8 0 0)))

abbrev mutual
  pub seg_paths : List Instr → List Known → Seg → (at : ℕ) → Paths
  seg_paths code known (Line n) at = Only (amount (ticks_from code n at) 0 0)
  seg_paths code known (Fork first second) at = Either (paths code known first (at + 1)) (paths code known second (at + 1 + size first + 1))
  seg_paths code known (Rep n body) at = Loop (paths code known body (at + 1)) n
  seg_paths code known (Call r) at = Calls (slice_get known r)
  seg_paths code known (Stay m body) at = Inside (paths code known body (at + 1))
  seg_paths code known Wait at = Waits (limit_at (slice_get code at))
  seg_paths code known Exit at = λ leaves c. c ≡ amount 3 0 0

  pub paths : List Instr → List Known → Segs → (at : ℕ) → Paths
  paths code known Nil at = Only (amount 0 0 0)
  paths code known (Cons head rest) at = Then (seg_paths code known head at) (paths code known rest (at + size_of head))
