-- How many ticks each instruction takes.
use Rattle.std.specs.Prelude.{ℕ}
use Rattle.machine_isa.specs.declared.instr.Instr.{Instr}
use Rattle.machine_isa.specs.declared.instr.Instr.TheVariants as i

abbrev pub ticks : Instr → ℕ
ticks (i.Push value) = 1
ticks (i.LoadLocal word) = 2
ticks (i.StoreLocal word) = 2
ticks (i.LoadOwn word) = 2
ticks (i.StoreOwn word) = 2
ticks (i.LoadMon word) = 3
ticks (i.StoreMon word) = 3
ticks (i.LoadLocalAt word low len) = 4
ticks (i.StoreLocalAt word low len) = 4
ticks (i.LoadOwnAt word low len) = 4
ticks (i.StoreOwnAt word low len) = 4
ticks (i.LoadMonAt word low len) = 5
ticks (i.StoreMonAt word low len) = 5
ticks i.Neg = 2
ticks i.Not = 1
ticks i.And = 1
ticks i.Or = 1
ticks i.Add = 2
ticks i.Sub = 2
ticks i.Eq = 2
ticks i.Ne = 2
ticks i.Lt = 2
ticks i.Le = 2
ticks i.Gt = 2
ticks i.Ge = 2
ticks i.Mul = 4
ticks i.Div = 12
ticks i.Mod = 12
ticks (i.Range low high) = 3
ticks (i.JumpZero to) = 2
ticks (i.Jump to) = 1
ticks (i.Repeats turns) = 2
ticks (i.Repeat to) = 3
ticks (i.Exit to) = 3
ticks (i.Call routine) = 6
ticks i.Return = 4
ticks i.ReturnValue = 4
ticks (i.Enter monitor) = 5
ticks (i.Leave monitor) = 3
ticks (i.Wait condition limit number) = 6
ticks (i.Reenter monitor) = 4
ticks (i.Signal condition) = 5
ticks (i.Broadcast condition) = 5
ticks (i.Empty condition) = 3
ticks (i.In device) = 10
ticks (i.Out device) = 10
ticks (i.Raise number) = 4
ticks i.End = 4
