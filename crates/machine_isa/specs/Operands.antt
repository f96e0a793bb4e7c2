-- How many operands an instruction takes from the stack, and how many it gives to it: of all but
-- jumps, loops, calls, returns, END, and ENTER, LEAVE, WAIT and REENT.
use Rattle.std.specs.Prelude.{ℕ}
use Rattle.machine_isa.specs.declared.instr.Instr.{Instr}
use Rattle.machine_isa.specs.declared.instr.Instr.TheVariants as i

-- how many it takes
abbrev pub takes : Instr → ℕ
takes (i.StoreLocal w) = 1
takes (i.StoreOwn w) = 1
takes (i.StoreMon w) = 1
takes (i.LoadLocalAt w low len) = 1
takes (i.StoreLocalAt w low len) = 2
takes (i.LoadOwnAt w low len) = 1
takes (i.StoreOwnAt w low len) = 2
takes (i.LoadMonAt w low len) = 1
takes (i.StoreMonAt w low len) = 2
takes i.Neg = 1
takes i.Not = 1
takes i.And = 2
takes i.Or = 2
takes i.Add = 2
takes i.Sub = 2
takes i.Eq = 2
takes i.Ne = 2
takes i.Lt = 2
takes i.Le = 2
takes i.Gt = 2
takes i.Ge = 2
takes i.Mul = 2
takes i.Div = 2
takes i.Mod = 2
takes (i.Range low high) = 1
takes (i.Out d) = 1
takes _ = 0

-- how many it gives
abbrev pub gives : Instr → ℕ
gives (i.StoreLocal w) = 0
gives (i.StoreOwn w) = 0
gives (i.StoreMon w) = 0
gives (i.StoreLocalAt w low len) = 0
gives (i.StoreOwnAt w low len) = 0
gives (i.StoreMonAt w low len) = 0
gives (i.Signal c) = 0
gives (i.Broadcast c) = 0
gives (i.Out d) = 0
gives (i.Raise e) = 0
gives _ = 1
