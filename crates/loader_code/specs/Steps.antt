-- Steps of the computation over a tree, one piece of code at a time.
use Rattle.std.specs.Prelude.{◌+◌, ◌-◌, ◌&&◌, ℕ, cond, Option, Some, None, nat_le}
use Rattle.machine_isa.specs.declared.instr.Instr.{Instr}
use Rattle.machine_isa.specs.Operands.{takes, gives}
use Rattle.machine_isa.specs.Ticks.{ticks}
use Rattle.loader_code.specs.declared.instructions.StackEffect.{StackEffect}
use Rattle.valid_image.specs.Found.{Found, amount, chain, guard, in_line}

-- what an instruction of a Line takes and gives
abbrev pub effect_of : Instr → Option StackEffect
effect_of instr = cond (in_line instr) (Some (record { takes = takes instr; gives = gives instr })) None

-- an instruction of a Line
abbrev pub step : Option Instr → ℕ → Option Found
step None h = None
step (Some instr) h =
    guard (in_line instr && nat_le (takes instr) h)
    (Some (record { height = gives instr + (h - takes instr); cost = amount (ticks instr) 0 0; depth = gives instr + (h - takes instr) }))

-- what is done inside a monitor, with ENTER and LEAVE
abbrev pub stays_in : Option Found → Option Found
stays_in x = chain x (λ h. Some (record { height = h; cost = amount 8 0 0; depth = 0 }))
