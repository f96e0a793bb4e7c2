-- What a plain instruction, one that may stand in a Line, comes to.
use Rattle.std.specs.Prelude.{◌≡◌, ◌≤◌, ◌⊎◌, List, length, None}
use Rattle.machine_isa.specs.declared.instr.Instr.{Instr}
use Rattle.machine_semantics.specs.Image.{Image}
use Rattle.machine_semantics.specs.State.{State}
use Rattle.machine_semantics.specs.Effect.{Own, Outcome, Goes, Does, Signals, Broadcasts, Waits, Raises, Ends, Stuck, effect}
use Rattle.machine_isa.specs.Operands.{takes, gives}
use Rattle.machine_semantics.specs.Part.{Part, Kind, kinds, plains, IsPlain, IsSized}

-- the outcome goes on with a process of which this holds, or raises
abbrev pub GoesOn : (Own → Type 0) → Outcome → Type 0
GoesOn P (Goes o) = P o
GoesOn P (Does a o) = P o
GoesOn P (Signals c o) = P o
GoesOn P (Broadcasts c o) = P o
GoesOn P (Raises e) = Unit {0}
GoesOn P (Waits c limit e o) = ⊥
GoesOn P Ends = ⊥
GoesOn P Stuck = ⊥

-- after a plain instruction: other operands, words of the same number, all else the same
pub record After (o : Own) (ks : List Kind) (p : Own) : Type 0 where
  pub place : p.job.place ≡ o.job.place
  pub done : p.job.done ≡ o.job.done
  pub dispatch_ticks : p.job.dispatch_ticks ≡ o.job.dispatch_ticks
  pub callers : p.job.callers ≡ o.job.callers
  pub handling : p.job.handling ≡ o.job.handling
  pub inside : p.job.inside ≡ o.job.inside
  pub locals : length p.job.locals ≡ length o.job.locals
  pub operands : kinds p.job.operands ≡ ks
  pub owned : length p.owned ≡ length o.owned
  pub shared : length p.shared ≡ length o.shared

-- the process has the locals of the part, and the words of its process
pub record IsIn (part : Part) (o : Own) : Type 0 where
  pub locals : length o.job.locals ≡ part.locals
  pub owned : part.owned ≤ length o.owned

-- The law: a plain instruction that finds the operands it takes is not stuck; it raises, or leaves
-- the operands that it gives and changes no more than values of words. In an entry the process has
-- to be inside the monitor.
abbrev pub PlainIsSafe : Type 0
PlainIsSafe = (image : Image) (s : State) (part : Part) (instr : Instr) (o : Own) (ks : List Kind)
    → IsPlain image part instr → IsSized image s o.shared → IsIn part o → (part.monitor ≡ None) ⊎ (o.job.inside ≡ part.monitor)
    → kinds o.job.operands ≡ plains (takes instr) ks → GoesOn (After o (plains (gives instr) ks)) (effect image s instr o)
