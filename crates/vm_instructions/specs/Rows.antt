-- Where a row of instructions that nobody sees ends.
use Rattle.std.specs.Prelude.{◌≡◌, ◌<◌, ◌≤◌, ◌+◌, ◌-◌, ◌⊎◌, ℕ, false}
use Rattle.machine_isa.specs.declared.instr.Instr.{Instr}
use Rattle.machine_isa.specs.Ticks.{ticks}
use Rattle.machine_semantics.specs.Image.{Image}
use Rattle.machine_semantics.specs.State.{State}
use Rattle.machine_semantics.specs.Effect.{Own, Raises, effect}
use Rattle.vm_stretch.specs.Silent.{IsAt, Leads, is_silent, next_own}
use Rattle.vm_instructions.specs.declared.burst.Halt.{Halt}
use Rattle.vm_instructions.specs.declared.burst.Halt.TheVariants as halt
use Rattle.vm_instructions.specs.Silent.{RaisesAs}

-- so many ticks of the instruction that it is at
abbrev pub stays : ℕ → Own → Own
stays n o = record o { job = record (o.job) { done = o.job.done + n } }

-- the last instruction whose ticks all passed, and where it began
pub record Ended (image : Image) (first : Own) (passed : ℕ) (last : Own) (instr : Instr) : Type 0 where
  pub n : ℕ
  pub leads : Leads image first n last
  pub at : IsAt image last instr
  pub time : n + (ticks instr - last.job.done) ≡ passed

-- all ticks passed, the last of them within an instruction, or as its last
abbrev pub Spends : Image → Own → ℕ → Own → Type 0
Spends image first budget new = (n : ℕ) × (m : ℕ) × (o : Own) × Leads image first n o × (n + m ≡ budget) × (new ≡ stays m o) × ((m ≡ 0) ⊎ ((instr : Instr) × IsAt image o instr × (o.job.done + m < ticks instr)))

abbrev pub Runs : Image → Own → ℕ → Halt → Own → Type 0
Runs image first budget halt.Spent new = Spends image first budget new
Runs image first budget (halt.Raises left number) new =
    (last : Own) × (instr : Instr) × (left ≤ budget) × Ended image first (budget - left) last instr × ((s : State) → effect image s instr (next_own last) ≡ Raises number) × RaisesAs (next_own last) new
Runs image first budget (halt.Sees left) new =
    (last : Own) × (instr : Instr) × (left ≤ budget) × Ended image first (budget - left) last instr × (is_silent instr ≡ false) × (new ≡ next_own last)
