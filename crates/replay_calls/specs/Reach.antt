-- The variables that a call has in reach, and where its statements stand, as contracts see them.
use Rattle.std.specs.Prelude.{ℕ, ◌∷◌, Option, Some, None}
use Rattle.syntax_tree.specs.Placed.{placed, placed_process, plain, plain_process}
use Rattle.source_semantics.specs.Store.{Vars}
use Rattle.source_semantics.specs.Run as run
use Rattle.source_semantics.specs.Next.{calls_to}
use Rattle.std.specs.Global.{Vec}
use Rattle.replay_state.specs.View.{home_of, slot_of, vars_of}
use Rattle.replay_state.specs.declared.variables.Slot as code_slot
use Rattle.replay_state.specs.declared.call.CallOwner as code_home
use Rattle.replay_calls.specs.declared.lookup.EvalContext as code_scope
use Rattle.replay_calls.specs.declared.memory.CowSlots as code_area
use Rattle.replay_calls.specs.declared.memory.Memory as code_memory
use Rattle.replay_calls.specs.declared.fresh.ArgumentResult as code_bind
use Rattle.replay_calls.specs.declared.fresh.ArgumentResult.TheVariants as bind_is

abbrev pub kept_or : Vars → Option (Vec code_slot.Slot) → Vars
kept_or lent None = lent
kept_or lent (Some slots) = vars_of slots.items

-- the copy, where there is one
abbrev pub area_of : code_area.CowSlots → Vars
area_of a = kept_or (vars_of a.lent.now) a.kept

abbrev pub memory_of : code_memory.Memory → run.Memory
memory_of m = record { own = vars_of m.own.items; process = area_of m.process; monitor = area_of m.monitor }

-- where statements stand, with calls nested at most n deep
abbrev pub site_of : code_scope.EvalContext → code_home.CallOwner → ℕ → run.Site
site_of s h n = record {
  program = plain (placed s.declarations.now);
  process = plain_process (placed_process s.process.now);
  home = home_of h;
  calls = calls_to (plain (placed s.declarations.now)) (plain_process (placed_process s.process.now)) n;
}

-- an argument's variable in front of those that follow it, or the number of its exception
abbrev pub in_front : code_bind.ArgumentResult → run.Bound → run.Bound
in_front (bind_is.Raised n) rest = run.unbound n
in_front (bind_is.To s) (run.unbound n) = run.unbound n
in_front (bind_is.To s) (run.bound vs) = run.bound (slot_of s ∷ vs)
