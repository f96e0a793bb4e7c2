-- A program that is followed, from a configuration that its events have led to.
use Rattle.std.specs.Prelude.{◌≡◌, ◌≤◌, ◌<◌, ◌^◌, ℕ, []}
use Rattle.syntax_tree.specs.Plain.{Program}
use Rattle.source_semantics.specs.Config as source
use Rattle.source_semantics.specs.Starts.{NoneMissing, Script, due}
use Rattle.replay_state.specs.Tables.{Fits}
use Rattle.replay_state.specs.View.{config_of}
use Rattle.replay_state.specs.declared.config.Config.{Config}
use Rattle.replay_script.specs.Cursors.{IsWithin}
use Rattle.replay_script.specs.declared.cursor.ScriptCursor.{ScriptCursor}
use Rattle.replay_accept.specs.Running.{AreRules, program_of}
use Rattle.replay_accept.specs.declared.rules.Rules.{Rules}

-- the tables are those of the program, the configuration is one of it, and the script has not gone
-- beyond its tick
pub record Follows (r : Rules) (c : Config) (s : ScriptCursor) : Type 0 where
  pub rules : AreRules r
  pub fits : Fits (program_of r) (config_of c)
  pub tick : c.tick < 2 ^ 61
  pub script : IsWithin c.tick s
  pub end : s.script.now.end < 2 ^ 61

-- the first start event that is due before tick until and has not come is due at tick t
pub record IsNextTick (g : Program) (s : Script) (c : source.Config) (until t : ℕ) : Type 0 where
  pub reached : c.tick ≤ t
  pub before : t < until
  pub none_before : NoneMissing g s c t
  pub some : due g s c t ≡ [] → ⊥

-- no start event is missing before tick low, but one is before tick high
pub record IsBetween (g : Program) (s : Script) (c : source.Config) (until low high : ℕ) : Type 0 where
  pub reached : c.tick ≤ low
  pub within : high ≤ until
  pub free : NoneMissing g s c low
  pub missing : NoneMissing g s c high → ⊥
