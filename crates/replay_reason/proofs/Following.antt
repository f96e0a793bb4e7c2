-- What is kept where start events come.
use Rattle.std.specs.Prelude.{◌≡◌, ◌≤◌, ℕ, Bool, true, false}
use Rattle.std.proofs.Common.{sym, ap, inl, subst, arith}
use Rattle.base.specs.declared.event.Event.{Event}
use Rattle.source_semantics.specs.Config as source
use Rattle.source_semantics.specs.Source.{Step}
use Rattle.replay_state.specs.Tables.{Fits}
use Rattle.replay_state.specs.View.{config_of}
use Rattle.replay_state.specs.declared.config.Config.{Config}
use Rattle.replay_script.specs.Cursors.{script_in}
use Rattle.replay_script.specs.declared.cursor.ScriptCursor.{ScriptCursor}
use Rattle.replay_accept.proofs.Fitting.{FitsAt, step_fits}
use Rattle.replay_accept.specs.Judged.{Comes}
use Rattle.replay_accept.specs.Running.{program_of}
use Rattle.replay_accept.specs.declared.rules.Rules.{Rules}
use Rattle.replay_reason_spec.specs.Missing.{IsNextStart}
use Rattle.replay_reason.specs.Following.{Follows}

module _ (r : Rules) (c d : Config) (s : ScriptCursor) (f : Follows r c s) where
  followed : (until : ℕ) (e : Event) → until ≤ s.script.now.end → IsNextStart (program_of r) (script_in s) (config_of c) until e → Step (program_of r) (script_in s) (config_of c) e (config_of d) → Follows r d s
  followed until e end next step =
      let at_e : FitsAt (program_of r) e.tick (config_of d) = step_fits (program_of r) (script_in s) (config_of c) e (config_of d) step f.fits in
      record {
        rules = f.rules;
        fits = at_e.fits;
        tick = omega (arith, at_e.tick, next.before, end, f.end);
        script = record { cursor = f.script.cursor; reached = omega (arith, at_e.tick, next.reached, f.script.reached) };
        end = f.end;
      }

  stayed : config_of d ≡ config_of c → Follows r d s
  stayed same =
      let tick : d.tick ≡ c.tick = ap (λ (x : source.Config). x.tick) same in
      record {
        rules = f.rules;
        fits = subst (Fits (program_of r)) (sym same) f.fits;
        tick = omega (arith, tick, f.tick);
        script = record { cursor = f.script.cursor; reached = omega (arith, tick, f.script.reached) };
        end = f.end;
      }

  -- a start event that comes, or may not
  pub follows_on : (until : ℕ) (e : Event) (goes : Bool) → until ≤ s.script.now.end → IsNextStart (program_of r) (script_in s) (config_of c) until e → Comes (program_of r) (config_of c) e goes (config_of d) → Follows r d s
  follows_on until e true end next comes = followed until e end next (record {
    before_end = omega (arith, next.before, end);
    reached = next.reached;
    none_missing = next.none_before;
    comes = inl (record { later = next.later; first = next.first; may_start = comes.0; after = comes.1 });
  })
  follows_on until e false end next comes = stayed comes.1
