-- The events of a run, cut at a tick.
use Rattle.std.proofs.Common.{◌≡◌, ◌≤◌, ◌-◌, ◌++◌, ℕ, List, [], arith, ap, sym, subst, ◌∙◌}
use Rattle.std.specs.Prelude.{All}
use Rattle.base.proofs.Lists.{all_front, all_back}
use Rattle.base.specs.declared.event.Event.{Event}
use Rattle.image.specs.declared.names.ImageNames.{ImageNames}
use Rattle.event_log.specs.InRange.{AreIn}
use Rattle.event_log.specs.Line.{log_of}
use Rattle.vm_runner.specs.Course.{Course, events_between}
use Rattle.vm_runner.proofs.Cut.{Cuts, HasNone, cut_at}
use Rattle.vm_run.specs.Coming.{coming, log_to_come}
use Rattle.vm_run.proofs.Lines.{log_of-append, log_of-nil}

module _ (c : Course) where
  -- what is to come from a tick, up to a later one and from that on
  pub coming_is : Cuts c → (t u : ℕ) → t ≤ u → u ≤ c.script.end_tick → coming c t ≡ events_between c t u ++ coming c u
  coming_is cuts t u later within = cut_at c cuts t u c.script.end_tick later within

  pub none_coming : HasNone c → (t : ℕ) → c.script.end_tick ≤ t → coming c t ≡ []
  none_coming none_in t over = let none : c.script.end_tick - t ≡ 0 = omega (arith, over) in ap (λ (k : ℕ). c.events k t) none ∙ none_in t

-- ---- the log

module _ (c : Course) (cuts : Cuts c) (names : ImageNames) where
  pub lines_now : (t u : ℕ) → t ≤ u → u ≤ c.script.end_tick → All (AreIn names) (coming c t) → All (AreIn names) (events_between c t u)
  lines_now t u later within all = all_front (AreIn names) (events_between c t u) (coming c u) (subst (λ (es : List Event). All (AreIn names) es) (coming_is c cuts t u later within) all)

  pub lines_later : (t u : ℕ) → t ≤ u → u ≤ c.script.end_tick → All (AreIn names) (coming c t) → All (AreIn names) (coming c u)
  lines_later t u later within all = all_back (AreIn names) (events_between c t u) (coming c u) (subst (λ (es : List Event). All (AreIn names) es) (coming_is c cuts t u later within) all)

  pub log_is : (t u : ℕ) → t ≤ u → u ≤ c.script.end_tick → log_to_come c names t ≡ log_of names (events_between c t u) ++ log_to_come c names u
  log_is t u later within = ap (λ (es : List Event). log_of names es) (coming_is c cuts t u later within) ∙ log_of-append names (events_between c t u) (coming c u)

  pub log_ends : HasNone c → (t : ℕ) → c.script.end_tick ≤ t → log_to_come c names t ≡ []
  log_ends none_in t over = ap (λ (es : List Event). log_of names es) (none_coming c none_in t over) ∙ log_of-nil names

  -- the log so far, then that of a turn and of the rest
  pub split : (first t u : ℕ) (before : List ℕ) (events : List Event) → t ≤ u → u ≤ c.script.end_tick → events ≡ events_between c t u → log_to_come c names first ≡ before ++ log_to_come c names t
      → log_to_come c names first ≡ before ++ (log_of names events ++ log_to_come c names u)
  split first t u before events later within told so_far =
      so_far ∙ ap (λ (bytes : List ℕ). before ++ bytes) (log_is t u later within ∙ ap (λ (es : List Event). log_of names es ++ log_to_come c names u) (sym told))
