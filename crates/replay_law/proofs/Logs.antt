-- A text that is a log has no fault, and another has one fault.
use Rattle.std.proofs.Common.{◌≡◌, ◌≢◌, ◌<◌, ◌+◌, ◌++◌, ◌∙◌, ℕ, suc, List, [], ◌∷◌, length, arith, refl, ap, sym, append_assoc}
use Rattle.std.specs.Prelude.{All}
use Rattle.std.proofs.lemmas.List.{append-nil}
use Rattle.std.proofs.lemmas.List.Elements.{All-head, All-tail}
use Rattle.base.specs.declared.event.Event.{Event}
use Rattle.text_fields.proofs.Cuts.{cut_lacks, cut_once}
use Rattle.image.specs.declared.names.ImageNames.{ImageNames}
use Rattle.event_log.specs.Line.{line_of, log_of}
use Rattle.event_log.specs.declared.fault.LogFault.{LogFault}
use Rattle.event_log.specs.declared.fault.LogFault.TheVariants.{Line, Long, Memory}
use Rattle.event_log.specs.Logs.{AreWordNames, IsFault, IsLog, IsTold}
use Rattle.event_log.specs.Parts.{spelled}
use Rattle.event_log.proofs.Reading.{line_then, spelled_feed}

module _ (names : ImageNames) (words : AreWordNames names) where
  -- no event begins the bytes
  abbrev Unread : List ℕ → Type 0
  Unread rest = (event : Event) (after : List ℕ) → IsTold names event → rest ≢ line_of names event ++ after

  -- the lines of events behind one, and then the rest
  log_then : (e : Event) (es : List Event) (rest : List ℕ) → log_of names (e ∷ es) ++ rest ≡ spelled names e ++ 10 ∷ (log_of names es ++ rest)
  unfolding log_of
  log_then e es rest = append_assoc (line_of names e) (log_of names es) rest ∙ line_then names e (log_of names es ++ rest)

  -- the bytes begin with the line of the first event
  begins : (e : Event) (es : List Event) (rest : List ℕ) → log_of names (e ∷ es) ++ rest ≡ line_of names e ++ (log_of names es ++ rest)
  unfolding log_of
  begins e es rest = append_assoc (line_of names e) (log_of names es) rest

  -- without the first line on both sides
  behind : (e f : Event) (es fs : List Event) (rest other : List ℕ) → IsTold names e → IsTold names f → log_of names (e ∷ es) ++ rest ≡ log_of names (f ∷ fs) ++ other → log_of names es ++ rest ≡ log_of names fs ++ other
  behind e f es fs rest other told also same =
      (cut_once 10 (spelled names e) (log_of names es ++ rest) (spelled names f) (log_of names fs ++ other) (spelled_feed names e words told) (spelled_feed names f words also)
      (sym (log_then e es rest) ∙ (same ∙ log_then f fs other))).1

  -- as many events stand before what tells none
  as_many : (es fs : List Event) (rest other : List ℕ) → All (IsTold names) es → All (IsTold names) fs → Unread rest → Unread other → log_of names es ++ rest ≡ log_of names fs ++ other → length es ≡ length fs
  unfolding log_of
  as_many [] [] rest other told also none never same = refl
  as_many [] (f ∷ fs) rest other told also none never same = absurd (none f (log_of names fs ++ other) (All-head (IsTold names) f fs also) (same ∙ begins f fs other))
  as_many (e ∷ es) [] rest other told also none never same = absurd (never e (log_of names es ++ rest) (All-head (IsTold names) e es told) (sym same ∙ begins e es rest))
  as_many (e ∷ es) (f ∷ fs) rest other told also none never same =
      ap (λ n. suc n)
      (as_many es fs rest other (All-tail (IsTold names) e es told) (All-tail (IsTold names) f fs also) none never
      (behind e f es fs rest other (All-head (IsTold names) e es told) (All-head (IsTold names) f fs also) same))

  -- nothing stands behind the lines of events where all is told
  none_behind : (es fs : List Event) (rest : List ℕ) → All (IsTold names) es → All (IsTold names) fs → Unread rest → 0 < length rest → log_of names es ++ rest ≡ log_of names fs ++ [] → ⊥
  unfolding log_of
  none_behind [] [] [] told also none some same = omega (arith, some)
  none_behind [] [] (b ∷ rest) told also none some same = cc
  none_behind [] (f ∷ fs) rest told also none some same = none f (log_of names fs ++ []) (All-head (IsTold names) f fs also) (same ∙ begins f fs [])
  none_behind (e ∷ es) [] rest told also none some same = cut_lacks 10 [] (spelled names e) (log_of names es ++ rest) tt (sym same ∙ log_then e es rest)
  none_behind (e ∷ es) (f ∷ fs) rest told also none some same =
      none_behind es fs rest (All-tail (IsTold names) e es told) (All-tail (IsTold names) f fs also) none some
      (behind e f es fs rest [] (All-head (IsTold names) e es told) (All-head (IsTold names) f fs also) same)

  pub log_or_fault : (text : List ℕ) (events : List Event) (fault : LogFault) → IsLog names text events → IsFault names text fault → ⊥
  log_or_fault text events Long log long = let short = log.short in omega (arith, short, long)
  log_or_fault text events (Line line) log faulty =
      none_behind faulty.events events faulty.rest faulty.told log.told faulty.none faulty.some (sym faulty.whole ∙ (log.whole ∙ sym (append-nil (log_of names events))))
  log_or_fault text events (Memory _) log never = never

  pub fault_once : (text : List ℕ) (fault other : LogFault) → IsFault names text fault → IsFault names text other → fault ≡ other
  fault_once text Long Long one two = refl
  fault_once text Long (Line m) one two = let short = two.short in absurd (omega (arith, short, one))
  fault_once text (Line n) Long one two = let short = one.short in absurd (omega (arith, short, two))
  fault_once text (Line n) (Line m) one two =
      let many : length one.events ≡ length two.events = as_many one.events two.events one.rest two.rest one.told two.told one.none two.none (sym one.whole ∙ two.whole) in
      ap (λ (k : ℕ). Line k) (one.is ∙ (ap (λ k. k + 1) many ∙ sym two.is))
  fault_once text (Memory _) other one two = absurd one
  fault_once text Long (Memory _) one two = absurd two
  fault_once text (Line n) (Memory _) one two = absurd two
