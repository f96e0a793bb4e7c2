-- Events that are allowed in turn.
use Rattle.std.specs.Prelude.{◌≡◌, ◌+◌, ◌++◌, ℕ, Bool, true, false, List, [], ◌∷◌, Option, Some, None, IfNone, IfSome, length}
use Rattle.std.proofs.Common.{refl, ap, subst, sym, arith, append_assoc, length-append}
use Rattle.std.proofs.lemmas.List.{append-nil}
use Rattle.std.specs.Borrow.{Bor}
use Rattle.base.specs.declared.event.Event.{Event}
use Rattle.image.specs.declared.names.ImageNames.{ImageNames}
use Rattle.syntax_tree.specs.Plain.{Program}
use Rattle.event_log.specs.Logs.{IsLog}
use Rattle.event_log.specs.Reader.{HasRead, HasReadAll, names_of}
use Rattle.event_log.specs.declared.find.NameIndex.{NameIndex}
use Rattle.event_log.specs.declared.reader.LogReader.{LogReader}
use Rattle.source_semantics.specs.Config.{Config}
use Rattle.source_semantics.specs.Starts.{NoneMissing, Script}
use Rattle.source_semantics.specs.Source.{RunFrom, Step}
use Rattle.source_semantics.specs.Verdicts.{Allowed, Stops}
use Rattle.replay_due_events.specs.Accepts.{Accepts}
use Rattle.replay_reason_spec.specs.Findings.{Finds}
use Rattle.replay_reason_spec.specs.Reasons.{IsReason}
use Rattle.replay_reason_spec.specs.declared.finding.Finding.{Finding}
use Rattle.replay_reason_spec.specs.declared.finding.Finding.TheVariants as found
use Rattle.replay_reason_spec.specs.declared.reason.Reason.{Reason}
use Rattle.replay.specs.Judging.{IsFoundOf}

-- the events of the lines that were read are allowed, and lead from one configuration to the other
pub record HasLed (g : Program) (s : Script) (c : Config) (text : List ℕ) (r : LogReader) (d : Config) : Type 0 where
  pub events : List Event
  pub read : HasRead text events r
  pub allowed : Allowed g s c events d

-- one more event is allowed
pub allowed_more : (g : Program) (s : Script) (c : Config) (es : List Event) (d : Config) (e : Event) (new : Config) → Allowed g s c es d → Step g s d e new → Allowed g s c (es ++ e ∷ []) new
allowed_more g s c [] d e new same step = (new, subst (λ (y : Config). Step g s y e new) same step, refl)
allowed_more g s c (x ∷ xs) d e new before step = (before.0, before.1, allowed_more g s before.0 xs d e new before.2 step)

pub run_from : (g : Program) (s : Script) (c : Config) (es : List Event) (d : Config) → Allowed g s c es d → NoneMissing g s d s.end_tick → RunFrom g s c es
run_from g s c [] d same none = subst (λ (x : Config). NoneMissing g s x s.end_tick) same none
run_from g s c (x ∷ xs) d w none = (w.0, w.1, run_from g s w.0 xs d w.2 none)

-- an event that was accepted leads on
pub steps_here : (g : Program) (s : Script) (d : Config) (e : Event) (b : Bool) (new : Config) → Accepts g s d e b new → b ≡ true → Step g s d e new
steps_here g s d e true new step is = step
steps_here g s d e false new stays is = absurd cc

-- one that was not stops
pub stops_here : (g : Program) (s : Script) (d : Config) (e : Event) (b : Bool) (new : Config) → Accepts g s d e b new → b ≡ false → Stops g s d (e ∷ [])
stops_here g s d e true new step is = absurd cc
stops_here g s d e false new stays is = stays.0

-- and the configuration is the one before it
pub stays_here : (g : Program) (s : Script) (d : Config) (e : Event) (b : Bool) (new : Config) → Accepts g s d e b new → b ≡ false → new ≡ d
stays_here g s d e true new step is = absurd cc
stays_here g s d e false new stays is = stays.1

-- by equal tables, scripts and configurations
pub along : {A B C : Type 0} (P : A → B → C → Type 0) (a x : A) (b y : B) (c z : C) → a ≡ x → b ≡ y → c ≡ z → P a b c → P x y z
along {A = A} {B = B} {C = C} P a x b y c z one two three p = subst (λ (k : C). P x y k) three (subst (λ (k : B). P x k c) two (subst (λ (k : A). P k b c) one p))

-- ---- what is found

-- what holds of the event that there is, and where there is none
pub at_some : (next : Option Event) (e : Event) (P : Event → Type 0) → next ≡ Some e → IfSome next P → P e
at_some next e P is holds = subst (λ (o : Option Event). IfSome o P) is holds

pub at_none : (next : Option Event) (X : Type 0) → next ≡ None → IfNone next X → X
at_none next X is holds = subst (λ (o : Option Event). IfNone o X) is holds

pub same_names : (old new : LogReader) → new.index ≡ old.index → names_of new ≡ names_of old
same_names old new same = ap (λ (i : Bor NameIndex). i.now.names.now) same

-- the line that was read last is refused, and the others tell events
pub found_refused : (g : Program) (s : Script) (begun reached : Config) (old new : LogReader) (text : List ℕ) (before : List Event) (e : Event) (line : ℕ) (why : Reason)
    → HasReadAll text (before ++ e ∷ []) new → new.index ≡ old.index → line ≡ length (before ++ e ∷ []) → Allowed g s begun before reached → Stops g s reached (e ∷ []) → IsReason g s reached (e ∷ []) why
    → IsFoundOf g s begun (names_of old) text (found.Refused line why) new.lines
found_refused g s begun reached old new text before e line why all same at allowed stops reason =
    let later = all.later in
    let read = all.read in
    let more = length-append before (e ∷ []) in
    record {
      events = (before ++ e ∷ []) ++ later;
      log = subst (λ (n : ImageNames). IsLog n text ((before ++ e ∷ []) ++ later)) (same_names old new same) all.log;
      finds = record {
        earlier = before;
        later = e ∷ later;
        parts = append_assoc before (e ∷ []) later;
        line = omega (arith, at, more);
        reached = reached;
        allowed = allowed;
        stops = stops;
        reason = reason;
      };
      many = read.lines;
    }

-- all are allowed, and a start event is missing
pub found_missing : (g : Program) (s : Script) (begun reached : Config) (events : List Event) (count : ℕ) (why : Reason) → count ≡ length events → Allowed g s begun events reached → Stops g s reached []
    → IsReason g s reached [] why → Finds g s begun events (found.Refused (count + 1) why)
found_missing g s begun reached events count why many allowed stops reason = record {
  earlier = events;
  later = [];
  parts = sym (append-nil events);
  line = omega (arith, many);
  reached = reached;
  allowed = allowed;
  stops = stops;
  reason = reason;
}

-- behind the last line
pub found_at_end : (g : Program) (s : Script) (begun : Config) (names : ImageNames) (new : LogReader) (text : List ℕ) (events : List Event) (f : Finding) → HasRead text events new → IsLog names text events
    → Finds g s begun events f → IsFoundOf g s begun names text f new.lines
found_at_end g s begun names new text events f read log finds = record { events = events; log = log; finds = finds; many = read.lines }
