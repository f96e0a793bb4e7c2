-- The words of a line: the tick, the process, the verb and what stands behind it.
use Rattle.std.specs.Prelude.{◌≡◌, ◌≢◌, ◌++◌, ℕ, ℤ, Bool, List, ◌∷◌, Option, Some, None, codes, decimal}
use Rattle.std.specs.Fmt.{signed_decimal}
use Rattle.base.specs.declared.event.Event.{Event}
use Rattle.base.specs.declared.event.Act.{Act}
use Rattle.base.specs.declared.event.Act.TheVariants as act
use Rattle.image.specs.declared.names.ImageNames.{ImageNames}
use Rattle.event_log.specs.InRange.{ActIsIn}
use Rattle.event_log.specs.Line.{condition_name, device_name, monitor_name, process_name, truth_text, woken_name}
use Rattle.event_log.specs.declared.verb.Verb.{Verb}
use Rattle.event_log.specs.declared.verb.Verb.TheVariants as verb
use Rattle.event_log.specs.Logs.{ActFits}

abbrev pub verb_text : Verb → List ℕ
verb_text verb.Release = codes "release"
verb_text verb.TimeOut = codes "timeout"
verb_text verb.Get = codes "get"
verb_text verb.Put = codes "put"
verb_text verb.Enter = codes "enter"
verb_text verb.Leave = codes "leave"
verb_text verb.Wait = codes "wait"
verb_text verb.Signal = codes "signal"
verb_text verb.Broadcast = codes "broadcast"
verb_text verb.Empty = codes "empty"
verb_text verb.Raise = codes "raise"
verb_text verb.End = codes "end"

abbrev pub verb_of : Act → Verb
verb_of act.Release = verb.Release
verb_of (act.TimeOut c number) = verb.TimeOut
verb_of (act.Get d value) = verb.Get
verb_of (act.Put d value) = verb.Put
verb_of (act.Enter m) = verb.Enter
verb_of (act.Leave m) = verb.Leave
verb_of (act.Wait c) = verb.Wait
verb_of (act.Signal c woken) = verb.Signal
verb_of (act.Broadcast c count) = verb.Broadcast
verb_of (act.Empty c answer) = verb.Empty
verb_of (act.Raise number) = verb.Raise
verb_of act.End = verb.End

-- what stands behind the verb, if anything
abbrev pub args_text : ImageNames → Act → Option (List ℕ)
args_text names act.Release = None
args_text names (act.TimeOut c number) = Some (condition_name names c ++ 32 ∷ decimal number)
args_text names (act.Get d value) = Some (device_name names d ++ 32 ∷ signed_decimal value)
args_text names (act.Put d value) = Some (device_name names d ++ 32 ∷ signed_decimal value)
args_text names (act.Enter m) = Some (monitor_name names m)
args_text names (act.Leave m) = Some (monitor_name names m)
args_text names (act.Wait c) = Some (condition_name names c)
args_text names (act.Signal c woken) = Some (condition_name names c ++ 32 ∷ woken_name names woken)
args_text names (act.Broadcast c count) = Some (condition_name names c ++ 32 ∷ decimal count)
args_text names (act.Empty c answer) = Some (condition_name names c ++ 32 ∷ truth_text answer)
args_text names (act.Raise number) = Some (decimal number)
args_text names act.End = None

abbrev pub spoken : List ℕ → Option (List ℕ) → List ℕ
spoken word None = word
spoken word (Some rest) = word ++ 32 ∷ rest

-- the words behind the process
abbrev pub act_words : ImageNames → Act → List ℕ
act_words names a = spoken (verb_text (verb_of a)) (args_text names a)

-- the line without its LF
abbrev pub spelled : ImageNames → Event → List ℕ
spelled names e = decimal e.tick ++ 32 ∷ (process_name names e.proc ++ 32 ∷ act_words names e.act)

-- an act whose numbers are in range of the names
abbrev pub ActIsTold : ImageNames → Act → Type 0
ActIsTold names a = ActIsIn names a × ActFits a

-- it holds of each act with this verb
abbrev pub ByVerb : (Act → Type 0) → Verb → Type 0
ByVerb P verb.Release = P act.Release
ByVerb P verb.TimeOut = (c number : ℕ) → P (act.TimeOut c number)
ByVerb P verb.Get = (d : ℕ) (value : ℤ) → P (act.Get d value)
ByVerb P verb.Put = (d : ℕ) (value : ℤ) → P (act.Put d value)
ByVerb P verb.Enter = (m : ℕ) → P (act.Enter m)
ByVerb P verb.Leave = (m : ℕ) → P (act.Leave m)
ByVerb P verb.Wait = (c : ℕ) → P (act.Wait c)
ByVerb P verb.Signal = (c : ℕ) (woken : Option ℕ) → P (act.Signal c woken)
ByVerb P verb.Broadcast = (c count : ℕ) → P (act.Broadcast c count)
ByVerb P verb.Empty = (c : ℕ) (answer : Bool) → P (act.Empty c answer)
ByVerb P verb.Raise = (number : ℕ) → P (act.Raise number)
ByVerb P verb.End = P act.End

-- this act has this verb, and this behind it
pub record IsSaid (names : ImageNames) (v : Verb) (rest : Option (List ℕ)) (a : Act) : Type 0 where
  pub same : verb_of a ≡ v
  pub told : ActIsTold names a
  pub text : args_text names a ≡ rest

-- no act with this verb has this behind it
abbrev pub IsUnsaid : ImageNames → Verb → Option (List ℕ) → Type 0
IsUnsaid names v rest = ByVerb (λ a. ActIsTold names a → rest ≢ args_text names a) v
