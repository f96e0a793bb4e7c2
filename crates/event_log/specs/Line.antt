-- The line of an event in a log: words with one space between them, and a line feed.
use Rattle.std.specs.Prelude.{◌++◌, ℕ, Bool, true, false, List, [], ◌∷◌, Option, Some, None, slice_get, option_map, unwrap_or, codes, decimal}
use Rattle.std.specs.Fmt.{signed_decimal}
use Rattle.base.specs.declared.event.Event.{Event}
use Rattle.base.specs.declared.event.Act.{Act}
use Rattle.base.specs.declared.event.Act.TheVariants as act
use Rattle.image.specs.declared.names.ConditionName.{ConditionName}
use Rattle.image.specs.declared.names.ImageNames.{ImageNames}

-- the name of a process, a monitor and a device by its number
abbrev pub process_name : ImageNames → ℕ → List ℕ
process_name names k = unwrap_or (slice_get names.processes k) []

abbrev pub monitor_name : ImageNames → ℕ → List ℕ
monitor_name names m = unwrap_or (slice_get names.monitors m) []

abbrev pub device_name : ImageNames → ℕ → List ℕ
device_name names d = unwrap_or (option_map (λ device. device.name) (slice_get names.devices d)) []

-- the name of a condition, after its monitor's
abbrev pub qualified : ImageNames → Option ConditionName → List ℕ
qualified names None = []
qualified names (Some condition) = monitor_name names condition.mon ++ (codes " " ++ condition.name)

abbrev pub condition_name : ImageNames → ℕ → List ℕ
condition_name names c = qualified names (slice_get names.conditions c)

-- the process that a signal takes out, or a dash
abbrev pub woken_name : ImageNames → Option ℕ → List ℕ
woken_name names None = codes "-"
woken_name names (Some k) = process_name names k

abbrev pub truth_text : Bool → List ℕ
truth_text true = codes "1"
truth_text false = codes "0"

-- what stands after the process's name
abbrev pub act_text : ImageNames → Act → List ℕ
act_text names act.Release = codes " release\n"
act_text names (act.TimeOut c number) = codes " timeout " ++ (condition_name names c ++ (codes " " ++ (decimal number ++ codes "\n")))
act_text names (act.Get d value) = codes " get " ++ (device_name names d ++ (codes " " ++ (signed_decimal value ++ codes "\n")))
act_text names (act.Put d value) = codes " put " ++ (device_name names d ++ (codes " " ++ (signed_decimal value ++ codes "\n")))
act_text names (act.Enter m) = codes " enter " ++ (monitor_name names m ++ codes "\n")
act_text names (act.Leave m) = codes " leave " ++ (monitor_name names m ++ codes "\n")
act_text names (act.Wait c) = codes " wait " ++ (condition_name names c ++ codes "\n")
act_text names (act.Signal c woken) = codes " signal " ++ (condition_name names c ++ (codes " " ++ (woken_name names woken ++ codes "\n")))
act_text names (act.Broadcast c count) = codes " broadcast " ++ (condition_name names c ++ (codes " " ++ (decimal count ++ codes "\n")))
act_text names (act.Empty c answer) = codes " empty " ++ (condition_name names c ++ (codes " " ++ (truth_text answer ++ codes "\n")))
act_text names (act.Raise number) = codes " raise " ++ (decimal number ++ codes "\n")
act_text names act.End = codes " end\n"

-- the tick, the process and its act
abbrev pub line_of : ImageNames → Event → List ℕ
line_of names e = decimal e.tick ++ (codes " " ++ (process_name names e.proc ++ act_text names e.act))

-- the lines of a log
unfoldable pub log_of : ImageNames → List Event → List ℕ
log_of names [] = []
log_of names (e ∷ es) = line_of names e ++ log_of names es
