-- Numbers of names in maps.
use Rattle.std.specs.Prelude.{◌≡◌, ◌≢◌, ◌<◌, ℕ, List, [], length, Option, Some, None, slice_get, unwrap_or}
use Rattle.std.specs.Borrow.{Bor}
use Rattle.image.specs.NameMaps.{number_in}
use Rattle.image.specs.declared.names.ImageNames.{ImageNames}
use Rattle.event_log.specs.declared.find.NameIndex.{NameIndex}
use Rattle.event_log.specs.Line.{condition_name, device_name, monitor_name, process_name}

-- below the count it is the number of something of this name, or there is none
abbrev pub IsNumber : Option ℕ → ℕ → (ℕ → List ℕ) → List ℕ → Type 0
IsNumber None count name q = (k : ℕ) → k < count → name k ≢ q
IsNumber (Some k) count name q = (k < count) × (name k ≡ q)

abbrev pub AreNumbers : List (Bor (List ℕ) × ℕ) → ℕ → (ℕ → List ℕ) → Type 0
AreNumbers entries count name = (q : List ℕ) → IsNumber (number_in entries q) count name q

-- the maps have the numbers of the names
pub record AreFound (named : NameIndex) : Type 0 where
  pub processes_found : AreNumbers named.processes.entries (length named.names.now.processes) (process_name named.names.now)
  pub monitors_found : AreNumbers named.monitors.entries (length named.names.now.monitors) (monitor_name named.names.now)
  pub conditions_found : AreNumbers named.conditions.entries (length named.names.now.conditions) (condition_name named.names.now)
  pub devices_found : AreNumbers named.devices.entries (length named.names.now.devices) (device_name named.names.now)

-- the texts are the names of the conditions, each after its monitor's
pub record AreConditionNames (names : ImageNames) (texts : List (List ℕ)) : Type 0 where
  pub count : length texts ≡ length names.conditions
  pub each : (c : ℕ) → c < length names.conditions → unwrap_or (slice_get texts c) [] ≡ condition_name names c
