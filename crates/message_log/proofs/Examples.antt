-- Messages, worked out: for lines that are the text of no event, and for a log that is of no run.
use Rattle.std.proofs.Common.{refl}
use Rattle.std.specs.Prelude.{◌≡◌, ℕ, List, [], ◌∷◌, Some, pos, true, codes}
use Rattle.std.specs.Fmt.{digits}
use Rattle.image.specs.declared.names.ImageNames.{ImageNames}
use Rattle.event_log.specs.declared.fault.LogFault.TheVariants.{Line}
use Rattle.message_text.specs.Nearest.{distance, one_more}
use Rattle.message_text.specs.Shown.{show}
use Rattle.base.specs.declared.event.Event.{Event}
use Rattle.base.specs.declared.event.Act.TheVariants as act
use Rattle.replay_reason_spec.specs.declared.event.SourceAct.TheVariants as does
use Rattle.replay_reason_spec.specs.declared.reason.Reason.TheVariants as reason
use Rattle.message_log.specs.Refused.{list, refused_message}
use Rattle.message_log.specs.Log.{event_told, forms, is_tick, log_message, process_reason, unknown}

-- the names of a program with one process
abbrev with_process : List ℕ → ImageNames
with_process name = record { processes = name ∷ []; monitors = []; conditions = []; devices = []; events = [] }

-- a name of one byte is near no other
pub no_process : log_message (codes "L") (codes "0 q release\n") (with_process (codes "p")) (Line 1)
    ≡ codes "L:1:1: L1: this line is the text of no event of the program\n      1 | 0 q release\n        = `q` is no process\n"
unfolding log_message is_tick process_reason unknown show distance one_more digits
no_process = refl

-- a misspelled process
pub near_process : log_message (codes "L") (codes "0 pump release\n7 pomp end\n") (with_process (codes "Pump")) (Line 2)
    ≡ codes "L:2:1: L1: this line is the text of no event of the program\n      2 | 7 pomp end\n        = `pomp` is no process; the nearest is `Pump`\n"
unfolding log_message is_tick process_reason unknown show distance one_more digits
near_process = refl

-- a misspelled event
pub near_event : log_message (codes "L") (codes "0 p relase\n") (with_process (codes "p")) (Line 1)
    ≡ codes "L:1:1: L1: this line is the text of no event of the program\n      1 | 0 p relase\n        = `relase` is no event; the nearest is `release`\n"
unfolding log_message is_tick process_reason event_told forms unknown show distance one_more digits
near_event = refl

-- a device that the program does not have
pub other_device : log_message (codes "L") (codes "3 p put valve 7\n") (with_process (codes "p")) (Line 1)
    ≡ codes "L:1:1: L1: this line is the text of no event of the program\n      1 | 3 p put valve 7\n        = the form is `T P put D V`, with names of the program\n"
unfolding log_message is_tick process_reason event_told forms show digits
other_device = refl

-- the names of a program with one process and one device
abbrev with_device : (process device : List ℕ) → ImageNames
with_device process device = record { processes = process ∷ []; monitors = []; conditions = []; devices = record { name = device; out = true } ∷ []; events = [] }

-- another action than the next one
pub other_action : refused_message (codes "L") (codes "0 p release\n10 p put valve 8\n") 2 (with_device (codes "p") (codes "valve")) (reason.Other (Some (record { tick = 10; process = 0; act = does.Put 0 (pos 7) })))
    ≡ codes "L:2:1: L3: this event is not what the program does next\n      2 | 10 p put valve 8\n        = allowed in this tick is `10 p put valve 7`\n"
unfolding refused_message show digits
other_action = refl

-- two start events that are missing
abbrev release_at : ℕ → Event
release_at t = record { tick = t; proc = 0; act = act.Release }

pub two_missing : list (with_device (codes "p") (codes "valve")) (release_at 0 ∷ release_at 100 ∷ []) ≡ codes "        = due, and not come:\n          0 p release\n          100 p release\n"
unfolding digits
two_missing = refl
