-- The table of the commands, with the words that each takes, and the row of `make`.
use Rattle.std.specs.Prelude.{◌≡◌, ◌≤◌, ◌<◌, ◌^◌, ℕ, ◌+◌, All, IsTrue, Bool, false, not, ◌==◌, List, [], ◌∷◌, Option, Some, None, if◌then◌else◌, map, option_map, find, String, string_bytes, bytes_eq, codes, decimal, nat_lt}
use Rattle.std.specs.List.{range_with_len}
use Rattle.std.specs.Global.{Global}
use Rattle.command_words.specs.Calls.{Call, go, check, compile, json, slack, print, run, migrate, asm, dis, watch, replay, edf, why, fit, chart, table, Load, over_of}
use Rattle.command_words.specs.declared.words_command.Command.{Command}
use Rattle.command_words.specs.declared.words_command.Command.TheVariants as command
use Rattle.command_words.specs.declared.words_load.Load as made
use Rattle.command_words.specs.declared.request.Request.{Request}
use Rattle.command_words.specs.declared.request.Request.TheVariants as request
use Rattle.command_words.specs.declared.stop.Breakpoint.{Breakpoint}
use Rattle.command_words.specs.declared.stop.Breakpoint.TheVariants.{Tick, Effect}

-- not empty, and no dash at its front
abbrev pub is_word : List ℕ → Bool
is_word [] = false
is_word (first ∷ rest) = not (first == 45)

-- the number from 0 to this one whose decimal text the word is
unfoldable pub number_up_to : ℕ → List ℕ → Option ℕ
number_up_to most word = find (λ number. bytes_eq word (decimal number)) (range_with_len 0 (most + 1))

-- the overhead whose decimal text the word is: a number from 0 to 1000
abbrev pub overhead_of : List ℕ → Option ℕ
overhead_of word = number_up_to 1000 word

-- where the word says to stop: before a tick up to 1000000000, or, behind @, after the first effect
-- at an address up to 65534
abbrev pub stop_of : List ℕ → Option Breakpoint
stop_of [] = None
stop_of (first ∷ rest) =
    if first == 64 then option_map Effect (number_up_to 65534 rest)
    else option_map Tick (number_up_to 1000000000 (first ∷ rest))

-- the overhead that the last words of a row give: 0 where there are none
abbrev pub last_overhead : List (List ℕ) → Option ℕ
last_overhead [] = Some 0
last_overhead (word ∷ []) = overhead_of word
last_overhead words = None

-- the rows of the table, by what stands behind the word of the command
abbrev pub go_row : List (List ℕ) → Option Call
go_row (program ∷ image ∷ script ∷ rest) = option_map (go program image script) (last_overhead rest)
go_row words = None

abbrev pub check_row : List (List ℕ) → Option Call
check_row (program ∷ rest) = option_map (check program) (last_overhead rest)
check_row words = None

abbrev pub compile_row : List (List ℕ) → Option Call
compile_row (program ∷ image ∷ rest) = option_map (compile program image) (last_overhead rest)
compile_row words = None

abbrev pub json_row : List (List ℕ) → Option Call
json_row (program ∷ rest) = option_map (json program) (last_overhead rest)
json_row words = None

abbrev pub slack_row : List (List ℕ) → Option Call
slack_row (program ∷ rest) = option_map (slack program) (last_overhead rest)
slack_row words = None

abbrev pub print_row : List (List ℕ) → Option Call
print_row (program ∷ []) = Some (print program)
print_row words = None

abbrev pub run_row : List (List ℕ) → Option Call
run_row (image ∷ script ∷ []) = Some (run image script)
run_row words = None

abbrev pub migrate_row : List (List ℕ) → Option Call
migrate_row (image ∷ target ∷ []) = Some (migrate image target)
migrate_row words = None

abbrev pub asm_row : List (List ℕ) → Option Call
asm_row (text ∷ image ∷ []) = Some (asm text image)
asm_row words = None

abbrev pub dis_row : List (List ℕ) → Option Call
dis_row (image ∷ text ∷ []) = Some (dis image text)
dis_row words = None

abbrev pub watch_row : List (List ℕ) → Option Call
watch_row (image ∷ script ∷ stop ∷ []) = option_map (watch image script) (stop_of stop)
watch_row words = None

abbrev pub replay_row : List (List ℕ) → Option Call
replay_row (program ∷ script ∷ log ∷ []) = Some (replay program script log)
replay_row words = None

abbrev pub edf_row : List (List ℕ) → Option Call
edf_row (program ∷ script ∷ []) = Some (edf program script)
edf_row words = None

abbrev pub why_row : List (List ℕ) → Option Call
why_row (program ∷ rest) = option_map (why program) (last_overhead rest)
why_row words = None

abbrev pub fit_row : List (List ℕ) → Option Call
fit_row (program ∷ rest) = option_map (fit program) (last_overhead rest)
fit_row words = None

-- a chart of the ticks from the first one on, below the end
abbrev pub chart_of : (image script : List ℕ) (first end : Option ℕ) → Option Call
chart_of image script (Some first) (Some end) = if nat_lt first end then Some (chart image script first end) else None
chart_of image script first end = None

abbrev pub chart_row : List (List ℕ) → Option Call
chart_row (image ∷ script ∷ first ∷ end ∷ []) = chart_of image script (number_up_to 999999999 first) (number_up_to 1000000000 end)
chart_row words = None

abbrev pub table_row : List (List ℕ) → Option Call
table_row (tasks ∷ program ∷ []) = Some (table tasks program)
table_row words = None

-- the commands on an image, its text or a task table: the word of each, and its row
abbrev pub image_row_of : (word : List ℕ) (words : List (List ℕ)) → Option Call
image_row_of word words =
    if bytes_eq word (codes "run") then run_row words else
    (if bytes_eq word (codes "watch") then watch_row words else
    (if bytes_eq word (codes "chart") then chart_row words else
    (if bytes_eq word (codes "migrate") then migrate_row words else
    (if bytes_eq word (codes "dis") then dis_row words else
    (if bytes_eq word (codes "asm") then asm_row words else
    (if bytes_eq word (codes "table") then table_row words else None))))))

-- the commands on a program that take no overhead, then those
abbrev pub plain_row_of : (word : List ℕ) (words : List (List ℕ)) → Option Call
plain_row_of word words =
    if bytes_eq word (codes "print") then print_row words else
    (if bytes_eq word (codes "replay") then replay_row words else
    (if bytes_eq word (codes "edf") then edf_row words else image_row_of word words))

-- the table: first the commands on a program with an overhead, then the others
abbrev pub row_of : List (List ℕ) → Option Call
row_of [] = None
row_of (word ∷ words) =
    if bytes_eq word (codes "go") then go_row words else
    (if bytes_eq word (codes "check") then check_row words else
    (if bytes_eq word (codes "compile") then compile_row words else
    (if bytes_eq word (codes "json") then json_row words else
    (if bytes_eq word (codes "slack") then slack_row words else
    (if bytes_eq word (codes "why") then why_row words else
    (if bytes_eq word (codes "fit") then fit_row words else plain_row_of word words))))))

abbrev pub IsWord : String Global → Type 0
IsWord word = IsTrue (is_word (string_bytes word))

-- the words are in the row of the command, and none is empty or begins with a dash
pub record IsCommand (words : List (String Global)) (c : Call) : Type 0 where
  pub each : All IsWord words
  pub row : row_of (map string_bytes words) ≡ Some c

-- what a command asks for
abbrev pub call_of : Command → Call
call_of (command.Go program image script overhead) = go program.now image.now script.now overhead
call_of (command.Check program overhead) = check program.now overhead
call_of (command.Compile program image overhead) = compile program.now image.now overhead
call_of (command.Json program overhead) = json program.now overhead
call_of (command.Slack program overhead) = slack program.now overhead
call_of (command.Print program) = print program.now
call_of (command.Run image script) = run image.now script.now
call_of (command.Migrate image target) = migrate image.now target.now
call_of (command.Asm text image) = asm text.now image.now
call_of (command.Dis image text) = dis image.now text.now
call_of (command.Watch image script stop) = watch image.now script.now stop
call_of (command.Replay program script log) = replay program.now script.now log.now
call_of (command.Edf program script) = edf program.now script.now
call_of (command.Why program overhead) = why program.now overhead
call_of (command.Fit program overhead) = fit program.now overhead
call_of (command.Chart image script first end) = chart image.now script.now first end
call_of (command.Table tasks program) = table tasks.now program.now

-- the words are the row of `make`, with a key of 64 bits and 1 to 64 processes, in decimal and
-- without leading zeros, and none is empty or begins with a dash
pub record IsMake (words : List (String Global)) (l : Load) : Type 0 where
  pub each : All IsWord words
  pub row : map string_bytes words ≡ codes "make" ∷ decimal l.key ∷ decimal l.count ∷ l.program ∷ l.script ∷ []
  pub key : l.key < 2 ^ 64
  pub some : 1 ≤ l.count
  pub few : l.count ≤ 64

-- the load that is asked for
abbrev pub load_of : made.Load → Load
load_of l = record { key = l.key; count = l.count; program = l.program.now; script = l.script.now }

-- what the words ask for: a command, with an overhead of at most 1,000 ticks, or a load
abbrev pub IsRequest : List (String Global) → Request → Type 0
IsRequest words (request.Command c) = IsCommand words (call_of c) × (over_of (call_of c) ≤ 1000)
IsRequest words (request.Load l) = IsMake words (load_of l)
