-- The overhead of a command is at most 1,000 ticks.
use Rattle.std.proofs.Common.{◌≡◌, ◌≤◌, ℕ, Bool, true, false, List, [], ◌∷◌, Option, Some, None, bytes_eq, codes, arith, refl, subst, nat_lt}
use Rattle.std.specs.Prelude.{String, if◌then◌else◌, map, option_map, string_bytes}
use Rattle.std.specs.Global.{Global}
use Rattle.command_words.specs.declared.stop.Breakpoint.{Breakpoint}
use Rattle.command_words.specs.Calls.{Call, asm, chart, check, compile, dis, edf, fit, go, json, migrate, over_of, print, replay, run, slack, table, watch, why}
use Rattle.command_words.specs.Words.{IsCommand, asm_row, chart_of, chart_row, check_row, compile_row, dis_row, edf_row, fit_row, go_row, image_row_of, json_row, last_overhead, migrate_row, number_up_to, plain_row_of, print_row, replay_row, row_of, run_row, slack_row, stop_of, table_row, watch_row, why_row}
use Rattle.command_words.specs.WordsLaws.{OverheadsAreDecimal}

same_call : (c d : Call) → Some c ≡ Some d → over_of c ≤ 1000 → over_of d ≤ 1000
same_call c d is low = let same : c ≡ d = cc in subst (λ (x : Call). over_of x ≤ 1000) same low

with_over : (make : ℕ → Call) → ((n : ℕ) → over_of (make n) ≡ n) → (o : Option ℕ) → ((n : ℕ) → o ≡ Some n → n ≤ 1000) → (call : Call) → option_map make o ≡ Some call → over_of call ≤ 1000
with_over make own None low call is = absurd cc
with_over make own (Some n) low call is = let most = low n refl in let same = own n in same_call (make n) call is (omega (arith, same, most))

-- one of two rows
either_row : (b : Bool) (x y : Option Call) (call : Call) → (x ≡ Some call → over_of call ≤ 1000) → (y ≡ Some call → over_of call ≤ 1000) → (if b then x else y) ≡ Some call → over_of call ≤ 1000
either_row true x y call first second is = first is
either_row false x y call first second is = second is

module _ (law : OverheadsAreDecimal) where
  last_low : (words : List (List ℕ)) (n : ℕ) → last_overhead words ≡ Some n → n ≤ 1000
  last_low [] n is = let none : 0 ≡ n = cc in omega (arith, none)
  last_low (word ∷ []) n is = ((law word n).0 is).0
  last_low (word ∷ other ∷ words) n is = absurd cc

  go_low : (words : List (List ℕ)) (call : Call) → go_row words ≡ Some call → over_of call ≤ 1000
  go_low [] call is = absurd cc
  go_low (a ∷ []) call is = absurd cc
  go_low (a ∷ b ∷ []) call is = absurd cc
  go_low (a ∷ b ∷ c ∷ rest) call is = with_over (go a b c) (λ n. refl) (last_overhead rest) (last_low rest) call is

  compile_low : (words : List (List ℕ)) (call : Call) → compile_row words ≡ Some call → over_of call ≤ 1000
  compile_low [] call is = absurd cc
  compile_low (a ∷ []) call is = absurd cc
  compile_low (a ∷ b ∷ rest) call is = with_over (compile a b) (λ n. refl) (last_overhead rest) (last_low rest) call is

  check_low : (words : List (List ℕ)) (call : Call) → check_row words ≡ Some call → over_of call ≤ 1000
  check_low [] call is = absurd cc
  check_low (a ∷ rest) call is = with_over (check a) (λ n. refl) (last_overhead rest) (last_low rest) call is

  json_low : (words : List (List ℕ)) (call : Call) → json_row words ≡ Some call → over_of call ≤ 1000
  json_low [] call is = absurd cc
  json_low (a ∷ rest) call is = with_over (json a) (λ n. refl) (last_overhead rest) (last_low rest) call is

  slack_low : (words : List (List ℕ)) (call : Call) → slack_row words ≡ Some call → over_of call ≤ 1000
  slack_low [] call is = absurd cc
  slack_low (a ∷ rest) call is = with_over (slack a) (λ n. refl) (last_overhead rest) (last_low rest) call is

  why_low : (words : List (List ℕ)) (call : Call) → why_row words ≡ Some call → over_of call ≤ 1000
  why_low [] call is = absurd cc
  why_low (a ∷ rest) call is = with_over (why a) (λ n. refl) (last_overhead rest) (last_low rest) call is

  fit_low : (words : List (List ℕ)) (call : Call) → fit_row words ≡ Some call → over_of call ≤ 1000
  fit_low [] call is = absurd cc
  fit_low (a ∷ rest) call is = with_over (fit a) (λ n. refl) (last_overhead rest) (last_low rest) call is

print_low : (words : List (List ℕ)) (call : Call) → print_row words ≡ Some call → over_of call ≤ 1000
print_low [] call is = absurd cc
print_low (a ∷ []) call is = same_call (print a) call is (omega arith)
print_low (a ∷ b ∷ rest) call is = absurd cc

run_low : (words : List (List ℕ)) (call : Call) → run_row words ≡ Some call → over_of call ≤ 1000
run_low [] call is = absurd cc
run_low (a ∷ []) call is = absurd cc
run_low (a ∷ b ∷ []) call is = same_call (run a b) call is (omega arith)
run_low (a ∷ b ∷ c ∷ rest) call is = absurd cc

migrate_low : (words : List (List ℕ)) (call : Call) → migrate_row words ≡ Some call → over_of call ≤ 1000
migrate_low [] call is = absurd cc
migrate_low (a ∷ []) call is = absurd cc
migrate_low (a ∷ b ∷ []) call is = same_call (migrate a b) call is (omega arith)
migrate_low (a ∷ b ∷ c ∷ rest) call is = absurd cc

asm_low : (words : List (List ℕ)) (call : Call) → asm_row words ≡ Some call → over_of call ≤ 1000
asm_low [] call is = absurd cc
asm_low (a ∷ []) call is = absurd cc
asm_low (a ∷ b ∷ []) call is = same_call (asm a b) call is (omega arith)
asm_low (a ∷ b ∷ c ∷ rest) call is = absurd cc

dis_low : (words : List (List ℕ)) (call : Call) → dis_row words ≡ Some call → over_of call ≤ 1000
dis_low [] call is = absurd cc
dis_low (a ∷ []) call is = absurd cc
dis_low (a ∷ b ∷ []) call is = same_call (dis a b) call is (omega arith)
dis_low (a ∷ b ∷ c ∷ rest) call is = absurd cc

edf_low : (words : List (List ℕ)) (call : Call) → edf_row words ≡ Some call → over_of call ≤ 1000
edf_low [] call is = absurd cc
edf_low (a ∷ []) call is = absurd cc
edf_low (a ∷ b ∷ []) call is = same_call (edf a b) call is (omega arith)
edf_low (a ∷ b ∷ c ∷ rest) call is = absurd cc

replay_low : (words : List (List ℕ)) (call : Call) → replay_row words ≡ Some call → over_of call ≤ 1000
replay_low [] call is = absurd cc
replay_low (a ∷ []) call is = absurd cc
replay_low (a ∷ b ∷ []) call is = absurd cc
replay_low (a ∷ b ∷ c ∷ []) call is = same_call (replay a b c) call is (omega arith)
replay_low (a ∷ b ∷ c ∷ d ∷ rest) call is = absurd cc

stopped_low : (a b : List ℕ) (o : Option Breakpoint) (call : Call) → option_map (watch a b) o ≡ Some call → over_of call ≤ 1000
stopped_low a b None call is = absurd cc
stopped_low a b (Some stop) call is = same_call (watch a b stop) call is (omega arith)

watch_low : (words : List (List ℕ)) (call : Call) → watch_row words ≡ Some call → over_of call ≤ 1000
watch_low [] call is = absurd cc
watch_low (a ∷ []) call is = absurd cc
watch_low (a ∷ b ∷ []) call is = absurd cc
watch_low (a ∷ b ∷ c ∷ []) call is = stopped_low a b (stop_of c) call is
watch_low (a ∷ b ∷ c ∷ d ∷ rest) call is = absurd cc

no_call : (call : Call) → None ≡ Some call → over_of call ≤ 1000
no_call call is = absurd cc

charted_low : (a b : List ℕ) (first end : Option ℕ) (call : Call) → chart_of a b first end ≡ Some call → over_of call ≤ 1000
charted_low a b None end call is = absurd cc
charted_low a b (Some n) None call is = absurd cc
charted_low a b (Some n) (Some m) call is = either_row (nat_lt n m) (Some (chart a b n m)) None call (λ some. same_call (chart a b n m) call some (omega arith)) (no_call call) is

chart_low : (words : List (List ℕ)) (call : Call) → chart_row words ≡ Some call → over_of call ≤ 1000
chart_low [] call is = absurd cc
chart_low (a ∷ []) call is = absurd cc
chart_low (a ∷ b ∷ []) call is = absurd cc
chart_low (a ∷ b ∷ c ∷ []) call is = absurd cc
chart_low (a ∷ b ∷ c ∷ d ∷ []) call is = charted_low a b (number_up_to 999999999 c) (number_up_to 1000000000 d) call is
chart_low (a ∷ b ∷ c ∷ d ∷ e ∷ rest) call is = absurd cc

table_low : (words : List (List ℕ)) (call : Call) → table_row words ≡ Some call → over_of call ≤ 1000
table_low [] call is = absurd cc
table_low (a ∷ []) call is = absurd cc
table_low (a ∷ b ∷ []) call is = same_call (table a b) call is (omega arith)
table_low (a ∷ b ∷ c ∷ rest) call is = absurd cc

image_row_low : (word : List ℕ) (words : List (List ℕ)) (call : Call) → image_row_of word words ≡ Some call → over_of call ≤ 1000
image_row_low word words call is =
    either_row (bytes_eq word (codes "run")) (run_row words) _ call (run_low words call) (λ r0.
    either_row (bytes_eq word (codes "watch")) (watch_row words) _ call (watch_low words call) (λ r1.
    either_row (bytes_eq word (codes "chart")) (chart_row words) _ call (chart_low words call) (λ r2.
    either_row (bytes_eq word (codes "migrate")) (migrate_row words) _ call (migrate_low words call) (λ r3.
    either_row (bytes_eq word (codes "dis")) (dis_row words) _ call (dis_low words call) (λ r4.
    either_row (bytes_eq word (codes "asm")) (asm_row words) _ call (asm_low words call) (λ r5.
    either_row (bytes_eq word (codes "table")) (table_row words) None call (table_low words call) (no_call call) r5) r4) r3) r2) r1) r0) is

plain_row_low : (word : List ℕ) (words : List (List ℕ)) (call : Call) → plain_row_of word words ≡ Some call → over_of call ≤ 1000
plain_row_low word words call is =
    either_row (bytes_eq word (codes "print")) (print_row words) _ call (print_low words call) (λ r0.
    either_row (bytes_eq word (codes "replay")) (replay_row words) _ call (replay_low words call) (λ r1.
    either_row (bytes_eq word (codes "edf")) (edf_row words) (image_row_of word words) call (edf_low words call) (image_row_low word words call) r1) r0) is

over_low : OverheadsAreDecimal → (words : List (List ℕ)) (call : Call) → row_of words ≡ Some call → over_of call ≤ 1000
over_low law [] call is = absurd cc
over_low law (word ∷ words) call is =
    either_row (bytes_eq word (codes "go")) (go_row words) _ call (go_low law words call) (λ r0.
    either_row (bytes_eq word (codes "check")) (check_row words) _ call (check_low law words call) (λ r1.
    either_row (bytes_eq word (codes "compile")) (compile_row words) _ call (compile_low law words call) (λ r2.
    either_row (bytes_eq word (codes "json")) (json_row words) _ call (json_low law words call) (λ r3.
    either_row (bytes_eq word (codes "slack")) (slack_row words) _ call (slack_low law words call) (λ r4.
    either_row (bytes_eq word (codes "why")) (why_row words) _ call (why_low law words call) (λ r5.
    either_row (bytes_eq word (codes "fit")) (fit_row words) (plain_row_of word words) call (fit_low law words call) (plain_row_low word words call) r5) r4) r3) r2) r1) r0) is

pub command_low : OverheadsAreDecimal → (words : List (String Global)) (call : Call) → IsCommand words call → over_of call ≤ 1000
command_low law words call is = over_low law (map string_bytes words) call is.row
