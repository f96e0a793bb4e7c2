-- Lines of a text, one after another.
use Rattle.std.proofs.Common.{◌≡◌, ◌≢◌, ◌≤◌, ◌<◌, ◌+◌, ◌^◌, ℕ, List, [], ◌∷◌, ◌++◌, length, codes, decimal, Option, Some, None, Bool, true, false, refl, sym, ap, subst, ◌∙◌, arith, append_assoc, All}
use Rattle.std.specs.Fmt.{signed_decimal}
use Rattle.std.specs.Prelude.{IfSome, is_some}
use Rattle.std.proofs.lemmas.List.{append-nil}
use Rattle.std.specs.Int.{IsInRange}
use Rattle.base.specs.declared.event.Event.{Event}
use Rattle.base.specs.declared.event.Act.{Act}
use Rattle.base.specs.declared.event.Act.TheVariants as act
use Rattle.text_fields.specs.Fields.{Lacks, IsCutAt}
use Rattle.text_fields.proofs.Cuts.{cut_lacks, lacks_both}
use Rattle.text_fields.proofs.Numerals.{decimal_lacks, signed_lacks}
use Rattle.image.specs.declared.names.ImageNames.{ImageNames}
use Rattle.event_log.specs.InRange.{WokenIsIn}
use Rattle.event_log.specs.Line.{line_of, log_of, condition_name, device_name, monitor_name, process_name, truth_text, woken_name}
use Rattle.event_log.specs.Logs.{AreWordNames, IsTold, Tells, IsFaultyLine, longest_text}
use Rattle.event_log.specs.Parts.{act_words, args_text, spelled, spoken, verb_of, verb_text, ActIsTold}
use Rattle.event_log.proofs.Names.{same_cut, word_at, device_word, condition_pair}
use Rattle.event_log.proofs.Acts.{verb_feed}
use Rattle.event_log.proofs.LinesLemmas.{line_spelled, tells}

not_feed : ¬ IsInRange 48 57 10
not_feed within = omega arith

number_feed : (n : ℕ) → n < 2 ^ 16 → Lacks 10 (decimal n)
number_feed n small = decimal_lacks 10 n not_feed (omega arith)

condition_feed : (names : ImageNames) (c : ℕ) → AreWordNames names → c < length names.conditions → Lacks 10 (condition_name names c)
condition_feed names c words below =
    let pair = condition_pair names c words below in
    let first = pair.first in let second = pair.second in
    subst (Lacks 10) (sym pair.text) (lacks_both 10 pair.monitor (32 ∷ pair.own) first.no_line_feed ((λ e. omega arith), second.no_line_feed))

process_feed : (names : ImageNames) (k : ℕ) → AreWordNames names → k < length names.processes → Lacks 10 (process_name names k)
process_feed names k words below = let word = word_at names.processes k below words.processes in word.no_line_feed

monitor_feed : (names : ImageNames) (m : ℕ) → AreWordNames names → m < length names.monitors → Lacks 10 (monitor_name names m)
monitor_feed names m words below = let word = word_at names.monitors m below words.monitors in word.no_line_feed

device_feed : (names : ImageNames) (d : ℕ) → AreWordNames names → d < length names.devices → Lacks 10 (device_name names d)
device_feed names d words below = let word = device_word names.devices d below words.devices in word.no_line_feed

woken_feed : (names : ImageNames) (woken : Option ℕ) → AreWordNames names → WokenIsIn names woken → Lacks 10 (woken_name names woken)
woken_feed names None words within = ((λ e. omega arith), tt)
woken_feed names (Some k) words within = process_feed names k words within

truth_feed : (answer : Bool) → Lacks 10 (truth_text answer)
truth_feed true = ((λ e. omega arith), tt)
truth_feed false = ((λ e. omega arith), tt)

both_feed : (a b : List ℕ) → Lacks 10 a → Lacks 10 b → Lacks 10 (a ++ 32 ∷ b)
both_feed a b la lb = lacks_both 10 a (32 ∷ b) la ((λ e. omega arith), lb)

abbrev IsFeedless : Option (List ℕ) → Type 0
IsFeedless None = Unit {0}
IsFeedless (Some text) = Lacks 10 text

args_feed : (names : ImageNames) (a : Act) → AreWordNames names → ActIsTold names a → IsFeedless (args_text names a)
args_feed names act.Release words told = tt
args_feed names (act.TimeOut c number) words told = both_feed (condition_name names c) (decimal number) (condition_feed names c words told.0) (number_feed number told.1)
args_feed names (act.Get d value) words told = both_feed (device_name names d) (signed_decimal value) (device_feed names d words told.0) (signed_lacks 10 value not_feed (λ e. omega arith) told.1)
args_feed names (act.Put d value) words told = both_feed (device_name names d) (signed_decimal value) (device_feed names d words told.0) (signed_lacks 10 value not_feed (λ e. omega arith) told.1)
args_feed names (act.Enter m) words told = monitor_feed names m words told.0
args_feed names (act.Leave m) words told = monitor_feed names m words told.0
args_feed names (act.Wait c) words told = condition_feed names c words told.0
args_feed names (act.Signal c woken) words told =
    let within = told.0 in both_feed (condition_name names c) (woken_name names woken) (condition_feed names c words within.0) (woken_feed names woken words within.1)
args_feed names (act.Broadcast c count) words told = both_feed (condition_name names c) (decimal count) (condition_feed names c words told.0) (number_feed count told.1)
args_feed names (act.Empty c answer) words told = both_feed (condition_name names c) (truth_text answer) (condition_feed names c words told.0) (truth_feed answer)
args_feed names (act.Raise number) words told = number_feed number told.1
args_feed names act.End words told = tt

spoken_feed : (word : List ℕ) (args : Option (List ℕ)) → Lacks 10 word → IsFeedless args → Lacks 10 (spoken word args)
spoken_feed word None l m = l
spoken_feed word (Some rest) l m = both_feed word rest l m

-- the words of an event have no LF
pub spelled_feed : (names : ImageNames) (e : Event) → AreWordNames names → IsTold names e → Lacks 10 (spelled names e)
spelled_feed names e words told =
    let small = told.tick in
    both_feed (decimal e.tick) (process_name names e.proc ++ 32 ∷ act_words names e.act) (decimal_lacks 10 e.tick not_feed (omega arith))
    (both_feed (process_name names e.proc) (act_words names e.act) (process_feed names e.proc words told.process)
    (spoken_feed (verb_text (verb_of e.act)) (args_text names e.act) (verb_feed (verb_of e.act)) (args_feed names e.act words (told.act, told.fits))))

pub line_then : (names : ImageNames) (e : Event) (rest : List ℕ) → line_of names e ++ rest ≡ spelled names e ++ 10 ∷ rest
line_then names e rest = ap (λ t. t ++ rest) (line_spelled names e) ∙ append_assoc (spelled names e) (codes "\n") rest

pub unlined_lacks : (names : ImageNames) (rest : List ℕ) → Lacks 10 rest → (e : Event) (after : List ℕ) → IsTold names e → rest ≢ line_of names e ++ after
unlined_lacks names rest l e after told same = cut_lacks 10 rest (spelled names e) after l (same ∙ line_then names e after)

pub unlined : (names : ImageNames) (rest line more : List ℕ) → AreWordNames names → IsCutAt 10 rest line more → ((e : Event) → ¬ Tells names line e) → (e : Event) (after : List ℕ) → IsTold names e → rest ≢ line_of names e ++ after
unlined names rest line more words cut none e after told same =
    let r = same_cut 10 rest line more (spelled names e) after cut (spelled_feed names e words told) (same ∙ line_then names e after) in
    none e (tells names line e told r.0)

pub log_push : (names : ImageNames) (es : List Event) (e : Event) → log_of names (es ++ e ∷ []) ≡ log_of names es ++ line_of names e
unfolding log_of
log_push names [] e = append-nil (line_of names e)
log_push names (x ∷ es) e = ap (λ t. line_of names x ++ t) (log_push names es e) ∙ sym (append_assoc (line_of names x) (log_of names es) (line_of names e))

pub read_none : (names : ImageNames) (text : List ℕ) → text ≡ log_of names [] ++ text
unfolding log_of
read_none names text = refl

pub read_more : (names : ImageNames) (es : List Event) (e : Event) (text rest line after : List ℕ) → text ≡ log_of names es ++ rest → IsCutAt 10 rest line after → Tells names line e → text ≡ log_of names (es ++ e ∷ []) ++ after
read_more names es e text rest line after whole cut t =
    let here : rest ≡ line_of names e ++ after = cut.whole ∙ sym (append_assoc line (codes "\n") after) ∙ ap (λ l. l ++ after) t.text in
    whole ∙ ap (λ r. log_of names es ++ r) here ∙ sym (append_assoc (log_of names es) (line_of names e) after) ∙ ap (λ l. l ++ after) (sym (log_push names es e))

pub faulty : (names : ImageNames) (text : List ℕ) (es : List Event) (rest : List ℕ) (line : ℕ) → length text ≤ longest_text → All (IsTold names) es → text ≡ log_of names es ++ rest → line ≡ length es + 1 → 0 < length rest → ((e : Event) (after : List ℕ) → IsTold names e → rest ≢ line_of names e ++ after) → IsFaultyLine names text line
faulty names text es rest line short told whole is some none = record {
  short = short;
  events = es;
  rest = rest;
  told = told;
  whole = whole;
  is = is;
  some = some;
  none = none;
}

pub faulty_names : (names : ImageNames) (text : List ℕ) → length text ≤ longest_text → 0 < length text → ¬ AreWordNames names → IsFaultyLine names text 1
faulty_names names text short some other =
    faulty names text [] text 1 short (λ k d below. absurd (omega arith)) (read_none names text) refl some (λ e after told same. other told.words)

-- what holds of an event that there is
pub of_some : (next : Option Event) (P : Event → Type 0) → is_some next ≡ true → IfSome next P → (e : Event) × P e
of_some None P is holds = absurd cc
of_some (Some e) P is holds = (e, holds)
