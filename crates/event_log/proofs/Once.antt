-- A line is that of one event, and a text the log of one list of events.
use Rattle.std.proofs.Common.{◌≡◌, ◌≢◌, ◌<◌, ◌^◌, ℕ, ℤ, pos, negsuc, List, [], ◌∷◌, ◌++◌, length, get_or, codes, decimal, Option, Some, None, Bool, true, false, refl, sym, ap, subst, ◌∙◌, arith, All}
use Rattle.std.specs.Prelude.{slice_get, unwrap_or}
use Rattle.std.specs.Fmt.{signed_decimal}
use Rattle.std.proofs.lemmas.Option.{unwrap_or-slice_get, same_Some}
use Rattle.std.proofs.lemmas.Fmt.{decimal_injective, signed_decimal_injective}
use Rattle.std.proofs.lemmas.List.Elements.{All-head, All-tail}
use lib.Signed.{mag}
use Rattle.base.specs.declared.event.Event.{Event}
use Rattle.base.specs.declared.event.Act.{Act}
use Rattle.base.specs.declared.event.Act.TheVariants as act
use Rattle.text_fields.specs.Fields.{Lacks, Is32}
use Rattle.text_fields.proofs.Cuts.{cut_once, cut_lacks}
use Rattle.image.specs.declared.names.ImageNames.{ImageNames}
use Rattle.event_log.specs.InRange.{WokenIsIn}
use Rattle.event_log.specs.Line.{line_of, log_of, condition_name, device_name, monitor_name, process_name, truth_text, woken_name}
use Rattle.event_log.specs.Logs.{IsTold}
use Rattle.event_log.specs.LogReading.{AreUnambiguous}
use Rattle.event_log.specs.Parts.{act_words, args_text, spelled, spoken, verb_of, verb_text, ActIsTold, ByVerb}
use Rattle.event_log.proofs.Names.{device_word, same_last, word_at}
use Rattle.event_log.proofs.Acts.{by_verb, verb_lacks, verb_once}
use Rattle.event_log.proofs.LinesLemmas.{cancel, line_spelled, tick_lacks}
use Rattle.event_log.proofs.Reading.{line_then, spelled_feed}

mag_small : (z : ℤ) → Is32 z → mag z < 2 ^ 63
mag_small (pos n) small = omega arith
mag_small (negsuc n) small = omega arith

same_number : (n m : ℕ) → n < 2 ^ 16 → m < 2 ^ 16 → decimal n ≡ decimal m → n ≡ m
same_number n m small low e = decimal_injective n m (omega arith) (omega arith) e

clash : (x y : ℕ) → x ≡ 49 → y ≡ 48 → x ≡ y → ⊥
clash x y p q e = omega arith

truth_once : (a b : Bool) → truth_text a ≡ truth_text b → a ≡ b
truth_once true true e = refl
truth_once true false e = absurd (clash 49 48 refl refl (ap (λ xs. get_or xs 0 0) e))
truth_once false true e = absurd (clash 49 48 refl refl (ap (λ xs. get_or xs 0 0) (sym e)))
truth_once false false e = refl

no_dash : (xs : List (List ℕ)) (k : ℕ) → k < length xs → All (λ name. name ≢ codes "-") xs → unwrap_or (slice_get xs k) [] ≢ codes "-"
no_dash xs k below none = subst (λ n. n ≢ codes "-") (sym (unwrap_or-slice_get xs k [])) (none k [] below)

woken_once : (names : ImageNames) (w v : Option ℕ) → AreUnambiguous names → WokenIsIn names w → WokenIsIn names v → woken_name names w ≡ woken_name names v → w ≡ v
woken_once names None None sound i j e = refl
woken_once names None (Some k) sound i j e = absurd (no_dash names.processes k j sound.no_dash (sym e))
woken_once names (Some k) None sound i j e = absurd (no_dash names.processes k i sound.no_dash e)
woken_once names (Some k) (Some m) sound i j e = ap (λ n. Some n) (sound.processes k m i j e)

-- a condition and what stands behind it
asked_once : (names : ImageNames) (c d : ℕ) (last other : List ℕ) → AreUnambiguous names → c < length names.conditions → d < length names.conditions → Some (condition_name names c ++ 32 ∷ last) ≡ Some (condition_name names d ++ 32 ∷ other) → (c ≡ d) × (last ≡ other)
asked_once names c d last other sound i j e =
    let whole = same_Some (condition_name names c ++ 32 ∷ last) (condition_name names d ++ 32 ∷ other) e in
    let r = same_last names (condition_name names c ++ 32 ∷ last) c d last other sound.words i j refl whole in
    (sound.conditions c d i j r.0, r.1)

transfer_once : (names : ImageNames) (d f : ℕ) (value word : ℤ) → AreUnambiguous names → d < length names.devices → f < length names.devices → Is32 value → Is32 word → Some (device_name names d ++ 32 ∷ signed_decimal value) ≡ Some (device_name names f ++ 32 ∷ signed_decimal word) → (d ≡ f) × (value ≡ word)
transfer_once names d f value word sound i j small low e =
    let whole = same_Some (device_name names d ++ 32 ∷ signed_decimal value) (device_name names f ++ 32 ∷ signed_decimal word) e in
    let words = sound.words in
    let one = device_word names.devices d i words.devices in
    let two = device_word names.devices f j words.devices in
    let r = cut_once 32 (device_name names d) (signed_decimal value) (device_name names f) (signed_decimal word) one.no_space two.no_space whole in
    (sound.devices d f i j r.0, signed_decimal_injective value word (mag_small value small) (mag_small word low) r.1)

abbrev Once : ImageNames → Act → Act → Type 0
Once names a b = ActIsTold names b → args_text names a ≡ args_text names b → a ≡ b

once : (names : ImageNames) (a : Act) → AreUnambiguous names → ActIsTold names a → ByVerb (Once names a) (verb_of a)
once names act.Release sound told = λ other e. refl
once names (act.TimeOut c number) sound told = λ d n other e.
    let r = asked_once names c d (decimal number) (decimal n) sound told.0 other.0 e in
    ap (λ k. act.TimeOut k number) r.0 ∙ ap (λ k. act.TimeOut d k) (same_number number n told.1 other.1 r.1)
once names (act.Get d value) sound told = λ f word other e.
    let r = transfer_once names d f value word sound told.0 other.0 told.1 other.1 e in
    ap (λ k. act.Get k value) r.0 ∙ ap (λ k. act.Get f k) r.1
once names (act.Put d value) sound told = λ f word other e.
    let r = transfer_once names d f value word sound told.0 other.0 told.1 other.1 e in
    ap (λ k. act.Put k value) r.0 ∙ ap (λ k. act.Put f k) r.1
once names (act.Enter m) sound told = λ n other e. ap (λ k. act.Enter k) (sound.monitors m n told.0 other.0 (same_Some (monitor_name names m) (monitor_name names n) e))
once names (act.Leave m) sound told = λ n other e. ap (λ k. act.Leave k) (sound.monitors m n told.0 other.0 (same_Some (monitor_name names m) (monitor_name names n) e))
once names (act.Wait c) sound told = λ d other e. ap (λ k. act.Wait k) (sound.conditions c d told.0 other.0 (same_Some (condition_name names c) (condition_name names d) e))
once names (act.Signal c woken) sound told = λ d v other e.
    let in_a = told.0 in let in_b = other.0 in
    let r = asked_once names c d (woken_name names woken) (woken_name names v) sound in_a.0 in_b.0 e in
    ap (λ k. act.Signal k woken) r.0 ∙ ap (λ k. act.Signal d k) (woken_once names woken v sound in_a.1 in_b.1 r.1)
once names (act.Broadcast c count) sound told = λ d n other e.
    let r = asked_once names c d (decimal count) (decimal n) sound told.0 other.0 e in
    ap (λ k. act.Broadcast k count) r.0 ∙ ap (λ k. act.Broadcast d k) (same_number count n told.1 other.1 r.1)
once names (act.Empty c answer) sound told = λ d b other e.
    let r = asked_once names c d (truth_text answer) (truth_text b) sound told.0 other.0 e in
    ap (λ k. act.Empty k answer) r.0 ∙ ap (λ k. act.Empty d k) (truth_once answer b r.1)
once names (act.Raise number) sound told = λ n other e. ap (λ k. act.Raise k) (same_number number n told.1 other.1 (same_Some (decimal number) (decimal n) e))
once names act.End sound told = λ other e. refl

spoken_once : (v w : List ℕ) (a b : Option (List ℕ)) → Lacks 32 v → Lacks 32 w → spoken v a ≡ spoken w b → (v ≡ w) × (a ≡ b)
spoken_once v w None None l m e = (e, refl)
spoken_once v w None (Some y) l m e = absurd (cut_lacks 32 v w y l e)
spoken_once v w (Some x) None l m e = absurd (cut_lacks 32 w v x m (sym e))
spoken_once v w (Some x) (Some y) l m e = let r = cut_once 32 v x w y l m e in (r.0, ap (λ t. Some t) r.1)

act_once : (names : ImageNames) (a b : Act) → AreUnambiguous names → ActIsTold names a → ActIsTold names b → act_words names a ≡ act_words names b → a ≡ b
act_once names a b sound told other e =
    let r = spoken_once (verb_text (verb_of a)) (verb_text (verb_of b)) (args_text names a) (args_text names b) (verb_lacks (verb_of a)) (verb_lacks (verb_of b)) e in
    by_verb (Once names a) b (subst (ByVerb (Once names a)) (verb_once (verb_of a) (verb_of b) r.0) (once names a sound told)) other r.1

spelled_once : (names : ImageNames) (e f : Event) → AreUnambiguous names → IsTold names e → IsTold names f → spelled names e ≡ spelled names f → e ≡ f
spelled_once names e f sound told other same =
    let small = told.tick in let low = other.tick in
    let words = sound.words in
    let r = cut_once 32 (decimal e.tick) (process_name names e.proc ++ 32 ∷ act_words names e.act) (decimal f.tick) (process_name names f.proc ++ 32 ∷ act_words names f.act) (tick_lacks e.tick small) (tick_lacks f.tick low) same in
    let one = word_at names.processes e.proc told.process words.processes in
    let two = word_at names.processes f.proc other.process words.processes in
    let s = cut_once 32 (process_name names e.proc) (act_words names e.act) (process_name names f.proc) (act_words names f.act) one.no_space two.no_space r.1 in
    let ticks : e.tick ≡ f.tick = decimal_injective e.tick f.tick (omega arith) (omega arith) r.0 in
    let processes : e.proc ≡ f.proc = sound.processes e.proc f.proc told.process other.process s.0 in
    let acts : e.act ≡ f.act = act_once names e.act f.act sound (told.act, told.fits) (other.act, other.fits) s.1 in
    ap (λ t. record e { tick = t }) ticks ∙ ap (λ p. record e { tick = f.tick; proc = p }) processes ∙ ap (λ a. record f { act = a }) acts

pub line_once : (names : ImageNames) (e f : Event) → AreUnambiguous names → IsTold names e → IsTold names f → line_of names e ≡ line_of names f → e ≡ f
line_once names e f sound told other same =
    spelled_once names e f sound told other (cancel 10 (spelled names e) (spelled names f) (sym (line_spelled names e) ∙ same ∙ line_spelled names f))

pub log_once : (names : ImageNames) (es fs : List Event) → AreUnambiguous names → All (IsTold names) es → All (IsTold names) fs → log_of names es ≡ log_of names fs → es ≡ fs
unfolding log_of
log_once names [] [] sound told other e = refl
log_once names [] (f ∷ fs) sound told other e = absurd (cut_lacks 10 [] (spelled names f) (log_of names fs) tt (e ∙ line_then names f (log_of names fs)))
log_once names (x ∷ es) [] sound told other e = absurd (cut_lacks 10 [] (spelled names x) (log_of names es) tt (sym e ∙ line_then names x (log_of names es)))
log_once names (x ∷ es) (f ∷ fs) sound told other e =
    let in_x = All-head (IsTold names) x es told in
    let in_f = All-head (IsTold names) f fs other in
    let both = sym (line_then names x (log_of names es)) ∙ e ∙ line_then names f (log_of names fs) in
    let r = cut_once 10 (spelled names x) (log_of names es) (spelled names f) (log_of names fs) (spelled_feed names x sound.words in_x) (spelled_feed names f sound.words in_f) both in
    let first : x ≡ f = spelled_once names x f sound in_x in_f r.0 in
    let rest : es ≡ fs = log_once names es fs sound (All-tail (IsTold names) x es told) (All-tail (IsTold names) f fs other) r.1 in
    cc
