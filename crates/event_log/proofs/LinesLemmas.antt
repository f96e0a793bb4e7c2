-- Lines by their words.
use Rattle.std.proofs.Common.{◌≡◌, ◌≢◌, ◌≤◌, ◌<◌, ℕ, List, [], ◌∷◌, ◌++◌, codes, decimal, length, refl, sym, ap, ◌∙◌, arith, append_assoc}
use Rattle.std.specs.Fmt.{signed_decimal}
use Rattle.std.specs.Int.{IsInRange}
use Rattle.base.specs.declared.event.Event.{Event}
use Rattle.base.specs.declared.event.Act.{Act}
use Rattle.base.specs.declared.event.Act.TheVariants as act
use Rattle.text_fields.specs.Fields.{Lacks, IsCutAt}
use Rattle.text_fields.proofs.Cuts.{cut_lacks}
use Rattle.text_fields.proofs.Numerals.{decimal_lacks}
use Rattle.image.specs.declared.names.ImageNames.{ImageNames}
use Rattle.event_log.specs.Line.{act_text, line_of, condition_name, device_name, process_name, truth_text, woken_name}
use Rattle.event_log.specs.Logs.{AreWordNames, IsTold, Tells}
use Rattle.event_log.specs.Parts.{act_words, spelled, ActIsTold}
use Rattle.event_log.proofs.Names.{same_cut, word_at}

-- the words of an act, a space before and LF behind
act_spelled : (names : ImageNames) (a : Act) → act_text names a ≡ 32 ∷ (act_words names a ++ codes "\n")
act_spelled names act.Release = refl
act_spelled names (act.TimeOut c number) = ap (λ t. codes " timeout " ++ t) (sym (append_assoc (condition_name names c) (codes " " ++ (decimal number)) (codes "\n")))
act_spelled names (act.Get d value) = ap (λ t. codes " get " ++ t) (sym (append_assoc (device_name names d) (codes " " ++ (signed_decimal value)) (codes "\n")))
act_spelled names (act.Put d value) = ap (λ t. codes " put " ++ t) (sym (append_assoc (device_name names d) (codes " " ++ (signed_decimal value)) (codes "\n")))
act_spelled names (act.Enter m) = refl
act_spelled names (act.Leave m) = refl
act_spelled names (act.Wait c) = refl
act_spelled names (act.Signal c woken) = ap (λ t. codes " signal " ++ t) (sym (append_assoc (condition_name names c) (codes " " ++ (woken_name names woken)) (codes "\n")))
act_spelled names (act.Broadcast c count) = ap (λ t. codes " broadcast " ++ t) (sym (append_assoc (condition_name names c) (codes " " ++ (decimal count)) (codes "\n")))
act_spelled names (act.Empty c answer) = ap (λ t. codes " empty " ++ t) (sym (append_assoc (condition_name names c) (codes " " ++ (truth_text answer)) (codes "\n")))
act_spelled names (act.Raise number) = refl
act_spelled names act.End = refl

pub line_spelled : (names : ImageNames) (e : Event) → line_of names e ≡ spelled names e ++ codes "\n"
line_spelled names e =
    ap (λ t. decimal e.tick ++ 32 ∷ (process_name names e.proc ++ t)) (act_spelled names e.act)
    ∙ ap (λ t. decimal e.tick ++ 32 ∷ t) (sym (append_assoc (process_name names e.proc) (32 ∷ act_words names e.act) (codes "\n")))
    ∙ sym (append_assoc (decimal e.tick) (32 ∷ (process_name names e.proc ++ 32 ∷ act_words names e.act)) (codes "\n"))

pub cancel : (x : ℕ) (a b : List ℕ) → a ++ x ∷ [] ≡ b ++ x ∷ [] → a ≡ b
cancel x [] [] e = refl
cancel x [] (z ∷ b) e = absurd (none b (tail e))
  where
    tail : x ∷ [] ≡ z ∷ (b ++ x ∷ []) → [] ≡ b ++ x ∷ []
    tail h = cc

    none : (b : List ℕ) → [] ≡ b ++ x ∷ [] → ⊥
    none [] h = cc
    none (z ∷ b) h = cc
cancel x (z ∷ a) [] e = absurd (none a (tail e))
  where
    tail : z ∷ (a ++ x ∷ []) ≡ x ∷ [] → a ++ x ∷ [] ≡ []
    tail h = cc

    none : (b : List ℕ) → b ++ x ∷ [] ≡ [] → ⊥
    none [] h = cc
    none (z ∷ b) h = cc
cancel x (y ∷ a) (z ∷ b) e =
    let first : y ≡ z = cc in
    let t : a ++ x ∷ [] ≡ b ++ x ∷ [] = cc in
    let rest = cancel x a b t in cc

-- what tells an event is its words
pub told_text : (names : ImageNames) (line : List ℕ) (e : Event) → Tells names line e → line ≡ spelled names e
told_text names line e tells = cancel 10 line (spelled names e) (tells.text ∙ line_spelled names e)

pub tells : (names : ImageNames) (line : List ℕ) (e : Event) → IsTold names e → line ≡ spelled names e → Tells names line e
tells names line e told is = record { told = told; text = ap (λ t. t ++ codes "\n") is ∙ sym (line_spelled names e) }

not_space : ¬ IsInRange 48 57 32
not_space within = omega arith

pub tick_lacks : (tick : ℕ) → tick < 1000000000 → Lacks 32 (decimal tick)
tick_lacks tick small = decimal_lacks 32 tick not_space (omega arith)

pub untold_lacks : (names : ImageNames) (line : List ℕ) → Lacks 32 line → (e : Event) → ¬ Tells names line e
untold_lacks names line l e t = cut_lacks 32 line (decimal e.tick) (process_name names e.proc ++ 32 ∷ act_words names e.act) l (told_text names line e t)

-- the tick and what stands behind it
pub tick_parts : (names : ImageNames) (line before after : List ℕ) → IsCutAt 32 line before after → (e : Event) → Tells names line e → (before ≡ decimal e.tick) × (after ≡ process_name names e.proc ++ 32 ∷ act_words names e.act)
tick_parts names line before after cut e t =
    let told = t.told in
    same_cut 32 line before after (decimal e.tick) (process_name names e.proc ++ 32 ∷ act_words names e.act) cut (tick_lacks e.tick told.tick) (told_text names line e t)

pub untold_tick : (names : ImageNames) (line before after : List ℕ) → IsCutAt 32 line before after → ((n : ℕ) → n ≤ 999999999 → before ≢ decimal n) → (e : Event) → ¬ Tells names line e
untold_tick names line before after cut none e t =
    let told = t.told in let small = told.tick in
    let r = tick_parts names line before after cut e t in none e.tick (omega arith) r.0

pub untold_process : (names : ImageNames) (line before after : List ℕ) → IsCutAt 32 line before after → Lacks 32 after → (e : Event) → ¬ Tells names line e
untold_process names line before after cut l e t =
    let r = tick_parts names line before after cut e t in cut_lacks 32 after (process_name names e.proc) (act_words names e.act) l r.1

pub process_parts : (names : ImageNames) (line before after process rest : List ℕ) → AreWordNames names → IsCutAt 32 line before after → IsCutAt 32 after process rest → (e : Event) → Tells names line e → (process ≡ process_name names e.proc) × (rest ≡ act_words names e.act)
process_parts names line before after process rest words cut more e t =
    let told = t.told in
    let r = tick_parts names line before after cut e t in
    let word = word_at names.processes e.proc told.process words.processes in
    same_cut 32 after process rest (process_name names e.proc) (act_words names e.act) more word.no_space r.1

pub untold_name : (names : ImageNames) (line before after process rest : List ℕ) → AreWordNames names → IsCutAt 32 line before after → IsCutAt 32 after process rest → ((k : ℕ) → k < length names.processes → process_name names k ≢ process) → (e : Event) → ¬ Tells names line e
untold_name names line before after process rest words cut more none e t =
    let told = t.told in
    let r = process_parts names line before after process rest words cut more e t in none e.proc told.process (sym r.0)

pub untold_act : (names : ImageNames) (line before after process rest : List ℕ) → AreWordNames names → IsCutAt 32 line before after → IsCutAt 32 after process rest → ((a : Act) → ActIsTold names a → rest ≢ act_words names a) → (e : Event) → ¬ Tells names line e
untold_act names line before after process rest words cut more none e t =
    let told = t.told in
    let r = process_parts names line before after process rest words cut more e t in none e.act (told.act, told.fits) r.1
