-- What lines say, by their parts.
use Rattle.std.proofs.Common.{◌≡◌, ◌≢◌, ℕ, ℤ, ◌≤◌, ◌<◌, List, [], ◌∷◌, ◌++◌, codes, decimal, sym, subst, ◌∙◌, arith}
use Rattle.std.specs.Fmt.{signed_decimal}
use Rattle.std.proofs.lemmas.Fmt.{decimal_injective}
use Rattle.std.specs.Int.{IsInRange}
use Rattle.text_fields.specs.Fields.{Lacks, IsCutAt, IsWord, Is32, spaced}
use Rattle.text_fields.proofs.Cuts.{cut_once, cut_lacks, lacks_both, lacks_parts}
use Rattle.text_fields.proofs.Numerals.{decimal_lacks, signed_lacks, no_other}
use Rattle.script.specs.Saying.{Said, set, event, end, IsInForm, spelled, Begins}
use Rattle.script.specs.Reading.{behind, IsTimed, Says}

-- what the whole lacks, the parts of a cut lack
pub parts_lack : (stop other : ℕ) (bytes before after : List ℕ) → Lacks other bytes → IsCutAt stop bytes before after → Lacks other before × Lacks other after
parts_lack stop other bytes before after l cut =
    let r = lacks_parts other before (stop ∷ after) (subst (Lacks other) cut.whole l) in
    let rest = r.1 in (r.0, rest.1)

-- two cuts at one byte are one
same_cut : (stop : ℕ) (bytes before after a b : List ℕ) → IsCutAt stop bytes before after → Lacks stop a → bytes ≡ a ++ stop ∷ b → (before ≡ a) × (after ≡ b)
same_cut stop bytes before after a b cut l e = cut_once stop before after a b cut.first l (sym cut.whole ∙ e)

-- ---- a device and a value

pub no_setting : (bytes : List ℕ) → Lacks 32 bytes → (dev : List ℕ) (value : ℤ) → IsWord dev → Is32 value → bytes ≢ spaced (dev ∷ signed_decimal value ∷ [])
no_setting bytes l dev value word small e = cut_lacks 32 bytes dev (signed_decimal value) l e

pub no_device : (bytes before after : List ℕ) → IsCutAt 32 bytes before after → ¬ IsWord before → (dev : List ℕ) (value : ℤ) → IsWord dev → Is32 value → bytes ≢ spaced (dev ∷ signed_decimal value ∷ [])
no_device bytes before after cut no_word dev value word small e =
    let same = same_cut 32 bytes before after dev (signed_decimal value) cut word.no_space e in
    no_word (subst IsWord (sym same.0) word)

pub no_value : (bytes before after : List ℕ) → IsCutAt 32 bytes before after → ((z : ℤ) → Is32 z → after ≢ signed_decimal z) → (dev : List ℕ) (value : ℤ) → IsWord dev → Is32 value → bytes ≢ spaced (dev ∷ signed_decimal value ∷ [])
no_value bytes before after cut none dev value word small e =
    let same = same_cut 32 bytes before after dev (signed_decimal value) cut word.no_space e in
    none value small same.1

-- ---- what stands behind a tick

set_lacks : Lacks 32 (codes "set")
set_lacks = ((λ e. omega arith), ((λ e. omega arith), ((λ e. omega arith), tt)))

event_lacks : Lacks 32 (codes "event")
event_lacks = ((λ e. omega arith), ((λ e. omega arith), ((λ e. omega arith), ((λ e. omega arith), ((λ e. omega arith), tt)))))

pub end_lacks : Lacks 32 (codes "end")
end_lacks = ((λ e. omega arith), ((λ e. omega arith), ((λ e. omega arith), tt)))

pub untimed_other : (tick : ℕ) (bytes before after : List ℕ) → IsCutAt 32 bytes before after → before ≢ codes "set" → before ≢ codes "event" → (said : Said) → ¬ IsTimed tick bytes said
untimed_other tick bytes before after cut no_set no_event (set t dev value) timed =
    let same = same_cut 32 bytes before after (codes "set") (spaced (dev ∷ signed_decimal value ∷ [])) cut set_lacks timed.text in no_set same.0
untimed_other tick bytes before after cut no_set no_event (event t name) timed =
    let same = same_cut 32 bytes before after (codes "event") name cut event_lacks timed.text in no_event same.0
untimed_other tick bytes before after cut no_set no_event (end t) timed = absurd timed.at

-- ---- whole lines

not_space : ¬ IsInRange 48 57 32
not_space within = omega arith

not_feed : ¬ IsInRange 48 57 10
not_feed within = omega arith

not_e : ¬ IsInRange 48 57 101
not_e within = omega arith

pub tick_lacks : (tick : ℕ) → tick < 1000000000 → Lacks 32 (decimal tick)
tick_lacks tick small = decimal_lacks 32 tick not_space (omega arith)

pub no_end_tick : (before : List ℕ) (tick : ℕ) → tick < 1000000000 → before ≡ codes "end" → before ≢ decimal tick
no_end_tick before tick small is e = no_other (codes "end") tick 0 (omega arith) (omega arith) not_e (sym is ∙ e)

pub unsaid_lacks : (line : List ℕ) → Lacks 32 line → (said : Said) → ¬ Says line said
unsaid_lacks line l (set t dev value) says = cut_lacks 32 line (decimal t) (behind (set t dev value)) l says.text
unsaid_lacks line l (event t name) says = cut_lacks 32 line (decimal t) (behind (event t name)) l says.text
unsaid_lacks line l (end t) says = cut_lacks 32 line (codes "end") (decimal t) l says.text

pub unsaid_end : (line before after : List ℕ) → IsCutAt 32 line before after → before ≡ codes "end" → ((n : ℕ) → n ≤ 1000000000 → after ≢ decimal n) → (said : Said) → ¬ Says line said
unsaid_end line before after cut is none (set t dev value) says =
    let form = says.form in
    let same = same_cut 32 line before after (decimal t) (behind (set t dev value)) cut (tick_lacks t form.0) says.text in no_end_tick before t form.0 is same.0
unsaid_end line before after cut is none (event t name) says =
    let form = says.form in
    let same = same_cut 32 line before after (decimal t) (behind (event t name)) cut (tick_lacks t form.0) says.text in no_end_tick before t form.0 is same.0
unsaid_end line before after cut is none (end t) says =
    let same = same_cut 32 line before after (codes "end") (decimal t) cut end_lacks says.text in none t says.form same.1

pub unsaid_tick : (line before after : List ℕ) → IsCutAt 32 line before after → before ≢ codes "end" → ((n : ℕ) → n ≤ 999999999 → before ≢ decimal n) → (said : Said) → ¬ Says line said
unsaid_tick line before after cut no_end none (set t dev value) says =
    let form = says.form in let small = form.0 in
    let same = same_cut 32 line before after (decimal t) (behind (set t dev value)) cut (tick_lacks t small) says.text in none t (omega arith) same.0
unsaid_tick line before after cut no_end none (event t name) says =
    let form = says.form in let small = form.0 in
    let same = same_cut 32 line before after (decimal t) (behind (event t name)) cut (tick_lacks t small) says.text in none t (omega arith) same.0
unsaid_tick line before after cut no_end none (end t) says =
    let same = same_cut 32 line before after (codes "end") (decimal t) cut end_lacks says.text in no_end same.0

same_tick : (before : List ℕ) (t tick : ℕ) → t < 1000000000 → tick < 1000000000 → before ≡ decimal tick → before ≡ decimal t → t ≡ tick
same_tick before t tick small low e f = decimal_injective t tick (omega arith) (omega arith) (sym f ∙ e)

pub unsaid_timed : (line before after : List ℕ) (tick : ℕ) → IsCutAt 32 line before after → before ≢ codes "end" → before ≡ decimal tick → tick < 1000000000 → ((said : Said) → ¬ IsTimed tick after said) → (said : Said) → ¬ Says line said
unsaid_timed line before after tick cut no_end is low none (set t dev value) says =
    let form = says.form in
    let same = same_cut 32 line before after (decimal t) (behind (set t dev value)) cut (tick_lacks t form.0) says.text in
    none (set t dev value) (record { at = same_tick before t tick form.0 low is same.0; form = says.form; text = same.1 })
unsaid_timed line before after tick cut no_end is low none (event t name) says =
    let form = says.form in
    let same = same_cut 32 line before after (decimal t) (behind (event t name)) cut (tick_lacks t form.0) says.text in
    none (event t name) (record { at = same_tick before t tick form.0 low is same.0; form = says.form; text = same.1 })
unsaid_timed line before after tick cut no_end is low none (end t) says =
    let same = same_cut 32 line before after (codes "end") (decimal t) cut end_lacks says.text in no_end same.0

-- ---- lines of a text

feed_tick : (tick : ℕ) → tick < 1000000000 → Lacks 10 (decimal tick)
feed_tick tick small = decimal_lacks 10 tick not_feed (omega arith)

-- what a line says has no LF
pub said_lacks : (said : Said) → IsInForm said → Lacks 10 (spelled said)
said_lacks (set t dev value) form =
    let word = form.1 in
    lacks_both 10 (decimal t) (32 ∷ behind (set t dev value)) (feed_tick t form.0) (
      (λ e. omega arith),
      (
        (λ e. omega arith),
        (
          (λ e. omega arith),
          (
            (λ e. omega arith),
            (
              (λ e. omega arith),
              lacks_both 10 dev (32 ∷ signed_decimal value) word.no_line_feed ((λ e. omega arith), signed_lacks 10 value not_feed (λ e. omega arith) form.2),
            ),
          ),
        ),
      ),
    )
said_lacks (event t name) form =
    let word = form.1 in
    lacks_both 10 (decimal t) (32 ∷ behind (event t name)) (feed_tick t form.0)
    ((λ e. omega arith), ((λ e. omega arith), ((λ e. omega arith), ((λ e. omega arith), ((λ e. omega arith), ((λ e. omega arith), ((λ e. omega arith), word.no_line_feed)))))))
said_lacks (end t) form =
    ((λ e. omega arith), ((λ e. omega arith), ((λ e. omega arith), ((λ e. omega arith), decimal_lacks 10 t not_feed (omega arith)))))

pub unbegun_lacks : (bytes : List ℕ) → Lacks 10 bytes → (said : Said) (rest : List ℕ) → ¬ Begins bytes said rest
unbegun_lacks bytes l said rest begins = cut_lacks 10 bytes (spelled said) rest l begins.text

pub unbegun_line : (bytes before after : List ℕ) → IsCutAt 10 bytes before after → ((said : Said) → ¬ Says before said) → (said : Said) (rest : List ℕ) → ¬ Begins bytes said rest
unbegun_line bytes before after cut none said rest begins =
    let same = same_cut 10 bytes before after (spelled said) rest cut (said_lacks said begins.form) begins.text in
    none said (record { form = begins.form; text = same.0 })
