-- The lines of the head, devices, events, monitors and conditions.
use Rattle.std.proofs.Common.{◌≡◌, ◌≢◌, ◌≤◌, ◌<◌, ◌^◌, ◌+◌, ◌++◌, ◌&&◌, ◌==◌, ℕ, suc, Bool, true, false, List, [], ◌∷◌, length, take, drop, decimal, Option, Some, None, refl, sym, ap, ◌∙◌, subst, arith}
use Rattle.std.specs.Prelude.{cond, not, codes, nat_lt, nat_le}
use Rattle.std.proofs.lemmas.Bool.{ltb-true, lt-ltb, leb-true, le-leb, eq-eqb, eqb-true, and_parts}
use Rattle.std.proofs.lemmas.List.{take-append-drop}
use Rattle.text_fields.specs.Fields.{Lacks}
use Rattle.syntax.specs.Spellings.{is_identifier, keywords}
use Rattle.image.specs.declared.names.ConditionName.{ConditionName}
use Rattle.image_reader.specs.Grammar as g
use Rattle.asm_format.specs.Text.{head_line, direction, device_line, event_line, ceiling_text, monitor_line, condition_line, field}
use Rattle.text_fields.specs.Front.{Front, begins, moved, noted}
use Rattle.asm_lines.specs.Names.{is_in_word, word_len, may_be_name, name_read, named_read, head_read, direction_read, device_read, event_read, below_none, ceiling_read, monitor_read, placed, condition_read}
use Rattle.asm_law.proofs.Took.{Place, Start, Within, Takes, on, shown, note, Holds, went, failed, next, choice, mapped}
use Rattle.asm_law.proofs.Passing.{Passes, within, inside, other_line, moved_over, skip_took, end_took}
use Rattle.asm_law.proofs.SoundNumbers.{both_true, fine_of, IsIn, any_u32, any_u16, IsRead, numeral_took, field_took}

-- ---- names

no_feed : (b : ℕ) → is_in_word b ≡ true → b ≢ 10
no_feed b h same =
    let p = and_parts (not (b == 32)) (not (b == 10)) h in
    absurd (let e : (b == 10) ≡ true = eq-eqb b 10 same in let f : not true ≡ true = ap not (sym e) ∙ p.1 in cc)

word_lacks : (bytes : List ℕ) → Lacks 10 (take (word_len bytes) bytes)
word_lacks [] = tt
word_lacks (b ∷ bs) = by (is_in_word b) refl (word_lacks bs) where
  by : (t : Bool) → is_in_word b ≡ t → Lacks 10 (take (word_len bs) bs) → Lacks 10 (take (cond t (1 + word_len bs) 0) (b ∷ bs))
  by true h ih = subst (λ n. Lacks 10 (take n (b ∷ bs))) (let e : suc (word_len bs) ≡ 1 + word_len bs = omega arith in e) (no_feed b h, ih)
  by false h ih = tt

abbrev pub IsName : List (List ℕ) → List ℕ → Type 0
IsName taken name = (g.name_format taken).is name ≡ true

name_is : (taken : List (List ℕ)) (name : List ℕ) → may_be_name taken name ≡ true → IsName taken name
name_is taken name h =
    let p = and_parts (nat_le (length name) 63) (is_identifier name && not (g.has keywords name) && not (g.has taken name)) h in
    let long : length name ≤ 63 = leb-true (length name) 63 p.0 in
    both_true
    (both_true (both_true (lt-ltb (length name) 256 (omega (arith, long))) (fine_of 4 (both_true (le-leb 0 (length name) (omega arith)) p.0))) (eq-eqb (length name) (length name) refl))
    (fine_of 5 p.1)

name_took : (taken : List (List ℕ)) (s : Front) → Holds (λ z. Takes Within Within 0 s z.1 z.0 (IsName taken z.0)) (name_read taken s)
unfolding name_read
name_took taken s =
    choice (nat_lt 0 (word_len s.rest)) (λ h. let noticed = note (may_be_name taken (take (word_len s.rest) s.rest)) took in went (shown noticed refl (λ held. name_is taken (take (word_len s.rest) s.rest) held.1))) (λ h. failed)
  where
    took : Takes Within Within 0 s (moved s (drop (word_len s.rest) s.rest)) (take (word_len s.rest) s.rest) (Unit {0})
    took = moved_over s (take (word_len s.rest) s.rest) (drop (word_len s.rest) s.rest) (within (take (word_len s.rest) s.rest) (word_lacks s.rest)) (sym (take-append-drop (word_len s.rest) s.rest)) tt

pub named_took : {p : Place} {k : ℕ} (label : List ℕ) (taken : List (List ℕ)) (s : Front) → Passes p Within label k → Holds (λ z. Takes p Within k s z.1 (label ++ z.0) (IsName taken z.0)) (named_read label taken s)
unfolding named_read
named_took label taken s passing = next (skip_took label s passing) (λ t a. mapped (λ z b. let took = on a b in shown took refl (λ held. held.1)) (name_took taken t))

-- ---- the head

pub head_took : (s : Front) → Holds (λ z. Takes Start Start 0 s z.1 (head_line z.0.0 z.0.1) (IsName [] z.0.0 × IsIn 0 1000 z.0.1)) (head_read s)
unfolding head_read
head_took s =
    next (named_took (codes "image ") [] s (other_line (codes "image ") refl)) (λ name a. next (field_took (codes " overhead ") 0 1000 name.1 (inside (codes " overhead ") refl)) (λ over b.
    next (end_took over.1) (λ t c. let took = on a (on b c) in went (shown took refl (λ held. (held.0, held.1.0))))))

-- ---- devices and events

abbrev out_text : Bool → List ℕ
out_text true = codes " out"
out_text false = codes " in"

out_line : (out : Bool) → out_text out ++ codes "\n" ≡ direction out
out_line true = refl
out_line false = refl

direction_took : (s : Front) → Holds (λ z. Takes Within Within 0 s z.1 (out_text z.0) (Unit {0})) (direction_read s)
direction_took s =
    choice (begins (codes " out") s.rest) (λ h. next (skip_took (codes " out") s (inside (codes " out") refl)) (λ t a. went a))
    (λ h. next (skip_took (codes " in") s (inside (codes " in") refl)) (λ t a. went a))

pub device_took : (taken : List (List ℕ)) (s : Front) → Holds (λ z. Takes Start Start 0 s z.1 (device_line z.0) ((g.device_format taken).is z.0 ≡ true)) (device_read taken s)
unfolding device_read
device_took taken s =
    next (named_took (codes "device ") taken s (other_line (codes "device ") refl)) (λ name a. next (direction_took name.1) (λ out b. next (end_took out.1) (λ t c.
    let took = on a (on b c) in
    went (shown took (ap (λ (xs : List ℕ). codes "device " ++ (name.0 ++ xs)) (out_line out.0)) (λ held. both_true held.0 refl)))))

pub event_took : (taken : List (List ℕ)) (s : Front) → Holds (λ z. Takes Start Start 0 s z.1 (event_line z.0) (IsName taken z.0)) (event_read taken s)
unfolding event_read
event_took taken s =
    next (named_took (codes "event ") taken s (other_line (codes "event ") refl)) (λ name a. next (end_took name.1) (λ t b. let took = on a b in went (shown took refl (λ held. held.0))))

-- ---- monitors

not_none : (c : ℕ) → c < 65535 → (c == 65535) ≡ false
not_none c low = by (c == 65535) refl where
  by : (t : Bool) → (c == 65535) ≡ t → t ≡ false
  by true h = absurd (let e : c ≡ 65535 = eqb-true c 65535 h in omega (arith, low, e))
  by false h = refl

abbrev Ceiling : Front → ℕ × Front → Type 0
Ceiling s z = Takes Within Within 0 s z.1 (codes " ceiling " ++ ceiling_text z.0) (z.0 < 2 ^ 16)

-- a number behind the label
abbrev IsCeiling : Front → Option ℕ × Front → Type 0
IsCeiling s x = (n : ℕ) → x.0 ≡ Some n → Takes Within Within 0 s x.1 (codes " ceiling " ++ decimal n) (n < 2 ^ 32)

below_took : (s t : Front) (o : Option ℕ) → IsCeiling s (o, t) → Holds (Ceiling s) (below_none o t)
below_took s t None read = failed
below_took s t (Some c) read = choice (nat_lt c 65535) (λ h. went (numbered (ltb-true c 65535 h))) (λ h. failed) where
  numbered : c < 65535 → Ceiling s (c, t)
  numbered low =
      let same : decimal c ≡ ceiling_text c = rw (not_none c low) refl in
      shown (read c refl) (ap (λ (xs : List ℕ). codes " ceiling " ++ xs) same) (λ held. (let below : c < 2 ^ 16 = omega (arith, low) in below))

ceiling_took : (s : Front) → Holds (Ceiling s) (ceiling_read s)
unfolding ceiling_read
ceiling_took s =
    choice (begins (codes " ceiling none") s.rest)
    (λ h. next (skip_took (codes " ceiling none") s (inside (codes " ceiling none") refl)) (λ t a. went (shown a refl (λ held. (let below : 65535 < 2 ^ 16 = omega arith in below)))))
    (λ h. next (next (skip_took (codes " ceiling ") s (inside (codes " ceiling ") refl)) (λ t a. mapped (behind t a) (numeral_took t))) (λ x read. below_took s x.1 x.0 read))
  where
    behind : (t : Front) → Takes Within Within 0 s t (codes " ceiling ") (Unit {0}) → (x : Option ℕ × Front) → IsRead t x → IsCeiling s x
    behind t a x read n is = let took = on a (read n is) in shown took refl (λ held. held.1)

pub monitor_took : (taken : List (List ℕ)) (s : Front) → Holds (λ z. Takes Start Start 0 s z.1 (monitor_line z.0.0 z.0.1) ((g.named_monitor_format taken).is z.0 ≡ true)) (monitor_read taken s)
unfolding monitor_read
monitor_took taken s =
    next (named_took (codes "monitor ") taken s (other_line (codes "monitor ") refl)) (λ name a. next (field_took (codes " base ") 0 4294967295 name.1 (inside (codes " base ") refl)) (λ base b.
    next (field_took (codes " words ") 0 4294967295 base.1 (inside (codes " words ") refl)) (λ words c. next (ceiling_took words.1) (λ ceiling d. next (end_took ceiling.1) (λ t e.
    let took = on a (on b (on c (on d e))) in
    went (shown took refl (λ held. both_true held.0 (both_true (any_u32 0 4294967295 base.0 held.1.0) (both_true (any_u32 0 4294967295 words.0 held.1.1.0) (lt-ltb ceiling.0 (2 ^ 16) held.1.1.1.0))))))))))

-- ---- conditions

placed_took : (taken : List (List ℕ)) (monitors : ℕ) (earlier : List ConditionName) (name : List ℕ) (s r t : Front) (mon : ℕ)
    → Takes Start Within 0 s r (codes "condition " ++ name) (IsName taken name) → Takes Within Within 0 r t (field (codes " ") mon) (IsIn 0 65535 mon)
    → Holds (λ z. Takes Start Start 0 s z.1 (condition_line z.0) ((g.condition_format taken monitors earlier).is z.0 ≡ true)) (placed monitors earlier name (mon, t))
placed_took taken monitors earlier name s r t mon a b =
    let c : ConditionName = record { name = name; mon = mon } in
    let there = note (not (g.is_again earlier c)) (note (nat_lt mon monitors) b) in
    next (end_took (noted (noted t (nat_lt mon monitors)) (not (g.is_again earlier c)))) (λ u e.
    let took = on a (on there e) in
    went (shown took refl (λ held. both_true (both_true held.0 (both_true (any_u16 0 mon held.1.0.0.0) (fine_of 4 held.1.0.0.1))) (fine_of 5 held.1.0.1))))

pub condition_took : (taken : List (List ℕ)) (monitors : ℕ) (earlier : List ConditionName) (s : Front)
    → Holds (λ z. Takes Start Start 0 s z.1 (condition_line z.0) ((g.condition_format taken monitors earlier).is z.0 ≡ true)) (condition_read taken monitors earlier s)
unfolding condition_read
condition_took taken monitors earlier s =
    next (named_took (codes "condition ") taken s (other_line (codes "condition ") refl)) (λ name a. next (field_took (codes " ") 0 65535 name.1 (inside (codes " ") refl)) (λ mon b.
    placed_took taken monitors earlier name.0 s name.1 mon.1 mon.0 a b))
