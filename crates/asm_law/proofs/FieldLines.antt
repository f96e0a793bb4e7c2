-- The layout tells what reading tells: lines of names, and of instructions.
use Rattle.std.proofs.Common.{◌≡◌, ◌⊎◌, inl, inr, ◌^◌, ℕ, zero, suc, List, [], take, drop, Ok, Err, Option, Some, None, arith, refl, ap, sym, ◌∙◌, true, false, Bool}
use Rattle.std.specs.Prelude.{ℤ, pos, negsuc, codes, nat_le, nat_lt, if◌then◌else◌}
use Rattle.std.proofs.lemmas.Bool.{cases_Bool, ltb-false}
use Rattle.machine_isa.specs.Bytes.{arity}
use Rattle.image.specs.declared.names.ConditionName.{ConditionName}
use Rattle.text_fields.specs.declared.fault.FieldFault.{FieldFault}
use Rattle.text_fields.specs.Front.{Front, Read, ◌>>=◌, no_form, begins, moved, noted, skip}
use Rattle.text_fields.specs.LineFields as fields
use Rattle.text_fields.specs.LineFields.{numeral_read, signed_read}
use Rattle.asm_lines.specs.Names as n
use Rattle.asm_lines.specs.Names.{word_len}
use Rattle.asm_lines.specs.Instrs as i
use Rattle.asm_law.specs.Notes as notes
use Rattle.asm_law.specs.Layout as l
use Rattle.asm_law.specs.Layout.{Layout, done, word, choice, numeral, note, ends}
use Rattle.asm_law.proofs.Table.{holds}
use Rattle.asm_law.proofs.Walks.{walk}
use Rattle.asm_law.proofs.Reading.{follow, told, Reads, Skips, chain, pass, step, a_word, an_end, a_numeral, a_field, a_named, noted_true}

-- ---- choices, notes, and words before other things

pub a_choice : {A : Type 0} (w : List ℕ) (a b : Layout) (s : Front) (r q : Read A) (h : A → Front → Option FieldFault) → told a s ≡ follow r h → told b s ≡ follow q h
    → told (choice w a b) s ≡ follow (if begins w s.rest then r else q) h
unfolding told
a_choice w a b s r q h first second = by (begins w s.rest) where
  by : (c : Bool) → (if c then walk a s else walk b s) ≡ follow (if c then r else q) h
  by true = first
  by false = second

pub a_note : (x : notes.Note) (k : Layout) (s : Front) → told (note x k) s ≡ told k (noted s (holds x))
unfolding told
a_note x k s = refl

pub behind : {A B : Type 0} (w : List ℕ) (f : Front → Read A) (t : A → B) (m : (B → Layout) → Layout) → Reads f t m → Reads (λ s. skip w s >>= f) t (λ k. word w (m k))
behind w f t m reads k = step (skip w) (word w) _ f _ (a_word w) (λ s. reads k s)

pub behind_skips : {A : Type 0} (w : List ℕ) (f : Front → Read A) (m : Layout → Layout) → Skips f m → Skips (λ s. skip w s >>= f) (λ k. word w (m k))
behind_skips w f m skips k = step (skip w) (word w) _ f _ (a_word w) (λ s. skips k s)

pub as_skip : {A B : Type 0} (f : Front → Read A) (t : A → B) (m : (B → Layout) → Layout) → Reads f t m → Skips f (λ k. m (λ x. k))
as_skip f t m reads k s = reads (λ x. k) s

-- ---- devices, events, monitors and conditions

a_direction : Skips n.direction_read (λ k. choice (codes " out") (word (codes " out") k) (word (codes " in") k))
a_direction k s =
    a_choice _ _ _ s _ _ _ (step _ _ _ (λ t. Ok (true, t)) _ (a_word (codes " out")) (λ s. refl) s) (step _ _ _ (λ t. Ok (false, t)) _ (a_word (codes " in")) (λ s. refl) s)

pub a_device : (taken : List (List ℕ)) → Reads (n.device_read taken) (λ d. d.name) (l.device taken)
unfolding n.device_read
a_device taken k = chain _ _ _ _ _ _ (a_named (codes "device ") taken) (λ name. pass _ _ _ _ _ a_direction (λ out. step _ _ _ _ _ an_end (λ s. refl)))

pub a_event : (taken : List (List ℕ)) → Reads (n.event_read taken) (λ x. x) (l.an_event taken)
unfolding n.event_read
a_event taken k = chain _ _ _ _ _ _ (a_named (codes "event ") taken) (λ name. step _ _ _ _ _ an_end (λ s. refl))

a_below : (o : Option ℕ) (k : Layout) (s : Front) → told (l.below_none o k) s ≡ follow (n.below_none o s) (λ x more. told k more)
unfolding told
a_below None k s = refl
a_below (Some ceiling) k s = by (nat_lt ceiling 65535) where
  by : (b : Bool) → walk (if b then k else l.none) s ≡ follow (if b then Ok (ceiling, s) else Err (no_form s)) (λ x more. walk k more)
  by true = refl
  by false = refl

a_ceiling : Skips n.ceiling_read l.ceiling
unfolding n.ceiling_read
a_ceiling k s =
    a_choice _ _ _ s _ _ _ (step _ _ _ (λ t. Ok (65535, t)) _ (a_word (codes " ceiling none")) (λ s. refl) s)
    (chain (λ s. skip (codes " ceiling ") s >>= numeral_read) (λ o. o) (λ m. word (codes " ceiling ") (numeral m)) (λ o. l.below_none o k) (λ x. n.below_none x.0 x.1) _
    (behind (codes " ceiling ") numeral_read (λ o. o) numeral a_numeral) (λ o s. a_below o k s) s)

pub a_monitor : (taken : List (List ℕ)) → Reads (n.monitor_read taken) (λ m. m.0) (l.monitor taken)
unfolding n.monitor_read
a_monitor taken k =
    chain _ _ _ _ _ _ (a_named (codes "monitor ") taken) (λ name. chain _ _ _ _ _ _ (a_field (codes " base ") 0 4294967295) (λ base. chain _ _ _ _ _ _ (a_field (codes " words ") 0 4294967295) (λ words.
    pass _ l.ceiling _ _ _ a_ceiling (λ ceiling. step _ _ _ _ _ an_end (λ s. refl)))))

pub a_condition : (taken : List (List ℕ)) (monitors : ℕ) (earlier : List ConditionName) → Reads (n.condition_read taken monitors earlier) (λ c. c) (l.condition taken monitors earlier)
unfolding n.condition_read
a_condition taken monitors earlier k =
    chain _ _ _ _ _ _ (a_named (codes "condition ") taken) (λ name. chain _ _ _ _ (n.placed monitors earlier name) _ (a_field (codes " ") 0 65535) (λ m s.
    a_note _ _ s ∙ (a_note _ _ _ ∙ step _ _ _ (λ t. Ok (record { name = name; mon = m }, t)) _ an_end (λ s. refl) _)))

-- ---- instructions

a_negative : (o : Option ℕ) (k : Layout) (s : Front) → told (l.negative o k) s ≡ follow (fields.negative o s) (λ x more. told k more)
unfolding told
a_negative None k s = refl
a_negative (Some zero) k s = refl
a_negative (Some (suc m)) k s = by (nat_lt m (2 ^ 31)) where
  by : (b : Bool) → walk k (noted s b) ≡ follow (if b then Ok (negsuc m, s) else Ok (pos 0, noted s false)) (λ x more. walk k more)
  by true = noted_true k s
  by false = refl

a_positive : (o : Option ℕ) (k : Layout) (s : Front) → told (note (notes.operand o) k) s ≡ told k (fields.positive o s).1
unfolding told
a_positive None k s = refl
a_positive (Some m) k s = by (nat_lt m (2 ^ 31)) where
  to : Bool → ℤ × Front
  to b = if b then (pos m, s) else (pos 0, noted s false)

  by : (b : Bool) → walk k (noted s b) ≡ walk k (to b).1
  by true = noted_true k s
  by false = refl

a_signed : Skips signed_read l.signed
unfolding signed_read
a_signed k s =
    a_choice _ _ _ s _ _ _
    (chain (λ s. skip (codes "-") s >>= numeral_read) (λ o. o) (λ m. word (codes "-") (numeral m)) (λ o. l.negative o k) (λ x. fields.negative x.0 x.1) _ (behind (codes "-") numeral_read (λ o. o) numeral a_numeral) (λ o s. a_negative o k s) s)
    (chain numeral_read (λ o. o) numeral (λ o. note (notes.operand o) k) (λ x. Ok (fields.positive x.0 x.1)) _ a_numeral (λ o s. a_positive o k s) s)

an_operand : (b : Bool) → Skips (i.operand_read b) (l.operand_named b)
unfolding i.operand_read
an_operand true k s = step _ _ _ signed_read _ (a_word (codes " ")) (λ s. a_signed k s) s
an_operand false k s = refl

numbered : (m : ℕ) → Skips (i.numbered_read m) (l.operands (Some m))
unfolding i.numbered_read
numbered m k =
    pass _ (l.operand_named (nat_le 1 (arity m))) _ _ _ (an_operand (nat_le 1 (arity m))) (λ a. pass _ (l.operand_named (nat_le 2 (arity m))) _ _ _ (an_operand (nat_le 2 (arity m)))
    (λ b. pass _ (l.operand_named (nat_le 3 (arity m))) _ _ _ (an_operand (nat_le 3 (arity m))) (λ c. step _ _ _ _ _ an_end (λ s. refl))))

pub no_such : (s : Front) → told l.none s ≡ Some (no_form s)
unfolding told
no_such s = refl

operands : (o : Option ℕ) (k : Layout) (s : Front) → told (l.operands o k) s ≡ follow (i.of_number o s) (λ x more. told k more)
operands None k s = no_such s
operands (Some m) k s = numbered m k s

no_word : i.number_of [] ≡ None
no_word = refl

pub an_instruction : Skips i.instr_read l.instruction
unfolding i.instr_read told
an_instruction k s = by (cases_Bool (nat_lt 0 (word_len s.rest))) where
  behind_word : Layout
  behind_word = l.operands (i.number_of (take (word_len s.rest) s.rest)) k

  moved_on : Front
  moved_on = moved s (drop (word_len s.rest) s.rest)

  by : (nat_lt 0 (word_len s.rest) ≡ true) ⊎ (nat_lt 0 (word_len s.rest) ≡ false)
      → (if nat_lt 0 (word_len s.rest) then walk behind_word moved_on else Some (no_form s)) ≡ follow (i.of_number (i.number_of (take (word_len s.rest) s.rest)) moved_on) (λ x more. walk k more)
  by (inl is) = ap (λ b. if b then walk behind_word moved_on else Some (no_form s)) is ∙ operands (i.number_of (take (word_len s.rest) s.rest)) k moved_on
  by (inr is) =
      let zero_long : word_len s.rest ≡ 0 = (let h = ltb-false 0 (word_len s.rest) is in omega (arith, h)) in
      ap (λ b. if b then walk behind_word moved_on else Some (no_form s)) is
      ∙ sym (ap (λ m. follow (i.of_number (i.number_of (take m s.rest)) moved_on) (λ x more. walk k more)) zero_long ∙ ap (λ o. follow (i.of_number o moved_on) (λ x more. walk k more)) no_word)
