-- The lines of instructions.
use Rattle.std.proofs.Common.{◌≡◌, ◌≤◌, ◌<◌, ◌+◌, ◌-◌, ◌^◌, ◌&&◌, ◌||◌, ◌==◌, ◌++◌, ℕ, zero, suc, ℤ, pos, negsuc, Bool, true, false, List, [], ◌∷◌, length, take, drop, Ok, Option, None, Some, refl, sym, ap, ◌∙◌, subst, arith, append_assoc}
use Rattle.std.specs.Prelude.{nat_lt, nat_le, codes, slice_index_or}
use Rattle.std.specs.List.{list_all}
use Rattle.std.specs.Fmt.{signed_decimal}
use Rattle.std.specs.Int.{w32, cast_signed, cast_unsigned}
use Rattle.std.specs.Ordering.{int_eq}
use mir.Val.{sel}
use Rattle.std.proofs.Math.Seq.{take-append_seam, drop-append_seam}
use Rattle.std.proofs.lemmas.Bool.{and_parts, ltb-true, ltb-false, leb-true, le-leb, eqb-true}
use Rattle.std.proofs.lemmas.Bool.Decides.{Decides-int_eq}
use Rattle.machine_isa.specs.declared.instr.Instr.{Instr}
use Rattle.machine_isa.specs.declared.instr.Instr.TheVariants as i
use Rattle.machine_isa.specs.Bytes.{arity, number, operands}
use Rattle.machine_isa.specs.Numbered.{numbered}
use Rattle.image_format.specs.Format.{unless, is_fine}
use Rattle.image_reader.specs.Grammar.{operand, fields_of, fields_format, instr_format, or_end}
use Rattle.asm_format.specs.Mnemonics.{mnemonics, mnemonic, named, operands_text, instr_line}
use Rattle.text_fields.specs.Fields.{Is32}
use Rattle.text_fields.specs.Front.{Front, Read, ◌>>=◌, end_read, line_start}
use Rattle.text_fields.specs.LineFields.{is_digit}
use Rattle.asm_lines.specs.Names.{is_in_word, word_len}
use Rattle.asm_lines.specs.Instrs.{number_of, operand_read, numbered_read, of_number, instr_read}
use Rattle.asm_law.proofs.ReadsNumbers.{place, Stops, skips, ends, prefix_is, signed_reads}
use Rattle.image_reader_law.proofs.ImageFaultsFields.{is_word, fine_is}
use Rattle.image_reader_law.proofs.ImageSoundInstructions.{number_format}

-- ---- an instruction by its number and its operands

pub record Spelled (instr : Instr) : Type 0 where
  pub a : ℤ
  pub b : ℤ
  pub c : ℤ
  pub operands_are : operands instr ≡ a ∷ b ∷ c ∷ []
  pub numbered_is : numbered (number instr) a b c ≡ Some instr
  pub in_range : (nat_le 1 (number instr) && nat_le (number instr) 48) ≡ true

pub spelled : (instr : Instr) → Spelled instr
spelled (i.Push value) = record { a = value; b = pos 0; c = pos 0; operands_are = refl; numbered_is = refl; in_range = refl }
spelled (i.LoadLocal word) = record { a = word; b = pos 0; c = pos 0; operands_are = refl; numbered_is = refl; in_range = refl }
spelled (i.StoreLocal word) = record { a = word; b = pos 0; c = pos 0; operands_are = refl; numbered_is = refl; in_range = refl }
spelled (i.LoadOwn word) = record { a = word; b = pos 0; c = pos 0; operands_are = refl; numbered_is = refl; in_range = refl }
spelled (i.StoreOwn word) = record { a = word; b = pos 0; c = pos 0; operands_are = refl; numbered_is = refl; in_range = refl }
spelled (i.LoadMon word) = record { a = word; b = pos 0; c = pos 0; operands_are = refl; numbered_is = refl; in_range = refl }
spelled (i.StoreMon word) = record { a = word; b = pos 0; c = pos 0; operands_are = refl; numbered_is = refl; in_range = refl }
spelled (i.LoadLocalAt word low len) = record { a = word; b = low; c = len; operands_are = refl; numbered_is = refl; in_range = refl }
spelled (i.StoreLocalAt word low len) = record { a = word; b = low; c = len; operands_are = refl; numbered_is = refl; in_range = refl }
spelled (i.LoadOwnAt word low len) = record { a = word; b = low; c = len; operands_are = refl; numbered_is = refl; in_range = refl }
spelled (i.StoreOwnAt word low len) = record { a = word; b = low; c = len; operands_are = refl; numbered_is = refl; in_range = refl }
spelled (i.LoadMonAt word low len) = record { a = word; b = low; c = len; operands_are = refl; numbered_is = refl; in_range = refl }
spelled (i.StoreMonAt word low len) = record { a = word; b = low; c = len; operands_are = refl; numbered_is = refl; in_range = refl }
spelled i.Neg = record { a = pos 0; b = pos 0; c = pos 0; operands_are = refl; numbered_is = refl; in_range = refl }
spelled i.Not = record { a = pos 0; b = pos 0; c = pos 0; operands_are = refl; numbered_is = refl; in_range = refl }
spelled i.And = record { a = pos 0; b = pos 0; c = pos 0; operands_are = refl; numbered_is = refl; in_range = refl }
spelled i.Or = record { a = pos 0; b = pos 0; c = pos 0; operands_are = refl; numbered_is = refl; in_range = refl }
spelled i.Add = record { a = pos 0; b = pos 0; c = pos 0; operands_are = refl; numbered_is = refl; in_range = refl }
spelled i.Sub = record { a = pos 0; b = pos 0; c = pos 0; operands_are = refl; numbered_is = refl; in_range = refl }
spelled i.Eq = record { a = pos 0; b = pos 0; c = pos 0; operands_are = refl; numbered_is = refl; in_range = refl }
spelled i.Ne = record { a = pos 0; b = pos 0; c = pos 0; operands_are = refl; numbered_is = refl; in_range = refl }
spelled i.Lt = record { a = pos 0; b = pos 0; c = pos 0; operands_are = refl; numbered_is = refl; in_range = refl }
spelled i.Le = record { a = pos 0; b = pos 0; c = pos 0; operands_are = refl; numbered_is = refl; in_range = refl }
spelled i.Gt = record { a = pos 0; b = pos 0; c = pos 0; operands_are = refl; numbered_is = refl; in_range = refl }
spelled i.Ge = record { a = pos 0; b = pos 0; c = pos 0; operands_are = refl; numbered_is = refl; in_range = refl }
spelled i.Mul = record { a = pos 0; b = pos 0; c = pos 0; operands_are = refl; numbered_is = refl; in_range = refl }
spelled i.Div = record { a = pos 0; b = pos 0; c = pos 0; operands_are = refl; numbered_is = refl; in_range = refl }
spelled i.Mod = record { a = pos 0; b = pos 0; c = pos 0; operands_are = refl; numbered_is = refl; in_range = refl }
spelled (i.Range low high) = record { a = low; b = high; c = pos 0; operands_are = refl; numbered_is = refl; in_range = refl }
spelled (i.JumpZero to) = record { a = to; b = pos 0; c = pos 0; operands_are = refl; numbered_is = refl; in_range = refl }
spelled (i.Jump to) = record { a = to; b = pos 0; c = pos 0; operands_are = refl; numbered_is = refl; in_range = refl }
spelled (i.Repeats turns) = record { a = turns; b = pos 0; c = pos 0; operands_are = refl; numbered_is = refl; in_range = refl }
spelled (i.Repeat to) = record { a = to; b = pos 0; c = pos 0; operands_are = refl; numbered_is = refl; in_range = refl }
spelled (i.Exit to) = record { a = to; b = pos 0; c = pos 0; operands_are = refl; numbered_is = refl; in_range = refl }
spelled (i.Call routine) = record { a = routine; b = pos 0; c = pos 0; operands_are = refl; numbered_is = refl; in_range = refl }
spelled i.Return = record { a = pos 0; b = pos 0; c = pos 0; operands_are = refl; numbered_is = refl; in_range = refl }
spelled i.ReturnValue = record { a = pos 0; b = pos 0; c = pos 0; operands_are = refl; numbered_is = refl; in_range = refl }
spelled (i.Enter monitor) = record { a = monitor; b = pos 0; c = pos 0; operands_are = refl; numbered_is = refl; in_range = refl }
spelled (i.Leave monitor) = record { a = monitor; b = pos 0; c = pos 0; operands_are = refl; numbered_is = refl; in_range = refl }
spelled (i.Wait condition limit raised) = record { a = condition; b = limit; c = raised; operands_are = refl; numbered_is = refl; in_range = refl }
spelled (i.Reenter monitor) = record { a = monitor; b = pos 0; c = pos 0; operands_are = refl; numbered_is = refl; in_range = refl }
spelled (i.Signal condition) = record { a = condition; b = pos 0; c = pos 0; operands_are = refl; numbered_is = refl; in_range = refl }
spelled (i.Broadcast condition) = record { a = condition; b = pos 0; c = pos 0; operands_are = refl; numbered_is = refl; in_range = refl }
spelled (i.Empty condition) = record { a = condition; b = pos 0; c = pos 0; operands_are = refl; numbered_is = refl; in_range = refl }
spelled (i.In device) = record { a = device; b = pos 0; c = pos 0; operands_are = refl; numbered_is = refl; in_range = refl }
spelled (i.Out device) = record { a = device; b = pos 0; c = pos 0; operands_are = refl; numbered_is = refl; in_range = refl }
spelled (i.Raise raised) = record { a = raised; b = pos 0; c = pos 0; operands_are = refl; numbered_is = refl; in_range = refl }
spelled i.End = record { a = pos 0; b = pos 0; c = pos 0; operands_are = refl; numbered_is = refl; in_range = refl }

-- ---- their names

abbrev is_there : Option ℕ → ℕ → Bool
is_there None n = false
is_there (Some m) n = m == n

there : (found : Option ℕ) (n : ℕ) → is_there found n ≡ true → found ≡ Some n
there None n h = cc
there (Some m) n h = ap (λ k. Some k) (eqb-true m n h)

abbrev pub starts_upper : List ℕ → Bool
starts_upper [] = false
starts_upper (b ∷ bs) = nat_le 65 b && nat_le b 90

-- a word whose place is this
abbrev is_found : ℕ → List ℕ → Bool
is_found n word = list_all is_in_word word && starts_upper word && is_there (number_of word) n

abbrev are_found : ℕ → List (List ℕ) → Bool
are_found n [] = true
are_found n (word ∷ words) = is_found n word && are_found (n + 1) words

all_found : are_found 1 mnemonics ≡ true
all_found = refl

found_in : (n k : ℕ) (words : List (List ℕ)) → are_found n words ≡ true → k < length words → is_found (n + k) (slice_index_or words k []) ≡ true
found_in n k [] h low = absurd (omega (arith, low))
found_in n zero (word ∷ words) h low = subst (λ m. is_found m word ≡ true) (let e : n ≡ n + zero = omega arith in e) (and_parts (is_found n word) (are_found (n + 1) words) h).0
found_in n (suc k) (word ∷ words) h low =
    subst (λ m. is_found m (slice_index_or words k []) ≡ true) (let e : n + 1 + k ≡ n + suc k = omega arith in e)
    (found_in (n + 1) k words (and_parts (is_found n word) (are_found (n + 1) words) h).1 (omega (arith, low)))

pub record IsMnemonic (n : ℕ) (word : List ℕ) : Type 0 where
  pub bytes : list_all is_in_word word ≡ true
  pub upper : starts_upper word ≡ true
  pub found : number_of word ≡ Some n

pub mnemonic_is : (n : ℕ) → 1 ≤ n → n ≤ 48 → IsMnemonic n (mnemonic n)
mnemonic_is n low high =
    let h = found_in 1 (n - 1) mnemonics all_found (omega (arith, low, high)) in
    let here : is_found n (mnemonic n) ≡ true = subst (λ m. is_found m (mnemonic n) ≡ true) (let e : 1 + (n - 1) ≡ n = omega (arith, low) in e) h in
    let p = and_parts (list_all is_in_word (mnemonic n) && starts_upper (mnemonic n)) (is_there (number_of (mnemonic n)) n) here in
    let q = and_parts (list_all is_in_word (mnemonic n)) (starts_upper (mnemonic n)) p.0 in
    record { bytes = q.0; upper = q.1; found = there (number_of (mnemonic n)) n p.1 }

pub name_is : (instr : Instr) → IsMnemonic (number instr) (mnemonic (number instr))
name_is instr =
    let n = number instr in
    let range = and_parts (nat_le 1 n) (nat_le n 48) (spelled instr).in_range in
    mnemonic_is n (leb-true 1 n range.0) (leb-true n 48 range.1)

-- a name and what follows it
word_reads : (word after : List ℕ) (n start : ℕ) → IsMnemonic n word → Stops is_in_word after → instr_read (place start (word ++ after)) ≡ numbered_read n (place start after)
unfolding instr_read
word_reads word after n start is stops =
    let len : word_len (word ++ after) ≡ length word = prefix_is is_in_word word after is.bytes stops in
    let front : take (word_len (word ++ after)) (word ++ after) ≡ word = ap (λ k. take k (word ++ after)) len ∙ take-append_seam word after in
    let back : drop (word_len (word ++ after)) (word ++ after) ≡ after = ap (λ k. drop k (word ++ after)) len ∙ drop-append_seam word after in
    ap (λ w. of_number (number_of w) (place start (drop (word_len (word ++ after)) (word ++ after)))) front ∙ ap (λ t. of_number (number_of word) (place start t)) back
    ∙ ap (λ o. of_number o (place start after)) is.found

-- ---- their operands

is_32 : (z : ℤ) → int_eq z (cast_signed w32 (cast_unsigned w32 z)) ≡ true → Is32 z
is_32 (pos n) h = by (nat_lt n (2 ^ 31)) refl ((Decides-int_eq (pos n) (cast_signed w32 n)).0 h) where
  by : (b : Bool) → nat_lt n (2 ^ 31) ≡ b → pos n ≡ sel b (pos n) (negsuc (2 ^ 32 - suc n)) → n < 2 ^ 31
  by true low e = ltb-true n (2 ^ 31) low
  by false low e = absurd cc
is_32 (negsuc n) h = by (nat_lt (2 ^ 32 - suc n) (2 ^ 31)) refl ((Decides-int_eq (negsuc n) (cast_signed w32 (2 ^ 32 - suc n))).0 h) where
  by : (b : Bool) → nat_lt (2 ^ 32 - suc n) (2 ^ 31) ≡ b → negsuc n ≡ sel b (pos (2 ^ 32 - suc n)) (negsuc (2 ^ 32 - suc (2 ^ 32 - suc n))) → n < 2 ^ 31
  by true low e = absurd cc
  by false low e = let above : 2 ^ 31 ≤ 2 ^ 32 - suc n = ltb-false (2 ^ 32 - suc n) (2 ^ 31) low in omega (arith, above)

word_of : (is_named : Bool) (z : ℤ) → (operand is_named).is z ≡ true → Is32 z
word_of is_named z h = is_32 z (and_parts (is_word z) (is_fine (unless (is_named || int_eq z (pos 0)) 7)) h).0

none_of : (z : ℤ) → (operand false).is z ≡ true → z ≡ pos 0
none_of z h = (Decides-int_eq z (pos 0)).0 (fine_is (int_eq z (pos 0)) 7 (and_parts (is_word z) (is_fine (unless (int_eq z (pos 0)) 7)) h).1)

operand_reads : (z : ℤ) (start : ℕ) (rest : List ℕ) → Is32 z → Stops is_digit rest → operand_read true (place start (codes " " ++ (signed_decimal z ++ rest))) ≡ Ok (z, place start rest)
unfolding operand_read
operand_reads z start rest small stops = rw (skips (codes " ") start (signed_decimal z ++ rest), signed_reads z start rest small stops) refl

operand_none : (s : Front) → operand_read false s ≡ Ok (pos 0, s)
unfolding operand_read
operand_none s = refl

-- so many operands
abbrev operands_read : (make : ℤ → ℤ → ℤ → Instr) → (first second third : Bool) → Front → Read Instr
operands_read make first second third s =
    operand_read first s >>= λ a. operand_read second a.1 >>= λ b. operand_read third b.1 >>= λ c. end_read c.1 >>= λ t. Ok (make a.0 b.0 c.0, t)

as_operands : (n : ℕ) (s : Front) → numbered_read n s ≡ operands_read (λ a b c. or_end (numbered n a b c)) (nat_le 1 (arity n)) (nat_le 2 (arity n)) (nat_le 3 (arity n)) s
unfolding numbered_read
as_operands n s = refl

take_none : (k : ℕ) → take {A = ℤ} k [] ≡ []
take_none zero = refl
take_none (suc k) = refl

module _ (make : ℤ → ℤ → ℤ → Instr) (a b c : ℤ) (start : ℕ) (rest : List ℕ) where
  abbrev at_end : List ℕ
  at_end = codes "\n" ++ rest

  abbrev after : ℤ → List ℕ → List ℕ
  after z more = codes " " ++ (signed_decimal z ++ more)

  none_read : (operand false).is a ≡ true → (operand false).is b ≡ true → (operand false).is c ≡ true → operands_read make false false false (place start at_end) ≡ Ok (make a b c, line_start rest)
  none_read p q r = rw (operand_none (place start at_end), operand_none (place start at_end), operand_none (place start at_end), ends start rest, none_of a p, none_of b q, none_of c r) refl

  one_read : Is32 a → (operand false).is b ≡ true → (operand false).is c ≡ true → operands_read make true false false (place start (after a at_end)) ≡ Ok (make a b c, line_start rest)
  one_read p q r = rw (operand_reads a start at_end p refl, operand_none (place start at_end), operand_none (place start at_end), ends start rest, none_of b q, none_of c r) refl

  two_read : Is32 a → Is32 b → (operand false).is c ≡ true → operands_read make true true false (place start (after a (after b at_end))) ≡ Ok (make a b c, line_start rest)
  two_read p q r = rw (operand_reads a start (after b at_end) p refl, operand_reads b start at_end q refl, operand_none (place start at_end), ends start rest, none_of c r) refl

  three_read : Is32 a → Is32 b → Is32 c → operands_read make true true true (place start (after a (after b (after c at_end)))) ≡ Ok (make a b c, line_start rest)
  three_read p q r = rw (operand_reads a start (after b (after c at_end)) p refl, operand_reads b start (after c at_end) q refl, operand_reads c start at_end r refl, ends start rest) refl

  by_arity : (k : ℕ) → (operand (nat_le 1 k)).is a ≡ true → (operand (nat_le 2 k)).is b ≡ true → (operand (nat_le 3 k)).is c ≡ true
      → operands_read make (nat_le 1 k) (nat_le 2 k) (nat_le 3 k) (place start (operands_text (take k (a ∷ b ∷ c ∷ [])) ++ rest)) ≡ Ok (make a b c, line_start rest)
  by_arity zero p q r = none_read p q r
  by_arity (suc zero) p q r =
      let same : operands_text (a ∷ []) ++ rest ≡ after a at_end = simp append_assoc in
      ap (λ t. operands_read make true false false (place start t)) same ∙ one_read (word_of true a p) q r
  by_arity (suc (suc zero)) p q r =
      let same : operands_text (a ∷ b ∷ []) ++ rest ≡ after a (after b at_end) = simp append_assoc in
      ap (λ t. operands_read make true true false (place start t)) same ∙ two_read (word_of true a p) (word_of true b q) r
  by_arity (suc (suc (suc k))) p q r =
      let one : nat_le 1 (suc (suc (suc k))) ≡ true = le-leb 1 (suc (suc (suc k))) (omega arith) in
      let two : nat_le 2 (suc (suc (suc k))) ≡ true = le-leb 2 (suc (suc (suc k))) (omega arith) in
      let three : nat_le 3 (suc (suc (suc k))) ≡ true = le-leb 3 (suc (suc (suc k))) (omega arith) in
      let text = operands_text (take (suc (suc (suc k))) (a ∷ b ∷ c ∷ [])) ++ rest in
      let all : operands_text (a ∷ b ∷ c ∷ []) ++ rest ≡ after a (after b (after c at_end)) = simp append_assoc in
      let same : text ≡ after a (after b (after c at_end)) = ap (λ (zs : List ℤ). operands_text (a ∷ b ∷ c ∷ zs) ++ rest) (take_none k) ∙ all in
      ap (λ n. operands_read make n (nat_le 2 (suc (suc (suc k)))) (nat_le 3 (suc (suc (suc k)))) (place start text)) one
      ∙ ap (λ n. operands_read make true n (nat_le 3 (suc (suc (suc k)))) (place start text)) two ∙ ap (λ n. operands_read make true true n (place start text)) three
      ∙ ap (λ t. operands_read make true true true (place start t)) same
      ∙ three_read (word_of (nat_le 1 (suc (suc (suc k)))) a p) (word_of (nat_le 2 (suc (suc (suc k)))) b q) (word_of (nat_le 3 (suc (suc (suc k)))) c r)

-- ---- the line

operands_stop : (zs : List ℤ) (rest : List ℕ) → Stops is_in_word (operands_text zs ++ rest)
operands_stop [] rest = refl
operands_stop (z ∷ zs) rest = refl

-- the operands of an instruction, of which each that is not named is 0
record AreOperands (n : ℕ) (a b c : ℤ) : Type 0 where
  first : (operand (nat_le 1 (arity n))).is a ≡ true
  second : (operand (nat_le 2 (arity n))).is b ≡ true
  third : (operand (nat_le 3 (arity n))).is c ≡ true

its_operands : (instr : Instr) → instr_format.is instr ≡ true → AreOperands (number instr) (spelled instr).a (spelled instr).b (spelled instr).c
its_operands instr h =
    let n = number instr in
    let s = spelled instr in
    let is : fields_format.is (n, (s.a, (s.b, s.c))) ≡ true = subst (λ (zs : List ℤ). fields_format.is (fields_of zs n) ≡ true) s.operands_are h in
    let third_is = (operand (nat_le 3 (arity n))).is s.c in
    let second_is = (operand (nat_le 2 (arity n))).is s.b in
    let first_is = (operand (nat_le 1 (arity n))).is s.a in
    let first = and_parts first_is (second_is && third_is) (and_parts (number_format.is n) (first_is && (second_is && third_is)) is).1 in
    let second = and_parts second_is third_is first.1 in
    record { first = first.0; second = second.0; third = second.1 }

abbrev pub AreSmall : List ℤ → Type 0
AreSmall [] = Unit {0}
AreSmall (z ∷ zs) = Is32 z × AreSmall zs

small_front : (k : ℕ) (zs : List ℤ) → AreSmall zs → AreSmall (take k zs)
small_front zero zs h = tt
small_front (suc k) [] h = tt
small_front (suc k) (z ∷ zs) h = (h.0, small_front k zs h.1)

pub named_small : (instr : Instr) → instr_format.is instr ≡ true → AreSmall (named instr)
named_small instr h =
    let n = number instr in
    let s = spelled instr in
    let are = its_operands instr h in
    let all : AreSmall (s.a ∷ s.b ∷ s.c ∷ []) = (word_of (nat_le 1 (arity n)) s.a are.first, (word_of (nat_le 2 (arity n)) s.b are.second, (word_of (nat_le 3 (arity n)) s.c are.third, tt))) in
    subst (λ (zs : List ℤ). AreSmall (take (arity n) zs)) (sym s.operands_are) (small_front (arity n) (s.a ∷ s.b ∷ s.c ∷ []) all)

pub instr_reads : (instr : Instr) (rest : List ℕ) → instr_format.is instr ≡ true → instr_read (line_start (instr_line instr ++ rest)) ≡ Ok (instr, line_start rest)
instr_reads instr rest h =
    let n = number instr in
    let s = spelled instr in
    let are = its_operands instr h in
    let make : ℤ → ℤ → ℤ → Instr = λ a b c. or_end (numbered n a b c) in
    let after = operands_text (named instr) ++ rest in
    let text = mnemonic n ++ after in
    let same : instr_line instr ++ rest ≡ text = append_assoc (mnemonic n) (operands_text (named instr)) rest in
    ap (λ t. instr_read (line_start t)) same ∙ word_reads (mnemonic n) after n (length text) (name_is instr) (operands_stop (named instr) rest) ∙ as_operands n (place (length text) after)
    ∙ ap (λ (zs : List ℤ). operands_read make (nat_le 1 (arity n)) (nat_le 2 (arity n)) (nat_le 3 (arity n)) (place (length text) (operands_text (take (arity n) zs) ++ rest))) s.operands_are
    ∙ by_arity make s.a s.b s.c (length text) rest (arity n) are.first are.second are.third ∙ ap (λ (o : Option Instr). Ok (or_end o, line_start rest)) s.numbered_is
