-- A layout tells of a text what reading tells.
use Rattle.std.proofs.Common.{◌≡◌, ℕ, List, [], length, take, drop, Ok, Err, Result, Option, Some, None, refl, ap, ◌∙◌, true, false, Bool}
use Rattle.std.specs.Prelude.{◌&&◌, codes, nat_le, nat_lt, if◌then◌else◌}
use Rattle.text_fields.specs.declared.fault.FieldFault.{FieldFault}
use Rattle.text_fields.specs.Front.{Front, Read, ◌>>=◌, no_form, out_of_range, begins, moved, noted, skip, end_read, ended, line_start}
use Rattle.text_fields.specs.LineFields.{digits_len, is_numeral, small, value, numeral_read, ranged, number_read, field_read}
use Rattle.asm_lines.specs.Names as n
use Rattle.asm_lines.specs.Names.{word_len, may_be_name}
use Rattle.asm_law.specs.Notes as notes
use Rattle.asm_law.specs.Layout as l
use Rattle.asm_law.specs.Layout.{Layout, word, choice, numeral, name, note, ends, kept}
use Rattle.asm_law.proofs.Walks.{walk, and_true}

abbrev pub follow : {A : Type 0} → Read A → (A → Front → Option FieldFault) → Option FieldFault
follow (Ok x) then_is = then_is x.0 x.1
follow (Err e) then_is = Some e

abbrev pub go_on : Result Front FieldFault → (Front → Option FieldFault) → Option FieldFault
go_on (Ok s) then_is = then_is s
go_on (Err e) then_is = Some e

unfoldable pub told : Layout → Front → Option FieldFault
told l s = walk l s

-- what is read goes on as this, of which t is told
abbrev pub Reads : {A B : Type 0} → (Front → Read A) → (A → B) → ((B → Layout) → Layout) → Type 0
Reads f t l = (k : _ → Layout) (s : Front) → told (l k) s ≡ follow (f s) (λ x more. told (k (t x)) more)

-- of which nothing is told
abbrev pub Skips : {A : Type 0} → (Front → Read A) → (Layout → Layout) → Type 0
Skips f l = (k : Layout) (s : Front) → told (l k) s ≡ follow (f s) (λ x more. told k more)

-- where there is nothing to tell
abbrev pub Steps : (Front → Result Front FieldFault) → (Layout → Layout) → Type 0
Steps f l = (k : Layout) (s : Front) → told (l k) s ≡ go_on (f s) (λ more. told k more)

-- ---- one after the other

pub chain : {A B C : Type 0} (f : Front → Read A) (t : A → B) (l : (B → Layout) → Layout) (m : B → Layout) (g : A × Front → Read C) (h : C → Front → Option FieldFault)
    → Reads f t l → ((x : A) (s : Front) → told (m (t x)) s ≡ follow (g (x, s)) h) → (s : Front) → told (l m) s ≡ follow (f s >>= g) h
chain {A = A} f t l m g h first second s = first m s ∙ by (f s) where
  by : (r : Read A) → follow r (λ x more. told (m (t x)) more) ≡ follow (r >>= g) h
  by (Ok x) = second x.0 x.1
  by (Err e) = refl

pub pass : {A C : Type 0} (f : Front → Read A) (l : Layout → Layout) (m : Layout) (g : A × Front → Read C) (h : C → Front → Option FieldFault)
    → Skips f l → ((x : A) (s : Front) → told m s ≡ follow (g (x, s)) h) → (s : Front) → told (l m) s ≡ follow (f s >>= g) h
pass {A = A} f l m g h first second s = first m s ∙ by (f s) where
  by : (r : Read A) → follow r (λ x more. told m more) ≡ follow (r >>= g) h
  by (Ok x) = second x.0 x.1
  by (Err e) = refl

pub step : {C : Type 0} (f : Front → Result Front FieldFault) (l : Layout → Layout) (m : Layout) (g : Front → Read C) (h : C → Front → Option FieldFault)
    → Steps f l → ((s : Front) → told m s ≡ follow (g s) h) → (s : Front) → told (l m) s ≡ follow (f s >>= g) h
step f l m g h first second s = first m s ∙ by (f s) where
  by : (r : Result Front FieldFault) → go_on r (λ more. told m more) ≡ follow (r >>= g) h
  by (Ok x) = second x
  by (Err e) = refl

-- ---- words, numbers, names and ends

pub a_word : (w : List ℕ) → Steps (skip w) (word w)
unfolding skip told
a_word w k s = by (begins w s.rest) where
  by : (b : Bool) → (if b then told k (moved s (drop (length w) s.rest)) else Some (no_form s)) ≡ go_on (if b then Ok (moved s (drop (length w) s.rest)) else Err (no_form s)) (λ more. told k more)
  by true = refl
  by false = refl

pub an_end : Steps end_read ends
unfolding end_read skip told
an_end k s = by (begins (codes "\n") s.rest) where
  over : (fine : Bool) → (if fine then told k (line_start (drop 1 s.rest)) else Some (out_of_range s)) ≡ go_on (if fine then Ok (line_start (drop 1 s.rest)) else Err (out_of_range s)) (λ more. told k more)
  over true = refl
  over false = refl

  by : (b : Bool)
      → (if b then (if s.fine then told k (line_start (drop 1 s.rest)) else Some (out_of_range s)) else Some (no_form s))
      ≡ go_on ((if b then Ok (moved s (drop 1 s.rest)) else Err (no_form s)) >>= ended) (λ more. told k more)
  by true = over s.fine
  by false = refl

pub a_numeral : Reads numeral_read (λ n. n) numeral
unfolding numeral_read told
a_numeral k s = by (is_numeral (take (digits_len s.rest) s.rest)) where
  by : (b : Bool)
      → (if b then told (k (small (value (take (digits_len s.rest) s.rest)))) (moved s (drop (digits_len s.rest) s.rest)) else Some (no_form s))
      ≡ follow (if b then Ok (small (value (take (digits_len s.rest) s.rest)), moved s (drop (digits_len s.rest) s.rest)) else Err (no_form s)) (λ x more. told (k x) more)
  by true = refl
  by false = refl

-- nothing is noted
same_front : (s : Front) → noted s true ≡ s
same_front s = ap (λ b. record s { fine = b }) (and_true s.fine)

pub noted_true : (k : Layout) (s : Front) → told k (noted s true) ≡ told k s
noted_true k s = ap (told k) (same_front s)

in_range : (low high : ℕ) (o : Option ℕ) (k : ℕ → Layout) (s : Front) → told (note (notes.ranged low high o) (k (kept low high o))) s ≡ told (k (ranged low high o s).0) (ranged low high o s).1
unfolding told
in_range low high None k s = refl
in_range low high (Some n) k s = by (nat_le low n && nat_le n high) where
  to : Bool → ℕ × Front
  to b = if b then (n, s) else (0, noted s false)

  by : (b : Bool) → told (k (if b then n else 0)) (noted s b) ≡ told (k (to b).0) (to b).1
  by true = noted_true (k n) s
  by false = refl

pub a_field : (label : List ℕ) (low high : ℕ) → Reads (field_read label low high) (λ n. n) (l.field label low high)
unfolding field_read number_read l.field
a_field label low high k =
    step (skip label) (word label) _ (number_read low high) _ (a_word label)
    (chain numeral_read (λ n. n) numeral _ (λ x. Ok (ranged low high x.0 x.1)) _ a_numeral (λ o s. in_range low high o k s))

pub a_name : (taken : List (List ℕ)) → Reads (n.name_read taken) (λ x. x) (l.fresh_name taken)
unfolding n.name_read told
a_name taken k s = by (nat_lt 0 (word_len s.rest)) where
  by : (b : Bool)
      → (if b then told (k (take (word_len s.rest) s.rest)) (noted (moved s (drop (word_len s.rest) s.rest)) (may_be_name taken (take (word_len s.rest) s.rest))) else Some (no_form s))
      ≡ follow (if b then Ok (take (word_len s.rest) s.rest, noted (moved s (drop (word_len s.rest) s.rest)) (may_be_name taken (take (word_len s.rest) s.rest))) else Err (no_form s)) (λ x more. told (k x) more)
  by true = refl
  by false = refl

pub a_named : (label : List ℕ) (taken : List (List ℕ)) → Reads (n.named_read label taken) (λ x. x) (λ k. word label (l.fresh_name taken k))
unfolding n.named_read
a_named label taken k = step (skip label) (word label) _ (n.name_read taken) _ (a_word label) (λ s. a_name taken k s)

-- ---- the head

pub a_head : Reads n.head_read (λ x. x.0) l.head
unfolding n.head_read
a_head k = chain _ _ _ _ _ _ (a_named (codes "image ") []) (λ program. chain _ _ _ _ _ _ (a_field (codes " overhead ") 0 1000) (λ over. step _ _ _ _ _ an_end (λ s. refl)))
