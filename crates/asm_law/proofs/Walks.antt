-- What is told of a text by its layout, and which lines then have their form.
use Rattle.std.proofs.Common.{◌≡◌, ◌⊎◌, inl, inr, ℕ, suc, List, [], ◌∷◌, length, take, drop, Option, Some, None, arith, refl, ap, sym, subst, ◌∙◌, true, false, Bool}
use Rattle.std.specs.Prelude.{◌&&◌, ◌==◌, codes, nat_lt, if◌then◌else◌}
use Rattle.std.proofs.lemmas.Bool.{cases_Bool, eqb-true, ltb-true, lt-ltb}
use Rattle.text_fields.specs.declared.fault.FieldFault.{FieldFault}
use Rattle.text_fields.specs.Front.{Front, no_form, out_of_range, begins, moved, noted, line_start}
use Rattle.text_fields.specs.LineFields.{digits_len, is_numeral, small, value}
use Rattle.asm_lines.specs.Names.{word_len}
use Rattle.asm_lines.specs.TreeForm.{is_tree_line}
use Rattle.asm_law.specs.Notes.{IsWrong}
use Rattle.asm_law.specs.Layout.{Layout, finish, done, none, word, choice, numeral, name, note, tree, left, too_deep, ends}
use Rattle.asm_law.specs.Places.{HasForm, LacksForm, IsWrongLine, Behind, here, line}
use Rattle.asm_law.proofs.Table.{holds, is_wrong, is_right, right_is, wrong_is}

abbrev pub digits : List ℕ → List ℕ
digits bytes = take (digits_len bytes) bytes

abbrev pub first_word : List ℕ → List ℕ
first_word bytes = take (word_len bytes) bytes

abbrev pub walk : Layout → Front → Option FieldFault
walk finish s = if length s.rest == 0 then (if s.fine then None else Some (out_of_range s)) else Some (no_form s)
walk done s = if s.fine then None else Some (out_of_range s)
walk none s = Some (no_form s)
walk (word w l) s = if begins w s.rest then walk l (moved s (drop (length w) s.rest)) else Some (no_form s)
walk (choice w one two) s = if begins w s.rest then walk one s else walk two s
walk (numeral l) s =
    if is_numeral (take (digits_len s.rest) s.rest) then walk (l (small (value (take (digits_len s.rest) s.rest)))) (moved s (drop (digits_len s.rest) s.rest)) else Some (no_form s)
walk (name l) s = if nat_lt 0 (word_len s.rest) then walk (l (take (word_len s.rest) s.rest)) (moved s (drop (word_len s.rest) s.rest)) else Some (no_form s)
walk (note x l) s = walk l (noted s (holds x))
walk (tree l) s = if is_tree_line s.rest then walk l s else Some (no_form s)
walk (left l) s = walk (l (length s.rest)) s
walk too_deep s = Some (out_of_range s)
walk (ends l) s = if begins (codes "\n") s.rest then (if s.fine then walk l (line_start (drop 1 s.rest)) else Some (out_of_range s)) else Some (no_form s)

-- ---- a line that has its form

pub and_true : (b : Bool) → (b && true) ≡ b
and_true true = refl
and_true false = refl

pub and_false : (b : Bool) → (b && false) ≡ false
and_false true = refl
and_false false = refl

pub not_both : (b : Bool) → b ≡ true → b ≡ false → ⊥
not_both b up down = (let e : true ≡ false = sym up ∙ down in cc)

-- what is told behind a line
abbrev pub goes : Front → (fine : Bool) → Layout → List ℕ → Option FieldFault
goes s fine n r = if s.fine && fine then walk n (line_start r) else Some (out_of_range s)

over_as : (s : Front) (f : Bool) (n m : Layout) (r q : List ℕ) → f ≡ true → n ≡ m → r ≡ q → (if s.fine then walk m (line_start q) else Some (out_of_range s)) ≡ goes s f n r
over_as s f n m r q fine same all =
    ap (λ b. if b then walk m (line_start q) else Some (out_of_range s)) (sym (and_true s.fine))
    ∙ (ap (λ b. if s.fine && b then walk m (line_start q) else Some (out_of_range s)) (sym fine)
    ∙ (ap (λ (x : Layout). goes s f x q) (sym same) ∙ ap (λ (x : List ℕ). goes s f n x) (sym all)))

empty : (bytes : List ℕ) → bytes ≡ [] → (length bytes == 0) ≡ true
empty bytes is = ap (λ (x : List ℕ). length x == 0) is

pub follows : (l : Layout) (s : Front) (f : Bool) (n : Layout) (r : List ℕ) → HasForm l s.rest f n r → walk l s ≡ goes s f n r
follows finish s f n r h =
    ap (λ b. if b then (if s.fine then None else Some (out_of_range s)) else Some (no_form s)) (empty s.rest h.0) ∙ over_as s f n finish r [] h.1 h.2 h.3
follows done s f n r h = over_as s f n done r s.rest h.0 h.1 h.2
follows none s f n r h = absurd h
follows (word w l) s f n r h =
    ap (λ b. if b then walk l (moved s (drop (length w) s.rest)) else Some (no_form s)) h.0 ∙ follows l (moved s (drop (length w) s.rest)) f n r h.1
follows (choice w one two) s f n r (inl h) = ap (λ b. if b then walk one s else walk two s) h.0 ∙ follows one s f n r h.1
follows (choice w one two) s f n r (inr h) = ap (λ b. if b then walk one s else walk two s) h.0 ∙ follows two s f n r h.1
follows (numeral l) s f n r h =
    ap (λ b. if b then walk (l (small (value (digits s.rest)))) (moved s (drop (digits_len s.rest) s.rest)) else Some (no_form s)) h.0
    ∙ follows (l (small (value (digits s.rest)))) (moved s (drop (digits_len s.rest) s.rest)) f n r h.1
follows (name l) s f n r h =
    ap (λ b. if b then walk (l (first_word s.rest)) (moved s (drop (word_len s.rest) s.rest)) else Some (no_form s)) (lt-ltb 0 (word_len s.rest) h.0)
    ∙ follows (l (first_word s.rest)) (moved s (drop (word_len s.rest) s.rest)) f n r h.1
follows (note x l) s f n r (inl h) =
    ap (λ b. walk l (noted s b)) (right_is x h.0)
    ∙ (follows l (noted s true) f n r h.1 ∙ ap (λ b. if b && f then walk n (line_start r) else Some (out_of_range s)) (and_true s.fine))
follows (note x l) s f n r (inr h) =
    ap (λ b. walk l (noted s b)) (wrong_is x h.0)
    ∙ (follows l (noted s false) h.2.0 n r h.2.1
    ∙ (ap (λ b. if b && h.2.0 then walk n (line_start r) else Some (out_of_range s)) (and_false s.fine)
    ∙ (ap (λ b. if b then walk n (line_start r) else Some (out_of_range s)) (sym (and_false s.fine))
    ∙ ap (λ b. if s.fine && b then walk n (line_start r) else Some (out_of_range s)) (sym h.1))))
follows (tree l) s f n r h = ap (λ b. if b then walk l s else Some (no_form s)) h.0 ∙ follows l s f n r h.1
follows (left l) s f n r h = follows (l (length s.rest)) s f n r h
follows too_deep s f n r h =
    ap (λ b. if b then walk n (line_start r) else Some (out_of_range s)) (sym (and_false s.fine)) ∙ ap (λ b. if s.fine && b then walk n (line_start r) else Some (out_of_range s)) (sym h)
follows (ends l) s f n r h =
    ap (λ b. if b then (if s.fine then walk l (line_start (drop 1 s.rest)) else Some (out_of_range s)) else Some (no_form s)) h.0
    ∙ over_as s f n l r (drop 1 s.rest) h.1 h.2 h.3

-- ---- each line has its form or not

-- nothing comes behind it
abbrev pub Ended : Bool → Layout → List ℕ → Type 0
Ended f n r = (f ≡ false) ⊎ ((n ≡ done) ⊎ ((n ≡ finish) × (r ≡ [])))

pub data Sort : Layout → Front → Type 0 where
  -- it has, and no more is told
  over : {l : Layout} {s : Front} (f : Bool) (n : Layout) (r : List ℕ) → HasForm l s.rest f n r → walk n (line_start r) ≡ None → Ended f n r → Sort l s
  -- it has, and more lines come
  has : {l : Layout} {s : Front} (f : Bool) (n : Layout) (r : List ℕ) → HasForm l s.rest f n r → Sort n (line_start r) → Sort l s
  lacks : {l : Layout} {s : Front} → LacksForm l s.rest → walk l s ≡ Some (no_form s) → Sort l s

-- the form of the whole from that of a part
as_part : {l m : Layout} {s t : Front} → ((f : Bool) (n : Layout) (r : List ℕ) → HasForm m t.rest f n r → HasForm l s.rest f n r)
    → (LacksForm m t.rest → LacksForm l s.rest) → (walk m t ≡ Some (no_form t) → walk l s ≡ Some (no_form s)) → Sort m t → Sort l s
as_part whole lack told (over f n r h is ended) = over f n r (whole f n r h) is ended
as_part whole lack told (has f n r h more) = has f n r (whole f n r h) more
as_part whole lack told (lacks not_there is) = lacks (lack not_there) (told is)

none_left : (bytes : List ℕ) → (length bytes == 0) ≡ true → bytes ≡ []
none_left [] is = refl
none_left (b ∷ bs) is = absurd (let e = eqb-true (length (b ∷ bs)) 0 is in omega (arith, e))

pub decide : (l : Layout) (s : Front) → Sort l s
decide finish s = by (cases_Bool (length s.rest == 0)) where
  by : ((length s.rest == 0) ≡ true) ⊎ ((length s.rest == 0) ≡ false) → Sort finish s
  by (inl is) = over true finish [] (none_left s.rest is, refl, refl, refl) refl (inr (inr (refl, refl)))
  by (inr is) = lacks (λ f n r h. not_both (length s.rest == 0) (empty s.rest h.0) is) (ap (λ b. if b then (if s.fine then None else Some (out_of_range s)) else Some (no_form s)) is)
decide done s = over true done s.rest (refl, refl, refl) refl (inr (inl refl))
decide none s = lacks (λ f n r h. h) refl
decide (word w l) s = by (decide l (moved s (drop (length w) s.rest))) (cases_Bool (begins w s.rest)) where
  by : Sort l (moved s (drop (length w) s.rest)) → (begins w s.rest ≡ true) ⊎ (begins w s.rest ≡ false) → Sort (word w l) s
  by part (inl is) =
      as_part {l = word w l} {m = l} {s = s} {t = moved s (drop (length w) s.rest)} (λ f n r h. (is, h)) (λ lack f n r h. lack f n r h.1)
      (λ told. ap (λ b. if b then walk l (moved s (drop (length w) s.rest)) else Some (no_form s)) is ∙ told) part
  by part (inr is) = lacks (λ f n r h. not_both (begins w s.rest) h.0 is) (ap (λ b. if b then walk l (moved s (drop (length w) s.rest)) else Some (no_form s)) is)
decide (choice w one two) s = by (decide one s) (decide two s) (cases_Bool (begins w s.rest)) where
  yes_lacks : begins w s.rest ≡ true → LacksForm one s.rest → LacksForm (choice w one two) s.rest
  yes_lacks is lack f n r (inl h) = lack f n r h.1
  yes_lacks is lack f n r (inr h) = not_both (begins w s.rest) is h.0

  no_lacks : begins w s.rest ≡ false → LacksForm two s.rest → LacksForm (choice w one two) s.rest
  no_lacks is lack f n r (inl h) = not_both (begins w s.rest) h.0 is
  no_lacks is lack f n r (inr h) = lack f n r h.1

  by : Sort one s → Sort two s → (begins w s.rest ≡ true) ⊎ (begins w s.rest ≡ false) → Sort (choice w one two) s
  by first second (inl is) =
      as_part {l = choice w one two} {m = one} {s = s} {t = s} (λ f n r h. inl (is, h)) (yes_lacks is) (λ told. ap (λ b. if b then walk one s else walk two s) is ∙ told) first
  by first second (inr is) =
      as_part {l = choice w one two} {m = two} {s = s} {t = s} (λ f n r h. inr (is, h)) (no_lacks is) (λ told. ap (λ b. if b then walk one s else walk two s) is ∙ told) second
decide (numeral l) s = by (decide (l (small (value (digits s.rest)))) (moved s (drop (digits_len s.rest) s.rest))) (cases_Bool (is_numeral (digits s.rest))) where
  by : Sort (l (small (value (digits s.rest)))) (moved s (drop (digits_len s.rest) s.rest)) → (is_numeral (digits s.rest) ≡ true) ⊎ (is_numeral (digits s.rest) ≡ false) → Sort (numeral l) s
  by part (inl is) =
      as_part {l = numeral l} {m = l (small (value (digits s.rest)))} {s = s} {t = moved s (drop (digits_len s.rest) s.rest)} (λ f n r h. (is, h)) (λ lack f n r h. lack f n r h.1)
      (λ told. ap (λ b. if b then walk (l (small (value (digits s.rest)))) (moved s (drop (digits_len s.rest) s.rest)) else Some (no_form s)) is ∙ told) part
  by part (inr is) =
      lacks (λ f n r h. not_both (is_numeral (digits s.rest)) h.0 is) (ap (λ b. if b then walk (l (small (value (digits s.rest)))) (moved s (drop (digits_len s.rest) s.rest)) else Some (no_form s)) is)
decide (name l) s = by (decide (l (first_word s.rest)) (moved s (drop (word_len s.rest) s.rest))) (cases_Bool (nat_lt 0 (word_len s.rest))) where
  by : Sort (l (first_word s.rest)) (moved s (drop (word_len s.rest) s.rest)) → (nat_lt 0 (word_len s.rest) ≡ true) ⊎ (nat_lt 0 (word_len s.rest) ≡ false) → Sort (name l) s
  by part (inl is) =
      as_part {l = name l} {m = l (first_word s.rest)} {s = s} {t = moved s (drop (word_len s.rest) s.rest)} (λ f n r h. (ltb-true 0 (word_len s.rest) is, h)) (λ lack f n r h. lack f n r h.1)
      (λ told. ap (λ b. if b then walk (l (first_word s.rest)) (moved s (drop (word_len s.rest) s.rest)) else Some (no_form s)) is ∙ told) part
  by part (inr is) =
      lacks (λ f n r h. not_both (nat_lt 0 (word_len s.rest)) (lt-ltb 0 (word_len s.rest) h.0) is)
      (ap (λ b. if b then walk (l (first_word s.rest)) (moved s (drop (word_len s.rest) s.rest)) else Some (no_form s)) is)
decide (note x l) s = by (decide l (noted s (holds x))) (cases_Bool (holds x)) where
  lack : LacksForm l s.rest → LacksForm (note x l) s.rest
  lack not_there f n r (inl h) = not_there f n r h.1
  lack not_there f n r (inr h) = not_there h.2.0 n r h.2.1

  wrong : IsWrong x → Sort l (noted s (holds x)) → Sort (note x l) s
  wrong is (over f n r h told ended) = over false n r (inr (is, refl, (f, h))) told (inl refl)
  wrong is (has f n r h more) = has false n r (inr (is, refl, (f, h))) more
  wrong is (lacks not_there told) = lacks (lack not_there) told

  by : Sort l (noted s (holds x)) → (holds x ≡ true) ⊎ (holds x ≡ false) → Sort (note x l) s
  by part (inl is) = as_part {l = note x l} {m = l} {s = s} {t = noted s (holds x)} (λ f n r h. inl (is_right x is, h)) lack (λ told. told) part
  by part (inr is) = wrong (is_wrong x is) part
decide (tree l) s = by (decide l s) (cases_Bool (is_tree_line s.rest)) where
  by : Sort l s → (is_tree_line s.rest ≡ true) ⊎ (is_tree_line s.rest ≡ false) → Sort (tree l) s
  by part (inl is) =
      as_part {l = tree l} {m = l} {s = s} {t = s} (λ f n r h. (is, h)) (λ lack f n r h. lack f n r h.1) (λ told. ap (λ b. if b then walk l s else Some (no_form s)) is ∙ told) part
  by part (inr is) = lacks (λ f n r h. not_both (is_tree_line s.rest) h.0 is) (ap (λ b. if b then walk l s else Some (no_form s)) is)
decide (left l) s = as_part {l = left l} {m = l (length s.rest)} {s = s} {t = s} (λ f n r h. h) (λ lack f n r h. lack f n r h) (λ told. told) (decide (l (length s.rest)) s)
decide too_deep s = over false done [] refl refl (inl refl)
decide (ends l) s = by (decide l (line_start (drop 1 s.rest))) (cases_Bool (begins (codes "\n") s.rest)) where
  by : Sort l (line_start (drop 1 s.rest)) → (begins (codes "\n") s.rest ≡ true) ⊎ (begins (codes "\n") s.rest ≡ false) → Sort (ends l) s
  by more (inl is) = has true l (drop 1 s.rest) (is, refl, refl, refl) more
  by more (inr is) =
      lacks (λ f n r h. not_both (begins (codes "\n") s.rest) h.0 is)
      (ap (λ b. if b then (if s.fine then walk l (line_start (drop 1 s.rest)) else Some (out_of_range s)) else Some (no_form s)) is)

-- ---- the line that is told

abbrev pub IsFaulty : Layout → List ℕ → FieldFault → Type 0
IsFaulty l rest e = (LacksForm l rest × (no_form (line_start rest) ≡ e)) ⊎ (IsWrongLine l rest × (out_of_range (line_start rest) ≡ e))

pub record Found (l : Layout) (bytes : List ℕ) (e : FieldFault) : Type 0 where
  pub at : Layout
  pub rest : List ℕ
  pub lines : ℕ
  pub behind : Behind l bytes lines at rest
  pub faulty : IsFaulty at rest e

some_is : (d e : FieldFault) → Some d ≡ Some e → d ≡ e
some_is d e h = cc

found : (l : Layout) (s : Front) → Sort l s → (bytes : List ℕ) → s ≡ line_start bytes → (e : FieldFault) → walk l (line_start bytes) ≡ Some e → Found l bytes e
found l s (lacks lack told) bytes same e is = record {
  at = l;
  rest = bytes;
  lines = 0;
  behind = here l bytes;
  faulty = inl (subst (λ (x : Front). LacksForm l x.rest) same lack, some_is (no_form (line_start bytes)) e (sym (subst (λ (x : Front). walk l x ≡ Some (no_form x)) same told) ∙ is));
}
found l s (over true n r h ends_there ended) bytes same e is =
    absurd (let b : None ≡ Some e = sym ends_there ∙ (sym (follows l (line_start bytes) true n r (subst (λ (x : Front). HasForm l x.rest true n r) same h)) ∙ is) in cc)
found l s (over false n r h ends_there ended) bytes same e is =
    let form = subst (λ (x : Front). HasForm l x.rest false n r) same h in
    record { at = l; rest = bytes; lines = 0; behind = here l bytes; faulty = inr ((n, r, form), some_is (out_of_range (line_start bytes)) e (sym (follows l (line_start bytes) false n r form) ∙ is)) }
found l s (has false n r h more) bytes same e is =
    let form = subst (λ (x : Front). HasForm l x.rest false n r) same h in
    record { at = l; rest = bytes; lines = 0; behind = here l bytes; faulty = inr ((n, r, form), some_is (out_of_range (line_start bytes)) e (sym (follows l (line_start bytes) false n r form) ∙ is)) }
found l s (has true n r h more) bytes same e is =
    let form = subst (λ (x : Front). HasForm l x.rest true n r) same h in
    let f = found n (line_start r) more r refl e (sym (follows l (line_start bytes) true n r form) ∙ is) in
    record { at = f.at; rest = f.rest; lines = suc f.lines; behind = line form f.behind; faulty = f.faulty }

pub find : (l : Layout) (bytes : List ℕ) (e : FieldFault) → walk l (line_start bytes) ≡ Some e → Found l bytes e
find l bytes e is = found l (line_start bytes) (decide l (line_start bytes)) bytes refl e is

-- ---- and back

lacks_walk : (l : Layout) (s : Front) → Sort l s → LacksForm l s.rest → walk l s ≡ Some (no_form s)
lacks_walk l s (over f n r h is ended) lack = absurd (lack f n r h)
lacks_walk l s (has f n r h more) lack = absurd (lack f n r h)
lacks_walk l s (lacks lack told) also = told

faulty_walk : (l : Layout) (rest : List ℕ) (e : FieldFault) → IsFaulty l rest e → walk l (line_start rest) ≡ Some e
faulty_walk l rest e (inl h) = lacks_walk l (line_start rest) (decide l (line_start rest)) h.0 ∙ ap Some h.1
faulty_walk l rest e (inr h) = follows l (line_start rest) false h.0.0 h.0.1 h.0.2 ∙ ap Some h.1

pub stands_walk : (l : Layout) (bytes : List ℕ) (lines : ℕ) (m : Layout) (rest : List ℕ) (e : FieldFault) → Behind l bytes lines m rest → IsFaulty m rest e → walk l (line_start bytes) ≡ Some e
stands_walk l bytes lines m rest e (here _ _) faulty = faulty_walk l bytes e faulty
stands_walk l bytes lines m rest e (line {m = n} {more = more} {lines = before} right behind) faulty = follows l (line_start bytes) true n more right ∙ stands_walk n more before m rest e behind faulty
