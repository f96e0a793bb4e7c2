-- A line where none may stand: it has no form, or else it is out of range.
use Rattle.std.proofs.Common.{◌≡◌, ◌⊎◌, inl, inr, ℕ, List, length, drop, Ok, Err, Option, Some, None, arith, refl, ap, sym, subst, ◌∙◌, true, false, Bool}
use Rattle.std.specs.Prelude.{◌&&◌, codes, nat_lt, if◌then◌else◌}
use Rattle.text_fields.specs.declared.fault.FieldFault.{FieldFault}
use Rattle.text_fields.specs.Front.{Front, Read, no_form, out_of_range, begins, moved, noted}
use Rattle.text_fields.specs.LineFields.{digits_len, is_numeral, small, value}
use Rattle.asm_lines.specs.Names.{word_len}
use Rattle.asm_lines.specs.TreeForm.{is_tree_line}
use Rattle.assembler.specs.Sections.{refused}
use Rattle.asm_law.specs.Notes as notes
use Rattle.asm_law.specs.Layout.{Layout, finish, done, none, word, choice, numeral, name, note, tree, left, too_deep, ends}
use Rattle.asm_law.proofs.Table.{holds}
use Rattle.asm_law.proofs.Walks.{walk, digits, first_word}
use Rattle.asm_law.proofs.Reading.{follow, told, Reads}

-- the layout is that of one line, and of no more
abbrev pub OneLine : Layout → Type 0
OneLine finish = ⊥
OneLine done = ⊥
OneLine none = Unit {0}
OneLine (word w l) = OneLine l
OneLine (choice w l other) = OneLine l × OneLine other
OneLine (numeral l) = (n : Option ℕ) → OneLine (l n)
OneLine (name l) = (x : List ℕ) → OneLine (l x)
OneLine (note x l) = OneLine l
OneLine (tree l) = OneLine l
OneLine (left l) = (n : ℕ) → OneLine (l n)
OneLine too_deep = Unit {0}
OneLine (ends l) = l ≡ done

-- what is told of a line, and what is told where it is wrong already
abbrev pub Spoils : Front → (clean spoilt : Option FieldFault) → Type 0
Spoils s clean spoilt =
    ((clean ≡ Some (no_form s)) × (spoilt ≡ Some (no_form s))) ⊎ (((clean ≡ None) ⊎ (clean ≡ Some (out_of_range s))) × (spoilt ≡ Some (out_of_range s)))

swapped : (a b : Bool) → ((a && false) && b) ≡ ((a && b) && false)
swapped true true = refl
swapped true false = refl
swapped false b = refl

if_spoils : (b : Bool) (s : Front) (clean spoilt : Option FieldFault) → Spoils s clean spoilt → Spoils s (if b then clean else Some (no_form s)) (if b then spoilt else Some (no_form s))
if_spoils true s clean spoilt h = h
if_spoils false s clean spoilt h = inl (refl, refl)

one_of_two : (b : Bool) (s : Front) (c1 s1 c2 s2 : Option FieldFault) → Spoils s c1 s1 → Spoils s c2 s2 → Spoils s (if b then c1 else c2) (if b then s1 else s2)
one_of_two true s c1 s1 c2 s2 first second = first
one_of_two false s c1 s1 c2 s2 first second = second

at_end : (fine : Bool) (s : Front) → Spoils s (if fine then None else Some (out_of_range s)) (if fine && false then None else Some (out_of_range s))
at_end true s = inr (inl refl, refl)
at_end false s = inr (inr refl, refl)

spoils : (l : Layout) (s : Front) → OneLine l → Spoils s (walk l s) (walk l (noted s false))
spoils finish s h = absurd h
spoils done s h = absurd h
spoils none s h = inl (refl, refl)
spoils (word w l) s h =
    if_spoils (begins w s.rest) s (walk l (moved s (drop (length w) s.rest))) (walk l (noted (moved s (drop (length w) s.rest)) false)) (spoils l (moved s (drop (length w) s.rest)) h)
spoils (choice w l other) s h =
    one_of_two (begins w s.rest) s (walk l s) (walk l (noted s false)) (walk other s) (walk other (noted s false)) (spoils l s h.0) (spoils other s h.1)
spoils (numeral l) s h =
    let n = small (value (digits s.rest)) in
    let t = moved s (drop (digits_len s.rest) s.rest) in
    if_spoils (is_numeral (digits s.rest)) s (walk (l n) t) (walk (l n) (noted t false)) (spoils (l n) t (h n))
spoils (name l) s h =
    let x = first_word s.rest in
    let t = moved s (drop (word_len s.rest) s.rest) in
    if_spoils (nat_lt 0 (word_len s.rest)) s (walk (l x) t) (walk (l x) (noted t false)) (spoils (l x) t (h x))
spoils (note x l) s h =
    subst (λ (t : Front). Spoils s (walk l (noted s (holds x))) (walk l t)) (ap (λ b. record s { fine = b }) (sym (swapped s.fine (holds x)))) (spoils l (noted s (holds x)) h)
spoils (tree l) s h = if_spoils (is_tree_line s.rest) s (walk l s) (walk l (noted s false)) (spoils l s h)
spoils (left l) s h = spoils (l (length s.rest)) s (h (length s.rest))
spoils too_deep s h = inr (inr refl, refl)
spoils (ends l) s h =
    subst (λ (m : Layout). Spoils s (walk (ends m) s) (walk (ends m) (noted s false))) (sym h)
    (if_spoils (begins (codes "\n") s.rest) s (if s.fine then None else Some (out_of_range s)) (if s.fine && false then None else Some (out_of_range s)) (at_end s.fine s))

-- ---- what is told where the line is one too many

some_is : (d e : FieldFault) → Some d ≡ Some e → d ≡ e
some_is d e h = cc

number_of : {d e : FieldFault} → d ≡ e → d.number ≡ e.number
number_of same = ap (λ (x : FieldFault). x.number) same

ended_or : (s more : Front) → (if more.fine then None else Some (out_of_range more)) ≡ Some (no_form s) → ⊥
ended_or s more is = by more.fine is where
  by : (b : Bool) → (if b then None else Some (out_of_range more)) ≡ Some (no_form s) → ⊥
  by true h = absurd cc
  by false h = (let two = number_of (some_is (out_of_range more) (no_form s) h) in omega (arith, two))

pub line_refused : {A B : Type 0} (f : Front → Read A) (t : A → B) (l : (B → Layout) → Layout) → Reads f t l → OneLine (l (λ x. done)) → (x : notes.Note) → holds x ≡ false → (s : Front)
    → told (note x (l (λ x. done))) s ≡ Some (refused (f s) s)
unfolding told
line_refused {A = A} f t l reads one x wrong s = ap (λ b. walk (l (λ x. done)) (noted s b)) wrong ∙ by (f s) (reads (λ x. done) s) (spoils (l (λ x. done)) s one) where
  by : (r : Read A) → walk (l (λ x. done)) s ≡ follow r (λ x more. told done more) → Spoils s (walk (l (λ x. done)) s) (walk (l (λ x. done)) (noted s false)) → walk (l (λ x. done)) (noted s false) ≡ Some (refused r s)
  by (Ok y) is (inl h) = absurd (ended_or s y.1 (sym is ∙ h.0))
  by (Ok y) is (inr h) = h.1
  by (Err e) is (inl h) = h.1 ∙ (sym h.0 ∙ is)
  by (Err e) is (inr (inl h, spoilt)) = absurd (let e : None ≡ Some e = sym h ∙ is in cc)
  by (Err e) is (inr (inr h, spoilt)) = spoilt ∙ (sym h ∙ is)
