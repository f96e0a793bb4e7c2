-- Texts of which all lines are right.
use Rattle.std.proofs.Common.{◌≡◌, ◌≤◌, ◌⊎◌, inl, inr, ◌+◌, ℕ, suc, List, [], length, Result, Option, Some, None, arith, refl, ap, sym, subst, ◌∙◌, true, false}
use Rattle.std.specs.Prelude.{nat_lt}
use Rattle.std.proofs.lemmas.Bool.{cases_Bool, ltb-true, ltb-false}
use Rattle.text_fields.specs.declared.fault.FieldFault.{FieldFault}
use Rattle.text_fields.specs.Front.{Front, fault, no_form, out_of_range, line_start}
use Rattle.image_reader.specs.File.{Parts}
use Rattle.assembler.specs.Faults.{IsFaultOf, longest_text}
use Rattle.assembler.specs.Sections.{owners_in, text_read}
use Rattle.asm_law.specs.Layout.{Layout, finish, done, text}
use Rattle.asm_law.specs.Places.{Behind, here, line, HasForm}
use Rattle.asm_law.specs.LinesLaw.{RightTextsHaveNoFault}
use Rattle.asm_law.proofs.Walks.{walk, follows, decide, Sort, over, has, lacks, Found, IsFaulty, find}
use Rattle.asm_law.proofs.Counting.{Clean, OneLineOf, IsOver, counted}
use Rattle.asm_law.proofs.Cleans.{a_text_is_clean}
use Rattle.asm_law.proofs.FieldWhole.{fault_of}
use Rattle.asm_law.proofs.FieldLaws.{walks, stood}

abbrev AllRight : Layout → List ℕ → Type 0
AllRight l bytes = (lines : ℕ) × Behind l bytes lines finish []

none_some : {A : Type 0} (x : A) (o : Option A) → o ≡ None → o ≡ Some x → ⊥
none_some x o none is = (let e : None ≡ Some x = sym none ∙ is in cc)

spoilt : (l : Layout) (bytes : List ℕ) (n : Layout) (r : List ℕ) → HasForm l bytes false n r → walk l (line_start bytes) ≡ None → ⊥
spoilt l bytes n r h none = none_some (out_of_range (line_start bytes)) (walk l (line_start bytes)) none (follows l (line_start bytes) false n r h)

at_end : (l : Layout) (bytes : List ℕ) (n : Layout) (r : List ℕ) → HasForm l bytes true n r → IsOver n r → AllRight l bytes
at_end l bytes n r h is =
    (1, line (subst (λ (m : Layout). HasForm l bytes true m []) is.0 (subst (λ (x : List ℕ). HasForm l bytes true n x) is.1 h)) (here finish []))

all_right : (l : Layout) (s : Front) → Sort l s → Clean l → (bytes : List ℕ) → s ≡ line_start bytes → walk l (line_start bytes) ≡ None → AllRight l bytes
all_right l s (lacks lack told) clean bytes same none =
    absurd (none_some (no_form (line_start bytes)) (walk l (line_start bytes)) none (subst (λ (x : Front). walk l x ≡ Some (no_form x)) same told))
all_right l s (over false n r h ends_there ended) clean bytes same none = absurd (spoilt l bytes n r (subst (λ (x : Front). HasForm l x.rest false n r) same h) none)
all_right l s (has false n r h more) clean bytes same none = absurd (spoilt l bytes n r (subst (λ (x : Front). HasForm l x.rest false n r) same h) none)
all_right l s (over true n r h ends_there ended) clean bytes same none = by ended where
  form : HasForm l bytes true n r
  form = subst (λ (x : Front). HasForm l x.rest true n r) same h

  of_done : n ≡ done → OneLineOf bytes n r ⊎ IsOver n r → AllRight l bytes
  of_done is (inl o) = absurd (subst (λ (m : Layout). Clean m) is o.clean)
  of_done is (inr stops) = at_end l bytes n r form stops

  by : (true ≡ false) ⊎ ((n ≡ done) ⊎ IsOver n r) → AllRight l bytes
  by (inl is) = absurd cc
  by (inr (inl is)) = of_done is (counted l bytes n r clean form)
  by (inr (inr is)) = at_end l bytes n r form is
all_right l s (has true n r h more) clean bytes same none = by (λ c told. all_right n (line_start r) more c r refl told) (counted l bytes n r clean form) where
  form : HasForm l bytes true n r
  form = subst (λ (x : Front). HasForm l x.rest true n r) same h

  told : walk n (line_start r) ≡ None
  told = sym (follows l (line_start bytes) true n r form) ∙ none

  further : AllRight n r → AllRight l bytes
  further rest = (suc rest.0, line form rest.1)

  by : (Clean n → walk n (line_start r) ≡ None → AllRight n r) → OneLineOf bytes n r ⊎ IsOver n r → AllRight l bytes
  by later (inl o) = further (later o.clean told)
  by later (inr stops) = at_end l bytes n r form stops

right_walk : (l : Layout) (bytes : List ℕ) (lines : ℕ) (n : Layout) (r : List ℕ) → Behind l bytes lines n r → walk l (line_start bytes) ≡ walk n (line_start r)
right_walk l bytes lines n r (here _ _) = refl
right_walk l bytes lines n r (line {m = m} {more = more} {lines = before} right behind) = follows l (line_start bytes) true m more right ∙ right_walk m more before n r behind

faulty_number : (l : Layout) (rest : List ℕ) (e : FieldFault) → IsFaulty l rest e → e ≡ fault e.number (length rest)
faulty_number l rest e (inl is) = sym is.1 ∙ ap (λ n. fault n (length rest)) (ap (λ (x : FieldFault). x.number) is.1)
faulty_number l rest e (inr is) = sym is.1 ∙ ap (λ n. fault n (length rest)) (ap (λ (x : FieldFault). x.number) is.1)

pub right_texts_have_no_fault : RightTextsHaveNoFault
right_texts_have_no_fault bytes = (there, back) where
  there : ((number line : ℕ) → IsFaultOf bytes number line → ⊥) → (length bytes ≤ longest_text) × ((lines : ℕ) × Behind (text (owners_in bytes)) bytes lines finish [])
  there none = by (cases_Bool (nat_lt longest_text (length bytes))) where
    found : length bytes ≤ longest_text → (e : FieldFault) → Found (text (owners_in bytes)) bytes e → ⊥
    found few e f =
        none e.number (f.lines + 1)
        (stood bytes (f.lines + 1) e.number f.lines f.at f.rest few f.behind (subst (λ (x : FieldFault). IsFaulty f.at f.rest x) (faulty_number f.at f.rest e f.faulty) f.faulty) refl)

    of_walk : length bytes ≤ longest_text → (o : Option FieldFault) → walk (text (owners_in bytes)) (line_start bytes) ≡ o → AllRight (text (owners_in bytes)) bytes
    of_walk few None is = all_right (text (owners_in bytes)) (line_start bytes) (decide (text (owners_in bytes)) (line_start bytes)) (a_text_is_clean (owners_in bytes)) bytes refl is
    of_walk few (Some e) is = absurd (found few e (find (text (owners_in bytes)) bytes e is))

    by : (nat_lt longest_text (length bytes) ≡ true) ⊎ (nat_lt longest_text (length bytes) ≡ false) → (length bytes ≤ longest_text) × ((lines : ℕ) × Behind (text (owners_in bytes)) bytes lines finish [])
    by (inl long) = absurd (none 3 0 (inl (record { long = ltb-true longest_text (length bytes) long; is = refl; nowhere = refl })))
    by (inr short) =
        let few = ltb-false longest_text (length bytes) short in
        let all = of_walk few (walk (text (owners_in bytes)) (line_start bytes)) refl in
        (few, all)

  back : (length bytes ≤ longest_text) × ((lines : ℕ) × Behind (text (owners_in bytes)) bytes lines finish []) → (number line : ℕ) → IsFaultOf bytes number line → ⊥
  back h number at (inl long) = (let few = h.0 in let much = long.long in omega (arith, few, much))
  back h number at (inr is) =
      let told = sym (walks bytes) ∙ right_walk (text (owners_in bytes)) bytes h.1.0 finish [] h.1.1 in
      none_some (fault number is.left) (fault_of (text_read bytes)) told (ap (λ (r : Result Parts FieldFault). fault_of r) is.is_read)
