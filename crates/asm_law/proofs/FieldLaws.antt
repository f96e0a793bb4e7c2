-- The laws of the lines of a text.
use Rattle.std.proofs.Common.{◌≡◌, ◌≤◌, ◌<◌, ◌⊎◌, inl, inr, ◌+◌, ℕ, List, [], length, Ok, Err, Result, Some, None, arith, refl, ap, sym, subst, ◌∙◌, true, false}
use Rattle.text_fields.specs.declared.fault.FieldFault.{FieldFault}
use Rattle.text_fields.specs.Front.{fault, line_start}
use Rattle.image_reader.specs.File.{Parts}
use Rattle.assembler.specs.Faults.{IsFaultOf, HasFault, longest_text}
use Rattle.assembler.specs.Sections.{line_at, owners_in, text_read}
use Rattle.asm_law.specs.Notes.{ranged, operand, one_of, event, fresh, own_name, handled, too_many, lacks_process, Holds, IsWrong}
use Rattle.asm_law.specs.Layout.{Layout, finish, text}
use Rattle.asm_law.specs.Places.{Behind, LacksForm, IsWrongLine, HasForm}
use Rattle.asm_law.specs.LinesLaw.{StandsAt, LacksOfFormAreA1, WrongLinesAreA2, LongTextsAreA3, NoOtherFaults, WrongNotesAreOfImages, NothingIsBehindTheEnd, MissingLinesLackForm, NothingStandsForAProcess}
use Rattle.asm_law.proofs.Walks.{walk, IsFaulty, Found, find, stands_walk}
use Rattle.asm_law.proofs.Counting.{Asks, IsNext, IsOver, LinesOf, asks_lacks, comes, lines_before, line_is}
use Rattle.asm_law.proofs.Cleans.{a_text_asks, a_text_is_clean}
use Rattle.asm_law.proofs.Reading.{told}
use Rattle.asm_law.proofs.FieldWhole.{fault_of, a_text}

number_of : {d e : FieldFault} → d ≡ e → d.number ≡ e.number
number_of same = ap (λ (x : FieldFault). x.number) same

left_of : {d e : FieldFault} → d ≡ e → d.left ≡ e.left
left_of same = ap (λ (x : FieldFault). x.left) same

-- ---- what is told, by the layout

pub walks : (bytes : List ℕ) → walk (text (owners_in bytes)) (line_start bytes) ≡ fault_of (text_read bytes)
unfolding told
walks bytes = a_text bytes

read_found : (bytes : List ℕ) (e : FieldFault) → text_read bytes ≡ Err e → Found (text (owners_in bytes)) bytes e
read_found bytes e is = find (text (owners_in bytes)) bytes e (walks bytes ∙ ap (λ (r : Result Parts FieldFault). fault_of r) is)

stands_read : (bytes : List ℕ) (lines : ℕ) (l : Layout) (rest : List ℕ) (e : FieldFault) → Behind (text (owners_in bytes)) bytes lines l rest → IsFaulty l rest e → text_read bytes ≡ Err e
stands_read bytes lines l rest e behind faulty = by (text_read bytes) refl (sym (walks bytes) ∙ stands_walk (text (owners_in bytes)) bytes lines l rest e behind faulty) where
  by : (r : Result Parts FieldFault) → text_read bytes ≡ r → fault_of r ≡ Some e → text_read bytes ≡ Err e
  by (Ok x) was is = absurd (let h : None ≡ Some e = is in cc)
  by (Err d) was is = was ∙ ap (λ (x : FieldFault). Err x) (cc)

-- the line that is told is the one behind the right ones
not_over : (l : Layout) (rest : List ℕ) (e : FieldFault) → IsFaulty l rest e → IsOver l rest → ⊥
not_over l rest e (inl is) over = is.0 true finish [] (subst (λ (x : Layout). HasForm x rest true finish []) (sym over.0) (over.1, refl, refl, refl))
not_over l rest e (inr is) over = (let form = subst (λ (x : Layout). HasForm x rest false is.0.0 is.0.1) over.0 is.0.2 in let f = form.1 in cc)

line_of : (bytes : List ℕ) (lines : ℕ) (l : Layout) (rest : List ℕ) (e : FieldFault) → Behind (text (owners_in bytes)) bytes lines l rest → IsFaulty l rest e → line_at bytes (length rest) ≡ lines + 1
line_of bytes lines l rest e behind faulty = by (lines_before (text (owners_in bytes)) bytes lines l rest (a_text_is_clean (owners_in bytes)) behind) where
  by : LinesOf bytes lines rest ⊎ IsOver l rest → line_at bytes (length rest) ≡ lines + 1
  by (inl b) = line_is bytes lines rest b
  by (inr over) = absurd (not_over l rest e faulty over)

has_fault : (bytes : List ℕ) (number line : ℕ) → (number ≡ 3 → ⊥) → IsFaultOf bytes number line → HasFault bytes number line
has_fault bytes number line other (inl long) = absurd (other long.is)
has_fault bytes number line other (inr h) = h

-- ---- A1 and A2

module _ (bytes : List ℕ) (line : ℕ) where
  at_line : (number left lines : ℕ) (l : Layout) (rest : List ℕ) → line ≡ line_at bytes left → Behind (text (owners_in bytes)) bytes lines l rest → IsFaulty l rest (fault number left) → length rest ≡ left → line ≡ lines + 1
  at_line number left lines l rest place behind faulty same = place ∙ (ap (line_at bytes) (sym same) ∙ line_of bytes lines l rest (fault number left) behind faulty)

  lacking : (h : HasFault bytes 1 line) → Found (text (owners_in bytes)) bytes (fault 1 h.left) → StandsAt LacksForm bytes line
  lacking h f = by f.faulty where
    by : IsFaulty f.at f.rest (fault 1 h.left) → StandsAt LacksForm bytes line
    by (inl is) = record { few = h.short; l = f.at; rest = f.rest; before = f.lines; behind = f.behind; is = is.0; place = at_line 1 h.left f.lines f.at f.rest h.place f.behind (inl is) (left_of is.1) }
    by (inr is) = absurd (let two = number_of is.1 in omega (arith, two))

  wrong : (h : HasFault bytes 2 line) → Found (text (owners_in bytes)) bytes (fault 2 h.left) → StandsAt IsWrongLine bytes line
  wrong h f = by f.faulty where
    by : IsFaulty f.at f.rest (fault 2 h.left) → StandsAt IsWrongLine bytes line
    by (inl is) = absurd (let one = number_of is.1 in omega (arith, one))
    by (inr is) = record { few = h.short; l = f.at; rest = f.rest; before = f.lines; behind = f.behind; is = is.0; place = at_line 2 h.left f.lines f.at f.rest h.place f.behind (inr is) (left_of is.1) }

  pub stood : (number : ℕ) (lines : ℕ) (l : Layout) (rest : List ℕ) → length bytes ≤ longest_text → Behind (text (owners_in bytes)) bytes lines l rest → IsFaulty l rest (fault number (length rest)) → line ≡ lines + 1 → IsFaultOf bytes number line
  stood number lines l rest few behind faulty place =
      inr (record {
        short = few;
        left = length rest;
        is_read = stands_read bytes lines l rest (fault number (length rest)) behind faulty;
        place = place ∙ sym (line_of bytes lines l rest (fault number (length rest)) behind faulty);
      })

pub lacks_of_form_are_a1 : LacksOfFormAreA1
lacks_of_form_are_a1 bytes line = (there, back) where
  there : IsFaultOf bytes 1 line → StandsAt LacksForm bytes line
  there is =
      let h = has_fault bytes 1 line (λ e. omega (arith, e)) is in
      lacking bytes line h (read_found bytes (fault 1 h.left) h.is_read)

  back : StandsAt LacksForm bytes line → IsFaultOf bytes 1 line
  back s = stood bytes line 1 s.before s.l s.rest s.few s.behind (inl (s.is, refl)) s.place

pub wrong_lines_are_a2 : WrongLinesAreA2
wrong_lines_are_a2 bytes line = (there, back) where
  there : IsFaultOf bytes 2 line → StandsAt IsWrongLine bytes line
  there is =
      let h = has_fault bytes 2 line (λ e. omega (arith, e)) is in
      wrong bytes line h (read_found bytes (fault 2 h.left) h.is_read)

  back : StandsAt IsWrongLine bytes line → IsFaultOf bytes 2 line
  back s = stood bytes line 2 s.before s.l s.rest s.few s.behind (inr (s.is, refl)) s.place

-- ---- A3, and no others

number_is : (bytes : List ℕ) (number line : ℕ) → (h : HasFault bytes number line) → (number ≡ 1) ⊎ (number ≡ 2)
number_is bytes number line h = by (read_found bytes (fault number h.left) h.is_read) where
  of_faulty : (l : Layout) (rest : List ℕ) → IsFaulty l rest (fault number h.left) → (number ≡ 1) ⊎ (number ≡ 2)
  of_faulty l rest (inl is) = inl (sym (number_of is.1))
  of_faulty l rest (inr is) = inr (sym (number_of is.1))

  by : Found (text (owners_in bytes)) bytes (fault number h.left) → (number ≡ 1) ⊎ (number ≡ 2)
  by f = of_faulty f.at f.rest f.faulty

pub long_texts_are_a3 : LongTextsAreA3
long_texts_are_a3 bytes line = (there, back) where
  there : IsFaultOf bytes 3 line → (longest_text < length bytes) × (line ≡ 0)
  there (inl long) = (long.long, long.nowhere)
  there (inr h) = elim (number_is bytes 3 line h) [ inl one ↦ absurd (omega (arith, one)) | inr two ↦ absurd (omega (arith, two)) ]

  back : (longest_text < length bytes) × (line ≡ 0) → IsFaultOf bytes 3 line
  back h = inl (record { long = h.0; is = refl; nowhere = h.1 })

pub no_other_faults : NoOtherFaults
no_other_faults bytes number line (inl long) = inr (inr long.is)
no_other_faults bytes number line (inr h) = elim (number_is bytes number line h) [ inl one ↦ inl one | inr two ↦ inr (inl two) ]

-- ---- what is wrong in a line

pub wrong_notes_are_of_images : WrongNotesAreOfImages
wrong_notes_are_of_images (ranged low high None) fault w = inl w
wrong_notes_are_of_images (ranged low high (Some n)) fault w = inl w.0
wrong_notes_are_of_images (operand None) fault w = inl w
wrong_notes_are_of_images (operand (Some n)) fault w = inl w.0
wrong_notes_are_of_images (one_of count n) fault w = inl w.0
wrong_notes_are_of_images (event events used n) fault w = inl w.0
wrong_notes_are_of_images (fresh taken name) fault (inl w) = inl w.0
wrong_notes_are_of_images (fresh taken name) fault (inr w) = inr (inl w.0)
wrong_notes_are_of_images (own_name earlier c) fault w = inr (inl w.0)
wrong_notes_are_of_images (handled last n) fault w = inr (inr w.0)
wrong_notes_are_of_images too_many fault w = inl w
wrong_notes_are_of_images lacks_process fault w = inl w

no_process : (A B : Type 0) → ((Holds lacks_process × A) ⊎ (IsWrong lacks_process × (true ≡ false) × B)) → ⊥
no_process A B (inl h) = h.0 4 refl
no_process A B (inr h) = (let e = h.1 in cc)

pub nothing_stands_for_a_process : NothingStandsForAProcess
nothing_stands_for_a_process behind next bytes rest (inl h) = no_process _ _ h.1
nothing_stands_for_a_process behind next bytes rest (inr h) = no_process _ _ h.1

pub nothing_is_behind_the_end : NothingIsBehindTheEnd
nothing_is_behind_the_end bytes = (λ lack empty. lack true finish [] (empty, refl, refl, refl), λ some fine next rest h. some h.0)

pub missing_lines_lack_form : MissingLinesLackForm
missing_lines_lack_form owners lines bytes l behind = by (comes (text owners) bytes lines l [] (a_text_asks owners) (a_text_is_clean owners) behind) where
  by : IsNext l → (l ≡ finish) ⊎ LacksForm l []
  by (inl is) = inl is
  by (inr asks) = inr (asks_lacks l asks)
