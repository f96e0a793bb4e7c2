-- The layout tells what reading tells: lines of a kind, one after the other.
use Rattle.std.proofs.Common.{◌≡◌, ◌++◌, ℕ, zero, suc, List, [], ◌∷◌, map, Ok, Err, Option, Some, None, refl, ap, sym, ◌∙◌, true, false, Bool, append_assoc, append-nil}
use Rattle.std.specs.Prelude.{not, codes, if◌then◌else◌}
use Rattle.machine_isa.specs.declared.instr.Instr.{Instr}
use Rattle.text_fields.specs.declared.fault.FieldFault.{FieldFault}
use Rattle.text_fields.specs.Front.{Front, Read, ◌>>=◌, out_of_range, begins}
use Rattle.asm_lines.specs.Instrs.{instr_read}
use Rattle.assembler.specs.Sections.{refused, no_more, rows_read, is_end, code_read, none_read}
use Rattle.asm_law.specs.Notes.{Note, too_many, lacks_process}
use Rattle.asm_law.specs.Layout as l
use Rattle.asm_law.specs.Layout.{Layout, done, choice, note}
use Rattle.asm_law.proofs.Walks.{walk, and_false}
use Rattle.asm_law.proofs.Reading.{follow, told, Reads, Skips, chain, pass}
use Rattle.asm_law.proofs.Table.{holds}
use Rattle.asm_law.proofs.Refusing.{line_refused}
use Rattle.asm_law.proofs.Ones.{an_instruction_is_one}
use Rattle.asm_law.proofs.FieldLines.{a_choice, an_instruction}

pub grows : {A B : Type 0} (f : A → B) (xs : List A) (x : A) → map f (xs ++ x ∷ []) ≡ map f xs ++ f x ∷ []
grows f [] x = refl
grows f (y ∷ ys) x = ap (λ (zs : List _). f y ∷ zs) (grows f ys x)

module _ {A B C : Type 0} (start : List ℕ) (one : List A → Front → Read A) (line : List A → Front → Read C) (t : A → B) (tell : List A → List B) (l_one : List B → (B → Layout) → Layout) (l_line : List B → Layout)
    (more : (xs : List A) (x : A) → tell (xs ++ x ∷ []) ≡ tell xs ++ t x ∷ []) (reads : (xs : List A) → Reads (one xs) t (l_one (tell xs)))
    (refuses : (xs : List A) (s : Front) → told (note too_many (l_line (tell xs))) s ≡ Some (refused (line xs s) s)) where
  none_more : (earlier : List A) (k : List B → Layout) (s : Front)
      → told (choice start (note too_many (l_line (tell earlier))) (k (tell earlier))) s ≡ follow (no_more (begins start) (line earlier) s >>= λ u. Ok ([], u)) (λ xs rest. told (k (tell (earlier ++ xs))) rest)
  unfolding told
  none_more earlier k s = by (begins start s.rest) where
    by : (b : Bool) → (if b then walk (note too_many (l_line (tell earlier))) s else walk (k (tell earlier)) s) ≡ follow ((if b then Err (refused (line earlier s) s) else Ok s) >>= λ u. Ok ([], u)) (λ xs rest. walk (k (tell (earlier ++ xs))) rest)
    by true = refuses earlier s
    by false = ap (λ (xs : List A). walk (k (tell xs)) s) (simp append-nil refl)

  rows_as : (n : ℕ) (earlier : List A) (k : List B → Layout) (s : Front) → told (l.rows start l_one l_line (tell earlier) n k) s ≡ follow (rows_read (begins start) one line earlier n s) (λ xs rest. told (k (tell (earlier ++ xs))) rest)
  unfolding l.rows rows_read
  rows_as zero earlier k s = none_more earlier k s
  rows_as (suc n) earlier k s =
      a_choice start _ _ s _ _ _
      (chain (one earlier) t (l_one (tell earlier)) (λ x. l.rows start l_one l_line (tell earlier ++ x ∷ []) n k) (λ x. rows_read (begins start) one line (earlier ++ x.0 ∷ []) n x.1 >>= λ xs. Ok (x.0 ∷ xs.0, xs.1)) _ (reads earlier)
      (λ x s. ap (λ (ys : List B). told (l.rows start l_one l_line ys n k) s) (sym (more earlier x)) ∙ (rows_as n (earlier ++ x ∷ []) k s ∙ inner x (rows_read (begins start) one line (earlier ++ x ∷ []) n s))) s)
      (ap (λ (xs : List A). told (k (tell xs)) s) (simp append-nil refl))
    where
      inner : (x : A) (r : Read (List A)) → follow r (λ xs rest. told (k (tell ((earlier ++ x ∷ []) ++ xs))) rest) ≡ follow (r >>= λ xs. Ok (x ∷ xs.0, xs.1)) (λ xs rest. told (k (tell (earlier ++ xs))) rest)
      inner x (Ok y) = ap (λ (xs : List A). told (k (tell xs)) y.1) (simp append_assoc refl)
      inner x (Err e) = refl

  pub some_rows : (n : ℕ) → tell [] ≡ [] → Reads (rows_read (begins start) one line [] n) tell (λ k. l.rows start l_one l_line [] n k)
  some_rows n empty k s = ap (λ (ys : List B). told (l.rows start l_one l_line ys n k) s) (sym empty) ∙ rows_as n [] k s

-- ---- code

abbrev more_code : List ℕ → Bool
more_code bytes = not (is_end bytes)

abbrev code_rows : List Instr → ℕ → Front → Read (List Instr)
code_rows earlier n s = rows_read more_code (λ before. instr_read) (λ before. instr_read) earlier n s

unless_end : {A : Type 0} (a b : Layout) (s : Front) (r q : Read A) (h : A → Front → Option FieldFault) → told a s ≡ follow r h → told b s ≡ follow q h
    → told (choice (codes "end\n") a b) s ≡ follow (if not (is_end s.rest) then q else r) h
unfolding told
unless_end a b s r q h first second = by (is_end s.rest) where
  by : (c : Bool) → (if c then walk a s else walk b s) ≡ follow (if not c then q else r) h
  by true = first
  by false = second

refused_instruction : (x : Note) → holds x ≡ false → (s : Front) → told (note x (l.instruction done)) s ≡ Some (refused (instr_read s) s)
refused_instruction x wrong s = line_refused instr_read (λ y. 0) (λ (k : ℕ → Layout). l.instruction (k 0)) (λ k s. an_instruction (k 0) s) an_instruction_is_one x wrong s

none_after : (k : Layout) (s : Front) → told (choice (codes "end\n") k (note too_many (l.instruction done))) s ≡ follow (no_more more_code instr_read s >>= λ u. Ok ([], u)) (λ (xs : List Instr) rest. told k rest)
unfolding told
none_after k s = by (is_end s.rest) where
  by : (c : Bool) → (if c then walk k s else walk (note too_many (l.instruction done)) s) ≡ follow ((if not c then Err (refused (instr_read s) s) else Ok s) >>= λ u. Ok ([], u)) (λ (xs : List Instr) rest. walk k rest)
  by true = refl
  by false = refused_instruction too_many refl s

some_code : (n : ℕ) (earlier : List Instr) (k : Layout) (s : Front) → told (l.instructions n k) s ≡ follow (code_rows earlier n s) (λ xs rest. told k rest)
unfolding rows_read l.instructions
some_code zero earlier k s = none_after k s
some_code (suc n) earlier k s =
    unless_end k _ s _ _ _ refl
    (pass instr_read l.instruction (l.instructions n k) (λ x. code_rows (earlier ++ x.0 ∷ []) n x.1 >>= λ xs. Ok (x.0 ∷ xs.0, xs.1)) _ an_instruction
    (λ x s. some_code n (earlier ++ x ∷ []) k s ∙ inner x (code_rows (earlier ++ x ∷ []) n s)) s)
  where
    inner : (x : Instr) (r : Read (List Instr)) → follow r (λ xs rest. told k rest) ≡ follow (r >>= λ xs. Ok (x ∷ xs.0, xs.1)) (λ xs rest. told k rest)
    inner x (Ok y) = refl
    inner x (Err e) = refl

lacks_one : (s : Front) → told (choice (codes "end\n") (note lacks_process done) (note lacks_process (l.instruction done))) s ≡ Some (none_read s)
unfolding told none_read
lacks_one s = by (is_end s.rest) where
  by : (c : Bool) → (if c then walk (note lacks_process done) s else walk (note lacks_process (l.instruction done)) s) ≡ Some (if c then out_of_range s else refused (instr_read s) s)
  by true = ap (λ b. if b then None else Some (out_of_range s)) (and_false s.fine)
  by false = refused_instruction lacks_process refl s

pub a_code : (complete : Bool) → Skips (code_read complete) (l.code complete)
unfolding code_read
a_code true k s = some_code 65535 [] k s
a_code false k s = lacks_one s
