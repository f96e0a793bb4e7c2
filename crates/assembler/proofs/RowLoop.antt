-- Reading the parts of a kind one after the other, as a loop does.
use Rattle.std.proofs.Common.{◌≡◌, ℕ, suc, ◌-◌, ◌+◌, ◌≤◌, ◌<◌, List, [], ◌∷◌, ◌++◌, Bool, true, false, Ok, Err, refl, sym, ap, ◌∙◌, arith, append_assoc, append-nil}
use Rattle.text_fields.specs.declared.fault.FieldError.{FieldError}
use Rattle.text_fields.specs.declared.fault.FieldError.TheVariants as errors
use Rattle.text_fields.specs.Front.{◌>>=◌, Fails, Front, Read}
use Rattle.assembler.specs.Sections.{no_more, rows_read}

-- what was read before, and what is still read
abbrev pub in_front : {A : Type 0} → List A → Read (List A) → Read (List A)
in_front front read = read >>= λ x. Ok (front ++ x.0, x.1)

regroup : {A : Type 0} (front : List A) (x : A) (read : Read (List A)) → in_front front (read >>= λ xs. Ok (x ∷ xs.0, xs.1)) ≡ in_front (front ++ x ∷ []) read
regroup {A = A} front x (Ok xs) = ap (λ (ys : List A). Ok (ys, xs.1)) (sym (append_assoc front (x ∷ []) xs.0))
regroup {A = A} front x (Err f) = refl

pub goes_on : {A B : Type 0} (is_next : List ℕ → Bool) (one : List A → Front → Read A) (line : List A → Front → Read B) (front : List A) (most i : ℕ) (s : Front) (x : A) (after : Front) (total : Read (List A))
    → i < most → is_next s.rest ≡ true → one front s ≡ Ok (x, after)
    → in_front front (rows_read is_next one line front (most - i) s) ≡ total → in_front (front ++ x ∷ []) (rows_read is_next one line (front ++ x ∷ []) (most - (i + 1)) after) ≡ total
unfolding rows_read
goes_on is_next one line front most i s x after total lt next h so_far =
    let k : most - i ≡ suc (most - (i + 1)) = omega arith in
    let step : in_front front (rows_read is_next one line front (most - i) s) ≡ in_front (front ++ x ∷ []) (rows_read is_next one line (front ++ x ∷ []) (most - (i + 1)) after) =
    rw (k, next, h) (regroup front x (rows_read is_next one line (front ++ x ∷ []) (most - (i + 1)) after)) in
    sym step ∙ so_far

pub fails : {A B : Type 0} (is_next : List ℕ → Bool) (one : List A → Front → Read A) (line : List A → Front → Read B) (e : FieldError) (front : List A) (most i : ℕ) (s : Front) (total : Read (List A))
    → i < most → is_next s.rest ≡ true → Fails e (one front s) → in_front front (rows_read is_next one line front (most - i) s) ≡ total → Fails e total
unfolding rows_read
fails is_next one line (errors.Memory _) front most i s total lt next h so_far = tt
fails is_next one line (errors.Fault x) front most i s total lt next h so_far =
    let k : most - i ≡ suc (most - (i + 1)) = omega arith in
    let step : in_front front (rows_read is_next one line front (most - i) s) ≡ Err x = rw (k, next, h) refl in
    sym so_far ∙ step

pub ends : {A B : Type 0} (is_next : List ℕ → Bool) (one : List A → Front → Read A) (line : List A → Front → Read B) (front : List A) (most i : ℕ) (s : Front) (total : Read (List A))
    → i < most → is_next s.rest ≡ false → in_front front (rows_read is_next one line front (most - i) s) ≡ total → total ≡ Ok (front, s)
unfolding rows_read
ends {A = A} is_next one line front most i s total lt none so_far =
    let k : most - i ≡ suc (most - (i + 1)) = omega arith in
    let step : in_front front (rows_read is_next one line front (most - i) s) ≡ Ok (front, s) = rw (k, none) (ap (λ (ys : List A). Ok (ys, s)) (append-nil front)) in
    sym so_far ∙ step

-- at the limit no more may follow
pub full : {A B : Type 0} (is_next : List ℕ → Bool) (one : List A → Front → Read A) (line : List A → Front → Read B) (front : List A) (most i : ℕ) (s t : Front) (total : Read (List A))
    → most ≤ i → no_more is_next (line front) s ≡ Ok t → in_front front (rows_read is_next one line front (most - i) s) ≡ total → total ≡ Ok (front, t)
unfolding rows_read
full {A = A} is_next one line front most i s t total le none so_far =
    let k : most - i ≡ 0 = omega arith in
    let step : in_front front (rows_read is_next one line front (most - i) s) ≡ Ok (front, t) = rw (k, none) (ap (λ (ys : List A). Ok (ys, t)) (append-nil front)) in
    sym so_far ∙ step

pub overfull : {A B : Type 0} (is_next : List ℕ → Bool) (one : List A → Front → Read A) (line : List A → Front → Read B) (e : FieldError) (front : List A) (most i : ℕ) (s : Front) (total : Read (List A))
    → most ≤ i → Fails e (no_more is_next (line front) s) → in_front front (rows_read is_next one line front (most - i) s) ≡ total → Fails e total
unfolding rows_read
overfull is_next one line (errors.Memory _) front most i s total le h so_far = tt
overfull is_next one line (errors.Fault x) front most i s total le h so_far =
    let k : most - i ≡ 0 = omega arith in
    let step : in_front front (rows_read is_next one line front (most - i) s) ≡ Err x = rw (k, h) refl in
    sym so_far ∙ step
