-- Reading things one after the other, as a loop does.
use Rattle.std.proofs.Common.{◌≡◌, ℕ, suc, ◌-◌, ◌+◌, ◌≤◌, ◌<◌, List, [], ◌∷◌, ◌++◌, Ok, Err, refl, sym, ap, ◌∙◌, arith, append_assoc, append-nil}
use Rattle.image_format.specs.declared.fault.ByteFault.{ByteFault}
use Rattle.image_format.specs.declared.fault.ReadError.{ReadError}
use Rattle.image_format.specs.declared.fault.ReadError.TheVariants as errors
use Rattle.image_format.specs.Format.{◌>>=◌, Format, Read, each_read}
use Rattle.image_format.specs.Gives.{Fails}

-- what was read before, and what is still read
abbrev pub in_front : {A : Type 0} → List A → Read (List A) → Read (List A)
in_front front read = read >>= λ x. Ok (front ++ x.0, x.1)

regroup : {A : Type 0} (front : List A) (x : A) (read : Read (List A)) → in_front front (read >>= λ xs. Ok (x ∷ xs.0, xs.1)) ≡ in_front (front ++ x ∷ []) read
regroup {A = A} front x (Ok xs) = ap (λ (ys : List A). Ok (ys, xs.1)) (sym (append_assoc front (x ∷ []) xs.0))
regroup {A = A} front x (Err f) = refl

pub goes_on : {A : Type 0} (f : List A → Format A) (front : List A) (count i : ℕ) (bytes : List ℕ) (x : A) (after : List ℕ) (total : Read (List A)) → i < count → (f front).read bytes ≡ Ok (x, after)
    → in_front front (each_read f front (count - i) bytes) ≡ total → in_front (front ++ x ∷ []) (each_read f (front ++ x ∷ []) (count - (i + 1)) after) ≡ total
unfolding each_read
goes_on f front count i bytes x after total lt h so_far =
    let k : count - i ≡ suc (count - (i + 1)) = omega arith in
    let one : in_front front (each_read f front (count - i) bytes) ≡ in_front (front ++ x ∷ []) (each_read f (front ++ x ∷ []) (count - (i + 1)) after) =
    rw (k, h) (regroup front x (each_read f (front ++ x ∷ []) (count - (i + 1)) after)) in
    sym one ∙ so_far

pub fails : {A : Type 0} (f : List A → Format A) (x : ByteFault) (front : List A) (count i : ℕ) (bytes : List ℕ) (total : Read (List A)) → i < count → (f front).read bytes ≡ Err x
    → in_front front (each_read f front (count - i) bytes) ≡ total → total ≡ Err x
unfolding each_read
fails f x front count i bytes total lt h so_far =
    let k : count - i ≡ suc (count - (i + 1)) = omega arith in
    let one : in_front front (each_read f front (count - i) bytes) ≡ Err x = rw (k, h) refl in
    sym so_far ∙ one

pub ends : {A : Type 0} (f : List A → Format A) (e : ReadError) (front : List A) (count i : ℕ) (bytes : List ℕ) (total : Read (List A)) → i < count → Fails e ((f front).read bytes)
    → in_front front (each_read f front (count - i) bytes) ≡ total → Fails e total
ends f (errors.Memory _) front count i bytes total lt h so_far = tt
ends f (errors.Fault x) front count i bytes total lt h so_far = fails f x front count i bytes total lt h so_far

pub is_done : {A : Type 0} (f : List A → Format A) (front : List A) (count i : ℕ) (bytes : List ℕ) (total : Read (List A)) → count ≤ i
    → in_front front (each_read f front (count - i) bytes) ≡ total → total ≡ Ok (front, bytes)
unfolding each_read
is_done {A = A} f front count i bytes total le so_far =
    let k : count - i ≡ 0 = omega arith in
    let one : in_front front (each_read f front (count - i) bytes) ≡ Ok (front, bytes) = rw k (ap (λ (xs : List A). Ok (xs, bytes)) (append-nil front)) in
    sym so_far ∙ one
