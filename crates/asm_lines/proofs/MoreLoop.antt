-- Reading the numbers of a handler one after the other, as a loop does.
use Rattle.std.proofs.Common.{◌≡◌, ℕ, suc, ◌-◌, ◌+◌, ◌≤◌, ◌<◌, List, [], ◌∷◌, ◌++◌, Bool, true, false, Ok, Err, codes, refl, sym, ap, ◌∙◌, arith, append_assoc, append-nil}
use Rattle.text_fields.specs.declared.fault.FieldError.{FieldError}
use Rattle.text_fields.specs.declared.fault.FieldError.TheVariants as errors
use Rattle.text_fields.specs.Front.{◌>>=◌, Fails, Front, Read, begins as is_next, no_form}
use Rattle.asm_lines.specs.Processes.{more_read, taken_read}

-- what was read before, and what is still read
abbrev pub with_front : List ℕ → Read (List ℕ) → Read (List ℕ)
with_front front read = read >>= λ x. Ok (front ++ x.0, x.1)

regroup : (front : List ℕ) (n : ℕ) (read : Read (List ℕ)) → with_front front (read >>= λ x. Ok (n ∷ x.0, x.1)) ≡ with_front (front ++ n ∷ []) read
regroup front n (Ok x) = ap (λ (ys : List ℕ). Ok (ys, x.1)) (sym (append_assoc front (n ∷ []) x.0))
regroup front n (Err f) = refl

pub goes_on : (front : List ℕ) (most i last : ℕ) (s : Front) (n : ℕ) (after : Front) (total : Read (List ℕ)) → i < most → is_next (codes "\n") s.rest ≡ false → taken_read last s ≡ Ok (n, after)
    → with_front front (more_read (most - i) last s) ≡ total → with_front (front ++ n ∷ []) (more_read (most - (i + 1)) n after) ≡ total
unfolding more_read
goes_on front most i last s n after total lt more h so_far =
    let k : most - i ≡ suc (most - (i + 1)) = omega arith in
    let step : with_front front (more_read (most - i) last s) ≡ with_front (front ++ n ∷ []) (more_read (most - (i + 1)) n after) = rw (k, more, h) (regroup front n (more_read (most - (i + 1)) n after)) in
    sym step ∙ so_far

pub fails : (e : FieldError) (front : List ℕ) (most i last : ℕ) (s : Front) (total : Read (List ℕ)) → i < most → is_next (codes "\n") s.rest ≡ false → Fails e (taken_read last s)
    → with_front front (more_read (most - i) last s) ≡ total → Fails e total
unfolding more_read
fails (errors.Memory _) front most i last s total lt more h so_far = tt
fails (errors.Fault x) front most i last s total lt more h so_far =
    let k : most - i ≡ suc (most - (i + 1)) = omega arith in
    let step : with_front front (more_read (most - i) last s) ≡ Err x = rw (k, more, h) refl in
    sym so_far ∙ step

pub ends : (front : List ℕ) (most i last : ℕ) (s : Front) (total : Read (List ℕ)) → i < most → is_next (codes "\n") s.rest ≡ true → with_front front (more_read (most - i) last s) ≡ total → total ≡ Ok (front, s)
unfolding more_read
ends front most i last s total lt no_more so_far =
    let k : most - i ≡ suc (most - (i + 1)) = omega arith in
    let step : with_front front (more_read (most - i) last s) ≡ Ok (front, s) = rw (k, no_more) (ap (λ (ys : List ℕ). Ok (ys, s)) (append-nil front)) in
    sym so_far ∙ step

pub runs_out : (front : List ℕ) (most i last : ℕ) (s : Front) (total : Read (List ℕ)) → most ≤ i → with_front front (more_read (most - i) last s) ≡ total → total ≡ Err (no_form s)
unfolding more_read
runs_out front most i last s total le so_far =
    let k : most - i ≡ 0 = omega arith in
    let step : with_front front (more_read (most - i) last s) ≡ Err (no_form s) = rw k refl in
    sym so_far ∙ step
