-- Reading segments one after the other, as a loop does.
use Rattle.std.proofs.Common.{◌≡◌, ℕ, suc, ◌-◌, ◌+◌, ◌≤◌, ◌<◌, List, [], ◌∷◌, ◌++◌, Bool, true, false, map, Ok, Err, refl, sym, ap, ◌∙◌, arith}
use Rattle.machine_semantics.specs.Trees as tree
use Rattle.machine_semantics.specs.Trees.{Segs, Nil, Cons}
use Rattle.image_format.proofs.TreeLoop.{join, join-none, join_assoc}
use Rattle.text_fields.specs.declared.fault.FieldError.{FieldError}
use Rattle.text_fields.specs.declared.fault.FieldError.TheVariants as errors
use Rattle.text_fields.specs.Front.{◌>>=◌, Fails, Front, Read, no_form}
use Rattle.asm_lines.specs.Trees.{segs_read, tree_ends}

-- what was read before, and what is still read
abbrev pub with_front : Segs → Read Segs → Read Segs
with_front front read = read >>= λ x. Ok (join front x.0, x.1)

regroup : (front : Segs) (t : tree.Seg) (read : Read Segs) → with_front front (read >>= λ x. Ok (Cons t x.0, x.1)) ≡ with_front (join front (Cons t Nil)) read
regroup front t (Ok x) = ap (λ (ts : Segs). Ok (ts, x.1)) (sym (join_assoc front (Cons t Nil) x.0))
regroup front t (Err f) = refl

pub goes_on : (one : Front → Read tree.Seg) (front : Segs) (most i : ℕ) (s : Front) (t : tree.Seg) (after : Front) (total : Read Segs) → i < most → tree_ends s.rest ≡ false → one s ≡ Ok (t, after)
    → with_front front (segs_read one (most - i) s) ≡ total → with_front (join front (Cons t Nil)) (segs_read one (most - (i + 1)) after) ≡ total
unfolding segs_read
goes_on one front most i s t after total lt more h so_far =
    let k : most - i ≡ suc (most - (i + 1)) = omega arith in
    let step : with_front front (segs_read one (most - i) s) ≡ with_front (join front (Cons t Nil)) (segs_read one (most - (i + 1)) after) = rw (k, more, h) (regroup front t (segs_read one (most - (i + 1)) after)) in
    sym step ∙ so_far

pub fails : (one : Front → Read tree.Seg) (e : FieldError) (front : Segs) (most i : ℕ) (s : Front) (total : Read Segs) → i < most → tree_ends s.rest ≡ false → Fails e (one s)
    → with_front front (segs_read one (most - i) s) ≡ total → Fails e total
unfolding segs_read
fails one (errors.Memory _) front most i s total lt more h so_far = tt
fails one (errors.Fault x) front most i s total lt more h so_far =
    let k : most - i ≡ suc (most - (i + 1)) = omega arith in
    let step : with_front front (segs_read one (most - i) s) ≡ Err x = rw (k, more, h) refl in
    sym so_far ∙ step

pub ends : (one : Front → Read tree.Seg) (front : Segs) (most i : ℕ) (s : Front) (total : Read Segs) → i < most → tree_ends s.rest ≡ true → with_front front (segs_read one (most - i) s) ≡ total → total ≡ Ok (front, s)
unfolding segs_read
ends one front most i s total lt no_more so_far =
    let k : most - i ≡ suc (most - (i + 1)) = omega arith in
    let step : with_front front (segs_read one (most - i) s) ≡ Ok (front, s) = rw (k, no_more) (ap (λ (ts : Segs). Ok (ts, s)) (join-none front)) in
    sym so_far ∙ step

pub runs_out : (one : Front → Read tree.Seg) (front : Segs) (most i : ℕ) (s : Front) (total : Read Segs) → most ≤ i → with_front front (segs_read one (most - i) s) ≡ total → total ≡ Err (no_form s)
unfolding segs_read
runs_out one front most i s total le so_far =
    let k : most - i ≡ 0 = omega arith in
    let step : with_front front (segs_read one (most - i) s) ≡ Err (no_form s) = rw k refl in
    sym so_far ∙ step
