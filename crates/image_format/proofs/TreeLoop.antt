-- Reading segments one after the other, as a loop does.
use Rattle.std.proofs.Common.{◌≡◌, ℕ, suc, ◌-◌, ◌+◌, ◌≤◌, ◌<◌, List, [], ◌∷◌, ◌++◌, map, Ok, Err, refl, sym, ap, ◌∙◌, arith}
use Rattle.std.proofs.lemmas.List.{map_push}
use Rattle.machine_semantics.specs.Trees as tree
use Rattle.machine_semantics.specs.Trees.{Segs, Nil, Cons}
use Rattle.image_format.specs.declared.seg.Seg.{Seg}
use Rattle.image_format.specs.View.{tree_of, view, views}
use Rattle.image_format.specs.declared.fault.ReadError.{ReadError}
use Rattle.image_format.specs.declared.fault.ReadError.TheVariants as errors
use Rattle.image_format.specs.Format.{◌>>=◌, Format, Read}
use Rattle.image_format.specs.Gives.{Fails}
use Rattle.image_format.specs.TreeFormat.{segs_read}

-- one row after another
abbrev pub join : Segs → Segs → Segs
join Nil ts = ts
join (Cons t us) ts = Cons t (join us ts)

-- what was read before, and what is still read
abbrev pub with_front : Segs → Read Segs → Read Segs
with_front front read = read >>= λ x. Ok (join front x.0, x.1)

pub join-none : (ts : Segs) → join ts Nil ≡ ts
join-none Nil = refl
join-none (Cons t ts) = ap (λ us. Cons t us) (join-none ts)

pub join_assoc : (a b c : Segs) → join (join a b) c ≡ join a (join b c)
join_assoc Nil b c = refl
join_assoc (Cons t a) b c = ap (λ us. Cons t us) (join_assoc a b c)

tree_of-append : (xs ys : List tree.Seg) → tree_of (xs ++ ys) ≡ join (tree_of xs) (tree_of ys)
tree_of-append [] ys = refl
tree_of-append (x ∷ xs) ys = ap (λ us. Cons x us) (tree_of-append xs ys)

pub views-push : (segs : List Seg) (s : Seg) → views (segs ++ s ∷ []) ≡ join (views segs) (Cons (view s) Nil)
views-push segs s = ap tree_of (map_push view segs s) ∙ tree_of-append (map view segs) (view s ∷ [])

regroup : (front : Segs) (t : tree.Seg) (read : Read Segs) → with_front front (read >>= λ x. Ok (Cons t x.0, x.1)) ≡ with_front (join front (Cons t Nil)) read
regroup front t (Ok x) = ap (λ (ts : Segs). Ok (ts, x.1)) (sym (join_assoc front (Cons t Nil) x.0))
regroup front t (Err f) = refl

pub goes_on : (f : Format tree.Seg) (front : Segs) (count i : ℕ) (bytes : List ℕ) (t : tree.Seg) (after : List ℕ) (total : Read Segs) → i < count → f.read bytes ≡ Ok (t, after)
    → with_front front (segs_read f (count - i) bytes) ≡ total → with_front (join front (Cons t Nil)) (segs_read f (count - (i + 1)) after) ≡ total
unfolding segs_read
goes_on f front count i bytes t after total lt h so_far =
    let k : count - i ≡ suc (count - (i + 1)) = omega arith in
    let one : with_front front (segs_read f (count - i) bytes) ≡ with_front (join front (Cons t Nil)) (segs_read f (count - (i + 1)) after) = rw (k, h) (regroup front t (segs_read f (count - (i + 1)) after)) in
    sym one ∙ so_far

pub ends : (f : Format tree.Seg) (e : ReadError) (front : Segs) (count i : ℕ) (bytes : List ℕ) (total : Read Segs) → i < count → Fails e (f.read bytes)
    → with_front front (segs_read f (count - i) bytes) ≡ total → Fails e total
unfolding segs_read
ends f (errors.Memory _) front count i bytes total lt h so_far = tt
ends f (errors.Fault x) front count i bytes total lt h so_far =
    let k : count - i ≡ suc (count - (i + 1)) = omega arith in
    let one : with_front front (segs_read f (count - i) bytes) ≡ Err x = rw (k, h) refl in
    sym so_far ∙ one

pub is_done : (f : Format tree.Seg) (front : Segs) (count i : ℕ) (bytes : List ℕ) (total : Read Segs) → count ≤ i → with_front front (segs_read f (count - i) bytes) ≡ total → total ≡ Ok (front, bytes)
unfolding segs_read
is_done f front count i bytes total le so_far =
    let k : count - i ≡ 0 = omega arith in
    let one : with_front front (segs_read f (count - i) bytes) ≡ Ok (front, bytes) = rw k (ap (λ (ts : Segs). Ok (ts, bytes)) (join-none front)) in
    sym so_far ∙ one
