-- Bytes cut at the first byte of some value.
use Rattle.std.proofs.Common.{◌≡◌, ◌≢◌, ◌++◌, ℕ, ◌+◌, ◌<◌, suc, zero, List, [], ◌∷◌, length, take, drop, Bool, true, false, refl, ap, sym, ◌∙◌, arith, cond, subst, ◌≤◌, ◌-◌, take_all, length-drop}
use Rattle.std.specs.List.{prefix_len}
use Rattle.text_fields.specs.Fields.{Lacks, is_other, IsCutAt}

-- a cut at the first byte of a value is the only one
pub cut_once : (stop : ℕ) (a b c d : List ℕ) → Lacks stop a → Lacks stop c → a ++ stop ∷ b ≡ c ++ stop ∷ d → (a ≡ c) × (b ≡ d)
cut_once stop [] b [] d la lc e = let r : b ≡ d = cc in (refl, r)
cut_once stop [] b (y ∷ c) d la lc e = let r : y ≡ stop = cc in absurd (lc.0 r)
cut_once stop (x ∷ a) b [] d la lc e = let r : x ≡ stop = cc in absurd (la.0 r)
cut_once stop (x ∷ a) b (y ∷ c) d la lc e =
    let h : x ≡ y = cc in
    let t : a ++ stop ∷ b ≡ c ++ stop ∷ d = cc in
    let r = cut_once stop a b c d la.1 lc.1 t in
    let first = r.0 in
    (cc, r.1)

-- what is cut there has a byte of that value
pub cut_lacks : (stop : ℕ) (bytes a b : List ℕ) → Lacks stop bytes → bytes ≡ a ++ stop ∷ b → ⊥
cut_lacks stop [] [] b l e = cc
cut_lacks stop [] (y ∷ a) b l e = cc
cut_lacks stop (x ∷ bytes) [] b l e = let r : x ≡ stop = cc in l.0 r
cut_lacks stop (x ∷ bytes) (y ∷ a) b l e = let t : bytes ≡ a ++ stop ∷ b = cc in cut_lacks stop bytes a b l.1 t

pub lacks_both : (stop : ℕ) (a b : List ℕ) → Lacks stop a → Lacks stop b → Lacks stop (a ++ b)
lacks_both stop [] b la lb = lb
lacks_both stop (x ∷ a) b la lb = (la.0, lacks_both stop a b la.1 lb)

other_true : (stop b : ℕ) → is_other stop b ≡ true → b ≢ stop
other_true stop b e = grind arith

other_false : (stop b : ℕ) → is_other stop b ≡ false → b ≡ stop
other_false stop b e = grind arith

lacks_at : (stop b : ℕ) (bytes : List ℕ) (m : ℕ) (t : Bool) → is_other stop b ≡ t → Lacks stop (take m bytes) → Lacks stop (take (cond t (1 + m) 0) (b ∷ bytes))
lacks_at stop b bytes m true e rest = let s : suc m ≡ 1 + m = omega arith in subst (λ k. Lacks stop (take k (b ∷ bytes))) s (other_true stop b e, rest)
lacks_at stop b bytes m false e rest = tt

-- the bytes up to where the first stands lack it
pub front_lacks : (stop : ℕ) (bytes : List ℕ) → Lacks stop (take (prefix_len (is_other stop) bytes) bytes)
front_lacks stop [] = tt
front_lacks stop (b ∷ bytes) = lacks_at stop b bytes (prefix_len (is_other stop) bytes) (is_other stop b) refl (front_lacks stop bytes)

CutsAt : ℕ → List ℕ → ℕ → Type 0
CutsAt stop bytes n = bytes ≡ take n bytes ++ stop ∷ drop (n + 1) bytes

then_at : (stop b : ℕ) (bytes : List ℕ) (m : ℕ) (t : Bool) → is_other stop b ≡ t → (m < length bytes → CutsAt stop bytes m) → cond t (1 + m) 0 < length (b ∷ bytes) → CutsAt stop (b ∷ bytes) (cond t (1 + m) 0)
unfolding CutsAt
then_at stop b bytes m true e rest below =
    let s : suc m ≡ 1 + m = omega arith in
    let t : suc (m + 1) ≡ suc m + 1 = omega arith in
    let here : CutsAt stop (b ∷ bytes) (suc m) = ap (λ xs. b ∷ xs) (rest (omega arith)) ∙ ap (λ k. b ∷ (take m bytes ++ stop ∷ drop k (b ∷ bytes))) t in
    subst (λ k. CutsAt stop (b ∷ bytes) k) s here
then_at stop b bytes m false e rest below =
    let s : suc zero ≡ zero + 1 = omega arith in
    ap (λ x. x ∷ bytes) (other_false stop b e) ∙ ap (λ k. stop ∷ drop k (b ∷ bytes)) s

-- and where that is not the end, it stands there
front_cuts : (stop : ℕ) (bytes : List ℕ) → prefix_len (is_other stop) bytes < length bytes → CutsAt stop bytes (prefix_len (is_other stop) bytes)
front_cuts stop [] below = absurd (omega arith)
front_cuts stop (b ∷ bytes) below = then_at stop b bytes (prefix_len (is_other stop) bytes) (is_other stop b) refl (front_cuts stop bytes) below

pub front_then : (stop : ℕ) (bytes : List ℕ) → prefix_len (is_other stop) bytes < length bytes → bytes ≡ take (prefix_len (is_other stop) bytes) bytes ++ stop ∷ drop (prefix_len (is_other stop) bytes + 1) bytes
unfolding CutsAt
front_then stop bytes below = front_cuts stop bytes below

pub lacks_whole : (stop : ℕ) (bytes : List ℕ) (n : ℕ) → n ≡ prefix_len (is_other stop) bytes → n ≡ length bytes → Lacks stop bytes
lacks_whole stop bytes n is all =
    let whole : take (prefix_len (is_other stop) bytes) bytes ≡ bytes = take_all (prefix_len (is_other stop) bytes) bytes (omega arith) in
    subst (Lacks stop) whole (front_lacks stop bytes)

pub cut_made : (stop : ℕ) (bytes : List ℕ) (n : ℕ) → n ≡ prefix_len (is_other stop) bytes → n ≤ length bytes → n ≢ length bytes → IsCutAt stop bytes (take n bytes) (take (length bytes - (n + 1)) (drop (n + 1) bytes))
cut_made stop bytes n is within other =
    let below : prefix_len (is_other stop) bytes < length bytes = omega arith in
    let rest : take (length bytes - (n + 1)) (drop (n + 1) bytes) ≡ drop (n + 1) bytes = take_all (length bytes - (n + 1)) (drop (n + 1) bytes) (simp length-drop (omega arith)) in
    record {
      whole = subst (λ k. bytes ≡ take k bytes ++ stop ∷ drop (k + 1) bytes) (sym is) (front_then stop bytes below) ∙ ap (λ t. take n bytes ++ stop ∷ t) (sym rest);
      first = subst (λ k. Lacks stop (take k bytes)) (sym is) (front_lacks stop bytes);
    }

-- what the whole lacks, its parts lack
pub lacks_parts : (stop : ℕ) (a b : List ℕ) → Lacks stop (a ++ b) → Lacks stop a × Lacks stop b
lacks_parts stop [] b l = (tt, l)
lacks_parts stop (x ∷ a) b l = let r = lacks_parts stop a b l.1 in ((l.0, r.0), r.1)
