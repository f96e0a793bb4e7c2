-- Monitors and conditions stand in the image.
use Rattle.std.specs.Prelude.{◌≡◌, ◌+◌, ◌<◌, ℕ, zero, suc, Bool, true, false, cond, List, [], ◌∷◌, ◌++◌, Some, slice_get, length, replicate, bytes_eq, get_or, Contains}
use Rattle.std.proofs.Common.{refl, sym, ◌∙◌, ap, subst, arith, append_assoc, length-append}
use Rattle.std.proofs.lemmas.Slice.Eq.{bytes_eq-Decides}
use Rattle.std.proofs.lemmas.Option.{same_Some, none-some}
use Rattle.syntax_tree.specs.Plain.{Name, Monitor, Program}
use Rattle.source_semantics.specs.Names.{place_of, conditions_of, condition_from}
use Rattle.machine_semantics.specs.Image as image
use Rattle.code_spec.specs.Layout.{words_of, monitor_vars}
use Rattle.code_spec.specs.Compiled.{AreMonitors, condition_monitors}

pub monitor_row : (g : Program) (base : ℕ) (ms : List Monitor) (ks : List image.Monitor) (m : ℕ) (d : Monitor) → AreMonitors g base ms ks → slice_get ms m ≡ Some d → (r : image.Monitor) × (slice_get ks m ≡ Some r)
monitor_row g base [] ks m d h e = absurd (none-some d e)
monitor_row g base (x ∷ ms) [] m d h e = absurd h
monitor_row g base (x ∷ ms) (k ∷ ks) zero d h e = (k, refl)
monitor_row g base (x ∷ ms) (k ∷ ks) (suc m) d h e = monitor_row g (base + words_of g (monitor_vars x)) ms ks m d h.2 e

get_behind : (xs ys : List ℕ) (k : ℕ) → slice_get (xs ++ ys) (length xs + k) ≡ slice_get ys k
get_behind [] ys k = ap (λ n. slice_get ys n) (none k)
  where
    none : (k : ℕ) → 0 + k ≡ k
    none k = omega arith
get_behind (x ∷ xs) ys k = ap (λ n. slice_get (x ∷ (xs ++ ys)) n) (one_more (length xs) k) ∙ get_behind xs ys k
  where
    one_more : (n k : ℕ) → suc n + k ≡ suc (n + k)
    one_more n k = omega arith

get_same : (n m j : ℕ) (ys : List ℕ) → j < n → slice_get (replicate n m ++ ys) j ≡ Some m
get_same zero m j ys lt = absurd (omega arith)
get_same (suc n) m zero ys lt = refl
get_same (suc n) m (suc j) ys lt = get_same n m j ys (omega arith)

length_replicate : (n m : ℕ) → length (replicate n m) ≡ n
length_replicate zero m = refl
length_replicate (suc n) m = ap (λ k. suc k) (length_replicate n m)

there : (x : Name) (cs : List Name) (j : ℕ) → j < length cs → get_or cs j x ≡ x → place_of x cs < length cs
there x [] j lt e = absurd (omega arith)
there x (c ∷ cs) zero lt e = subst (λ b. cond b 0 (suc (place_of x cs)) < suc (length cs)) (sym ((bytes_eq-Decides c x).1 e)) (omega arith)
there x (c ∷ cs) (suc j) lt e = by_case (bytes_eq c x) (there x cs j (omega arith) e)
  where
    by_case : (b : Bool) → place_of x cs < length cs → cond b 0 (suc (place_of x cs)) < suc (length cs)
    by_case true k = omega arith
    by_case false k = omega arith

condition_at : (x : Name) (d : Monitor) (ms : List Monitor) (k m before : ℕ) (xs : List ℕ) → length xs ≡ before → slice_get ms m ≡ Some d → Contains (conditions_of d) x → slice_get (xs ++ condition_monitors k ms) (condition_from before m x ms) ≡ Some (k + m)
condition_at x d [] k m before xs size e h = absurd (none-some d e)
condition_at x d (y ∷ ms) k zero before xs size e h =
    let lt : place_of x (conditions_of y) < length (conditions_of y) = subst (λ z. place_of x (conditions_of z) < length (conditions_of z)) (sym (same_Some y d e)) (there x (conditions_of d) h.0 h.1 h.2) in
    subst (λ n. slice_get (xs ++ (replicate (length (conditions_of y)) k ++ condition_monitors (suc k) ms)) (n + place_of x (conditions_of y)) ≡ Some (k + 0)) size
    (get_behind xs (replicate (length (conditions_of y)) k ++ condition_monitors (suc k) ms) (place_of x (conditions_of y)) ∙ (get_same (length (conditions_of y)) k (place_of x (conditions_of y)) (condition_monitors (suc k) ms) lt ∙ ap (λ n. Some n) (none k)))
  where
    none : (n : ℕ) → n ≡ n + 0
    none n = omega arith
condition_at x d (y ∷ ms) k (suc m) before xs size e h =
    subst (λ l. slice_get l (condition_from (before + length (conditions_of y)) m x ms) ≡ Some (k + suc m)) (append_assoc xs (replicate (length (conditions_of y)) k) (condition_monitors (suc k) ms))
    (condition_at x d ms (suc k) m (before + length (conditions_of y)) (xs ++ replicate (length (conditions_of y)) k)
    (let both : length (xs ++ replicate (length (conditions_of y)) k) ≡ length xs + length (replicate (length (conditions_of y)) k) = length-append xs (replicate (length (conditions_of y)) k) in
    let one : length (replicate (length (conditions_of y)) k) ≡ length (conditions_of y) = length_replicate (length (conditions_of y)) k in omega arith) e h
    ∙ ap (λ n. Some n) (next k m))
  where
    next : (n j : ℕ) → suc n + j ≡ n + suc j
    next n j = omega arith

pub condition_row : (x : Name) (d : Monitor) (ms : List Monitor) (m : ℕ) → slice_get ms m ≡ Some d → Contains (conditions_of d) x → slice_get (condition_monitors 0 ms) (condition_from 0 m x ms) ≡ Some m
condition_row x d ms m e h = condition_at x d ms 0 m 0 [] refl e h ∙ ap (λ n. Some n) (none m)
  where
    none : (n : ℕ) → 0 + n ≡ n
    none n = omega arith
