-- Rows, one more at a time.
use Rattle.std.proofs.Common.{◌≡◌, ◌+◌, ◌<◌, ◌++◌, ◌∙◌, get_or, ℕ, zero, suc, List, [], ◌∷◌, Some, length, ap, subst, sym, refl, arith}
use Rattle.std.specs.Prelude.{slice_get}
use Rattle.sched_response.specs.declared.tasks.Task.{Task}
use Rattle.sched_sensitivity.specs.declared.rows.ProcessFit.{ProcessFit}
use Rattle.sched_sensitivity.specs.Rows.{IsFitOf}

-- it holds of each row by its place
abbrev pub Each : (ℕ → ProcessFit → Type 0) → List ProcessFit → Type 0
Each P fits = (k : ℕ) (fit : ProcessFit) → slice_get fits k ≡ Some fit → P k fit

pub each_more : (P : ℕ → ProcessFit → Type 0) (fits : List ProcessFit) (x : ProcessFit) → Each P fits → P (length fits) x → Each P (fits ++ x ∷ [])
each_more P [] x each last zero fit there = let same : x ≡ fit = cc in subst (λ (y : ProcessFit). P 0 y) same last
each_more P [] x each last (suc k) fit there = absurd cc
each_more P (y ∷ ys) x each last zero fit there = each 0 fit there
each_more P (y ∷ ys) x each last (suc k) fit there = each_more (λ n f. P (suc n) f) ys x (λ n f at. each (suc n) f at) last k fit there

pub longer : (fits : List ProcessFit) (x : ProcessFit) → length (fits ++ x ∷ []) ≡ length fits + 1
longer [] x = refl
longer (y ∷ ys) x = let rest = longer ys x in omega (arith, rest)

-- within a list it is no matter what stands past its end
pub within : (xs : List (List ℕ)) (n : ℕ) (d e : List ℕ) → n < length xs → get_or xs n d ≡ get_or xs n e
within [] n d e below = absurd (omega (arith, below))
within (x ∷ xs) zero d e below = refl
within (x ∷ xs) (suc n) d e below = within xs n d e (omega (arith, below))

pub renamed : (ts us : List Task) (level : ℕ) (name other : List ℕ) (fit : ProcessFit) → ts ≡ us → name ≡ other → IsFitOf ts level name fit → IsFitOf us level other fit
renamed ts us level name other fit same is row = subst (λ (vs : List Task). IsFitOf vs level other fit) same (subst (λ (n : List ℕ). IsFitOf ts level n fit) is row)

-- one row more
pub one_more : (P : ℕ → ProcessFit → Type 0) (fits new : List ProcessFit) (n : ℕ) (x : ProcessFit) → length fits ≡ n → new ≡ fits ++ x ∷ [] → Each P fits → P n x → (length new ≡ n + 1) × Each P new
one_more P fits new n x many grown each last = (
  ap (λ (l : List ProcessFit). length l) grown ∙ (longer fits x ∙ ap (λ m. m + 1) many),
  subst (λ (l : List ProcessFit). Each P l) (sym grown) (each_more P fits x each (subst (λ m. P m x) (sym many) last)),
)
