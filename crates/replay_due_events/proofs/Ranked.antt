-- The ranks of processes are apart, and each process stands among those in rank order.
use Rattle.std.specs.Prelude.{◌≡◌, ℕ, zero, suc, ◌+◌, ◌≤◌, ◌<◌, Bool, true, false, cond, ◌&&◌, ◌||◌, List, [], ◌∷◌, Some, nat_eq, nat_lt, length, slice_get, unwrap_or}
use Rattle.std.proofs.Common.{refl, ◌∙◌, ap, arith}
use Rattle.std.proofs.lemmas.Bool.Decides.{nat_tests}
use Rattle.source_semantics.specs.Ranks.{higher}

-- the process with frame f at place q ranks higher than the one with this frame at place k
abbrev pub outranks : (f q frame k : ℕ) → Bool
outranks f q frame k = nat_lt f frame || (nat_eq f frame && nat_lt q k)

abbrev one : Bool → ℕ
one b = cond b 1 0

one_most : (b : Bool) → one b ≤ 1
one_most true = omega arith
one_most false = omega arith

one_more : (a b : Bool) → (a ≡ true → b ≡ true) → one a ≤ one b
one_more false b h = omega arith
one_more true true h = omega arith
one_more true false h = absurd (let e = h refl in cc)

higher_most : (k frame j : ℕ) (fs : List ℕ) → higher k frame j fs ≤ length fs
higher_most k frame j [] = omega arith
higher_most k frame j (f ∷ fs) = omega (arith, one_most (outranks f j frame k), higher_most k frame (suc j) fs)

-- where one is not of higher rank, those that are are fewer than all
pub higher_less : (k frame j p : ℕ) (fs : List ℕ) (f : ℕ) → slice_get fs p ≡ Some f → outranks f (j + p) frame k ≡ false → higher k frame j fs < length fs
higher_less k frame j p [] f got fails = absurd cc
higher_less k frame j zero (x ∷ fs) f got fails =
    let is : x ≡ f = cc in
    let none : outranks x j frame k ≡ false = ap (λ y. outranks y j frame k) is ∙ (ap (λ q. outranks f q frame k) (let e : j ≡ j + 0 = omega arith in e) ∙ fails) in
    let rest = higher_most k frame (suc j) fs in
    rw none (omega (arith, rest))
higher_less k frame j (suc p) (x ∷ fs) f got fails =
    let e : suc j + p ≡ j + suc p = omega arith in
    let rest : higher k frame (suc j) fs < length fs = higher_less k frame (suc j) p fs f got (ap (λ q. outranks f q frame k) e ∙ fails) in
    omega (arith, one_most (outranks x j frame k), rest)

pub higher_mono : (k frame m other j : ℕ) (fs : List ℕ) → ((f q : ℕ) → outranks f q frame k ≡ true → outranks f q other m ≡ true) → higher k frame j fs ≤ higher m other j fs
higher_mono k frame m other j [] more = omega arith
higher_mono k frame m other j (f ∷ fs) more = omega (arith, one_more (outranks f j frame k) (outranks f j other m) (more f j), higher_mono k frame m other (suc j) fs more)

-- and fewer than those of another where one more passes there
pub higher_strict : (k frame m other j p : ℕ) (fs : List ℕ) (f : ℕ) → ((g q : ℕ) → outranks g q frame k ≡ true → outranks g q other m ≡ true) → slice_get fs p ≡ Some f
    → outranks f (j + p) frame k ≡ false → outranks f (j + p) other m ≡ true → higher k frame j fs < higher m other j fs
higher_strict k frame m other j p [] f more got fails passes = absurd cc
higher_strict k frame m other j zero (x ∷ fs) f more got fails passes =
    let is : x ≡ f = cc in
    let e : j ≡ j + 0 = omega arith in
    let none : outranks x j frame k ≡ false = ap (λ y. outranks y j frame k) is ∙ (ap (λ q. outranks f q frame k) e ∙ fails) in
    let some : outranks x j other m ≡ true = ap (λ y. outranks y j other m) is ∙ (ap (λ q. outranks f q other m) e ∙ passes) in
    let rest = higher_mono k frame m other (suc j) fs more in
    rw (none, some) (omega (arith, rest))
higher_strict k frame m other j (suc p) (x ∷ fs) f more got fails passes =
    let e : suc j + p ≡ j + suc p = omega arith in
    let rest : higher k frame (suc j) fs < higher m other (suc j) fs = higher_strict k frame m other (suc j) p fs f more got (ap (λ q. outranks f q frame k) e ∙ fails) (ap (λ q. outranks f q other m) e ∙ passes) in
    omega (arith, one_more (outranks x j frame k) (outranks x j other m) (more x j), rest)

from_zero : (k : ℕ) → 0 + k ≡ k
from_zero k = omega arith

itself : (f p : ℕ) → outranks f p f p ≡ false
itself f p = grind (arith, nat_tests)

along : (f p g q h r : ℕ) → outranks f p g q ≡ true → outranks g q h r ≡ true → outranks f p h r ≡ true
along f p g q h r first second = grind (arith, nat_tests)

either : (f p g q : ℕ) → (p ≡ q → ⊥) → outranks f p g q ≡ false → outranks g q f p ≡ true
either f p g q apart h = grind (arith, nat_tests)

-- the rank of the process at a place of a list of deadlines
abbrev pub rank_in : List ℕ → ℕ → ℕ
rank_in fs k = suc (higher k (unwrap_or (slice_get fs k) 0) 0 fs)

frame_is : (fs : List ℕ) (k f : ℕ) → slice_get fs k ≡ Some f → unwrap_or (slice_get fs k) 0 ≡ f
frame_is fs k f got = ap (λ o. unwrap_or o 0) got

pub rank_most : (fs : List ℕ) (k f : ℕ) → slice_get fs k ≡ Some f → rank_in fs k ≤ length fs
rank_most fs k f got =
    let less : higher k f 0 fs < length fs = higher_less k f 0 k fs f got (ap (λ q. outranks f q f k) (from_zero k) ∙ itself f k) in
    let same : higher k (unwrap_or (slice_get fs k) 0) 0 fs ≡ higher k f 0 fs = ap (λ w. higher k w 0 fs) (frame_is fs k f got) in
    omega (arith, less, same)

rank_less : (fs : List ℕ) (j k f h : ℕ) → slice_get fs j ≡ Some f → slice_get fs k ≡ Some h → outranks f j h k ≡ true → rank_in fs j < rank_in fs k
rank_less fs j k f h at_j at_k first =
    let less : higher j f 0 fs < higher k h 0 fs = higher_strict j f k h 0 j fs f (λ g q passes. along g q f j h k passes first) at_j (ap (λ q. outranks f q f j) (from_zero j) ∙ itself f j) (ap (λ q. outranks f q h k) (from_zero j) ∙ first) in
    let one_j : higher j (unwrap_or (slice_get fs j) 0) 0 fs ≡ higher j f 0 fs = ap (λ w. higher j w 0 fs) (frame_is fs j f at_j) in
    let one_k : higher k (unwrap_or (slice_get fs k) 0) 0 fs ≡ higher k h 0 fs = ap (λ w. higher k w 0 fs) (frame_is fs k h at_k) in
    omega (arith, less, one_j, one_k)

-- two processes have two ranks
pub ranks_apart : (fs : List ℕ) (j k f h : ℕ) → slice_get fs j ≡ Some f → slice_get fs k ≡ Some h → (j ≡ k → ⊥) → rank_in fs j ≡ rank_in fs k → ⊥
ranks_apart fs j k f h at_j at_k apart e = by_case (outranks f j h k) refl
  where
    by_case : (b : Bool) → outranks f j h k ≡ b → ⊥
    by_case true first = let less = rank_less fs j k f h at_j at_k first in absurd (omega (arith, less, e))
    by_case false not_first = let less = rank_less fs k j h f at_k at_j (either f j h k apart not_first) in absurd (omega (arith, less, e))
