-- The rank of a process is at most the number of processes.
use Rattle.std.proofs.Common.{◌≡◌, ◌≤◌, ◌<◌, ◌+◌, ◌-◌, ℕ, zero, suc, Bool, true, false, List, [], ◌∷◌, Some, length, map, ap, ◌∙◌, arith, refl}
use Rattle.std.specs.Prelude.{cond, nat_eq, nat_lt, ◌&&◌, ◌||◌, slice_get, unwrap_or}
use Rattle.std.proofs.lemmas.Bool.Decides.{nat_tests}
use Rattle.base.proofs.Lists.{map_get}
use Rattle.syntax_tree.specs.Plain.{Process, Program}
use Rattle.source_semantics.specs.Names.{processes, deadline_of}
use Rattle.source_semantics.specs.Ranks.{rank, higher, deadlines}

-- the process with deadline d at place q ranks higher than the one with this deadline at place k
abbrev outranks : (d q deadline k : ℕ) → Bool
outranks d q deadline k = nat_lt d deadline || (nat_eq d deadline && nat_lt q k)

abbrev one : Bool → ℕ
one b = cond b 1 0

one_most : (b : Bool) → one b ≤ 1
one_most true = omega arith
one_most false = omega arith

not_self : (d q deadline k : ℕ) → deadline ≡ d → q ≡ k → outranks d q deadline k ≡ false
not_self d q deadline k is at = grind (arith, nat_tests, is, at)

higher_most : (k deadline j : ℕ) (ds : List ℕ) → higher k deadline j ds ≤ length ds
higher_most k deadline j [] = omega arith
higher_most k deadline j (d ∷ ds) = omega (arith, one_most (outranks d j deadline k), higher_most k deadline (suc j) ds)

-- where one is not of higher rank, those that are are fewer than all
higher_less : (k deadline j p : ℕ) (ds : List ℕ) (d : ℕ) → slice_get ds p ≡ Some d → outranks d (j + p) deadline k ≡ false → higher k deadline j ds < length ds
higher_less k deadline j p [] d got fails = absurd cc
higher_less k deadline j zero (x ∷ ds) d got fails =
    let is : x ≡ d = cc in
    let none : outranks x j deadline k ≡ false = ap (λ y. outranks y j deadline k) is ∙ (ap (λ q. outranks d q deadline k) (let e : j ≡ j + 0 = omega arith in e) ∙ fails) in
    let rest = higher_most k deadline (suc j) ds in
    rw none (omega (arith, rest))
higher_less k deadline j (suc p) (x ∷ ds) d got fails =
    let e : suc j + p ≡ j + suc p = omega arith in
    let rest : higher k deadline (suc j) ds < length ds = higher_less k deadline (suc j) p ds d got (ap (λ q. outranks d q deadline k) e ∙ fails) in
    omega (arith, one_most (outranks x j deadline k), rest)

as_many : (g : Program) (ps : List Process) → length (map (λ (q : Process). deadline_of g q.activation) ps) ≡ length ps
as_many g [] = refl
as_many g (p ∷ ps) = ap (λ n. suc n) (as_many g ps)

-- ranks count from 1, levels from 0
pub level_within : (g : Program) (k : ℕ) (p : Process) → slice_get (processes g) k ≡ Some p → rank g k - 1 < length (processes g)
level_within g k p there =
    let d = deadline_of g p.activation in
    let at : slice_get (deadlines g) k ≡ Some d = map_get (λ (q : Process). deadline_of g q.activation) (processes g) k p there in
    let own = unwrap_or (slice_get (deadlines g) k) 0 in
    let is : own ≡ d = ap (λ o. unwrap_or o 0) at in
    let less : higher k own 0 (deadlines g) < length (deadlines g) = higher_less k own 0 k (deadlines g) d at (not_self d (0 + k) own k is (omega arith)) in
    omega (arith, less, as_many g (processes g))
