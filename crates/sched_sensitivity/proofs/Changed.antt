-- Tasks of which one number is changed.
use Rattle.std.proofs.Common.{◌≡◌, ◌≤◌, ◌<◌, ◌+◌, inl, inr, ℕ, List, length, ap, sym, subst, ◌∙◌, arith, refl}
use Rattle.std.specs.Prelude.{slice_set}
use Rattle.std.proofs.lemmas.Bool.{cases_eq}
use Rattle.std.proofs.lemmas.List.{get_or-set_same, get_or-set_other, set-get_or, set-set, length-set}
use Rattle.sched_response.specs.declared.tasks.Task.{Task}
use Rattle.sched_response.specs.Demand.{task_at, deadline_at}
use Rattle.sched_sensitivity.specs.Slack.{evaluations, IsTimely}
use Rattle.sched_sensitivity.specs.declared.fitting.Varied.{Varied}
use Rattle.sched_sensitivity.specs.declared.fitting.Varied.TheVariants.{Cost, Suspension}
use Rattle.sched_sensitivity.specs.Fit.{with_number}
use Rattle.sched_sensitivity.specs.Numbers.{number_at}
use Rattle.sched_sensitivity.proofs.Less.{nobody, AsksLess, AskLess, evaluations_same, ticks_within, timely_less}

-- the task itself
abbrev changed : Varied → Task → ℕ → Task
changed Cost t x = record t { run = x }
changed Suspension t x = record t { susp = x }

set_is : (number : Varied) (ts : List Task) (level x : ℕ) → with_number number ts level x ≡ slice_set ts level (changed number (task_at ts level) x)
set_is Cost ts level x = refl
set_is Suspension ts level x = refl

pub long : (number : Varied) (ts : List Task) (level x : ℕ) → length (with_number number ts level x) ≡ length ts
long number ts level x = ap (λ (us : List Task). length us) (set_is number ts level x) ∙ length-set ts level (changed number (task_at ts level) x)

at_level : (number : Varied) (ts : List Task) (level x : ℕ) → level < length ts → task_at (with_number number ts level x) level ≡ changed number (task_at ts level) x
at_level number ts level x below =
    ap (λ (us : List Task). task_at us level) (set_is number ts level x) ∙ get_or-set_same ts level (changed number (task_at ts level) x) nobody below

elsewhere : (number : Varied) (ts : List Task) (level x k : ℕ) → (k ≡ level → ⊥) → task_at (with_number number ts level x) k ≡ task_at ts k
elsewhere number ts level x k other =
    ap (λ (us : List Task). task_at us k) (set_is number ts level x) ∙ get_or-set_other ts level k (changed number (task_at ts level) x) nobody other

changed_back : (number : Varied) (t : Task) (x : ℕ) (ts : List Task) (level : ℕ) → t ≡ task_at ts level → changed number (changed number t x) (number_at number ts level) ≡ t
changed_back Cost t x ts level is = ap (λ (u : Task). record t { run = u.run }) (sym is)
changed_back Suspension t x ts level is = ap (λ (u : Task). record t { susp = u.susp }) (sym is)

-- the number that was there, put back
pub put_back : (number : Varied) (ts : List Task) (level x : ℕ) → level < length ts → with_number number (with_number number ts level x) level (number_at number ts level) ≡ ts
put_back number ts level x below =
    let y = number_at number ts level in
    set_is number (with_number number ts level x) level y
    ∙ ap (λ (t : Task). slice_set (with_number number ts level x) level (changed number t y)) (at_level number ts level x below)
    ∙ ap (λ (us : List Task). slice_set us level (changed number (changed number (task_at ts level) x) y)) (set_is number ts level x)
    ∙ set-set ts level (changed number (task_at ts level) x) (changed number (changed number (task_at ts level) x) y)
    ∙ ap (λ (t : Task). slice_set ts level t) (changed_back number (task_at ts level) x ts level refl)
    ∙ set-get_or ts level nobody

-- the number that is there changes nothing
pub as_it_is : (number : Varied) (ts : List Task) (level : ℕ) → with_number number ts level (number_at number ts level) ≡ ts
as_it_is Cost ts level = set-get_or ts level nobody
as_it_is Suspension ts level = set-get_or ts level nobody

less_along : (s t s' t' : Task) → s ≡ s' → t ≡ t' → AsksLess s' t' → AsksLess s t
less_along s t s' t' first second less = subst (λ (u : Task). AsksLess u t) (sym first) (subst (λ (u : Task). AsksLess s' u) (sym second) less)

changed_less : (number : Varied) (t : Task) (x y : ℕ) → x ≤ y → AsksLess (changed number t x) (changed number t y)
changed_less Cost t x y low = record { frame = refl; deadline = refl; ticks = omega (arith, low); waits = refl; block = refl }
changed_less Suspension t x y low = record { frame = refl; deadline = refl; ticks = omega (arith, low); waits = refl; block = refl }

same_less : (t : Task) → AsksLess t t
same_less t = record { frame = refl; deadline = refl; ticks = omega arith; waits = refl; block = refl }

-- with a smaller number the tasks ask for less
ask_less : (number : Varied) (ts : List Task) (level x y : ℕ) → level < length ts → x ≤ y → AskLess (length ts) (with_number number ts level x) (with_number number ts level y)
ask_less number ts level x y below low = record {
  fit = omega (arith, long number ts level x);
  fit_too = omega (arith, long number ts level y);
  each = λ k within. elim (cases_eq k level) [
    | inl e ↦ let P : ℕ → Type 0 = λ n. AsksLess (task_at (with_number number ts level x) n) (task_at (with_number number ts level y) n) in
        subst P (sym e) (less_along _ _ _ _ (at_level number ts level x below) (at_level number ts level y below) (changed_less number (task_at ts level) x y low))
    | inr other ↦ less_along _ _ _ _ (elsewhere number ts level x k other) (elsewhere number ts level y k other) (same_less (task_at ts k))
  ];
}

-- where a number fits, each smaller one does
pub falls : (number : Varied) (ts : List Task) (level x y : ℕ) → level < length ts → x ≤ y → IsTimely (with_number number ts level y) → IsTimely (with_number number ts level x)
falls number ts level x y below low timely =
    let same : length (with_number number ts level x) ≡ length (with_number number ts level y) = long number ts level x ∙ sym (long number ts level y) in
    let many : length ts ≡ length (with_number number ts level y) = sym (long number ts level y) in
    timely_less (with_number number ts level x) (with_number number ts level y) same
    (subst (λ n. AskLess n (with_number number ts level x) (with_number number ts level y)) many (ask_less number ts level x y below low)) timely

asks_number : (number : Varied) (t : Task) (x : ℕ) → x ≤ (changed number t x).run + (changed number t x).susp
asks_number Cost t x = omega arith
asks_number Suspension t x = omega arith

same_deadline : (number : Varied) (t : Task) (x : ℕ) → (changed number t x).deadline ≡ t.deadline
same_deadline Cost t x = refl
same_deadline Suspension t x = refl

-- a number that fits is within the deadline
pub within_deadline : (number : Varied) (ts : List Task) (level x : ℕ) → level < length ts → deadline_at ts level ≤ 1000000000 → IsTimely (with_number number ts level x) → x ≤ deadline_at ts level
within_deadline number ts level x below low timely =
    let solved = timely level (omega (arith, below, long number ts level x)) in
    let is = at_level number ts level x below in
    let due : deadline_at (with_number number ts level x) level ≡ deadline_at ts level = ap (λ (t : Task). t.deadline) is ∙ same_deadline number (task_at ts level) x in
    let held = ticks_within (with_number number ts level x) level solved.0 (omega (arith, due, low)) solved.1 in
    let ticks : (task_at (with_number number ts level x) level).run + (task_at (with_number number ts level x) level).susp ≡ (changed number (task_at ts level) x).run + (changed number (task_at ts level) x).susp =
    ap (λ (t : Task). t.run + t.susp) is in
    omega (arith, due, held, ticks, asks_number number (task_at ts level) x, solved.1.within)

-- what may be evaluated stays
pub evaluations_stay : (number : Varied) (ts : List Task) (level x : ℕ) → level < length ts → evaluations (with_number number ts level x) (length (with_number number ts level x)) ≡ evaluations ts (length ts)
evaluations_stay number ts level x below =
    ap (λ n. evaluations (with_number number ts level x) n) (long number ts level x)
    ∙ to_own x
    ∙ ap (λ (us : List Task). evaluations us (length ts)) (as_it_is number ts level)
  where
    zero_to : (y : ℕ) → evaluations (with_number number ts level 0) (length ts) ≡ evaluations (with_number number ts level y) (length ts)
    zero_to y = evaluations_same (with_number number ts level 0) (with_number number ts level y) (length ts) (ask_less number ts level 0 y below (omega arith))

    to_own : (y : ℕ) → evaluations (with_number number ts level y) (length ts) ≡ evaluations (with_number number ts level (number_at number ts level)) (length ts)
    to_own y = sym (zero_to y) ∙ zero_to (number_at number ts level)
