-- A level that runs for some ticks more.
use Rattle.std.proofs.Common.{◌≡◌, ◌≤◌, ◌<◌, ◌+◌, inl, inr, ℕ, zero, suc, List, length, ap, sym, subst, ◌∙◌, arith, refl, add-zero}
use Rattle.std.specs.Prelude.{slice_set, take}
use Rattle.std.proofs.lemmas.Bool.{cases_eq, cases_lt}
use Rattle.std.proofs.lemmas.List.{get_or-set_same, get_or-set_other, set-get_or, set-set, length-set}
use Rattle.sched_response.specs.declared.tasks.Task.{Task}
use Rattle.sched_response.specs.Demand.{task_at, deadline_at, starts_in, with_run}
use Rattle.sched_sensitivity.specs.declared.spare.Spare.{Spare}
use Rattle.sched_sensitivity.specs.Slack.{evaluations_at, with_more, IsFirstFailing, IsSlack, IsSpare, IsSpareFrom, IsTimely, Responds}
use Rattle.sched_sensitivity.proofs.Lighter.{nobody, IsLighter, AreLighter, fewer, solves_lighter, starts_lighter, run_within}

pub length_more : (ts : List Task) (level x : ℕ) → length (with_more ts level x) ≡ length ts
length_more ts level x = length-set ts level (record (task_at ts level) { run = (task_at ts level).run + x })

at_level : (ts : List Task) (level x : ℕ) → level < length ts → task_at (with_more ts level x) level ≡ record (task_at ts level) { run = (task_at ts level).run + x }
at_level ts level x below = get_or-set_same ts level (record (task_at ts level) { run = (task_at ts level).run + x }) nobody below

elsewhere : (ts : List Task) (level x k : ℕ) → (k ≡ level → ⊥) → task_at (with_more ts level x) k ≡ task_at ts k
elsewhere ts level x k other = get_or-set_other ts level k (record (task_at ts level) { run = (task_at ts level).run + x }) nobody other

pub more_none : (ts : List Task) (level : ℕ) → with_more ts level 0 ≡ ts
more_none ts level = ap (λ (n : ℕ). with_run ts level n) (add-zero (task_at ts level).run) ∙ set-get_or ts level nobody

pub put_back : (ts : List Task) (level x : ℕ) → level < length ts → with_run (with_more ts level x) level (task_at ts level).run ≡ ts
put_back ts level x below =
    ap (λ (t : Task). slice_set (with_more ts level x) level (record t { run = (task_at ts level).run })) (at_level ts level x below)
    ∙ set-set ts level (record (task_at ts level) { run = (task_at ts level).run + x }) (task_at ts level)
    ∙ set-get_or ts level nobody

lighter_along : (s t s' t' : Task) → s ≡ s' → t ≡ t' → IsLighter s' t' → IsLighter s t
lighter_along s t s' t' first second light = subst (λ (u : Task). IsLighter u t) (sym first) (subst (λ (u : Task). IsLighter s' u) (sym second) light)

lighter_same : (t : Task) → IsLighter t t
lighter_same t = record { frame = refl; deadline = refl; run = omega arith; susp = refl; waits = refl; block = refl }

lighter_run : (t : Task) (x y : ℕ) → x ≤ y → IsLighter (record t { run = t.run + x }) (record t { run = t.run + y })
lighter_run t x y low = record { frame = refl; deadline = refl; run = omega arith; susp = refl; waits = refl; block = refl }

-- with fewer ticks more the tasks are lighter
pub are_lighter : (ts : List Task) (level x y : ℕ) → level < length ts → x ≤ y → AreLighter (length ts) (with_more ts level x) (with_more ts level y)
are_lighter ts level x y below low = record {
  fit = omega (arith, length_more ts level x);
  fit_too = omega (arith, length_more ts level y);
  each = λ k within. elim (cases_eq k level) [
    | inl e ↦ let P : ℕ → Type 0 = λ n. IsLighter (task_at (with_more ts level x) n) (task_at (with_more ts level y) n) in
        subst P (sym e) (lighter_along _ _ _ _ (at_level ts level x below) (at_level ts level y below) (lighter_run (task_at ts level) x y low))
    | inr other ↦ lighter_along _ _ _ _ (elsewhere ts level x k other) (elsewhere ts level y k other) (lighter_same (task_at ts k))
  ];
}

-- above the level nothing changes
before_lighter : (ts : List Task) (level x y : ℕ) → level < length ts → AreLighter level (with_more ts level x) (with_more ts level y)
before_lighter ts level x y below = record {
  fit = omega (arith, length_more ts level x);
  fit_too = omega (arith, length_more ts level y);
  each = λ k within. let other : k ≡ level → ⊥ = λ e. omega arith in lighter_along _ _ _ _ (elsewhere ts level x k other) (elsewhere ts level y k other) (lighter_same (task_at ts k));
}

pub timely_falls : (ts : List Task) (level x y : ℕ) → level < length ts → x ≤ y → IsTimely (with_more ts level y) → IsTimely (with_more ts level x)
timely_falls ts level x y below low timely = λ other within.
    let fits : other < length ts = omega (arith, within, length_more ts level x) in
    let solved = timely other (omega (arith, fits, length_more ts level y)) in
    let light = fewer (length ts) (suc other) (with_more ts level x) (with_more ts level y) (omega arith) (are_lighter ts level x y below low) in
    (solved.0, solves_lighter (with_more ts level x) (with_more ts level y) other solved.0 light solved.1)

pub timely_as_it_is : (ts : List Task) (level : ℕ) → IsTimely ts → IsTimely (with_more ts level 0)
timely_as_it_is ts level timely = subst (λ (us : List Task). IsTimely us) (sym (more_none ts level)) timely

-- where the run passes the deadline, the level is the first that fails
pub fails_past_deadline : (ts : List Task) (level x : ℕ) → level < length ts → deadline_at ts level ≤ 1000000000 → deadline_at ts level < (task_at ts level).run + x → IsTimely ts → IsFirstFailing (with_more ts level x) level
fails_past_deadline ts level x below low past timely = record {
  within = omega (arith, length_more ts level x, below);
  fails = λ r solves.
      let due : deadline_at (with_more ts level x) level ≡ deadline_at ts level = ap (λ (t : Task). t.deadline) (at_level ts level x below) in
      let run : (task_at (with_more ts level x) level).run ≡ (task_at ts level).run + x = ap (λ (t : Task). t.run) (at_level ts level x below) in
      let held = run_within (with_more ts level x) level r (omega (arith, due, low)) solves in
      omega (arith, due, run, held, solves.within, past);
  before = λ other above.
      let solved = timely_as_it_is ts level timely other (omega (arith, above, below, length_more ts level 0)) in
      let light = fewer level (suc other) (with_more ts level x) (with_more ts level 0) (omega arith) (before_lighter ts level x 0 below) in
      (solved.0, solves_lighter (with_more ts level x) (with_more ts level 0) other solved.0 light solved.1);
}

pub not_timely : (ts : List Task) (level : ℕ) → IsFirstFailing ts level → IsTimely ts → ⊥
not_timely ts level failing timely = let solved = timely level failing.within in failing.fails solved.0 solved.1

-- x is the slack where it fits and one more does not
pub is_slack : (ts : List Task) (level x fails : ℕ) → level < length ts → IsTimely (with_more ts level x) → IsFirstFailing (with_more ts level (x + 1)) fails → IsSlack ts level x
is_slack ts level x fails below fits failing = record {
  fits = fits;
  greatest = λ y timely. elim (cases_lt x y) [
    | inl more ↦ absurd (not_timely (with_more ts level (x + 1)) fails failing (timely_falls ts level (x + 1) y below (omega arith) timely))
    | inr most ↦ most
  ];
}

-- a run is no longer than its deadline in a timely set
pub run_within_deadline : (ts : List Task) (level : ℕ) → level < length ts → deadline_at ts level ≤ 1000000000 → IsTimely ts → (task_at ts level).run ≤ deadline_at ts level
run_within_deadline ts level below low timely =
    let solved = timely level below in
    omega (arith, run_within ts level solved.0 low solved.1, solved.1.within)

-- ---- level by level

-- with fewer ticks a level responds too
pub responds_falls : (ts : List Task) (level x y other : ℕ) → level < length ts → x ≤ y → other < length ts → Responds (with_more ts level y) other → Responds (with_more ts level x) other
responds_falls ts level x y other below low fits solved =
    let light = fewer (length ts) (suc other) (with_more ts level x) (with_more ts level y) (omega arith) (are_lighter ts level x y below low) in
    (solved.0, solves_lighter (with_more ts level x) (with_more ts level y) other solved.0 light solved.1)

-- the levels above are not touched
pub responds_above : (ts : List Task) (level x other : ℕ) → level < length ts → other < level → IsTimely ts → Responds (with_more ts level x) other
responds_above ts level x other below above timely =
    let solved = timely_as_it_is ts level timely other (omega (arith, above, below, length_more ts level 0)) in
    let light = fewer level (suc other) (with_more ts level x) (with_more ts level 0) (omega arith) (before_lighter ts level x 0 below) in
    (solved.0, solves_lighter (with_more ts level x) (with_more ts level 0) other solved.0 light solved.1)

pub responds_as_it_is : (ts : List Task) (level other : ℕ) → other < length ts → IsTimely ts → Responds (with_more ts level 0) other
responds_as_it_is ts level other fits timely = timely_as_it_is ts level timely other (omega (arith, fits, length_more ts level 0))

pub evaluations_at_same : (ts : List Task) (level x other : ℕ) → level < length ts → other < length ts → evaluations_at (with_more ts level x) other ≡ evaluations_at ts other
evaluations_at_same ts level x other below fits =
    let ss : List Task = with_more ts level 0 in
    let us : List Task = with_more ts level x in
    let light = are_lighter ts level 0 x below (omega arith) in
    let due : starts_in (deadline_at ss other) (take (other + 1) ss) ≡ starts_in (deadline_at us other) (take (other + 1) ss) =
    ap (λ (d : ℕ). starts_in d (take (other + 1) ss)) (light.each other fits).deadline in
    let starts : starts_in (deadline_at us other) (take (other + 1) ss) ≡ starts_in (deadline_at us other) (take (other + 1) us) =
    starts_lighter (deadline_at us other) (other + 1) ss us (fewer (length ts) (other + 1) ss us (omega (arith, fits)) light) in
    sym (ap (λ (n : ℕ). 2 + n) (due ∙ starts)) ∙ ap (λ (vs : List Task). evaluations_at vs other) (more_none ts level)

pub some_between : (ts : List Task) (level other x : ℕ) → Responds (with_more ts level 0) other → ¬ Responds (with_more ts level x) other → 0 < x
some_between ts level other zero fits fails = absurd (fails fits)
some_between ts level other (suc x) fits fails = omega arith

-- ---- what a level can spare, by the levels from one on

pub spare_at_first : (ts : List Task) (level extra : ℕ) → level < length ts → deadline_at ts level ≤ 1000000000 → deadline_at ts level ≡ (task_at ts level).run + extra → IsTimely ts
    → IsSpareFrom ts level (length ts) (record { extra = extra; fails = level })
spare_at_first ts level extra below low full timely = record {
  fits = λ other from within. absurd (omega (arith, from, within));
  within = below;
  fails = λ solved. (fails_past_deadline ts level (extra + 1) below low (omega (arith, full)) timely).fails solved.0 solved.1;
}

pub spare_stays : (ts : List Task) (level other : ℕ) (least : Spare) → IsSpareFrom ts level (other + 1) least → Responds (with_more ts level least.extra) other → IsSpareFrom ts level other least
spare_stays ts level other least after solved = record {
  fits = λ k from within. elim (cases_eq k other) [
    | inl e ↦ subst (λ (n : ℕ). Responds (with_more ts level least.extra) n) (sym e) solved
    | inr differs ↦ after.fits k (omega (arith, from, differs)) within
  ];
  within = after.within;
  fails = after.fails;
}

pub spare_falls : (ts : List Task) (level other x : ℕ) (least : Spare) → level < length ts → other < length ts → IsSpareFrom ts level (other + 1) least → x ≤ least.extra
    → Responds (with_more ts level x) other → ¬ Responds (with_more ts level (x + 1)) other → IsSpareFrom ts level other (record { extra = x; fails = other })
spare_falls ts level other x least below there after low solved fails = record {
  fits = λ k from within. elim (cases_eq k other) [
    | inl e ↦ subst (λ (n : ℕ). Responds (with_more ts level x) n) (sym e) solved
    | inr differs ↦ responds_falls ts level x least.extra k below low within (after.fits k (omega (arith, from, differs)) within)
  ];
  within = there;
  fails = fails;
}

-- the level that fails is not above the level
pub fails_below : (ts : List Task) (level : ℕ) (least : Spare) → level < length ts → IsTimely ts → IsSpareFrom ts level level least → level ≤ least.fails
fails_below ts level least below timely from = elim (cases_lt least.fails level) [
  | inl above ↦ absurd (from.fails (responds_above ts level (least.extra + 1) least.fails below above timely))
  | inr le ↦ le
]

pub is_spare : (ts : List Task) (level fails : ℕ) (least : Spare) → level < length ts → IsTimely ts → IsSpareFrom ts level level least → IsFirstFailing (with_more ts level (least.extra + 1)) fails
    → IsSpare ts level (record { extra = least.extra; fails = fails })
is_spare ts level fails least below timely from first = record {
  timely = timely;
  extra = is_slack ts level least.extra fails below all_fit first;
  fails = first;
} where
  all_fit : IsTimely (with_more ts level least.extra)
  all_fit other within =
      let fits : other < length ts = omega (arith, within, length_more ts level least.extra) in
      elim (cases_lt other level) [ inl above ↦ responds_above ts level least.extra other below above timely | inr on ↦ from.fits other on fits ]

-- the first that fails, where each from the level up to it responds
pub first_is : (ts : List Task) (level x fails : ℕ) → level < length ts → IsTimely ts → fails < length ts → ¬ Responds (with_more ts level x) fails
    → ((other : ℕ) → level ≤ other → other < fails → Responds (with_more ts level x) other) → IsFirstFailing (with_more ts level x) fails
first_is ts level x fails below timely within failing before = record {
  within = omega (arith, within, length_more ts level x);
  fails = λ r solves. failing (r, solves);
  before = λ other less. elim (cases_lt other level) [ inl above ↦ responds_above ts level x other below above timely | inr on ↦ before other on less ];
}
