-- The example, computed.
use Rattle.std.proofs.Common.{◌≡◌, ◌≤◌, ◌<◌, ◌+◌, ◌-◌, ◌*◌, inl, inr, ℕ, zero, suc, [], ◌∷◌, Some, codes, Contains, arith, refl, ap, sym, ◌∙◌, subst}
use Rattle.std.specs.Prelude.{slice_get, get_or, take}
use Rattle.std.specs.Int.{div_ceil}
use Rattle.std.proofs.lemmas.Grind.{div_ceil_times}
use Rattle.std.proofs.lemmas.List.Sums.{sum_by-cons}
use Rattle.std.proofs.lemmas.Option.{same_Some, none-some}
use Rattle.base.specs.Capped.{cap}
use Rattle.sched_response.specs.declared.tasks.Task.{Task}
use Rattle.sched_response.specs.Demand.{task_at, activation, asked, demand_at, IsBound}
use Rattle.table_format.specs.Spelling.{Word}
use Rattle.table_format.specs.Rules.{monitors_named}
use Rattle.table_format.specs.declared.table.TaskStay.{TaskStay}
use Rattle.table_format.specs.declared.table.TaskLine.{TaskLine}
use Rattle.table_law.proofs.Members.{Elem}
use Rattle.table_law.specs.Tasks.{deadline_of_line, rank_of_line, IsRankIn, IsTableCeiling, IsStayBelow, IsTableBlock, IsTaskOfLine}
use Rattle.table_law.specs.Example.{first_line, second_line, third_line, example_table, example_tasks, ExampleHasItsRanks, ExampleHasItsTasks, ExampleIsBounded}
use Rattle.table_law.proofs.Elements.{elem_from}

-- ---- ceilings

ceiling_of_m : IsTableCeiling example_table (codes "m") 1
ceiling_of_m = record {
  one = record { number = 0; line = first_line; there = refl; stays = (0, omega arith, refl); ranked = refl };
  least = λ r i. omega (arith, i.ranked);
}

-- the third line alone has a stay in k
rank_in_k : (c k : ℕ) (i : IsRankIn example_table (codes "k") c) → i.number ≡ k → c ≡ 3
rank_in_k c zero i is =
    let same = same_Some first_line i.line (ap (λ n. slice_get example_table.tasks n) (sym is) ∙ i.there) in
    none (elem_from (monitors_named first_line) (codes "k") (subst (λ (x : TaskLine). Contains (monitors_named x) (codes "k")) (sym same) i.stays))
  where
    none : Elem (codes "k") (monitors_named first_line) → c ≡ 3
    none (inl e) = (let at = ap (λ (w : Word). get_or w 0 0) e in absurd (omega (arith, at)))
    none (inr e) = absurd e
rank_in_k c (suc zero) i is =
    let same = same_Some second_line i.line (ap (λ n. slice_get example_table.tasks n) (sym is) ∙ i.there) in
    absurd (elem_from (monitors_named second_line) (codes "k") (subst (λ (x : TaskLine). Contains (monitors_named x) (codes "k")) (sym same) i.stays))
rank_in_k c (suc (suc zero)) i is = i.ranked ∙ ap (λ n. rank_of_line example_table n) is
rank_in_k c (suc (suc (suc k))) i is = absurd (none-some i.line (ap (λ n. slice_get example_table.tasks n) (sym is) ∙ i.there))

ceiling_of_k : IsTableCeiling example_table (codes "k") 3
ceiling_of_k = record {
  one = record { number = 2; line = third_line; there = refl; stays = (1, omega arith, refl); ranked = refl };
  least = λ r i. omega (arith, rank_in_k r i.number i refl);
}

pub example_has_its_ranks : ExampleHasItsRanks
example_has_its_ranks = record { first = refl; second = refl; third = refl; of_m = ceiling_of_m; of_k = ceiling_of_k }

-- ---- blocks

-- the line of a stay is that of its number
module _ (held n : ℕ) (l : IsStayBelow example_table held n) where
  line_is : (k : ℕ) → l.number ≡ k → slice_get example_table.tasks k ≡ Some l.line
  line_is k is = ap (λ i. slice_get example_table.tasks i) (sym is) ∙ l.there

  stay_of : (line : TaskLine) → line ≡ l.line → Elem l.stay line.stays
  stay_of line same = elem_from line.stays l.stay (subst (λ (x : TaskLine). Contains x.stays l.stay) (sym same) l.stays)

  third_stays : Elem l.stay third_line.stays → n ≤ 12
  third_stays (inl is) = omega (arith, l.so_long, ap (λ (s : TaskStay). s.ticks) is)
  third_stays (inr (inl is)) = omega (arith, l.so_long, ap (λ (s : TaskStay). s.ticks) is)
  third_stays (inr (inr e)) = absurd e

  most : (k : ℕ) → 1 ≤ held → l.number ≡ k → n ≤ 12
  most zero some is = absurd (omega (arith, l.lower, ap (λ i. rank_of_line example_table i) is, some))
  most (suc zero) some is = absurd (stay_of second_line (same_Some second_line l.line (line_is 1 is)))
  most (suc (suc zero)) some is = third_stays (stay_of third_line (same_Some third_line l.line (line_is 2 is)))
  most (suc (suc (suc k))) some is = absurd (none-some l.line (line_is (suc (suc (suc k))) is))

  none_below : (k : ℕ) → 3 ≤ held → l.number ≡ k → n ≤ 0
  none_below zero low is = absurd (omega (arith, l.lower, ap (λ i. rank_of_line example_table i) is, low))
  none_below (suc zero) low is = absurd (omega (arith, l.lower, ap (λ i. rank_of_line example_table i) is, low))
  none_below (suc (suc zero)) low is = absurd (omega (arith, l.lower, ap (λ i. rank_of_line example_table i) is, low))
  none_below (suc (suc (suc k))) low is = absurd (none-some l.line (line_is (suc (suc (suc k))) is))

higher_block : (held : ℕ) → 1 ≤ held → held < 3 → IsTableBlock example_table held 12
higher_block held some less = record {
  most = λ n l. most held n l l.number some refl;
  one = inr (record {
    number = 2;
    line = third_line;
    there = refl;
    lower = less;
    stay = record { monitor = codes "m"; ticks = 12 };
    stays = (0, omega arith, refl);
    ceiling = 1;
    is_ceiling = ceiling_of_m;
    reaches_up = some;
    so_long = refl;
  });
}

lowest_block : IsTableBlock example_table 3 0
lowest_block = record { most = λ n l. none_below 3 n l l.number (omega arith) refl; one = inl refl }

-- ---- tasks

pub example_has_its_tasks : ExampleHasItsTasks
example_has_its_tasks over = record { one_each = refl; each = λ k p at. each k p at } where
  each : (k : ℕ) (p : TaskLine) → slice_get example_table.tasks k ≡ Some p → IsTaskOfLine example_table over k p (task_at (example_tasks over) (rank_of_line example_table k - 1))
  each zero p at = let same = same_Some first_line p at in record {
    frame = ap (λ (x : TaskLine). x.frame) same;
    deadline = ap deadline_of_line same;
    run = ap (λ (x : TaskLine). cap (x.cost + 2 * over)) same;
    susp = refl;
    waits = refl;
    block = higher_block 1 (omega arith) (omega arith);
  }
  each (suc zero) p at = let same = same_Some second_line p at in record {
    frame = ap (λ (x : TaskLine). x.frame) same;
    deadline = ap deadline_of_line same;
    run = ap (λ (x : TaskLine). cap (x.cost + 2 * over)) same;
    susp = refl;
    waits = refl;
    block = higher_block 2 (omega arith) (omega arith);
  }
  each (suc (suc zero)) p at = let same = same_Some third_line p at in record {
    frame = ap (λ (x : TaskLine). x.frame) same;
    deadline = ap deadline_of_line same;
    run = ap (λ (x : TaskLine). cap (x.cost + 2 * over)) same;
    susp = refl;
    waits = refl;
    block = lowest_block;
  }
  each (suc (suc (suc k))) p at = absurd (none-some p at)

-- ---- bounds

first_bound : IsBound (example_tasks 0) 0 412
unfolding demand_at
first_bound = record {
  solves = record { above = omega arith; within = omega arith; met = omega arith };
  least = λ r s. (let met : demand_at (example_tasks 0) 0 r ≤ r = s.met in omega (arith, met));
}

-- the first is activated once at least
once : (r : ℕ) → 1 ≤ r → 400 ≤ asked 12 r (take 1 (example_tasks 0))
once r some =
    let enough = div_ceil_times r 1000 (omega arith) in
    let is : asked 12 r (take 1 (example_tasks 0)) ≡ div_ceil r 1000 * 400 = sum_by-cons (λ (t : Task). div_ceil r t.frame * activation 12 t) (task_at (example_tasks 0) 0) [] ∙ omega arith in
    omega (arith, is, enough.0, some)

second_bound : IsBound (example_tasks 0) 1 419
unfolding demand_at
second_bound = record {
  solves = record { above = omega arith; within = omega arith; met = omega arith };
  least = λ r s. (let met : demand_at (example_tasks 0) 1 r ≤ r = s.met in omega (arith, met, once r s.above, s.within));
}

-- what those before the third ask for
both_asked : (r : ℕ) → asked 0 r (take 2 (example_tasks 0)) ≡ div_ceil r 1000 * 400 + div_ceil r 2000 * 7
both_asked r =
    let one = sum_by-cons (λ (t : Task). div_ceil r t.frame * activation 0 t) (task_at (example_tasks 0) 0) (task_at (example_tasks 0) 1 ∷ []) in
    let two = sum_by-cons (λ (t : Task). div_ceil r t.frame * activation 0 t) (task_at (example_tasks 0) 1) [] in
    one ∙ (ap (λ n. div_ceil r 1000 * 400 + n) two ∙ omega arith)

third_bound : IsBound (example_tasks 0) 2 1960
unfolding demand_at
third_bound = record {
  solves = record { above = omega arith; within = omega arith; met = omega arith };
  least = λ r s. (let met : demand_at (example_tasks 0) 2 r ≤ r = s.met in
      let one = div_ceil_times r 1000 (omega arith) in
      let two = div_ceil_times r 2000 (omega arith) in
      omega (arith, met, both_asked r, one.0, two.0, s.above, s.within));
}

pub example_is_bounded : ExampleHasItsTasks → ExampleIsBounded
example_is_bounded are = record {
  first = record { tasks = example_tasks 0; are = are 0; least = first_bound };
  second = record { tasks = example_tasks 0; are = are 0; least = second_bound };
  third = record { tasks = example_tasks 0; are = are 0; least = third_bound };
}
