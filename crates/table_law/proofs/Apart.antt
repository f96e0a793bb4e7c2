-- The names of a table differ, in the order in which its program has them.
use Rattle.std.proofs.Common.{◌≡◌, ◌≢◌, ◌+◌, ◌<◌, ℕ, zero, suc, inl, inr, true, false, List, [], ◌∷◌, ◌++◌, Option, Some, None, All, length, map, get_or, refl, ap, sym, ◌∙◌, subst, arith}
use Rattle.std.specs.Prelude.{AllPairs, Contains, flat_map, option_to_list}
use Rattle.syntax_tree.specs.Plain.{Name}
use Rattle.table_format.specs.declared.table.TaskLine.{TaskLine}
use Rattle.table_format.specs.declared.table.TaskTable.{TaskTable}
use Rattle.table_format.specs.Rules.{task_names, names_of_tasks, names_of_monitors, names, monitors, same_name, IsBegun}
use Rattle.table_law.proofs.Lists.{Every, every_of, weaker, both, left_of, right_of, every_distinct}
use Rattle.table_law.proofs.Few.{AllDiffer, distinct_differ, same_self}

-- ---- each differs from each later one

abbrev pub Apart : List Name → Type 0
Apart [] = Unit {0}
Apart (x ∷ xs) = Every (λ y. x ≢ y) xs × Apart xs

tail_pairs : (x : Name) (xs : List Name) → AllPairs (λ a b. a ≢ b) (x ∷ xs) → AllPairs (λ a b. a ≢ b) xs
tail_pairs x xs all i j d less within = all (suc i) (suc j) d (omega (arith, less)) (omega (arith, within))

pub apart_of : (xs : List Name) → AllPairs (λ a b. a ≢ b) xs → Apart xs
apart_of [] all = tt
apart_of (x ∷ xs) all =
    (every_of (λ y. x ≢ y) xs (λ k d within. all 0 (suc k) d (omega arith) (omega (arith, within))), apart_of xs (tail_pairs x xs all))

pub apart_left : (xs ys : List Name) → Apart (xs ++ ys) → Apart xs
apart_left [] ys all = tt
apart_left (x ∷ xs) ys all = (left_of (λ y. x ≢ y) xs ys all.0, apart_left xs ys all.1)

pub apart_right : (xs ys : List Name) → Apart (xs ++ ys) → Apart ys
apart_right [] ys all = all
apart_right (x ∷ xs) ys all = apart_right xs ys all.1

pub crossing : (xs ys : List Name) → Apart (xs ++ ys) → Every (λ x. Every (λ y. x ≢ y) ys) xs
crossing [] ys all = tt
crossing (x ∷ xs) ys all = (right_of (λ y. x ≢ y) xs ys all.0, crossing xs ys all.1)

pub apart_both : (xs ys : List Name) → Apart xs → Apart ys → Every (λ x. Every (λ y. x ≢ y) ys) xs → Apart (xs ++ ys)
apart_both [] ys one other across = other
apart_both (x ∷ xs) ys one other across = (both (λ y. x ≢ y) xs ys one.0 across.0, apart_both xs ys one.1 other across.1)

-- ---- events, and processes

abbrev pub events_of : List TaskLine → List Name
events_of ps = flat_map (λ p. option_to_list p.event) ps

abbrev pub processes_of : List TaskLine → List Name
processes_of ps = map (λ p. p.name) ps

pub on_events : (P : Name → Type 0) (ps : List TaskLine) → Every P (flat_map task_names ps) → Every P (events_of ps)
on_events P [] all = tt
on_events P (p ∷ ps) all =
    let own = left_of P (task_names p) (flat_map task_names ps) all in
    both P (option_to_list p.event) (events_of ps) own.1 (on_events P ps (right_of P (task_names p) (flat_map task_names ps) all))

pub on_processes : (P : Name → Type 0) (ps : List TaskLine) → Every P (flat_map task_names ps) → Every P (processes_of ps)
on_processes P [] all = tt
on_processes P (p ∷ ps) all =
    let own = left_of P (task_names p) (flat_map task_names ps) all in
    (own.0, on_processes P ps (right_of P (task_names p) (flat_map task_names ps) all))

pub events_apart : (ps : List TaskLine) → Apart (flat_map task_names ps) → Apart (events_of ps)
events_apart [] all = tt
events_apart (p ∷ ps) all =
    let rest = flat_map task_names ps in
    let own = apart_left (task_names p) rest all in
    let across = crossing (task_names p) rest all in
    apart_both (option_to_list p.event) (events_of ps) own.1 (events_apart ps (apart_right (task_names p) rest all))
    (weaker (λ x. Every (λ y. x ≢ y) rest) (λ x. Every (λ y. x ≢ y) (events_of ps)) (λ x far. on_events (λ y. x ≢ y) ps far) (option_to_list p.event) across.1)

pub processes_apart : (ps : List TaskLine) → Apart (flat_map task_names ps) → Apart (processes_of ps)
processes_apart [] all = tt
processes_apart (p ∷ ps) all =
    let rest = flat_map task_names ps in
    let across = crossing (task_names p) rest all in
    (on_processes (λ y. p.name ≢ y) ps across.0, processes_apart ps (apart_right (task_names p) rest all))

turned : (x : Name) (ys : List Name) → Every (λ y. x ≢ y) ys → Every (λ y. y ≢ x) ys
turned x ys all = weaker (λ y. x ≢ y) (λ y. y ≢ x) (λ y far same. far (sym same)) ys all

-- what stands in both of two lines is apart
pub events_processes : (ps : List TaskLine) → Apart (flat_map task_names ps) → Every (λ e. Every (λ n. e ≢ n) (processes_of ps)) (events_of ps)
events_processes [] all = tt
events_processes (p ∷ ps) all =
    let rest = flat_map task_names ps in
    let own = apart_left (task_names p) rest all in
    let across = crossing (task_names p) rest all in
    let later = events_processes ps (apart_right (task_names p) rest all) in
    both (λ e. Every (λ n. e ≢ n) (processes_of (p ∷ ps))) (option_to_list p.event) (events_of ps)
    (joined (option_to_list p.event) (turned p.name (option_to_list p.event) own.0)
    (weaker (λ x. Every (λ y. x ≢ y) rest) (λ x. Every (λ y. x ≢ y) (processes_of ps)) (λ x far. on_processes (λ y. x ≢ y) ps far) (option_to_list p.event) across.1))
    (joined (events_of ps) (turned p.name (events_of ps) (on_events (λ y. p.name ≢ y) ps across.0)) later)
  where
    joined : (es : List Name) → Every (λ e. e ≢ p.name) es → Every (λ e. Every (λ n. e ≢ n) (processes_of ps)) es → Every (λ e. Every (λ n. e ≢ n) (processes_of (p ∷ ps))) es
    joined [] one more = tt
    joined (e ∷ es) one more = ((one.0, more.0), joined es one.1 more.1)

-- ---- monitors

false_differs : (a b : Name) → same_name a b ≡ false → a ≢ b
false_differs a b is same = (let e : same_name a a ≡ false = ap (same_name a) same ∙ is in let f = same_self a in absurd cc)

pub differ_apart : (xs : List Name) → AllDiffer same_name xs → Apart xs
differ_apart [] all = tt
differ_apart (x ∷ xs) all = (weaker (λ y. same_name x y ≡ false) (λ y. x ≢ y) (λ y is. false_differs x y is) xs all.0, differ_apart xs all.1)

pub contains_each : (xs : List Name) → Every (λ x. Contains xs x) xs
contains_each xs = every_of (λ x. Contains xs x) xs (λ k d within. (k, within, at k d within))
  where
    same_there : {A : Type 0} (ys : List A) (k : ℕ) (d e : A) → k < length ys → get_or ys k d ≡ get_or ys k e
    same_there [] k d e within = absurd (omega (arith, within))
    same_there (y ∷ ys) zero d e within = refl
    same_there (y ∷ ys) (suc k) d e within = same_there ys k d e (omega (arith, within))

    at : (k : ℕ) (d : Name) → k < length xs → get_or xs k (get_or xs k d) ≡ get_or xs k d
    at k d within = same_there xs k (get_or xs k d) d within

-- no monitor has a name of the tasks
monitors_far : (t : TaskTable) → IsBegun t → Every (λ m. Every (λ n. m ≢ n) (names_of_tasks t)) (monitors t)
monitors_far t is =
    every_distinct (λ m. Every (λ n. m ≢ n) (names_of_tasks t)) same_name (names_of_monitors t)
    (weaker (λ m. ¬ Contains (names_of_tasks t) m) (λ m. Every (λ n. m ≢ n) (names_of_tasks t))
    (λ m far. weaker (λ n. Contains (names_of_tasks t) n) (λ n. m ≢ n) (λ n has same. far (subst (λ k. Contains (names_of_tasks t) k) (sym same) has)) (names_of_tasks t) (contains_each (names_of_tasks t)))
    (names_of_monitors t) (every_of (λ m. ¬ Contains (names_of_tasks t) m) (names_of_monitors t) is.apart))

across_flipped : (xs ys : List Name) → Every (λ x. Every (λ y. x ≢ y) ys) xs → Every (λ y. Every (λ x. y ≢ x) xs) ys
across_flipped xs [] all = tt
across_flipped xs (y ∷ ys) all = (
  weaker (λ x. Every (λ z. x ≢ z) (y ∷ ys)) (λ x. y ≢ x) (λ x far same. far.0 (sym same)) xs all,
  across_flipped xs ys (weaker (λ x. Every (λ z. x ≢ z) (y ∷ ys)) (λ x. Every (λ z. x ≢ z) ys) (λ x far. far.1) xs all),
)

-- the names of the program, in its order
abbrev pub program_names : TaskTable → List Name
program_names t = events_of t.tasks ++ (monitors t ++ processes_of t.tasks)

pub names_apart : (t : TaskTable) → IsBegun t → Apart (t.name ∷ program_names t)
names_apart t is =
    let all = apart_of (names_of_tasks t) is.differ in
    let tasks = all.1 in
    let far = monitors_far t is in
    let from_name = weaker (λ m. Every (λ n. m ≢ n) (names_of_tasks t)) (λ m. m ≢ t.name) (λ m e. e.0) (monitors t) far in
    let from_tasks = weaker (λ m. Every (λ n. m ≢ n) (names_of_tasks t)) (λ m. Every (λ n. m ≢ n) (flat_map task_names t.tasks)) (λ m e. e.1) (monitors t) far in
    let to_events = weaker (λ m. Every (λ n. m ≢ n) (flat_map task_names t.tasks)) (λ m. Every (λ n. m ≢ n) (events_of t.tasks)) (λ m e. on_events (λ n. m ≢ n) t.tasks e) (monitors t) from_tasks in
    let to_processes = weaker (λ m. Every (λ n. m ≢ n) (flat_map task_names t.tasks)) (λ m. Every (λ n. m ≢ n) (processes_of t.tasks)) (λ m e. on_processes (λ n. m ≢ n) t.tasks e) (monitors t) from_tasks in
    let inner = apart_both (monitors t) (processes_of t.tasks) (differ_apart (monitors t) (distinct_differ same_name (names_of_monitors t))) (processes_apart t.tasks tasks) to_processes in
    let event_monitors = across_flipped (monitors t) (events_of t.tasks) to_events in
    let across = joined (events_of t.tasks) event_monitors (events_processes t.tasks tasks) in (
      both (λ n. t.name ≢ n) (events_of t.tasks) (monitors t ++ processes_of t.tasks) (on_events (λ n. t.name ≢ n) t.tasks all.0)
          (both (λ n. t.name ≢ n) (monitors t) (processes_of t.tasks) (weaker (λ m. m ≢ t.name) (λ m. t.name ≢ m) (λ m one same. one (sym same)) (monitors t) from_name) (on_processes (λ n. t.name ≢ n) t.tasks all.0)),
      apart_both (events_of t.tasks) (monitors t ++ processes_of t.tasks) (events_apart t.tasks tasks) inner across,
    )
  where
    joined : (es : List Name) → Every (λ e. Every (λ m. e ≢ m) (monitors t)) es → Every (λ e. Every (λ n. e ≢ n) (processes_of t.tasks)) es
        → Every (λ e. Every (λ n. e ≢ n) (monitors t ++ processes_of t.tasks)) es
    joined [] one other = tt
    joined (e ∷ es) one other = (both (λ n. e ≢ n) (monitors t) (processes_of t.tasks) one.0 other.0, joined es one.1 other.1)

-- ---- each is a name of the table

pub names_there : (t : TaskTable) → Every (λ n. Contains (names t) n) (t.name ∷ program_names t)
names_there t =
    let all = contains_each (names t) in
    let P : Name → Type 0 = λ n. Contains (names t) n in
    let tasks = left_of P (names_of_tasks t) (names_of_monitors t) all in
    let mons = every_distinct P same_name (names_of_monitors t) (right_of P (names_of_tasks t) (names_of_monitors t) all) in
    (tasks.0, both P (events_of t.tasks) (monitors t ++ processes_of t.tasks) (on_events P t.tasks tasks.1) (both P (monitors t) (processes_of t.tasks) mons (on_processes P t.tasks tasks.1)))
