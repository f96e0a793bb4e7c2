-- Which names are taken, by a test and by the definition.
use Rattle.std.proofs.Common.{◌≡◌, ◌≢◌, ◌⊎◌, inl, inr, ◌<◌, ◌||◌, ℕ, zero, suc, Bool, true, false, List, [], ◌∷◌, ◌++◌, Option, Some, None, IsSomeAnd, length, map, flat_map, get_or, refl, ap, sym, subst, ◌∙◌, arith, Any, Contains}
use Rattle.std.specs.Prelude.{IsTrue, ◌↔◌}
use Rattle.std.specs.List.{list_any}
use Rattle.std.proofs.lemmas.Bool.{false≢true, or_cases, or_left, or_right}
use Rattle.std.proofs.lemmas.List.Folds.{list_any-append, Any-from_list_any, list_any-from_Any}
use Rattle.std.proofs.lemmas.List.Elements.{Contains-append_left, Contains-append_right, Contains-append_cases}
use Rattle.std.proofs.lemmas.Grind.{flat_map-append}
use Rattle.std.proofs.lemmas.List.{append-nil}
use Rattle.std.proofs.lemmas.Slice.Eq.{bytes_eq-Decides}
use Rattle.table_format.specs.declared.table.TaskStay.{TaskStay}
use Rattle.table_format.specs.declared.table.TaskLine.{TaskLine}
use Rattle.table_format.specs.declared.table.TaskTable.{TaskTable}
use Rattle.table_format.specs.Spelling.{Word, SaidStay}
use Rattle.table_format.specs.Rules.{same_name, task_names, monitors_named, names_of_tasks, names_of_monitors, names}
use Rattle.table_format.specs.Faults.{with_line, HasTakenName, stay_meant, meant}
use Rattle.table_reader.specs.declared.line.StayWords.{StayWords}
use Rattle.table_reader.specs.declared.line.LineWords.{LineWords}
use Rattle.table_reader.specs.Judging.{is_among, is_event_taken, is_task_taken, is_taken}
use Rattle.table_reader.specs.Reading.{stay_of, line_seen}

-- ---- a name among others

among_means : (names : List Word) (name : Word) → IsTrue (is_among names name) → Contains names name
among_means names name is =
    let found = Any-from_list_any (λ other. same_name other name) names is in
    (found.0, found.2, (let same : found.1 ≡ name = (bytes_eq-Decides found.1 name).0 found.4 in any_default names found.0 name found.1 found.2 ∙ (found.3 ∙ same)))
  where
    any_default : (xs : List Word) (k : ℕ) (d e : Word) → k < length xs → get_or xs k d ≡ get_or xs k e
    any_default [] k d e lt = absurd (omega (arith, lt))
    any_default (x ∷ xs) zero d e lt = refl
    any_default (x ∷ xs) (suc k) d e lt = any_default xs k d e (omega (arith, lt))

among_from : (names : List Word) (name : Word) → Contains names name → IsTrue (is_among names name)
among_from names name (k, lt, is) =
    list_any-from_Any (λ other. same_name other name) names (k, name, lt, is, (bytes_eq-Decides name name).1 refl)

pub any_flat : {X Y : Type 0} (test : Y → Bool) (f : X → List Y) (xs : List X) → list_any test (flat_map f xs) ≡ list_any (λ x. list_any test (f x)) xs
any_flat test f [] = refl
any_flat test f (x ∷ xs) = list_any-append test (f x) (flat_map f xs) ∙ ap (λ b. list_any test (f x) || b) (any_flat test f xs)

pub any_map : {X Y : Type 0} (test : Y → Bool) (f : X → Y) (xs : List X) → list_any test (map f xs) ≡ list_any (λ x. test (f x)) xs
any_map test f [] = refl
any_map test f (x ∷ xs) = ap (λ b. test (f x) || b) (any_map test f xs)

-- the monitors of lines, each by its stays
pub among_monitors : (tasks : List TaskLine) (name : Word)
    → list_any (λ (p : TaskLine). list_any (λ (s : TaskStay). same_name s.monitor name) p.stays) tasks
    ≡ is_among (map (λ (s : TaskStay). s.monitor) (flat_map (λ (p : TaskLine). p.stays) tasks)) name
among_monitors tasks name =
    sym (any_map (λ other. same_name other name) (λ (s : TaskStay). s.monitor) (flat_map (λ (p : TaskLine). p.stays) tasks)
    ∙ any_flat (λ (s : TaskStay). same_name s.monitor name) (λ (p : TaskLine). p.stays) tasks)

pub among_both : (t : TaskTable) (name : Word) (one other : Bool) → one ≡ is_among (names_of_tasks t) name → other ≡ is_among (names_of_monitors t) name → (one || other) ≡ is_among (names t) name
among_both t name one other is also =
    ap (λ b. b || other) is ∙ (ap (λ b. is_among (names_of_tasks t) name || b) also ∙ sym (list_any-append (λ x. same_name x name) (names_of_tasks t) (names_of_monitors t)))

-- ---- the names of tasks with one more line

pub tasks_more : (t : TaskTable) (p : TaskLine) → names_of_tasks (with_line t p) ≡ names_of_tasks t ++ task_names p
tasks_more t p =
    ap (λ (xs : List Word). t.name ∷ xs) (flat_map-append task_names t.tasks (p ∷ []) ∙ ap (λ (xs : List Word). flat_map task_names t.tasks ++ xs) (append-nil (task_names p)))

contains_first : (x : Word) (xs : List Word) → Contains (x ∷ xs) x
contains_first x xs = (0, omega arith, refl)

contains_later : (x : Word) (xs : List Word) (y : Word) → Contains xs y → Contains (x ∷ xs) y
contains_later x xs y at = let lt = at.1 in (suc at.0, omega arith, at.2)

contains_cases : (x : Word) (xs : List Word) (y : Word) → Contains (x ∷ xs) y → (x ≡ y) ⊎ Contains xs y
contains_cases x xs y (zero, lt, is) = inl is
contains_cases x xs y (suc k, lt, is) = inr (k, omega (arith, lt), is)

-- ---- the test and the definition

abbrev IsMonitorTaken : TaskTable → TaskLine → Word → Bool
IsMonitorTaken t p monitor = is_among (names_of_tasks t) monitor || is_among (task_names p) monitor

monitor_means : (t : TaskTable) (p : TaskLine) (m : Word) → IsTrue (IsMonitorTaken t p m) → Contains (names_of_tasks (with_line t p)) m
monitor_means t p m is =
    subst (λ (xs : List Word). Contains xs m) (sym (tasks_more t p)) (elim (or_cases (is_among (names_of_tasks t) m) (is_among (task_names p) m) is) [
      | inl old ↦ Contains-append_left (names_of_tasks t) (task_names p) m (among_means (names_of_tasks t) m old)
      | inr own ↦ Contains-append_right (names_of_tasks t) (task_names p) m (among_means (task_names p) m own)
    ])

monitor_from : (t : TaskTable) (p : TaskLine) (m : Word) → Contains (names_of_tasks (with_line t p)) m → IsTrue (IsMonitorTaken t p m)
monitor_from t p m at =
    elim (Contains-append_cases (names_of_tasks t) (task_names p) m (subst (λ (xs : List Word). Contains xs m) (tasks_more t p) at)) [
      | inl old ↦ or_left (is_among (names_of_tasks t) m) (is_among (task_names p) m) (among_from (names_of_tasks t) m old)
      | inr own ↦ or_right (is_among (names_of_tasks t) m) (is_among (task_names p) m) (among_from (task_names p) m own)
    ]

event_means : (t : TaskTable) (p : TaskLine) (o : Option Word) → IsTrue (is_event_taken t p o) → IsSomeAnd o (λ event. Contains (p.name ∷ names t) event)
event_means t p None is = absurd (false≢true is)
event_means t p (Some event) is = elim (or_cases (same_name event p.name) (is_among (names t) event) is) [
  | inl same ↦ subst (λ (x : Word). Contains (p.name ∷ names t) x) (sym ((bytes_eq-Decides event p.name).0 same)) (contains_first p.name (names t))
  | inr old ↦ contains_later p.name (names t) event (among_means (names t) event old)
]

event_from : (t : TaskTable) (p : TaskLine) (o : Option Word) → IsSomeAnd o (λ event. Contains (p.name ∷ names t) event) → IsTrue (is_event_taken t p o)
event_from t p None at = absurd at
event_from t p (Some event) at = elim (contains_cases p.name (names t) event at) [
  | inl same ↦ or_left (same_name event p.name) (is_among (names t) event) ((bytes_eq-Decides event p.name).1 (sym same))
  | inr old ↦ or_right (same_name event p.name) (is_among (names t) event) (among_from (names t) event old)
]

task_means : (t : TaskTable) (p : TaskLine) → IsTrue (is_task_taken t p) → HasTakenName t p
task_means t p is = elim (or_cases (is_among (names t) p.name) (is_event_taken t p p.event) is) [
  | inl name ↦ inl (among_means (names t) p.name name)
  | inr event ↦ inr (inl (event_means t p p.event event))
]

taken_means : (t : TaskTable) (p : TaskLine) → IsTrue (is_taken t p) → HasTakenName t p
taken_means t p is = elim (or_cases (is_task_taken t p) (list_any (IsMonitorTaken t p) (monitors_named p)) is) [
  | inl task ↦ task_means t p task
  | inr monitor ↦ (let found = Any-from_list_any (IsMonitorTaken t p) (monitors_named p) monitor in
      inr (inr (found.0, found.1, found.2, found.3, monitor_means t p found.1 found.4)))
]

taken_from : (t : TaskTable) (p : TaskLine) → HasTakenName t p → IsTrue (is_taken t p)
taken_from t p taken =
    let task = is_task_taken t p in
    let monitors = list_any (IsMonitorTaken t p) (monitors_named p) in
    elim taken [
      | inl name ↦ or_left task monitors (or_left (is_among (names t) p.name) (is_event_taken t p p.event) (among_from (names t) p.name name))
      | inr more ↦ elim more [
        | inl event ↦ or_left task monitors (or_right (is_among (names t) p.name) (is_event_taken t p p.event) (event_from t p p.event event))
        | inr (k, m, lt, at, here) ↦ or_right task monitors (list_any-from_Any (IsMonitorTaken t p) (monitors_named p) (k, m, lt, at, monitor_from t p m here))
      ]
    ]

pub taken_is : (t : TaskTable) (p : TaskLine) (test : Bool) → test ≡ is_taken t p → IsTrue test ↔ HasTakenName t p
taken_is t p test is = ((λ so. taken_means t p (sym is ∙ so)), λ taken. is ∙ taken_from t p taken)

-- the monitors of a line by its words
pub monitors_seen : (stays : List StayWords) → map (λ (s : TaskStay). s.monitor) (map stay_meant (map stay_of stays)) ≡ map (λ (s : StayWords). s.monitor.now) stays
monitors_seen [] = refl
monitors_seen (s ∷ stays) = ap (λ (xs : List Word). s.monitor.now ∷ xs) (monitors_seen stays)

pub ticks_seen : (stays : List StayWords) → map (λ (s : SaidStay). s.ticks) (map stay_of stays) ≡ map (λ (s : StayWords). s.ticks.now) stays
ticks_seen [] = refl
ticks_seen (s ∷ stays) = ap (λ (xs : List Word). s.ticks.now ∷ xs) (ticks_seen stays)

-- ---- the tests of the code

-- a name among those of tasks: not that of the table
pub among_tasks : (t : TaskTable) (name own : Word) (tasks : List TaskLine) (rest : Bool) → own ≡ t.name → same_name own name ≡ false → tasks ≡ t.tasks
    → rest ≡ list_any (λ (p : TaskLine). is_among (task_names p) name) tasks → rest ≡ is_among (names_of_tasks t) name
among_tasks t name own tasks rest named other are is =
    let behind = λ (b : Bool). b || list_any (λ x. same_name x name) (flat_map task_names t.tasks) in
    let differs : false ≡ same_name t.name name = sym other ∙ ap (λ (x : Word). same_name x name) named in
    is ∙ (ap (list_any (λ (p : TaskLine). is_among (task_names p) name)) are ∙ (sym (any_flat (λ x. same_name x name) task_names t.tasks) ∙ ap behind differs))

-- a name of a table
pub among_first : (t : TaskTable) (name : Word) → true ≡ is_among (names_of_tasks t) name → true ≡ is_among (names t) name
among_first t name is = among_both t name true (is_among (names_of_monitors t) name) is refl

pub among_second : (t : TaskTable) (name : Word) (tasks : List TaskLine) (rest : Bool) → false ≡ is_among (names_of_tasks t) name → tasks ≡ t.tasks
    → rest ≡ list_any (λ (p : TaskLine). list_any (λ (s : TaskStay). same_name s.monitor name) p.stays) tasks → rest ≡ is_among (names t) name
among_second t name tasks rest none are is =
    among_both t name false rest none (is ∙ (among_monitors tasks name ∙ ap (λ (ps : List TaskLine). is_among (map (λ (s : TaskStay). s.monitor) (flat_map (λ (p : TaskLine). p.stays) ps)) name) are))

monitors_test : (t : TaskTable) (p : TaskLine) (stays : List StayWords) → monitors_named p ≡ map (λ (s : StayWords). s.monitor.now) stays
    → list_any (IsMonitorTaken t p) (monitors_named p) ≡ list_any (λ (s : StayWords). IsMonitorTaken t p s.monitor.now) stays
monitors_test t p stays are =
    ap (list_any (IsMonitorTaken t p)) are ∙ any_map (IsMonitorTaken t p) (λ (s : StayWords). s.monitor.now) stays

-- a taken name of a line, by the tests of its names
pub taken_by : (t : TaskTable) (line : LineWords) (stays : List StayWords) (task monitor : Bool) → task ≡ is_task_taken t (meant (line_seen line)) → stays ≡ line.stays.items
    → monitor ≡ list_any (λ (s : StayWords). is_among (names_of_tasks t) s.monitor.now || is_among (task_names (meant (line_seen line))) s.monitor.now) stays
    → IsTrue (task || monitor) ↔ HasTakenName t (meant (line_seen line))
taken_by t line stays task monitor a are b =
    let p : TaskLine = meant (line_seen line) in
    let tests = λ (ss : List StayWords). list_any (λ (s : StayWords). IsMonitorTaken t p s.monitor.now) ss in
    let m : monitor ≡ list_any (IsMonitorTaken t p) (monitors_named p) = b ∙ (ap tests are ∙ sym (monitors_test t p line.stays.items (monitors_seen line.stays.items))) in
    taken_is t p (task || monitor) (ap (λ x. x || monitor) a ∙ ap (λ x. is_task_taken t p || x) m)

pub taken_first : (t : TaskTable) (line : LineWords) (task : Bool) → task ≡ true → task ≡ is_task_taken t (meant (line_seen line)) → IsTrue task ↔ HasTakenName t (meant (line_seen line))
taken_first t line task so is =
    let p : TaskLine = meant (line_seen line) in
    taken_is t p task (so ∙ ap (λ b. b || list_any (IsMonitorTaken t p) (monitors_named p)) (sym so ∙ is))
