-- A table so far with one more process line, and the fault of a line.
use Rattle.std.proofs.Common.{◌≡◌, ◌≢◌, ◌⊎◌, inl, inr, ◌<◌, ◌≤◌, ◌+◌, ℕ, zero, suc, List, [], ◌∷◌, ◌++◌, Option, Some, None, IsSomeAnd, map, flat_map, option_to_list, get_or, refl, ap, sym, subst, ◌∙◌, arith, All, AllPairs, Contains}
use Rattle.std.proofs.lemmas.List.{append_assoc, append-nil, map-append}
use Rattle.std.proofs.lemmas.Grind.{flat_map-append}
use Rattle.std.proofs.lemmas.List.Elements.{All-append, All-contains, All-contains_itself, All-push, All-weaker, Contains-append_left, Contains-append_right, Contains-append_cases, Contains-get_or}
use Rattle.std.proofs.lemmas.List.Quantifiers.{all_pairs_push}
use Rattle.table_format.specs.declared.table.TaskStay.{TaskStay}
use Rattle.table_format.specs.declared.table.TaskLine.{TaskLine}
use Rattle.table_format.specs.declared.table.TaskTable.{TaskTable}
use Rattle.table_format.specs.Spelling.{Word}
use Rattle.table_format.specs.Rules.{IsName, task_names, monitors_named, names_of_line, names_of_tasks, names_of_monitors, names, stays, IsInRanges, CanBeMet, IsSmall, IsTaskLine, IsBegun}
use Rattle.table_format.specs.Faults.{with_line, HasTakenName, Breaks, IsLeast}
use Rattle.table_reader.proofs.Taken.{tasks_more}

-- ---- names that differ

abbrev Differ : List Word → Type 0
Differ xs = AllPairs (λ one other. one ≢ other) xs

differ_more : (xs : List Word) (y : Word) → Differ xs → ¬ Contains xs y → Differ (xs ++ y ∷ [])
differ_more xs y pairs new =
    all_pairs_push (λ (one other : Word). one ≢ other) xs y pairs (λ k d lt same. new (subst (λ (z : Word). Contains xs z) same (Contains-get_or xs k d lt)))

by_contained : {X : Type 0} (P : X → Type 0) (xs : List X) → ((x : X) → Contains xs x → P x) → All P xs
by_contained {X} P xs holds = All-weaker (Contains xs) P holds xs (All-contains_itself xs)

pushed_cases : (xs : List Word) (y x : Word) → Contains (xs ++ y ∷ []) x → (x ≡ y) ⊎ Contains xs x
pushed_cases xs y x at = elim (Contains-append_cases xs (y ∷ []) x at) [
  | inl before ↦ inr before
  | inr (zero, lt, is) ↦ inl (sym is)
  | inr (suc k, lt, is) ↦ absurd (omega (arith, lt))
]

-- ---- one more line

module _ (t : TaskTable) (begun : IsBegun t) (p : TaskLine) (free : ¬ HasTakenName t p) where
  name_new : ¬ Contains (names t) p.name
  name_new taken = free (inl taken)

  name_no_task : ¬ Contains (names_of_tasks t) p.name
  name_no_task at = name_new (Contains-append_left (names_of_tasks t) (names_of_monitors t) p.name at)

  differ_with : (o : Option Word) → (IsSomeAnd o (λ event. Contains (p.name ∷ names t) event) → ⊥) → Differ (names_of_tasks t ++ (p.name ∷ option_to_list o))
  differ_with None untaken = differ_more (names_of_tasks t) p.name begun.differ name_no_task
  differ_with (Some event) untaken =
      subst Differ (append_assoc (names_of_tasks t) (p.name ∷ []) (event ∷ []))
      (differ_more (names_of_tasks t ++ p.name ∷ []) event (differ_more (names_of_tasks t) p.name begun.differ name_no_task) event_new)
    where
      later : (x : Word) (xs : List Word) (y : Word) → Contains xs y → Contains (x ∷ xs) y
      later x xs y at = let lt = at.1 in (suc at.0, omega arith, at.2)

      event_new : ¬ Contains (names_of_tasks t ++ p.name ∷ []) event
      event_new at = elim (pushed_cases (names_of_tasks t) p.name event at) [
        | inl same ↦ untaken (zero, omega arith, sym same)
        | inr before ↦ untaken (later p.name (names t) event (Contains-append_left (names_of_tasks t) (names_of_monitors t) event before))
      ]

  differ : Differ (names_of_tasks (with_line t p))
  differ = subst Differ (sym (tasks_more t p)) (differ_with p.event (λ event. free (inr (inl event))))

  stays_more : stays (with_line t p) ≡ stays t ++ p.stays
  stays_more = flat_map-append (λ (q : TaskLine). q.stays) t.tasks (p ∷ []) ∙ ap (λ (xs : List TaskStay). stays t ++ xs) (append-nil p.stays)

  monitors_more : names_of_monitors (with_line t p) ≡ names_of_monitors t ++ monitors_named p
  monitors_more = ap (map (λ (s : TaskStay). s.monitor)) stays_more ∙ map-append (λ (s : TaskStay). s.monitor) (stays t) p.stays

  -- a monitor so far is no name of a task of the line
  own_new : (m : Word) → Contains (names t) m → (o : Option Word) → (IsSomeAnd o (λ event. Contains (p.name ∷ names t) event) → ⊥) → ¬ Contains (p.name ∷ option_to_list o) m
  own_new m known o untaken (zero, lt, is) = name_new (subst (λ (x : Word). Contains (names t) x) (sym is) known)
  own_new m known None untaken (suc k, lt, is) = omega (arith, lt)
  own_new m known (Some event) untaken (suc zero, lt, is) =
      untaken (subst (λ (x : Word). Contains (p.name ∷ names t) x) (sym is) (let at = known.1 in (suc known.0, omega (arith, at), known.2)))
  own_new m known (Some event) untaken (suc (suc k), lt, is) = omega (arith, lt)

  old_apart : (m : Word) → Contains (names_of_monitors t) m → ¬ Contains (names_of_tasks (with_line t p)) m
  old_apart m there here = elim (Contains-append_cases (names_of_tasks t) (task_names p) m (subst (λ (xs : List Word). Contains xs m) (tasks_more t p) here)) [
    | inl before ↦ All-contains (λ monitor. ¬ Contains (names_of_tasks t) monitor) (names_of_monitors t) m begun.apart there before
    | inr own ↦ own_new m (Contains-append_right (names_of_tasks t) (names_of_monitors t) m there) p.event (λ event. free (inr (inl event))) own
  ]

  own_apart : (m : Word) → Contains (monitors_named p) m → ¬ Contains (names_of_tasks (with_line t p)) m
  own_apart m (k, lt, is) here = free (inr (inr (k, m, lt, is, here)))

  apart : All (λ monitor. ¬ Contains (names_of_tasks (with_line t p)) monitor) (names_of_monitors (with_line t p))
  apart =
      subst (All (λ monitor. ¬ Contains (names_of_tasks (with_line t p)) monitor)) (sym monitors_more)
      (All-append (λ monitor. ¬ Contains (names_of_tasks (with_line t p)) monitor) (names_of_monitors t) (monitors_named p)
      (by_contained (λ monitor. ¬ Contains (names_of_tasks (with_line t p)) monitor) (names_of_monitors t) old_apart)
      (by_contained (λ monitor. ¬ Contains (names_of_tasks (with_line t p)) monitor) (monitors_named p) own_apart))

  pub begun_more : IsTaskLine p → IsSmall (with_line t p) → IsBegun (with_line t p)
  begun_more line small = record {
    name = begun.name;
    tasks = All-push IsTaskLine t.tasks p begun.tasks line;
    differ = differ;
    apart = apart;
    small = small;
  }

-- ---- the least number

none_below : (t : TaskTable) (p : TaskLine) (number other : ℕ) → number ≤ 6 → other < number
    → (2 < number → All IsName (names_of_line p)) → (3 < number → ¬ HasTakenName t p) → (4 < number → IsInRanges p) → (5 < number → CanBeMet p) → ¬ Breaks t p other
none_below t p number other most below names free ranges met breaks = elim breaks [
  | inl two ↦ (let is = two.0 in two.1 (names (omega (arith, is, below))))
  | inr more ↦ elim more [
    | inl three ↦ (let is = three.0 in free (omega (arith, is, below)) three.1)
    | inr rest ↦ elim rest [
      | inl four ↦ (let is = four.0 in four.1 (ranges (omega (arith, is, below))))
      | inr later ↦ elim later [
        | inl five ↦ (let is = five.0 in five.1 (met (omega (arith, is, below))))
        | inr six ↦ (let is = six.0 in omega (arith, is, below, most))
      ]
    ]
  ]
]

least : (t : TaskTable) (p : TaskLine) (number : ℕ) → number ≤ 6 → Breaks t p number
    → (2 < number → All IsName (names_of_line p)) → (3 < number → ¬ HasTakenName t p) → (4 < number → IsInRanges p) → (5 < number → CanBeMet p) → IsLeast (Breaks t p) number
least t p number most is names free ranges met = record { is = is; least = λ other below. none_below t p number other most below names free ranges met }

pub no_names : (t : TaskTable) (p : TaskLine) → ¬ All IsName (names_of_line p) → IsLeast (Breaks t p) 2
no_names t p bad = least t p 2 (omega arith) (inl (refl, bad)) (λ h. absurd (omega (arith, h))) (λ h. absurd (omega (arith, h))) (λ h. absurd (omega (arith, h))) (λ h. absurd (omega (arith, h)))

pub taken : (t : TaskTable) (p : TaskLine) → All IsName (names_of_line p) → HasTakenName t p → IsLeast (Breaks t p) 3
taken t p names bad = least t p 3 (omega arith) (inr (inl (refl, bad))) (λ h. names) (λ h. absurd (omega (arith, h))) (λ h. absurd (omega (arith, h))) (λ h. absurd (omega (arith, h)))

pub out_of_range : (t : TaskTable) (p : TaskLine) → All IsName (names_of_line p) → ¬ HasTakenName t p → ¬ IsInRanges p → IsLeast (Breaks t p) 4
out_of_range t p names free bad = least t p 4 (omega arith) (inr (inr (inl (refl, bad)))) (λ h. names) (λ h. free) (λ h. absurd (omega (arith, h))) (λ h. absurd (omega (arith, h)))

pub not_met : (t : TaskTable) (p : TaskLine) → All IsName (names_of_line p) → ¬ HasTakenName t p → IsInRanges p → ¬ CanBeMet p → IsLeast (Breaks t p) 5
not_met t p names free ranges bad = least t p 5 (omega arith) (inr (inr (inr (inl (refl, bad))))) (λ h. names) (λ h. free) (λ h. ranges) (λ h. absurd (omega (arith, h)))

pub too_many : (t : TaskTable) (p : TaskLine) → IsTaskLine p → ¬ HasTakenName t p → ¬ IsSmall (with_line t p) → IsLeast (Breaks t p) 6
too_many t p line free bad = least t p 6 (omega arith) (inr (inr (inr (inr (refl, bad))))) (λ h. line.names) (λ h. free) (λ h. line.ranges) (λ h. line.met)
