-- A table keeps to its rules with each of its first lines.
use Rattle.std.proofs.Common.{◌≡◌, ◌≢◌, ◌⊎◌, inl, inr, ◌<◌, ◌≤◌, ◌+◌, ℕ, zero, suc, Bool, true, false, not, cond, List, [], ◌∷◌, ◌++◌, Option, Some, None, IsSomeAnd, length, map, flat_map, option_to_list, get_or, filter, refl, sym, ap, subst, ◌∙◌, arith, All, Contains, AllPairs, Any, length-append}
use Rattle.std.proofs.lemmas.List.{append_assoc, append-nil, map-append}
use Rattle.std.proofs.lemmas.Grind.{flat_map-append}
use Rattle.std.proofs.lemmas.List.Elements.{All-head, All-tail, All-contains, Contains-append_left, Contains-append_right, Contains-append_cases, Contains-get_or, filter-append}
use Rattle.table_format.specs.declared.table.TaskStay.{TaskStay}
use Rattle.table_format.specs.declared.table.TaskLine.{TaskLine}
use Rattle.table_format.specs.declared.table.TaskTable.{TaskTable}
use Rattle.table_format.specs.Spelling.{Word}
use Rattle.table_format.specs.Rules.{IsName, task_names, monitors_named, names_of_line, names_of_tasks, stays, names_of_monitors, names, same_name, distinct, monitors, IsSmall, IsTaskLine, IsBegun}
use Rattle.table_format.specs.Faults.{with_line, HasTakenName, Breaks}

-- ---- lists

front_at : {X : Type 0} (xs ys : List X) (k : ℕ) (d : X) → k < length xs → get_or (xs ++ ys) k d ≡ get_or xs k d
front_at [] ys k d lt = absurd (omega (arith, lt))
front_at (x ∷ xs) ys zero d lt = refl
front_at (x ∷ xs) ys (suc k) d lt = front_at xs ys k d (omega (arith, lt))

behind_at : {X : Type 0} (xs ys : List X) (k : ℕ) (d : X) → get_or (xs ++ ys) (length xs + k) d ≡ get_or ys k d
behind_at {X} [] ys k d = let none : 0 + k ≡ k = omega arith in ap (λ (n : ℕ). get_or ys n d) none
behind_at {X} (x ∷ xs) ys k d = let one : suc (length xs) + k ≡ suc (length xs + k) = omega arith in ap (λ (n : ℕ). get_or (x ∷ xs ++ ys) n d) one ∙ behind_at xs ys k d

any_default : {X : Type 0} (ys : List X) (k : ℕ) (d e : X) → k < length ys → get_or ys k d ≡ get_or ys k e
any_default [] k d e lt = absurd (omega (arith, lt))
any_default (y ∷ ys) zero d e lt = refl
any_default (y ∷ ys) (suc k) d e lt = any_default ys k d e (omega (arith, lt))

-- two places of a list, one in its front and one behind it
pairs_apart : {X : Type 0} (R : X → X → Type 0) (xs ys : List X) (x y : X) → AllPairs R (xs ++ ys) → Contains xs x → Contains ys y → R x y
pairs_apart {X} R xs ys x y pairs here there =
    let long = length-append xs ys in
    let a = here.1 in
    let b = there.1 in
    let first = front_at xs ys here.0 x a ∙ here.2 in
    let second = behind_at xs ys there.0 x ∙ (any_default ys there.0 x y b ∙ there.2) in
    let r = pairs here.0 (length xs + there.0) x (omega (arith, a, long)) (omega (arith, b, long)) in
    subst (λ (z : X). R z y) first (subst (λ (z : X). R (get_or (xs ++ ys) here.0 x) z) second r)

pub contains_first : {X : Type 0} (x : X) (xs : List X) → Contains (x ∷ xs) x
contains_first x xs = (0, omega arith, refl)

pub contains_later : {X : Type 0} (x : X) (xs : List X) (y : X) → Contains xs y → Contains (x ∷ xs) y
contains_later x xs y at = let lt = at.1 in (suc at.0, omega arith, at.2)

pub contains_cases : {X : Type 0} (x : X) (xs : List X) (y : X) → Contains (x ∷ xs) y → (x ≡ y) ⊎ Contains xs y
contains_cases x xs y (zero, lt, is) = inl is
contains_cases x xs y (suc k, lt, is) = inr (k, omega (arith, lt), is)

-- what stands once in a list begins with what stands once in its front
distinct_more : {A : Type 0} (same : A → A → Bool) (xs ys : List A) → (zs : List A) × (distinct same (xs ++ ys) ≡ distinct same xs ++ zs)
distinct_more same [] ys = (distinct same ys, refl)
distinct_more {A} same (x ∷ xs) ys =
    let more = distinct_more same xs ys in (
      filter (λ (y : A). not (same x y)) more.0,
      ap (λ (zs : List A). x ∷ filter (λ (y : A). not (same x y)) zs) more.1 ∙ ap (λ (zs : List A). x ∷ zs) (filter-append (λ (y : A). not (same x y)) (distinct same xs) more.0),
    )

-- ---- a table, by one of its lines

module _ (t : TaskTable) (begun : IsBegun t) (u : TaskTable) (p : TaskLine) (later : List TaskLine) (named : t.name ≡ u.name) (whole : t.tasks ≡ u.tasks ++ p ∷ later) where
  -- the names of tasks
  behind : List Word
  behind = task_names p ++ flat_map task_names later

  tasks_are : names_of_tasks t ≡ names_of_tasks u ++ (task_names p ++ flat_map task_names later)
  tasks_are =
      let here = ap (flat_map task_names) whole ∙ flat_map-append task_names u.tasks (p ∷ later) in
      cc

  monitors_are : names_of_monitors t ≡ names_of_monitors u ++ (monitors_named p ++ map (λ (s : TaskStay). s.monitor) (flat_map (λ (q : TaskLine). q.stays) later))
  monitors_are =
      ap (map (λ (s : TaskStay). s.monitor)) (ap (flat_map (λ (q : TaskLine). q.stays)) whole ∙ flat_map-append (λ (q : TaskLine). q.stays) u.tasks (p ∷ later))
      ∙ map-append (λ (s : TaskStay). s.monitor) (stays u) (p.stays ++ flat_map (λ (q : TaskLine). q.stays) later)
      ∙ ap (λ xs. names_of_monitors u ++ xs) (map-append (λ (s : TaskStay). s.monitor) p.stays (flat_map (λ (q : TaskLine). q.stays) later))

  differ : AllPairs (λ one other. one ≢ other) (names_of_tasks u ++ (task_names p ++ flat_map task_names later))
  differ = subst (AllPairs (λ (one other : Word). one ≢ other)) tasks_are begun.differ

  -- a monitor of the table is no name of its tasks
  apart : (m : Word) → Contains (names_of_monitors t) m → Contains (names_of_tasks t) m → ⊥
  apart m there here = All-contains (λ monitor. ¬ Contains (names_of_tasks t) monitor) (names_of_monitors t) m begun.apart there here

  -- a name of the line is no name of the table before it
  new_name : (w : Word) → Contains (task_names p) w → ¬ Contains (names u) w
  new_name w own taken = elim (Contains-append_cases (names_of_tasks u) (names_of_monitors u) w taken) [
    | inl task ↦ pairs_apart (λ (one other : Word). one ≢ other) (names_of_tasks u) (task_names p ++ flat_map task_names later) w w differ task (Contains-append_left (task_names p) (flat_map task_names later) w own) refl
    | inr monitor ↦ apart w
        (subst (λ (xs : List Word). Contains xs w) (sym monitors_are) (Contains-append_left (names_of_monitors u) _ w monitor))
        (subst (λ (xs : List Word). Contains xs w) (sym tasks_are) (Contains-append_right (names_of_tasks u) (task_names p ++ flat_map task_names later) w (Contains-append_left (task_names p) (flat_map task_names later) w own)))
  ]

  -- each name of a monitor of the line is one of the table
  own_monitor : (m : Word) → Contains (monitors_named p) m → Contains (names_of_monitors t) m
  own_monitor m at =
      subst (λ (xs : List Word). Contains xs m) (sym monitors_are)
      (Contains-append_right (names_of_monitors u) _ m (Contains-append_left (monitors_named p) (map (λ (s : TaskStay). s.monitor) (flat_map (λ (q : TaskLine). q.stays) later)) m at))

  -- the names of tasks up to this line are names of tasks
  up_to : names_of_tasks t ≡ names_of_tasks (with_line u p) ++ flat_map task_names later
  up_to =
      tasks_are
      ∙ (sym (append_assoc (names_of_tasks u) (task_names p) (flat_map task_names later))
      ∙ ap (λ (xs : List Word). (u.name ∷ xs) ++ flat_map task_names later) (sym one_more))
    where
      one_more : flat_map task_names (u.tasks ++ p ∷ []) ≡ flat_map task_names u.tasks ++ task_names p
      one_more = flat_map-append task_names u.tasks (p ∷ []) ∙ ap (λ (xs : List Word). flat_map task_names u.tasks ++ xs) (append-nil (task_names p))

  no_event : (o : Option Word) → p.event ≡ o → IsSomeAnd o (λ event. Contains (p.name ∷ names u) event) → ⊥
  no_event None is taken = absurd taken
  no_event (Some event) is taken = elim (contains_cases p.name (names u) event taken) [
    | inl same ↦ own_differs event is same
    | inr before ↦ new_name event (event_in event is) before
  ]
    where
      event_in : (event : Word) → p.event ≡ Some event → Contains (task_names p) event
      event_in event is = subst (λ (o : Option Word). Contains (p.name ∷ option_to_list o) event) (sym is) (contains_later p.name (event ∷ []) event (contains_first event []))

      own_differs : (event : Word) → p.event ≡ Some event → p.name ≡ event → ⊥
      own_differs event is same =
          let both : AllPairs (λ (one other : Word). one ≢ other) ((names_of_tasks u ++ (p.name ∷ [])) ++ (option_to_list p.event ++ flat_map task_names later)) =
          subst (AllPairs (λ (one other : Word). one ≢ other)) (sym (append_assoc (names_of_tasks u) (p.name ∷ []) (option_to_list p.event ++ flat_map task_names later))) differ in
          pairs_apart (λ (one other : Word). one ≢ other) (names_of_tasks u ++ (p.name ∷ [])) (option_to_list p.event ++ flat_map task_names later) p.name event both
          (Contains-append_right (names_of_tasks u) (p.name ∷ []) p.name (contains_first p.name []))
          (Contains-append_left (option_to_list p.event) (flat_map task_names later) event (subst (λ (o : Option Word). Contains (option_to_list o) event) (sym is) (contains_first event [])))
          same

  no_taken : HasTakenName u p → ⊥
  no_taken taken = elim taken [
    | inl name ↦ new_name p.name (contains_first p.name (option_to_list p.event)) name
    | inr other ↦ elim other [
      | inl event ↦ no_event p.event refl event
      | inr (k, m, lt, is, here) ↦
          apart m (own_monitor m (k, lt, is))
          (subst (λ (xs : List Word). Contains xs m) (sym up_to) (Contains-append_left (names_of_tasks (with_line u p)) (flat_map task_names later) m here))
    ]
  ]

  -- it is small up to this line
  stays_up_to : stays t ≡ stays (with_line u p) ++ flat_map (λ (q : TaskLine). q.stays) later
  stays_up_to =
      ap (flat_map (λ (q : TaskLine). q.stays)) (whole ∙ sym (append_assoc u.tasks (p ∷ []) later))
      ∙ flat_map-append (λ (q : TaskLine). q.stays) (u.tasks ++ p ∷ []) later

  monitors_up_to : names_of_monitors t ≡ names_of_monitors (with_line u p) ++ map (λ (s : TaskStay). s.monitor) (flat_map (λ (q : TaskLine). q.stays) later)
  monitors_up_to = ap (map (λ (s : TaskStay). s.monitor)) stays_up_to ∙ map-append (λ (s : TaskStay). s.monitor) (stays (with_line u p)) (flat_map (λ (q : TaskLine). q.stays) later)

  small : IsSmall (with_line u p)
  small =
      let more = distinct_more same_name (names_of_monitors (with_line u p)) (map (λ (s : TaskStay). s.monitor) (flat_map (λ (q : TaskLine). q.stays) later)) in
      let monitors_is : monitors t ≡ monitors (with_line u p) ++ more.0 = ap (distinct same_name) monitors_up_to ∙ more.1 in
      let tasks_len = ap length whole ∙ length-append u.tasks (p ∷ later) in
      let here_len = length-append u.tasks (p ∷ []) in
      let monitors_len = ap length monitors_is ∙ length-append (monitors (with_line u p)) more.0 in
      let stays_len = ap length stays_up_to ∙ length-append (stays (with_line u p)) (flat_map (λ (q : TaskLine). q.stays) later) in
      let few = begun.small in
      let few_tasks = few.tasks in
      let few_monitors = few.monitors in
      let few_stays = few.stays in
      record {
        tasks = omega (arith, tasks_len, here_len, few_tasks);
        monitors = omega (arith, monitors_len, few_monitors);
        stays = omega (arith, stays_len, few_stays);
      }

  is_line : IsTaskLine p
  is_line = All-contains IsTaskLine t.tasks p begun.tasks (subst (λ (ps : List TaskLine). Contains ps p) (sym whole) (Contains-append_right u.tasks (p ∷ later) p (contains_first p later)))

  -- nothing is wrong with the line
  pub no_break : (number : ℕ) → Breaks u p number → ⊥
  no_break number breaks = elim breaks [
    | inl two ↦ two.1 is_line.names
    | inr other ↦ elim other [
      | inl three ↦ no_taken three.1
      | inr more ↦ elim more [
        | inl four ↦ four.1 is_line.ranges
        | inr rest ↦ elim rest [
          | inl five ↦ five.1 is_line.met
          | inr six ↦ six.1 small
        ]
      ]
    ]
  ]

-- a line of a table is one by itself
pub one_line : (t : TaskTable) → IsBegun t → (u : TaskTable) (p : TaskLine) (later : List TaskLine) → t.tasks ≡ u.tasks ++ p ∷ later → IsTaskLine p
one_line t begun u p later whole = All-contains IsTaskLine t.tasks p begun.tasks (subst (λ (ps : List TaskLine). Contains ps p) (sym whole) (Contains-append_right u.tasks (p ∷ later) p (contains_first p later)))
