-- The demand of a list of tasks as sums over the ranks, its block, and the points up to a number of ticks.
use Rattle.std.proofs.Common.{◌≡◌, ℕ, zero, suc, ◌+◌, ◌-◌, ◌*◌, ◌/◌, ◌<◌, ◌≤◌, ◌⊎◌, inl, inr, List, length, take, refl, arith, ap, sym, subst, ◌∙◌}
use Rattle.std.specs.Prelude.{cond, sum_by}
use Rattle.std.proofs.lemmas.Bool.{cases_lt, lt-ltb, le-ltb}
use Rattle.std.proofs.lemmas.Nat.{le-div, div_below}
use Rattle.std.proofs.lemmas.List.{take_all}
use Rattle.std.proofs.lemmas.List.Sums.{sum_by_more}
use Rattle.std.proofs.Math.Nat.{mul-le-mul_right}
use Rattle.sched_demand.specs.declared.tasks.DemandTask.{DemandTask}
use Rattle.sched_demand.specs.Demand.{task_at, IsTask, AreTasks, due_by, block_of, block_at, demand_at, IsPoint}
use Rattle.sched_theorem.specs.Charges.{total}
use Rattle.sched_theorem.proofs.Totals.{total_mono}
use Rattle.sched_demand.proofs.Rows.{IsLevel}

sum_upto : (f : DemandTask → ℕ) (ts : List DemandTask) (n : ℕ) → n ≤ length ts → sum_by f (take n ts) ≡ total n (λ j. f (task_at ts j))
sum_upto f ts zero within = refl
sum_upto f ts (suc n) within =
    let rest = sum_upto f ts n (omega arith) in
    let more = sum_by_more f ts n (record { frame = 0; deadline = 0; cost = 0; block = 0 }) (omega arith) in
    let e : suc n ≡ n + 1 = omega arith in
    ap (λ k. sum_by f (take k ts)) e ∙ more ∙ ap (λ k. k + f (task_at ts n)) rest

-- a sum over the tasks is one over the ranks
pub sum_is : (f : DemandTask → ℕ) (ts : List DemandTask) → sum_by f ts ≡ total (length ts) (λ j. f (task_at ts j))
sum_is f ts = ap (sum_by f) (sym (take_all (length ts) ts (omega arith))) ∙ sum_upto f ts (length ts) (omega arith)

pub is_task : (ts : List DemandTask) (j : ℕ) → AreTasks ts → j < length ts → IsTask (task_at ts j)
is_task ts j are below = are.each j (record { frame = 0; deadline = 0; cost = 0; block = 0 }) below

pub sorted : (ts : List DemandTask) (i j : ℕ) → AreTasks ts → i ≤ j → j < length ts → (task_at ts i).deadline ≤ (task_at ts j).deadline
sorted ts i j are le below = are.ordered.ascending i j (record { frame = 0; deadline = 0; cost = 0; block = 0 }) le below

-- ---- the level of a number of ticks

last_within : (n : ℕ) (f : ℕ → ℕ) (ticks : ℕ) → ((j : ℕ) → j < n → ticks < f j) ⊎ ((level : ℕ) × (level < n) × (f level ≤ ticks) × ((j : ℕ) → level < j → j < n → ticks < f j))
last_within zero f ticks = inl (λ j below. absurd (omega arith))
last_within (suc n) f ticks = elim (cases_lt ticks (f n)) [
  | inr here ↦ inr (n, omega arith, here, λ j low below. absurd (omega arith))
  | inl far ↦ elim (last_within n f ticks) [
    | inl all ↦ inl (λ j below. elim (cases_lt j n) [
      | inl less ↦ all j less
      | inr more ↦ let e : n ≡ j = omega arith in let P : ℕ → Type 0 = λ i. ticks < f i in subst P e far
    ])
    | inr l ↦ inr (
      l.0,
      omega (arith, l.1),
      l.2,
      λ j low below. elim (cases_lt j n) [
        | inl less ↦ l.3 j low less
        | inr more ↦ let e : n ≡ j = omega arith in let P : ℕ → Type 0 = λ i. ticks < f i in subst P e far
      ],
    )
  ]
]

pub level_of : (ts : List DemandTask) (ticks j : ℕ) → AreTasks ts → j < length ts → (task_at ts j).deadline ≤ ticks → (level : ℕ) × IsLevel (length ts) (λ i. (task_at ts i).deadline) ticks level
level_of ts ticks j are below soon = elim (last_within (length ts) (λ i. (task_at ts i).deadline) ticks) [
  | inl all ↦ absurd (let h = all j below in omega arith)
  | inr l ↦ (
    l.0,
    record {
      of_these = l.1;
      within = λ i le. let h = sorted ts i l.0 are le l.1 in omega (arith, l.2);
      beyond = l.3;
    },
  )
]

-- its block is the block of the demand
block_is : (ts : List DemandTask) (ticks level n : ℕ) → level < n → (task_at ts level).deadline ≤ ticks → ((j : ℕ) → level < j → j < n → ticks < (task_at ts j).deadline) → block_of ts ticks n ≡ (task_at ts level).block
block_is ts ticks level zero below within beyond = absurd (omega arith)
block_is ts ticks level (suc n) below within beyond = elim (cases_lt level n) [
  | inl less ↦
      let far = beyond n less (omega arith) in
      ap (λ b. cond b (block_of ts ticks n) (task_at ts n).block) (lt-ltb ticks (task_at ts n).deadline far) ∙ block_is ts ticks level n less within (λ j low under. beyond j low (omega arith))
  | inr more ↦
      let e : level ≡ n = omega arith in
      let near : (task_at ts n).deadline ≤ ticks = subst (λ i. (task_at ts i).deadline ≤ ticks) e within in
      ap (λ b. cond b (block_of ts ticks n) (task_at ts n).block) (le-ltb ticks (task_at ts n).deadline near) ∙ ap (λ i. (task_at ts i).block) (sym e)
]

pub level_block : (ts : List DemandTask) (ticks level : ℕ) → IsLevel (length ts) (λ i. (task_at ts i).deadline) ticks level → block_at ts ticks ≡ (task_at ts level).block
level_block ts ticks level is = block_is ts ticks level (length ts) is.of_these (is.within level (omega arith)) is.beyond

-- ---- the last point

-- how many are due, and the last of them
pub due_none : (ticks : ℕ) (x : DemandTask) → ticks < x.deadline → due_by ticks x ≡ 0
due_none ticks x late = ap (λ b. cond b 0 ((ticks - x.deadline) / x.frame + 1)) (lt-ltb ticks x.deadline late)

pub due_some : (ticks : ℕ) (x : DemandTask) → x.deadline ≤ ticks → due_by ticks x ≡ (ticks - x.deadline) / x.frame + 1
due_some ticks x soon = ap (λ b. cond b 0 ((ticks - x.deadline) / x.frame + 1)) (le-ltb ticks x.deadline soon)

div_times : (a b : ℕ) → 0 < b → a / b * b ≤ a
div_times a b p = elim (cases_lt a (a / b * b)) [
  | inr le ↦ le
  | inl lt ↦ absurd (let h : a / b < a / b = div_below a b (a / b) p lt in omega arith)
]

-- a point within some ticks, such that as many are due by it
pub record LastPoint (ts : List DemandTask) (ticks n t : ℕ) : Type 0 where
  pub level : ℕ
  pub of_these : level < length ts
  pub turn : ℕ
  pub here : t ≡ (task_at ts level).deadline + turn * (task_at ts level).frame
  pub within : t ≤ ticks
  pub all : (j m : ℕ) → j < n → (task_at ts j).deadline + m * (task_at ts j).frame ≤ ticks → (task_at ts j).deadline + m * (task_at ts j).frame ≤ t

last_turn : (ts : List DemandTask) (ticks n m : ℕ) → 0 < (task_at ts n).frame → (task_at ts n).deadline + m * (task_at ts n).frame ≤ ticks → m ≤ (ticks - (task_at ts n).deadline) / (task_at ts n).frame
last_turn ts ticks n m pos h = le-div m (ticks - (task_at ts n).deadline) (task_at ts n).frame pos (omega arith)

last_point : (ts : List DemandTask) (ticks n : ℕ) → AreTasks ts → n ≤ length ts → ((j : ℕ) → j < n → ticks < (task_at ts j).deadline) ⊎ ((t : ℕ) × LastPoint ts ticks n t)
last_point ts ticks zero are within = inl (λ j below. absurd (omega arith))
last_point ts ticks (suc n) are within = elim (cases_lt ticks (task_at ts n).deadline) [
  | inl far ↦ elim (last_point ts ticks n are (omega arith)) [
    | inl all ↦ inl (λ j below. elim (cases_lt j n) [
      | inl less ↦ all j less
      | inr more ↦ let e : n ≡ j = omega arith in let P : ℕ → Type 0 = λ i. ticks < (task_at ts i).deadline in subst P e far
    ])
    | inr l ↦ inr (
      l.0,
      record {
        level = l.1.level;
        of_these = l.1.of_these;
        turn = l.1.turn;
        here = l.1.here;
        within = l.1.within;
        all = λ j m below h. elim (cases_lt j n) [
          | inl less ↦ l.1.all j m less h
          | inr more ↦ let e : n ≡ j = omega arith in let P : ℕ → Type 0 = λ i. ticks < (task_at ts i).deadline in let g = subst P e far in absurd (omega arith)
        ];
      },
    )
  ]
  | inr near ↦
      let x = is_task ts n are (omega arith) in
      let pos : 0 < (task_at ts n).frame = omega (arith, x.frame_low) in
      let q : ℕ = (ticks - (task_at ts n).deadline) / (task_at ts n).frame in
      let last : (task_at ts n).deadline + (ticks - (task_at ts n).deadline) / (task_at ts n).frame * (task_at ts n).frame ≤ ticks = (let h = div_times (ticks - (task_at ts n).deadline) (task_at ts n).frame pos in omega arith) in
      let own : (m : ℕ) → (task_at ts n).deadline + m * (task_at ts n).frame ≤ ticks → (task_at ts n).deadline + m * (task_at ts n).frame ≤ (task_at ts n).deadline + (ticks - (task_at ts n).deadline) / (task_at ts n).frame * (task_at ts n).frame = λ m h. (let le = mul-le-mul_right (task_at ts n).frame (last_turn ts ticks n m pos h) in omega arith) in
      elim (last_point ts ticks n are (omega arith)) [
        | inl all ↦ inr (
          (task_at ts n).deadline + (ticks - (task_at ts n).deadline) / (task_at ts n).frame * (task_at ts n).frame,
          record {
            level = n;
            of_these = omega arith;
            turn = (ticks - (task_at ts n).deadline) / (task_at ts n).frame;
            here = refl;
            within = last;
            all = λ j m below h. elim (cases_lt j n) [
              | inl less ↦ absurd (let g = all j less in omega arith)
              | inr more ↦ let e : n ≡ j = omega arith in
                  let P : ℕ → Type 0 = λ i. (task_at ts i).deadline + m * (task_at ts i).frame ≤ ticks → (task_at ts i).deadline + m * (task_at ts i).frame ≤ (task_at ts n).deadline + (ticks - (task_at ts n).deadline) / (task_at ts n).frame * (task_at ts n).frame in
                  subst P e (own m) h
            ];
          },
        )
        | inr l ↦ elim (cases_lt l.0 ((task_at ts n).deadline + (ticks - (task_at ts n).deadline) / (task_at ts n).frame * (task_at ts n).frame)) [
          | inl later ↦ inr (
            (task_at ts n).deadline + (ticks - (task_at ts n).deadline) / (task_at ts n).frame * (task_at ts n).frame,
            record {
              level = n;
              of_these = omega arith;
              turn = (ticks - (task_at ts n).deadline) / (task_at ts n).frame;
              here = refl;
              within = last;
              all = λ j m below h. elim (cases_lt j n) [
                | inl less ↦ let g = l.1.all j m less h in omega arith
                | inr more ↦ let e : n ≡ j = omega arith in
                    let P : ℕ → Type 0 = λ i. (task_at ts i).deadline + m * (task_at ts i).frame ≤ ticks → (task_at ts i).deadline + m * (task_at ts i).frame ≤ (task_at ts n).deadline + (ticks - (task_at ts n).deadline) / (task_at ts n).frame * (task_at ts n).frame in
                    subst P e (own m) h
              ];
            },
          )
          | inr sooner ↦ inr (
            l.0,
            record {
              level = l.1.level;
              of_these = l.1.of_these;
              turn = l.1.turn;
              here = l.1.here;
              within = l.1.within;
              all = λ j m below h. elim (cases_lt j n) [
                | inl less ↦ l.1.all j m less h
                | inr more ↦ let e : n ≡ j = omega arith in
                    let P : ℕ → Type 0 = λ i. (task_at ts i).deadline + m * (task_at ts i).frame ≤ ticks → (task_at ts i).deadline + m * (task_at ts i).frame ≤ l.0 in
                    subst P e (λ g. let k = own m g in omega arith) h
              ];
            },
          )
        ]
      ]
]

-- as many are due by the last point
due_kept : (ts : List DemandTask) (ticks t j : ℕ) → AreTasks ts → j < length ts → LastPoint ts ticks (length ts) t → due_by ticks (task_at ts j) ≤ due_by t (task_at ts j)
due_kept ts ticks t j are below l =
    let x = is_task ts j are below in
    let pos : 0 < (task_at ts j).frame = omega (arith, x.frame_low) in
    elim (cases_lt ticks (task_at ts j).deadline) [
      | inl late ↦ let e = due_none ticks (task_at ts j) late in omega arith
      | inr soon ↦
          let d = div_times (ticks - (task_at ts j).deadline) (task_at ts j).frame pos in
          let le = l.all j ((ticks - (task_at ts j).deadline) / (task_at ts j).frame) below (omega arith) in
          let h = le-div ((ticks - (task_at ts j).deadline) / (task_at ts j).frame) (t - (task_at ts j).deadline) (task_at ts j).frame pos (omega arith) in
          let e = due_some ticks (task_at ts j) soon in
          let f = due_some t (task_at ts j) (omega arith) in
          omega arith
    ]

-- so the demand by it is not less
demand_kept : (ts : List DemandTask) (ticks t level : ℕ) → AreTasks ts → IsLevel (length ts) (λ i. (task_at ts i).deadline) ticks level → LastPoint ts ticks (length ts) t → demand_at ts ticks ≤ demand_at ts t
demand_kept ts ticks t level are is l =
    let more = total_mono (length ts) (λ j. due_by ticks (task_at ts j) * (task_at ts j).cost) (λ j. due_by t (task_at ts j) * (task_at ts j).cost) (λ j below. mul-le-mul_right (task_at ts j).cost (due_kept ts ticks t j are below l)) in
    let e = sum_is (λ x. due_by ticks x * x.cost) ts in
    let f = sum_is (λ x. due_by t x * x.cost) ts in
    let g = level_block ts ticks level is in
    let first : (task_at ts level).deadline ≤ t = (let h = l.all level 0 is.of_these (let w = is.within level (omega arith) in omega arith) in omega arith) in
    let k = level_block ts t level (record {
      of_these = is.of_these;
      within = λ j le. let s = sorted ts j level are le is.of_these in omega arith;
      beyond = λ j low below. let h = is.beyond j low below in omega (arith, l.within);
    }) in
    omega arith

-- where the demand passes some ticks, it passes a point within them
pub passes_at_point : (ts : List DemandTask) (reach ticks level : ℕ) → AreTasks ts → IsLevel (length ts) (λ i. (task_at ts i).deadline) ticks level → ticks ≤ reach → ticks < demand_at ts ticks → (t : ℕ) × IsPoint ts reach t × (t < demand_at ts t)
passes_at_point ts reach ticks level are is within more = elim (last_point ts ticks (length ts) are (omega arith)) [
  | inl all ↦ absurd (let h = all level is.of_these in let w = is.within level (omega arith) in omega arith)
  | inr l ↦
      let h = demand_kept ts ticks l.0 level are is l.1 in
      (l.0, record { level = l.1.level; of_these = l.1.of_these; turn = l.1.turn; here = l.1.here; within = omega (arith, l.1.within) }, omega (arith, l.1.within))
]
