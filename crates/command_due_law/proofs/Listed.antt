-- The tasks that an image asks for are one list.
use Rattle.std.proofs.Common.{◌≡◌, ◌≤◌, ◌<◌, ◌-◌, ◌∙◌, ◌⊎◌, inl, inr, ℕ, zero, suc, List, [], ◌∷◌, length, Option, Some, None, refl, sym, ap, subst, arith}
use Rattle.std.specs.Prelude.{nat_eq, slice_get}
use Rattle.std.proofs.lemmas.Bool.{cases_Bool, cases_lt, eqb-true, eqb-false}
use Rattle.std.proofs.lemmas.Option.{get_or_from_slice_get, slice_get_within, same_Some}
use Rattle.base.proofs.Lists.{some_at, same_elements}
use Rattle.machine_semantics.specs.Image.{Image, Process}
use Rattle.sched_table.proofs.Onto.{onto}
use Rattle.valid_image.specs.Times.{rank_fault}
use Rattle.valid_image_law.proofs.Ranking.{ranked, one_each}
use Rattle.sched_demand.specs.declared.tasks.DemandTask.{DemandTask}
use Rattle.sched_demand.specs.Demand.{task_at}
use Rattle.command_due.specs.Tasks.{AreDemands}

abbrev rank_some : Option Process → ℕ
rank_some None = 0
rank_some (Some p) = p.rank

-- ---- the process of each level

record OfLevel (m : Image) (level : ℕ) : Type 0 where
  k : ℕ
  p : Process
  at : slice_get m.processes k ≡ Some p
  is : p.rank - 1 ≡ level

with_level : (m : Image) → rank_fault m ≡ None → (level : ℕ) → level < length m.processes → OfLevel m level
with_level m none level below =
    let found = onto (length m.processes) (λ k. rank_some (slice_get m.processes k) - 1)
    (λ k low. let p = some_at m.processes k low in let r = ranked m none k p.0 p.1 in let e = ap (λ o. rank_some o) p.1 in omega (arith, e, r.0, r.1))
    (λ j k low_j low_k same.
    let p = some_at m.processes j low_j in
    let q = some_at m.processes k low_k in
    let r = ranked m none j p.0 p.1 in
    let s = ranked m none k q.0 q.1 in
    let e = ap (λ o. rank_some o) p.1 in
    let f = ap (λ o. rank_some o) q.1 in
    one_each m none j k p.0 q.0 p.1 q.1 (omega (arith, e, f, same, r.0, s.0)))
    level below in
    let p = some_at m.processes found.0 found.1 in
    let e = ap (λ o. rank_some o) p.1 in
    record { k = found.0; p = p.0; at = p.1; is = omega (arith, e, found.2) }

-- ---- the last process with a deadline

record Last (d : ℕ) (ps : List Process) : Type 0 where
  k : ℕ
  q : Process
  at : slice_get ps k ≡ Some q
  due : q.deadline ≡ d
  last : (j : ℕ) (p : Process) → slice_get ps j ≡ Some p → p.deadline ≡ d → p.rank ≤ q.rank

abbrev NoneHas : ℕ → List Process → Type 0
NoneHas d ps = (j : ℕ) (p : Process) → slice_get ps j ≡ Some p → p.deadline ≡ d → ⊥

within : (d rank : ℕ) (p : Process) (ps : List Process) → (p.deadline ≡ d → p.rank ≤ rank) → ((j : ℕ) (x : Process) → slice_get ps j ≡ Some x → x.deadline ≡ d → x.rank ≤ rank)
    → (j : ℕ) (x : Process) → slice_get (p ∷ ps) j ≡ Some x → x.deadline ≡ d → x.rank ≤ rank
within d rank p ps here rest zero x at due =
    let same : p ≡ x = same_Some p x at in
    let low : p.rank ≤ rank = here (ap (λ (y : Process). y.deadline) same ∙ due) in
    omega (arith, low, ap (λ (y : Process). y.rank) same)
within d rank p ps here rest (suc j) x at due = rest j x at due

none_more : (d : ℕ) (p : Process) (ps : List Process) → (p.deadline ≡ d → ⊥) → NoneHas d ps → NoneHas d (p ∷ ps)
none_more d p ps here rest zero x at due = here (ap (λ (y : Process). y.deadline) (same_Some p x at) ∙ due)
none_more d p ps here rest (suc j) x at due = rest j x at due

is_first : (d : ℕ) (p : Process) (ps : List Process) → p.deadline ≡ d → ((j : ℕ) (x : Process) → slice_get ps j ≡ Some x → x.deadline ≡ d → x.rank ≤ p.rank) → Last d (p ∷ ps)
is_first d p ps due rest = record { k = 0; q = p; at = refl; due = due; last = within d p.rank p ps (λ e. omega arith) rest }

is_later : (d : ℕ) (p : Process) (ps : List Process) (l : Last d ps) → (p.deadline ≡ d → p.rank ≤ l.q.rank) → Last d (p ∷ ps)
is_later d p ps l here = record { k = suc l.k; q = l.q; at = l.at; due = l.due; last = within d l.q.rank p ps here l.last }

none_or_last : (d : ℕ) (ps : List Process) → NoneHas d ps ⊎ Last d ps
none_or_last d [] = inl (λ j p at due. absurd cc)
none_or_last d (p ∷ ps) = elim (cases_Bool (nat_eq p.deadline d)) [
  | inl hit ↦ elim (none_or_last d ps) [
    | inl none ↦ inr (is_first d p ps (eqb-true p.deadline d hit) (λ j x at due. absurd (none j x at due)))
    | inr l ↦ elim (cases_lt p.rank l.q.rank) [
      | inl less ↦ inr (is_later d p ps l (λ e. omega (arith, less)))
      | inr more ↦ inr (is_first d p ps (eqb-true p.deadline d hit) (λ j x at due. let low = l.last j x at due in omega (arith, low, more)))
    ]
  ]
  | inr miss ↦ elim (none_or_last d ps) [
    | inl none ↦ inl (none_more d p ps (eqb-false p.deadline d miss) none)
    | inr l ↦ inr (is_later d p ps l (λ e. absurd (eqb-false p.deadline d miss e)))
  ]
]

-- ---- one list

same_fields : (x y : DemandTask) → x.frame ≡ y.frame → x.deadline ≡ y.deadline → x.cost ≡ y.cost → x.block ≡ y.block → x ≡ y
same_fields x y frames deadlines costs blocks = λ i. record { frame = frames i; deadline = deadlines i; cost = costs i; block = blocks i }

module _ (m : Image) (none : rank_fault m ≡ None) (ts us : List DemandTask) (one : AreDemands m ts) (two : AreDemands m us) where
  same_block : (k : ℕ) (p : Process) → slice_get m.processes k ≡ Some p → (task_at ts (p.rank - 1)).block ≡ (task_at us (p.rank - 1)).block
  same_block k p at = elim (none_or_last p.deadline m.processes) [
    | inl none ↦ absurd (none k p at refl)
    | inr l ↦ one.block k l.k p l.q at l.at (sym l.due) (λ j x there of. l.last j x there (of ∙ l.due)) ∙ sym (two.block k l.k p l.q at l.at (sym l.due) (λ j x there of. l.last j x there (of ∙ l.due)))
  ]

  same_task : (level : ℕ) → level < length m.processes → task_at ts level ≡ task_at us level
  same_task level low =
      let w : OfLevel m level = with_level m none level low in
      subst (λ (l : ℕ). task_at ts l ≡ task_at us l) w.is
      (same_fields (task_at ts (w.p.rank - 1)) (task_at us (w.p.rank - 1)) (one.frame w.k w.p w.at ∙ sym (two.frame w.k w.p w.at)) (one.deadline w.k w.p w.at ∙ sym (two.deadline w.k w.p w.at))
      (one.cost w.k w.p w.at ∙ sym (two.cost w.k w.p w.at)) (same_block w.k w.p w.at))

  pub one_list : ts ≡ us
  one_list = same_elements ts us (one.many ∙ sym two.many) (λ k x y at there.
      let low : k < length m.processes = omega (arith, slice_get_within ts k x at, one.many) in
      let d : DemandTask = record { frame = 0; deadline = 0; cost = 0; block = 0 } in
      sym (get_or_from_slice_get ts k x d at) ∙ (same_task k low ∙ get_or_from_slice_get us k y d there))
