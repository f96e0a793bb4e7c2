-- The stack of those that have begun, kept by start events and by the rest of a tick.
use Rattle.std.proofs.Common.{◌≡◌, ℕ, suc, ◌+◌, ◌<◌, ◌≤◌, ◌⊎◌, inl, inr, refl, arith, ap, sym, subst, ◌∙◌}
use Rattle.std.specs.Prelude.{Bool, true, Option, Some, None}
use Rattle.std.proofs.lemmas.Bool.{cases_lt, cases_eq, cases_Bool}
use Rattle.std.proofs.lemmas.Option.{same_Some}
use Rattle.sched_theorem.specs.Dispatched.{Stay, KeepsStays}
use Rattle.sched_demand.specs.Activations.{Activation, IsSooner, IsBefore, IsBegun, IsFirst, IsFirstBegun, IsAbove, IsChosen, Chooses, Starts, Moves, Continues, Passes, KeepsCeilings}
use Rattle.sched_demand.specs.Stacked.{AreStacked, AreDistinct, AreApart}
use Rattle.sched_theorem.proofs.Apart.{was_inside}

-- ---- the order

pub never_both : (d r e s : ℕ) → IsSooner d r e s → IsSooner e s d r → ⊥
never_both d r e s (inl h) (inl g) = omega arith
never_both d r e s (inl h) (inr g) = omega (arith, g.0)
never_both d r e s (inr h) (inl g) = omega (arith, h.0)
never_both d r e s (inr h) (inr g) = omega (arith, h.1, g.1)

pub sooner_le : (d r e s : ℕ) → IsSooner d r e s → d ≤ e
sooner_le d r e s (inl h) = omega arith
sooner_le d r e s (inr h) = omega (arith, h.0)

pub one_sooner : (d r e s : ℕ) → (r ≡ s → ⊥) → IsSooner d r e s ⊎ IsSooner e s d r
one_sooner d r e s other = elim (cases_lt d e) [
  | inl h ↦ inl (inl h)
  | inr h ↦ elim (cases_lt e d) [
    | inl g ↦ inr (inl g)
    | inr g ↦ elim (cases_lt r s) [
      | inl low ↦ inl (inr (omega arith, low))
      | inr high ↦ elim (cases_lt s r) [
        | inl less ↦ inr (inr (omega arith, less))
        | inr more ↦ absurd (other (omega arith))
      ]
    ]
  ]
]

-- the same activations have the same order
pub before_of : (rank deadline : ℕ → ℕ) (a b : ℕ → Activation) (p q : ℕ) → (b p).release ≡ (a p).release → (b q).release ≡ (a q).release → IsBefore rank deadline b p q → IsBefore rank deadline a p q
before_of rank deadline a b p q same_p same_q (inl h) = inl (omega arith)
before_of rank deadline a b p q same_p same_q (inr h) = inr (omega (arith, h.0), h.1)

-- ---- start events

-- who has an activation after the start events is as before, or is released now
pub opened : (k cost : ℕ) (released : Bool) (a b : Activation) → Starts k released cost a b → 1 ≤ b.left → ((1 ≤ a.left) × (b ≡ a)) ⊎ ((released ≡ true) × (a.left ≡ 0) × (b.release ≡ k) × (b.had ≡ 0))
opened k cost released a b opens active = elim (cases_lt 0 a.left) [
  | inl some ↦ inl (some, opens.keeps some)
  | inr none ↦
      let idle : a.left ≡ 0 = omega arith in
      elim (cases_Bool released) [
        | inl is ↦ inr (is, idle, opens.since idle is, opens.fresh idle is)
        | inr not_is ↦ let z = opens.rests idle not_is in absurd (omega arith)
      ]
]

-- who has begun is as before
pub opened_begun : (k cost : ℕ) (released : Bool) (a b : Activation) → Starts k released cost a b → IsBegun b → (b ≡ a) × IsBegun a
opened_begun k cost released a b opens begun = elim (opened k cost released a b opens begun.active) [
  | inl was ↦ (was.1, subst IsBegun was.1 begun)
  | inr new ↦ absurd (omega (arith, begun.had, new.3))
]

pub kept_by_releases : (n : ℕ) (rank deadline : ℕ → ℕ) (k : ℕ) (cost : ℕ → ℕ) (released : ℕ → Bool) (a b : ℕ → Activation) (inside : ℕ → Option Stay) → AreStacked n rank deadline k a inside → ((p : ℕ) → p < n → Starts k (released p) (cost p) (a p) (b p)) → AreStacked n rank deadline (suc k) b inside
kept_by_releases n rank deadline k cost released a b inside stack opens = record {
  past = λ p below active. elim (opened k (cost p) (released p) (a p) (b p) (opens p below) active) [
    | inl was ↦ let h = stack.past p below was.0 in let e = ap (λ x. x.release) was.1 in omega arith
    | inr new ↦ omega (arith, new.2)
  ];
  begun = λ q s below is. begun q s below is;
  later = λ p q p_below q_below active is_begun is_before.
      let old = opened_begun k (cost q) (released q) (a q) (b q) (opens q q_below) is_begun in
      let same_q : (b q).release ≡ (a q).release = ap (λ x. x.release) old.0 in
      elim (opened k (cost p) (released p) (a p) (b p) (opens p p_below) active) [
        | inl was ↦
            let same_p : (b p).release ≡ (a p).release = ap (λ x. x.release) was.1 in
            let h = stack.later p q p_below q_below was.0 old.1 (before_of rank deadline a b p q same_p same_q is_before) in
            omega arith
        | inr new ↦ let h = stack.past q q_below old.1.active in omega (arith, new.2)
      ];
  above = λ p q s p_below q_below is_begun is is_before.
      let old = opened_begun k (cost p) (released p) (a p) (b p) (opens p p_below) is_begun in
      let was = stack.begun q s q_below is in
      let same_p : (b p).release ≡ (a p).release = ap (λ x. x.release) old.0 in
      let same_q : (b q).release ≡ (a q).release = ap (λ x. x.release) ((opens q q_below).keeps was.active) in
      stack.above p q s p_below q_below old.1 is (before_of rank deadline a b p q same_p same_q is_before);
}
  where
    begun : (q : ℕ) (s : Stay) → q < n → inside q ≡ Some s → IsBegun (b q)
    begun q s below is =
        let was = stack.begun q s below is in
        subst IsBegun (sym ((opens q below).keeps was.active)) was

-- ---- the choice

-- the chosen one is the first of those that have begun
pub chosen_first : (n : ℕ) (rank deadline : ℕ → ℕ) (inside : ℕ → Option Stay) (a : ℕ → Activation) (p : ℕ) → IsChosen n rank deadline inside a p → IsFirstBegun n rank deadline a p
chosen_first n rank deadline inside a p chosen q below other begun = elim chosen.choice [
  | inl taken ↦ taken.first q below other begun.active
  | inr second ↦ second.first_begun q below other begun
]

-- one that has not begun is the first, and above all ceilings
pub chosen_new : (n : ℕ) (rank deadline : ℕ → ℕ) (inside : ℕ → Option Stay) (a : ℕ → Activation) (p : ℕ) → IsChosen n rank deadline inside a p → (a p).had ≡ 0 → IsFirst n rank deadline a p × IsAbove n inside (rank p)
chosen_new n rank deadline inside a p chosen new = elim chosen.choice [
  | inl taken ↦ elim taken.may_go [
    | inl had ↦ absurd (omega arith)
    | inr above ↦ (taken.first, above)
  ]
  | inr second ↦ absurd (omega (arith, second.begun))
]

-- who is chosen while outside monitors is above all ceilings
pub chosen_above : (n : ℕ) (rank deadline : ℕ → ℕ) (now : ℕ) (a : ℕ → Activation) (inside : ℕ → Option Stay) (p : ℕ) → AreStacked n rank deadline now a inside → IsChosen n rank deadline inside a p → (q : ℕ) (s : Stay) → q < n → (p ≡ q → ⊥) → inside q ≡ Some s → rank p < s.ceiling
chosen_above n rank deadline now a inside p stack chosen q s below other is = elim (cases_lt 0 (a p).had) [
  | inl had ↦
      let begun = stack.begun q s below is in
      stack.above p q s chosen.of_these below (record { active = chosen.active; had = had }) is (chosen_first n rank deadline inside a p chosen q below other begun)
  | inr none ↦ (chosen_new n rank deadline inside a p chosen (omega arith)).1 q s below is
]

-- a tick that takes one from what is left passes
pub moves_pass : (n : ℕ) (picked : Option ℕ) (a b : ℕ → Activation) → Moves n picked a b → Passes n picked a b
moves_pass n picked a b moves = record { runs = λ p below is. let r = moves.runs p below is in record { same = r.same; begins = r.begins }; others = moves.others }

pub stays_keep : (n : ℕ) (picked : Option ℕ) (inside inside_after : ℕ → Option Stay) → KeepsStays n picked inside inside_after → KeepsCeilings n picked inside inside_after
stays_keep n picked inside inside_after keeps = record { was = λ p s below is now. was_inside (inside p) (inside_after p) s (keeps.takes p below is) now; others = keeps.others }

-- the chosen one has run: the facts of one tick, together
record Ran (n : ℕ) (rank deadline : ℕ → ℕ) (now : ℕ) (a b : ℕ → Activation) (inside inside_after : ℕ → Option Stay) (r : ℕ) : Type 0 where
  distinct : AreDistinct n rank
  stack : AreStacked n rank deadline now a inside
  chosen : IsChosen n rank deadline inside a r
  runs : Continues (a r) (b r)
  others : (q : ℕ) → q < n → (r ≡ q → ⊥) → b q ≡ a q
  was : (s : Stay) → inside_after r ≡ Some s → (inside r ≡ None) ⊎ ((t : Stay) × (inside r ≡ Some t) × (t.ceiling ≡ s.ceiling))
  keeps : (q : ℕ) → q < n → (r ≡ q → ⊥) → inside_after q ≡ inside q
  active : (p : ℕ) (s : Stay) → p < n → inside_after p ≡ Some s → 1 ≤ (b p).left

-- who is active after the tick was so before it, with the same release
kept_active : (n : ℕ) (rank deadline : ℕ → ℕ) (now : ℕ) (a b : ℕ → Activation) (inside inside_after : ℕ → Option Stay) (r : ℕ) → Ran n rank deadline now a b inside inside_after r → (p : ℕ) → p < n → 1 ≤ (b p).left → (1 ≤ (a p).left) × ((b p).release ≡ (a p).release)
kept_active n rank deadline now a b inside inside_after r f p below active = elim (cases_eq r p) [
  | inl e ↦
      let P : ℕ → Type 0 = λ i. 1 ≤ (b i).left → (1 ≤ (a i).left) × ((b i).release ≡ (a i).release) in
      subst P e (λ act. (f.chosen.active, f.runs.same act)) active
  | inr other ↦
      let same = f.others p below other in
      (subst (λ x. 1 ≤ x.left) same active, ap (λ x. x.release) same)
]

ran_begun : (n : ℕ) (rank deadline : ℕ → ℕ) (now : ℕ) (a b : ℕ → Activation) (inside inside_after : ℕ → Option Stay) (r : ℕ) → Ran n rank deadline now a b inside inside_after r → (q : ℕ) (s : Stay) → q < n → inside_after q ≡ Some s → IsBegun (b q)
ran_begun n rank deadline now a b inside inside_after r f q s below is = elim (cases_eq r q) [
  | inl e ↦ subst (λ i. IsBegun (b i)) e (
      let act : 1 ≤ (b r).left = subst (λ i. 1 ≤ (b i).left) (sym e) (f.active q s below is) in
      record { active = act; had = f.runs.begins act })
  | inr other ↦
      let was = f.stack.begun q s below (sym (f.keeps q below other) ∙ is) in
      subst IsBegun (sym (f.others q below other)) was
]

ran_later : (n : ℕ) (rank deadline : ℕ → ℕ) (now : ℕ) (a b : ℕ → Activation) (inside inside_after : ℕ → Option Stay) (r : ℕ) → Ran n rank deadline now a b inside inside_after r → (p q : ℕ) → p < n → q < n → 1 ≤ (b p).left → IsBegun (b q) → IsBefore rank deadline b p q → (b q).release < (b p).release
ran_later n rank deadline now a b inside inside_after r f p q p_below q_below active begun is_before =
    let of_p = kept_active n rank deadline now a b inside inside_after r f p p_below active in
    let of_q = kept_active n rank deadline now a b inside inside_after r f q q_below begun.active in
    let was_before = before_of rank deadline a b p q of_p.1 of_q.1 is_before in
    let so : IsBegun (a q) → (b q).release < (b p).release = λ was. let h = f.stack.later p q p_below q_below of_p.0 was was_before in omega (arith, of_p.1, of_q.1) in
    elim (cases_lt 0 (a q).had) [
      | inl had ↦ so (record { active = of_q.0; had = had })
      | inr none ↦ elim (cases_eq r q) [
        | inl e ↦ elim (cases_eq q p) [
          | inl same ↦ absurd (let P : ℕ → Type 0 = λ i. IsBefore rank deadline a i q in let h : IsBefore rank deadline a q q = subst P (sym same) was_before in never_both _ _ _ _ h h)
          | inr apart ↦
              let new : (a r).had ≡ 0 = subst (λ i. (a i).had ≡ 0) (sym e) (omega arith) in
              let first = (chosen_new n rank deadline inside a r f.chosen new).0 p p_below (λ i. apart (sym e ∙ i)) of_p.0 in
              let P : ℕ → Type 0 = λ i. IsBefore rank deadline a i p in
              absurd (never_both _ _ _ _ was_before (subst P e first))
        ]
        | inr other ↦ absurd (let g = subst (λ x. 1 ≤ x.had) (f.others q q_below other) begun.had in omega arith)
      ]
    ]

ran_above : (n : ℕ) (rank deadline : ℕ → ℕ) (now : ℕ) (a b : ℕ → Activation) (inside inside_after : ℕ → Option Stay) (r : ℕ) → Ran n rank deadline now a b inside inside_after r → (p q : ℕ) (s : Stay) → p < n → q < n → IsBegun (b p) → inside_after q ≡ Some s → IsBefore rank deadline b p q → rank p < s.ceiling
ran_above n rank deadline now a b inside inside_after r f p q s p_below q_below begun is is_before =
    let begun_q = ran_begun n rank deadline now a b inside inside_after r f q s q_below is in
    let of_p = kept_active n rank deadline now a b inside inside_after r f p p_below begun.active in
    let of_q = kept_active n rank deadline now a b inside inside_after r f q q_below begun_q.active in
    let was_before = before_of rank deadline a b p q of_p.1 of_q.1 is_before in
    elim (cases_eq r q) [
      | inl e ↦ elim (cases_eq q p) [
        | inl same ↦ absurd (let P : ℕ → Type 0 = λ i. IsBefore rank deadline a i q in let h : IsBefore rank deadline a q q = subst P (sym same) was_before in never_both _ _ _ _ h h)
        | inr apart ↦
            let other : r ≡ p → ⊥ = λ i. apart (sym e ∙ i) in
            let was : IsBegun (a p) = subst IsBegun (f.others p p_below other) begun in
            let is_r : inside_after r ≡ Some s = ap inside_after e ∙ is in
            let P : ℕ → Type 0 = λ i. IsBefore rank deadline a i p in
            elim (f.was s is_r) [
              | inl outside ↦ absurd (never_both _ _ _ _ was_before (subst P e (chosen_first n rank deadline inside a r f.chosen p p_below other was)))
              | inr w ↦ let h = f.stack.above p q w.0 p_below q_below was (ap inside (sym e) ∙ w.1) was_before in omega (arith, w.2)
            ]
      ]
      | inr rests ↦
          let was_in : inside q ≡ Some s = sym (f.keeps q q_below rests) ∙ is in
          elim (cases_eq r p) [
            | inl e ↦ let h = chosen_above n rank deadline now a inside r f.stack f.chosen q s q_below rests was_in in subst (λ i. rank i < s.ceiling) e h
            | inr other ↦ f.stack.above p q s p_below q_below (subst IsBegun (f.others p p_below other) begun) was_in was_before
          ]
    ]

pub kept_by_choice : (n : ℕ) (rank deadline : ℕ → ℕ) (now : ℕ) (a b : ℕ → Activation) (inside inside_after : ℕ → Option Stay) (picked : Option ℕ) → AreDistinct n rank → AreStacked n rank deadline now a inside → Chooses n rank deadline inside a picked → Passes n picked a b → KeepsCeilings n picked inside inside_after → ((p : ℕ) (s : Stay) → p < n → inside_after p ≡ Some s → 1 ≤ (b p).left) → AreStacked n rank deadline now b inside_after
kept_by_choice n rank deadline now a b inside inside_after None distinct stack chooses acts keeps active =
    let nobody : (p : ℕ) → p < n → 1 ≤ (b p).left → ⊥ = λ p below act. chooses p below (subst (λ x. 1 ≤ x.left) (acts.others p below (λ is. absurd (cc))) act) in
    record {
      past = λ p below act. absurd (nobody p below act);
      begun = λ q s below is. absurd (nobody q below (active q s below is));
      later = λ p q p_below q_below act begun is_before. absurd (nobody p p_below act);
      above = λ p q s p_below q_below begun is is_before. absurd (nobody p p_below begun.active);
    }
kept_by_choice n rank deadline now a b inside inside_after (Some r) distinct stack chosen acts keeps active =
    let f : Ran n rank deadline now a b inside inside_after r = record {
      distinct = distinct;
      stack = stack;
      chosen = chosen;
      runs = acts.runs r chosen.of_these refl;
      others = λ q below other. acts.others q below (λ is. other (same_Some r q is));
      was = λ s is. keeps.was r s chosen.of_these refl is;
      keeps = λ q below other. keeps.others q below (λ is. other (same_Some r q is));
      active = active;
    } in
    record {
      past = λ p below act. let of_p = kept_active n rank deadline now a b inside inside_after r f p below act in let h = stack.past p below of_p.0 in omega (arith, of_p.1);
      begun = ran_begun n rank deadline now a b inside inside_after r f;
      later = ran_later n rank deadline now a b inside inside_after r f;
      above = ran_above n rank deadline now a b inside inside_after r f;
    }

pub apart_of : (n : ℕ) (rank deadline : ℕ → ℕ) (now : ℕ) (a : ℕ → Activation) (inside : ℕ → Option Stay) → AreDistinct n rank → AreStacked n rank deadline now a inside → AreApart n rank inside
apart_of n rank deadline now a inside distinct stack p q s t p_below q_below other is_p is_q = elim (one_sooner ((a p).release + deadline p) (rank p) ((a q).release + deadline q) (rank q) (λ e. other (distinct p q p_below q_below e))) [
  | inl h ↦ inl (stack.above p q t p_below q_below (stack.begun p s p_below is_p) is_q h)
  | inr h ↦ inr (stack.above q p s q_below p_below (stack.begun q t q_below is_q) is_p h)
]
