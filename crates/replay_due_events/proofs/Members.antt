-- The processes in rank order are all processes, so the next time-out may be sought in any order.
use Rattle.std.specs.Prelude.{◌≡◌, ◌⊎◌, ℕ, zero, suc, ◌+◌, ◌≤◌, ◌<◌, Bool, true, false, cond, not, List, [], ◌∷◌, Option, Some, None, nat_eq, nat_lt, length, map, slice_get, position, filter_map, min}
use Rattle.std.specs.List.{position_or_len, prefix_len, cons_option}
use Rattle.std.proofs.Common.{refl, sym, ◌∙◌, ap, inl, inr, arith, subst}
use Rattle.std.proofs.lemmas.Bool.{cases_lt}
use Rattle.std.proofs.lemmas.Bool.Decides.{nat_tests}
use Rattle.syntax_tree.specs.Plain.{Program, Process}
use Rattle.source_semantics.specs.Names.{processes, deadline_of}
use Rattle.source_semantics.specs.Config.{Config}
use Rattle.source_semantics.specs.Ranks.{numbers_from, deadlines, rank, by_rank}
use Rattle.replay_due_events.specs.NextDue.{sooner, job_due, waits_due}
use Rattle.replay_due_events.proofs.Ranked.{rank_in, rank_most, ranks_apart}

abbrev Member : ℕ → List ℕ → Type 0
Member k [] = ⊥
Member k (x ∷ xs) = (k ≡ x) ⊎ Member k xs

-- ---- the least of a list depends on its members alone

sooner_left : (a t : ℕ) (o : Option ℕ) → a ≤ t → (u : ℕ) × (sooner (Some a) o ≡ Some u) × (u ≤ t)
sooner_left a t None le = (a, refl, le)
sooner_left a t (Some b) le = (min a b, refl, omega (arith, le))

sooner_right : (o : Option ℕ) (b t : ℕ) → b ≤ t → (u : ℕ) × (sooner o (Some b) ≡ Some u) × (u ≤ t)
sooner_right None b t le = (b, refl, le)
sooner_right (Some a) b t le = (min a b, refl, omega (arith, le))

below : (c : Config) (from : ℕ) (ks : List ℕ) (k t : ℕ) → Member k ks → job_due from (slice_get c.jobs k) ≡ Some t → (u : ℕ) × (waits_due c from ks ≡ Some u) × (u ≤ t)
below c from [] k t m d = absurd m
below c from (x ∷ ks) k t (inl e) d =
    let here : job_due from (slice_get c.jobs x) ≡ Some t = ap (λ i. job_due from (slice_get c.jobs i)) (sym e) ∙ d in
    let s = sooner_left t t (waits_due c from ks) (omega arith) in
    (s.0, ap (λ o. sooner o (waits_due c from ks)) here ∙ s.1, s.2)
below c from (x ∷ ks) k t (inr m) d =
    let r = below c from ks k t m d in
    let s = sooner_right (job_due from (slice_get c.jobs x)) r.0 t r.2 in
    (s.0, ap (sooner (job_due from (slice_get c.jobs x))) r.1 ∙ s.1, s.2)

of_two : (a b : Option ℕ) (u : ℕ) → sooner a b ≡ Some u → (a ≡ Some u) ⊎ (b ≡ Some u)
of_two None b u e = inr e
of_two (Some a) None u e = inl e
of_two (Some a) (Some b) u e = let is : min a b ≡ u = cc in elim (cases_lt a b) [
  | inl lt ↦ let s : a ≡ u = omega (arith, is, lt) in inl (ap Some s)
  | inr ge ↦ let s : b ≡ u = omega (arith, is, ge) in inr (ap Some s)
]

attained : (c : Config) (from : ℕ) (ks : List ℕ) (u : ℕ) → waits_due c from ks ≡ Some u → (k : ℕ) × Member k ks × (job_due from (slice_get c.jobs k) ≡ Some u)
attained c from [] u e = absurd cc
attained c from (x ∷ ks) u e = elim (of_two (job_due from (slice_get c.jobs x)) (waits_due c from ks) u e) [
  | inl here ↦ (x, inl refl, here)
  | inr there ↦ let r = attained c from ks u there in (r.0, inr r.1, r.2)
]

pub same_least : (c : Config) (from : ℕ) (ks ls : List ℕ) → ((k : ℕ) → Member k ks → Member k ls) → ((k : ℕ) → Member k ls → Member k ks) → waits_due c from ks ≡ waits_due c from ls
same_least c from ks ls more back = by_case (waits_due c from ks) (waits_due c from ls) refl refl
  where
    one_way : (xs ys : List ℕ) → ((k : ℕ) → Member k xs → Member k ys) → (u : ℕ) → waits_due c from xs ≡ Some u → (v : ℕ) × (waits_due c from ys ≡ Some v) × (v ≤ u)
    one_way xs ys h u e = let r = attained c from xs u e in below c from ys r.0 u (h r.0 r.1) r.2

    by_case : (a b : Option ℕ) → waits_due c from ks ≡ a → waits_due c from ls ≡ b → waits_due c from ks ≡ waits_due c from ls
    by_case None None p q = p ∙ sym q
    by_case (Some u) None p q = let r = one_way ks ls more u p in absurd (let e : None ≡ Some r.0 = sym q ∙ r.1 in cc)
    by_case None (Some v) p q = let r = one_way ls ks back v q in absurd (let e : None ≡ Some r.0 = sym p ∙ r.1 in cc)
    by_case (Some u) (Some v) p q =
        let r = one_way ks ls more u p in
        let s = one_way ls ks back v q in
        let first : v ≡ r.0 = let e : Some v ≡ Some r.0 = sym q ∙ r.1 in cc in
        let second : u ≡ s.0 = let e : Some u ≡ Some s.0 = sym p ∙ s.1 in cc in
        let same : u ≡ v = omega (arith, first, second, r.2, s.2) in
        p ∙ (ap Some same ∙ sym q)

-- ---- which numbers there are

numbers_member : (n a k : ℕ) → a ≤ k → k < a + n → Member k (numbers_from n a)
numbers_member zero a k low high = absurd (omega (arith, low, high))
numbers_member (suc n) a k low high = elim (cases_lt a k) [
  | inl lt ↦ inr (numbers_member n (suc a) k lt (omega (arith, high)))
  | inr ge ↦ let e : k ≡ a = omega (arith, ge, low) in inl e
]

member_numbers : (n a k : ℕ) → Member k (numbers_from n a) → (a ≤ k) × (k < a + n)
member_numbers zero a k m = absurd m
member_numbers (suc n) a k (inl e) = (omega (arith, e), omega (arith, e))
member_numbers (suc n) a k (inr m) = let r = member_numbers n (suc a) k m in (omega (arith, r.0), omega (arith, r.1))

numbers_length : (n a : ℕ) → length (numbers_from n a) ≡ n
numbers_length zero a = refl
numbers_length (suc n) a = ap suc (numbers_length n (suc a))

kept : (h : ℕ → Option ℕ) (rs : List ℕ) (r k : ℕ) → Member r rs → h r ≡ Some k → Member k (filter_map h rs)
kept h [] r k m e = absurd m
kept h (x ∷ rs) r k (inl is) e = subst (λ o. Member k (cons_option o (filter_map h rs))) (sym (ap h (sym is) ∙ e)) (inl refl)
kept h (x ∷ rs) r k (inr m) e = by_case (h x) (kept h rs r k m e)
  where
    by_case : (o : Option ℕ) → Member k (filter_map h rs) → Member k (cons_option o (filter_map h rs))
    by_case None m = m
    by_case (Some y) m = inr m

came_from : (h : ℕ → Option ℕ) (rs : List ℕ) (k : ℕ) → Member k (filter_map h rs) → (r : ℕ) × (h r ≡ Some k)
came_from h [] k m = absurd m
came_from h (x ∷ rs) k m = by_case (h x) refl (λ n. came_from h rs k n)
  where
    by_case : (o : Option ℕ) → h x ≡ o → (Member k (filter_map h rs) → (r : ℕ) × (h r ≡ Some k)) → (r : ℕ) × (h r ≡ Some k)
    by_case None e later = later (subst (λ o. Member k (cons_option o (filter_map h rs))) e m)
    by_case (Some y) e later = elim (subst (λ o. Member k (cons_option o (filter_map h rs))) e m) [
      | inl is ↦ (x, e ∙ ap Some (sym is))
      | inr rest ↦ later rest
    ]

position_below : (p : ℕ → Bool) (xs : List ℕ) (k : ℕ) → position p xs ≡ Some k → k < length xs
position_below p xs k e = by_case (nat_lt (position_or_len p xs) (length xs)) refl
  where
    n : ℕ
    n = position_or_len p xs

    by_case : (b : Bool) → nat_lt n (length xs) ≡ b → k < length xs
    by_case true h = let s : Some n ≡ Some k = sym (ap (λ b. cond b (Some n) None) h) ∙ e in let is : n ≡ k = cc in grind (arith, nat_tests)
    by_case false h = absurd (let s : None ≡ Some k = sym (ap (λ b. cond b (Some n) None) h) ∙ e in cc)

prefix_is : (p : ℕ → Bool) (n a k : ℕ) → k < n → p (a + k) ≡ true → ((j : ℕ) → j < k → p (a + j) ≡ false) → prefix_len (λ x. not (p x)) (numbers_from n a) ≡ k
prefix_is p zero a k low passes fails = absurd (omega (arith, low))
prefix_is p (suc n) a zero low passes fails =
    let here : p a ≡ true = ap p (let e : a ≡ a + 0 = omega arith in e) ∙ passes in
    ap (λ b. cond (not b) (1 + prefix_len (λ x. not (p x)) (numbers_from n (suc a))) 0) here
prefix_is p (suc n) a (suc k) low passes fails =
    let here : p a ≡ false = ap p (let e : a ≡ a + 0 = omega arith in e) ∙ fails 0 (omega arith) in
    let e : suc a + k ≡ a + suc k = omega arith in
    let rest : prefix_len (λ x. not (p x)) (numbers_from n (suc a)) ≡ k =
    prefix_is p n (suc a) k (omega (arith, low)) (ap p e ∙ passes) (λ j less. ap p (let f : suc a + j ≡ a + suc j = omega arith in f) ∙ fails (suc j) (omega (arith, less))) in
    ap (λ b. cond (not b) (1 + prefix_len (λ x. not (p x)) (numbers_from n (suc a))) 0) here ∙ (ap (λ i. 1 + i) rest ∙ (let g : 1 + k ≡ suc k = omega arith in g))

position_is : (p : ℕ → Bool) (n k : ℕ) → k < n → p k ≡ true → ((j : ℕ) → j < k → p j ≡ false) → position p (numbers_from n 0) ≡ Some k
position_is p n k low passes fails =
    let zero_more : (j : ℕ) → 0 + j ≡ j = λ j. omega arith in
    let is : position_or_len p (numbers_from n 0) ≡ k = prefix_is p n 0 k low (ap p (zero_more k) ∙ passes) (λ j less. ap p (zero_more j) ∙ fails j less) in
    let long : length (numbers_from n 0) ≡ n = numbers_length n 0 in
    let less : nat_lt (position_or_len p (numbers_from n 0)) (length (numbers_from n 0)) ≡ true = grind (arith, nat_tests) in
    ap (λ b. cond b (Some (position_or_len p (numbers_from n 0))) None) less ∙ ap Some is

-- ---- the processes in rank order

deadline_there : (g : Program) (ps : List Process) (k : ℕ) → k < length ps → (f : ℕ) × (slice_get (map (λ p. deadline_of g p.activation) ps) k ≡ Some f)
deadline_there g [] k low = absurd (omega (arith, low))
deadline_there g (p ∷ ps) zero low = (deadline_of g p.activation, refl)
deadline_there g (p ∷ ps) (suc k) low = deadline_there g ps k (omega (arith, low))

deadlines_length : (g : Program) (ps : List Process) → length (map (λ p. deadline_of g p.activation) ps) ≡ length ps
deadlines_length g [] = refl
deadlines_length g (p ∷ ps) = ap suc (deadlines_length g ps)

others_ranks : (g : Program) (k j : ℕ) → k < length (processes g) → j < k → nat_eq (rank g j) (rank g k) ≡ false
others_ranks g k j low less = by_case (nat_eq (rank g j) (rank g k)) refl
  where
    by_case : (b : Bool) → nat_eq (rank g j) (rank g k) ≡ b → nat_eq (rank g j) (rank g k) ≡ false
    by_case false e = e
    by_case true e =
        let at_j = deadline_there g (processes g) j (omega (arith, less, low)) in
        let at_k = deadline_there g (processes g) k low in
        let same : rank g j ≡ rank g k = grind (arith, nat_tests) in
        absurd (ranks_apart (deadlines g) j k at_j.0 at_k.0 at_j.1 at_k.1 (λ s. absurd (omega (arith, s, less))) same)

all_ranked : (g : Program) (k : ℕ) → k < length (processes g) → Member k (by_rank g)
all_ranked g k low =
    let at_k = deadline_there g (processes g) k low in
    let most : rank g k ≤ length (deadlines g) = rank_most (deadlines g) k at_k.0 at_k.1 in
    let long : length (deadlines g) ≡ length (processes g) = deadlines_length g (processes g) in
    let same : nat_eq (rank g k) (rank g k) ≡ true = same_number (rank g k) in
    kept (λ r. position (λ i. nat_eq (rank g i) r) (numbers_from (length (processes g)) 0)) (numbers_from (length (processes g)) 1) (rank g k) k
    (numbers_member (length (processes g)) 1 (rank g k) (positive (rank_in (deadlines g) k) k refl) (omega (arith, most, long)))
    (position_is (λ i. nat_eq (rank g i) (rank g k)) (length (processes g)) k low same (λ j less. others_ranks g k j low less))
  where
    same_number : (n : ℕ) → nat_eq n n ≡ true
    same_number n = grind (arith, nat_tests)

    positive : (n k : ℕ) → n ≡ rank_in (deadlines g) k → 1 ≤ rank_in (deadlines g) k
    positive n k e = omega arith

ranked_all : (g : Program) (k : ℕ) → Member k (by_rank g) → Member k (numbers_from (length (processes g)) 0)
ranked_all g k m =
    let r = came_from (λ r. position (λ i. nat_eq (rank g i) r) (numbers_from (length (processes g)) 0)) (numbers_from (length (processes g)) 1) k m in
    let low = position_below (λ i. nat_eq (rank g i) r.0) (numbers_from (length (processes g)) 0) k r.1 in
    numbers_member (length (processes g)) 0 k (omega arith) (omega (arith, low, numbers_length (length (processes g)) 0))

-- the next time-out of the processes in rank order is that of the processes in textual order
pub any_order : (g : Program) (c : Config) (from : ℕ) → waits_due c from (by_rank g) ≡ waits_due c from (numbers_from (length (processes g)) 0)
any_order g c from = same_least c from (by_rank g) (numbers_from (length (processes g)) 0) (ranked_all g) (λ k m. let r = member_numbers (length (processes g)) 0 k m in all_ranked g k (omega (arith, r.1)))
