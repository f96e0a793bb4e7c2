-- A run meets the premises where tests of each tick say so, which compute on a run that is given as data.
use Rattle.std.proofs.Common.{◌≡◌, ◌≤◌, ◌<◌, ◌+◌, ◌*◌, ◌⊎◌, inl, inr, ℕ, zero, suc, List, length, arith, refl, ap, sym, subst, ◌∙◌}
use Rattle.std.specs.Prelude.{Bool, true, false, ◌&&◌, ◌||◌, Option, Some, None}
use Rattle.std.proofs.Math.Dec.{leb, ltb, eqb}
use Rattle.std.proofs.lemmas.Bool.{and_parts, and_from, or_cases, leb-true, le-leb, ltb-true, eqb-true, eq-eqb, cases_lt, false_from_ne_true}
use Rattle.sched_response.specs.declared.tasks.Task.{Task}
use Rattle.sched_response.specs.Demand.{task_at, deadline_at, demand_at, Solves}
use Rattle.sched_theorem.specs.Charges.{ChargedCost}
use Rattle.sched_theorem.specs.Stretches.{Life, Trace, IsLife, Opens, Acts, Spaced, flag}
use Rattle.sched_theorem.specs.Dispatched.{Stay, Dispatch, IsReady, active_rank, TakesOne, KeepsStays}
use Rattle.sched_theorem.specs.Ranked.{cost_at}
use Rattle.sched_theorem.specs.Placed.{PicksAt, AreStaysAt, IsPlaced}

-- ---- tests

abbrev pub implies : Bool → Bool → Bool
implies true q = q
implies false q = true

abbrev pub all_below : ℕ → (ℕ → Bool) → Bool
all_below zero f = true
all_below (suc n) f = f n && all_below n f

implied : (p q : Bool) → implies p q ≡ true → p ≡ true → q ≡ true
implied true q holds is = holds
implied false q holds is = absurd (cc)

pub all_at : (n : ℕ) (f : ℕ → Bool) → all_below n f ≡ true → (k : ℕ) → k < n → f k ≡ true
all_at zero f all k below = absurd (omega arith)
all_at (suc n) f all k below =
    let parts = and_parts (f n) (all_below n f) all in
    elim (cases_lt k n) [
      | inl lower ↦ all_at n f parts.1 k lower
      | inr higher ↦ let same : n ≡ k = omega arith in subst (λ i. f i ≡ true) same parts.0
    ]

and_le : (a b : ℕ) (q : Bool) → (leb a b && q) ≡ true → (a ≤ b) × (q ≡ true)
and_le a b q both = let parts = and_parts (leb a b) q both in (leb-true a b parts.0, parts.1)

-- the number two and below
pub two : (P : ℕ → Type 0) → P 0 → P 1 → (p : ℕ) → p < 2 → P p
two P first second zero below = first
two P first second (suc zero) below = second
two P first second (suc (suc p)) below = absurd (omega arith)

-- ---- what is left of an activation

abbrev pub whole_ok : Life → Bool
whole_ok a = implies (leb a.run_left 0) (leb a.suspension_left 0 && (leb a.waits_left 0 && leb a.waiting 0))

is_life : (a : Life) → whole_ok a ≡ true → IsLife a
is_life a ok = record {
  no_susp = λ e. let h = (nothing e).0 in omega arith;
  no_waits = λ e. let h = (nothing e).1 in omega arith;
  no_waiting = λ e. let h = (nothing e).2 in omega arith;
}
  where
    nothing : a.run_left ≡ 0 → (a.suspension_left ≤ 0) × (a.waits_left ≤ 0) × (a.waiting ≤ 0)
    nothing e =
        let first = and_le a.suspension_left 0 (leb a.waits_left 0 && leb a.waiting 0) (implied (leb a.run_left 0) _ ok (le-leb a.run_left 0 (omega arith))) in
        let second = and_le a.waits_left 0 (leb a.waiting 0) first.1 in
        (first.0, second.0, leb-true a.waiting 0 second.1)

abbrev pub goes_on_ok : Bool → Life → Life → Bool
goes_on_ok released a b = implies (leb 1 a.run_left) (leb 1 b.run_left) && implies released (leb 1 b.run_left)

abbrev pub opens_ok : Bool → ChargedCost → Life → Life → Bool
opens_ok released cost a b = leb b.run_left (a.run_left + flag released * cost.run) && (leb b.suspension_left (a.suspension_left + flag released * cost.susp) && (leb b.waits_left (a.waits_left + flag released * cost.waits) && (leb b.waiting a.waiting && goes_on_ok released a b)))

opens : (released : Bool) (cost : ChargedCost) (a b : Life) → opens_ok released cost a b ≡ true → Opens released cost a b
opens released cost a b ok =
    let run = and_le b.run_left (a.run_left + flag released * cost.run) (leb b.suspension_left (a.suspension_left + flag released * cost.susp) && (leb b.waits_left (a.waits_left + flag released * cost.waits) && (leb b.waiting a.waiting && goes_on_ok released a b))) ok in
    let susp = and_le b.suspension_left (a.suspension_left + flag released * cost.susp) (leb b.waits_left (a.waits_left + flag released * cost.waits) && (leb b.waiting a.waiting && goes_on_ok released a b)) run.1 in
    let waits = and_le b.waits_left (a.waits_left + flag released * cost.waits) (leb b.waiting a.waiting && goes_on_ok released a b) susp.1 in
    let waiting = and_le b.waiting a.waiting (goes_on_ok released a b) waits.1 in
    let active = and_parts (implies (leb 1 a.run_left) (leb 1 b.run_left)) (implies released (leb 1 b.run_left)) waiting.1 in
    record {
      run = run.0;
      susp = susp.0;
      waits = waits.0;
      waiting = waiting.0;
      goes_on = λ e. leb-true 1 b.run_left (implied (leb 1 a.run_left) (leb 1 b.run_left) active.0 (le-leb 1 a.run_left e));
      starts = λ e. leb-true 1 b.run_left (implied released (leb 1 b.run_left) active.1 e);
    }

abbrev pub acts_ok : Life → Life → Bool
acts_ok a b = leb b.run_left a.run_left && (leb (b.suspension_left + a.waiting) a.suspension_left && (leb b.waits_left a.waits_left && leb (b.waits_left + b.waiting) (a.waits_left + a.waiting)))

acts : (a b : Life) → acts_ok a b ≡ true → Acts a b
acts a b ok =
    let run = and_le b.run_left a.run_left (leb (b.suspension_left + a.waiting) a.suspension_left && (leb b.waits_left a.waits_left && leb (b.waits_left + b.waiting) (a.waits_left + a.waiting))) ok in
    let susp = and_le (b.suspension_left + a.waiting) a.suspension_left (leb b.waits_left a.waits_left && leb (b.waits_left + b.waiting) (a.waits_left + a.waiting)) run.1 in
    let waits = and_le b.waits_left a.waits_left (leb (b.waits_left + b.waiting) (a.waits_left + a.waiting)) susp.1 in
    record { run = run.0; susp = susp.0; waits = waits.0; begins = leb-true (b.waits_left + b.waiting) (a.waits_left + a.waiting) waits.1 }

abbrev pub spaced_ok : ℕ → ℕ → (ℕ → Bool) → Bool
spaced_ok frame end released = all_below end (λ l. all_below l (λ k. implies (released k && released l) (leb (k + frame) l)))

spaced : (frame end : ℕ) (released : ℕ → Bool) → spaced_ok frame end released ≡ true → Spaced frame end released
spaced frame end released ok k l less within first second =
    let at_l = all_at end (λ i. all_below i (λ j. implies (released j && released i) (leb (j + frame) i))) ok l within in
    let at_k = all_at l (λ j. implies (released j && released l) (leb (j + frame) l)) at_l k less in
    leb-true (k + frame) l (implied (released k && released l) (leb (k + frame) l) at_k (and_from (released k) (released l) first second))

-- ---- who is picked

abbrev pub ready : Life → Bool
ready a = leb 1 a.run_left && leb a.waiting 0

ready_of : (a : Life) → IsReady a → ready a ≡ true
ready_of a is = let free = is.free in and_from (leb 1 a.run_left) (leb a.waiting 0) (le-leb 1 a.run_left is.active) (le-leb a.waiting 0 (omega arith))

abbrev pub least_ok : ℕ → (ℕ → ℕ) → (ℕ → Option Stay) → (ℕ → Life) → ℕ → Bool
least_ok n rank inside a p = all_below n (λ q. implies (ready (a q)) (leb (active_rank (rank p) (inside p)) (active_rank (rank q) (inside q))))

abbrev pub picks_ok : ℕ → (ℕ → ℕ) → (ℕ → Option Stay) → (ℕ → Life) → (ℕ → Life) → Option ℕ → Bool
picks_ok n rank inside a b None = all_below n (λ q. implies (ready (a q)) false)
picks_ok n rank inside a b (Some p) = leb (suc p) n && (leb ((b p).run_left + 1) (a p).run_left && least_ok n rank inside a p)

picks : (n : ℕ) (rank : ℕ → ℕ) (inside : ℕ → Option Stay) (a b : ℕ → Life) (o : Option ℕ) → picks_ok n rank inside a b o ≡ true → PicksAt n rank inside a b o
picks n rank inside a b None ok = λ q below is.
    let no : false ≡ true = implied (ready (a q)) false (all_at n (λ i. implies (ready (a i)) false) ok q below) (ready_of (a q) is) in
    absurd (cc)
picks n rank inside a b (Some p) ok =
    let below = and_le (suc p) n (leb ((b p).run_left + 1) (a p).run_left && least_ok n rank inside a p) ok in
    let falls = and_le ((b p).run_left + 1) (a p).run_left (least_ok n rank inside a p) below.1 in
    let active : ℕ → ℕ = λ q. active_rank (rank q) (inside q) in
    record {
      of_these = omega (arith, below.0);
      least = λ q within is. leb-true (active p) (active q) (implied (ready (a q)) (leb (active p) (active q)) (all_at n (λ i. implies (ready (a i)) (leb (active p) (active i))) falls.1 q within) (ready_of (a q) is));
      falls = falls.0;
    }

-- ---- who is inside a monitor

abbrev pub takes_ok : Option Stay → Option Stay → Bool
takes_ok None t = true
takes_ok (Some s) None = leb 1 s.left
takes_ok (Some s) (Some t) = leb t.ceiling s.ceiling && (leb s.ceiling t.ceiling && leb (t.left + 1) s.left)

takes : (s t : Option Stay) → takes_ok s t ≡ true → TakesOne s t
takes None t ok = tt
takes (Some s) None ok = leb-true 1 s.left ok
takes (Some s) (Some t) ok =
    let low = and_le t.ceiling s.ceiling (leb s.ceiling t.ceiling && leb (t.left + 1) s.left) ok in
    let high = and_le s.ceiling t.ceiling (leb (t.left + 1) s.left) low.1 in
    (omega (arith, low.0, high.0), leb-true (t.left + 1) s.left high.1)

abbrev pub same_ok : Option Stay → Option Stay → Bool
same_ok None None = true
same_ok None (Some t) = false
same_ok (Some s) None = false
same_ok (Some s) (Some t) = eqb t.ceiling s.ceiling && eqb t.left s.left

same : (s t : Option Stay) → same_ok s t ≡ true → t ≡ s
same None None ok = refl
same None (Some t) ok = absurd (cc)
same (Some s) None ok = absurd (cc)
same (Some s) (Some t) ok =
    let parts = and_parts (eqb t.ceiling s.ceiling) (eqb t.left s.left) ok in
    let ceilings = eqb-true t.ceiling s.ceiling parts.0 in
    let lefts = eqb-true t.left s.left parts.1 in
    let with_ceiling : ℕ → Option Stay = λ c. Some (record { ceiling = c; left = t.left }) in
    let with_left : ℕ → Option Stay = λ l. Some (record { ceiling = s.ceiling; left = l }) in
    ap with_ceiling ceilings ∙ ap with_left lefts

abbrev pub is_picked : Option ℕ → ℕ → Bool
is_picked None p = false
is_picked (Some q) p = eqb q p

picked_of : (o : Option ℕ) (p : ℕ) → is_picked o p ≡ true → o ≡ Some p
picked_of None p is = absurd (cc)
picked_of (Some q) p is = ap Some (eqb-true q p is)

-- whether the process is picked, and its stay before a tick and after it
abbrev pub keeps_ok : Bool → Option Stay → Option Stay → Bool
keeps_ok true s t = takes_ok s t
keeps_ok false s t = same_ok s t

abbrev pub keep_all_ok : ℕ → Option ℕ → (ℕ → Option Stay) → (ℕ → Option Stay) → Bool
keep_all_ok n picked inside inside_after = all_below n (λ p. keeps_ok (is_picked picked p) (inside p) (inside_after p))

keep_all : (n : ℕ) (picked : Option ℕ) (inside inside_after : ℕ → Option Stay) → keep_all_ok n picked inside inside_after ≡ true → KeepsStays n picked inside inside_after
keep_all n picked inside inside_after ok = record {
  takes = λ p below is. takes (inside p) (inside_after p) (kept p below true (subst (λ o. is_picked o p ≡ true) (sym is) (eq-eqb p p refl)));
  others = λ p below other. same (inside p) (inside_after p) (kept p below false (false_from_ne_true (is_picked picked p) (λ is. other (picked_of picked p is))));
}
  where
    kept : (p : ℕ) → p < n → (b : Bool) → is_picked picked p ≡ b → keeps_ok b (inside p) (inside_after p) ≡ true
    kept p below b is = subst (λ x. keeps_ok x (inside p) (inside_after p) ≡ true) is (all_at n (λ q. keeps_ok (is_picked picked q) (inside q) (inside_after q)) ok p below)

abbrev pub above_ok : ℕ → Option Stay → Bool
above_ok rank None = true
above_ok rank (Some s) = leb s.ceiling rank

abbrev pub apart_ok : ℕ → ℕ → Option Stay → Option Stay → Bool
apart_ok i j None t = true
apart_ok i j (Some s) None = true
apart_ok i j (Some s) (Some t) = ltb i t.ceiling || ltb j s.ceiling

abbrev pub short_ok : ℕ → ℕ → Option Stay → Bool
short_ok block level None = true
short_ok block level (Some s) = implies (leb s.ceiling level) (leb s.left block)

abbrev pub above_all_ok : ℕ → (ℕ → ℕ) → (ℕ → Option Stay) → Bool
above_all_ok n rank inside = all_below n (λ p. above_ok (rank p) (inside p))

abbrev pub apart_all_ok : ℕ → (ℕ → ℕ) → (ℕ → Option Stay) → Bool
apart_all_ok n rank inside = all_below n (λ p. all_below n (λ q. eqb p q || apart_ok (rank p) (rank q) (inside p) (inside q)))

abbrev pub short_all_ok : List Task → (ℕ → ℕ) → (ℕ → Option Stay) → Bool
short_all_ok ts rank inside = all_below (length ts) (λ p. all_below (rank p) (λ level. short_ok (task_at ts level).block level (inside p)))

abbrev pub stays_ok : List Task → (ℕ → ℕ) → (ℕ → Option Stay) → Bool
stays_ok ts rank inside = above_all_ok (length ts) rank inside && (apart_all_ok (length ts) rank inside && short_all_ok ts rank inside)

above : (n : ℕ) (rank : ℕ → ℕ) (inside : ℕ → Option Stay) → above_all_ok n rank inside ≡ true → (p : ℕ) (s : Stay) → p < n → inside p ≡ Some s → s.ceiling ≤ rank p
above n rank inside ok p s below is =
    let at_p = all_at n (λ q. above_ok (rank q) (inside q)) ok p below in
    leb-true s.ceiling (rank p) (subst (λ o. above_ok (rank p) o ≡ true) is at_p)

apart : (n : ℕ) (rank : ℕ → ℕ) (inside : ℕ → Option Stay) → apart_all_ok n rank inside ≡ true → (p q : ℕ) (s t : Stay) → p < n → q < n → (p ≡ q → ⊥) → inside p ≡ Some s → inside q ≡ Some t → (rank p < t.ceiling) ⊎ (rank q < s.ceiling)
apart n rank inside ok p q s t below_p below_q differ is_p is_q =
    let at_p = all_at n (λ i. all_below n (λ j. eqb i j || apart_ok (rank i) (rank j) (inside i) (inside j))) ok p below_p in
    let at_q = all_at n (λ j. eqb p j || apart_ok (rank p) (rank j) (inside p) (inside j)) at_p q below_q in
    elim (or_cases (eqb p q) (apart_ok (rank p) (rank q) (inside p) (inside q)) at_q) [
      | inl e ↦ absurd (differ (eqb-true p q e))
      | inr h ↦
          let first = subst (λ o. apart_ok (rank p) (rank q) o (inside q) ≡ true) is_p h in
          let second : apart_ok (rank p) (rank q) (Some s) (Some t) ≡ true = subst (λ o. apart_ok (rank p) (rank q) (Some s) o ≡ true) is_q first in
          elim (or_cases (ltb (rank p) t.ceiling) (ltb (rank q) s.ceiling) second) [
            | inl e ↦ inl (ltb-true (rank p) t.ceiling e)
            | inr e ↦ inr (ltb-true (rank q) s.ceiling e)
          ]
    ]

short : (ts : List Task) (rank : ℕ → ℕ) (inside : ℕ → Option Stay) → short_all_ok ts rank inside ≡ true → (level p : ℕ) (s : Stay) → level < rank p → p < length ts → inside p ≡ Some s → s.ceiling ≤ level → s.left ≤ (task_at ts level).block
short ts rank inside ok level p s lower below is reaches =
    let at_p = all_at (length ts) (λ q. all_below (rank q) (λ i. short_ok (task_at ts i).block i (inside q))) ok p below in
    let at_level = all_at (rank p) (λ i. short_ok (task_at ts i).block i (inside p)) at_p level lower in
    let of_s : short_ok (task_at ts level).block level (Some s) ≡ true = subst (λ o. short_ok (task_at ts level).block level o ≡ true) is at_level in
    leb-true s.left (task_at ts level).block (implied (leb s.ceiling level) (leb s.left (task_at ts level).block) of_s (le-leb s.ceiling level reaches))

stays : (ts : List Task) (rank : ℕ → ℕ) (inside : ℕ → Option Stay) → stays_ok ts rank inside ≡ true → AreStaysAt ts rank inside
stays ts rank inside ok =
    let first = and_parts (above_all_ok (length ts) rank inside) (apart_all_ok (length ts) rank inside && short_all_ok ts rank inside) ok in
    let second = and_parts (apart_all_ok (length ts) rank inside) (short_all_ok ts rank inside) first.1 in
    record { above = above (length ts) rank inside first.0; apart = apart (length ts) rank inside second.0; short = short ts rank inside second.1 }

-- ---- all of it

-- each test of a run says yes
pub record Passes (ts : List Task) (rank : ℕ → ℕ) (end : ℕ) (t : Trace) (d : Dispatch) : Type 0 where
  pub idle_first : all_below (length ts) (λ p. leb (t.before 0 p).run_left 0) ≡ true
  pub whole : all_below (suc end) (λ k. all_below (length ts) (λ p. whole_ok (t.before k p))) ≡ true
  pub opens : all_below end (λ k. all_below (length ts) (λ p. opens_ok (t.released k p) (cost_at ts (rank p)) (t.before k p) (t.after k p))) ≡ true
  pub acts : all_below end (λ k. all_below (length ts) (λ p. acts_ok (t.after k p) (t.before (suc k) p))) ≡ true
  pub spaced : all_below (length ts) (λ p. spaced_ok (task_at ts (rank p)).frame end (λ k. t.released k p)) ≡ true
  pub picks : all_below end (λ k. picks_ok (length ts) rank (d.inside k) (t.after k) (t.before (suc k)) (d.picked k)) ≡ true
  pub keeps : all_below end (λ k. keep_all_ok (length ts) (d.picked k) (d.inside k) (d.inside (suc k))) ≡ true
  pub stays : all_below (suc end) (λ k. stays_ok ts rank (d.inside k)) ≡ true

pub placed : (ts : List Task) (rank : ℕ → ℕ) (end : ℕ) (t : Trace) (d : Dispatch) → Passes ts rank end t d → IsPlaced ts rank end t d
placed ts rank end t d pass = record {
  idle_first = λ p below. let h = leb-true (t.before 0 p).run_left 0 (all_at (length ts) (λ q. leb (t.before 0 q).run_left 0) pass.idle_first p below) in omega arith;
  whole = λ k p within below. is_life (t.before k p) (each (suc end) (λ i q. whole_ok (t.before i q)) pass.whole k p (omega arith) below);
  opens = λ k p within below. opens (t.released k p) (cost_at ts (rank p)) (t.before k p) (t.after k p) (each end (λ i q. opens_ok (t.released i q) (cost_at ts (rank q)) (t.before i q) (t.after i q)) pass.opens k p within below);
  acts = λ k p within below. acts (t.after k p) (t.before (suc k) p) (each end (λ i q. acts_ok (t.after i q) (t.before (suc i) q)) pass.acts k p within below);
  spaced = λ p below. spaced (task_at ts (rank p)).frame end (λ k. t.released k p) (all_at (length ts) (λ q. spaced_ok (task_at ts (rank q)).frame end (λ k. t.released k q)) pass.spaced p below);
  picks = λ k within. picks (length ts) rank (d.inside k) (t.after k) (t.before (suc k)) (d.picked k) (all_at end (λ i. picks_ok (length ts) rank (d.inside i) (t.after i) (t.before (suc i)) (d.picked i)) pass.picks k within);
  keeps = λ k within. keep_all (length ts) (d.picked k) (d.inside k) (d.inside (suc k)) (all_at end (λ i. keep_all_ok (length ts) (d.picked i) (d.inside i) (d.inside (suc i))) pass.keeps k within);
  stays = λ k within. stays ts rank (d.inside k) (all_at (suc end) (λ i. stays_ok ts rank (d.inside i)) pass.stays k (omega arith));
}
  where
    each : (ticks : ℕ) (f : ℕ → ℕ → Bool) → all_below ticks (λ k. all_below (length ts) (f k)) ≡ true → (k p : ℕ) → k < ticks → p < length ts → f k p ≡ true
    each ticks f ok k p within below = all_at (length ts) (f k) (all_at ticks (λ i. all_below (length ts) (f i)) ok k within) p below

abbrev pub solves_ok : List Task → ℕ → ℕ → Bool
solves_ok ts level r = leb 1 r && (leb r (deadline_at ts level) && leb (demand_at ts level r) r)

pub solves : (ts : List Task) (level r : ℕ) → solves_ok ts level r ≡ true → Solves ts level r
solves ts level r ok =
    let above = and_le 1 r (leb r (deadline_at ts level) && leb (demand_at ts level r) r) ok in
    let within = and_le r (deadline_at ts level) (leb (demand_at ts level r) r) above.1 in
    record { above = above.0; within = within.0; met = leb-true (demand_at ts level r) r within.1 }
