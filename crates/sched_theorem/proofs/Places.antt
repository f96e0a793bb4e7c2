-- A run by places is one by ranks.
use Rattle.std.proofs.Common.{◌≡◌, ℕ, suc, inl, inr, List, length, arith, ap, sym, subst, ◌∙◌}
use Rattle.std.specs.Prelude.{true, Option, Some, None}
use Rattle.sched_response.specs.declared.tasks.Task.{Task}
use Rattle.sched_theorem.specs.Limited.{AreLimited}
use Rattle.sched_theorem.specs.Stretches.{Life, Trace, Opens, Spaced}
use Rattle.sched_response.specs.Demand.{task_at, deadline_at}
use Rattle.sched_theorem.specs.Ranked.{cost_at, EndsWithin}
use Rattle.sched_theorem.specs.Dispatched.{Stay, Dispatch, active_rank, PicksOf, KeepsStays, AreStays, IsDispatched}
use Rattle.sched_theorem.specs.InTime.{AreBounds}
use Rattle.sched_theorem.specs.Placed.{AreRanks, PicksAt, AreStaysAt, IsPlaced, by_rank, IsInTimeAt, MeetsDeadlinesAt}
use Rattle.sched_theorem.proofs.Ceilings.{stay_at, is_ranked}
use Rattle.sched_theorem.proofs.InTime.{in_time, ends_sooner}

abbrev rank_picked : (ℕ → ℕ) → Option ℕ → Option ℕ
rank_picked rank None = None
rank_picked rank (Some p) = Some (rank p)

abbrev dispatch_by_rank : (ℕ → ℕ) → (ℕ → ℕ) → Dispatch → Dispatch
dispatch_by_rank rank place d = record { picked = λ k. rank_picked rank (d.picked k); inside = λ k j. d.inside k (place j) }

picks_by_rank : (n : ℕ) (rank place : ℕ → ℕ) (inside : ℕ → Option Stay) (a b : ℕ → Life) (o : Option ℕ) → AreRanks n rank place → PicksAt n rank inside a b o → PicksOf n (λ j. inside (place j)) (λ j. a (place j)) (λ j. b (place j)) (rank_picked rank o)
picks_by_rank n rank place inside a b None are none = λ q below ready. none (place q) (are.place_below q below) ready
picks_by_rank n rank place inside a b (Some p) are one = record {
  of_these = are.rank_below p one.of_these;
  least = λ q below ready.
      let h = one.least (place q) (are.place_below q below) ready in
      let e = ap (λ i. active_rank (rank p) (inside i)) (are.back p one.of_these) in
      let f = ap (λ i. active_rank i (inside (place q))) (are.there q below) in
      omega arith;
  falls =
      let e = ap (λ i. (b i).run_left) (are.back p one.of_these) in
      let f = ap (λ i. (a i).run_left) (are.back p one.of_these) in
      let h = one.falls in
      omega arith;
}

-- the place of the rank that is picked
picked_place : (n : ℕ) (rank place : ℕ → ℕ) (inside : ℕ → Option Stay) (a b : ℕ → Life) (o : Option ℕ) (j : ℕ) → AreRanks n rank place → PicksAt n rank inside a b o → rank_picked rank o ≡ Some j → o ≡ Some (place j)
picked_place n rank place inside a b None j are none is = absurd (cc)
picked_place n rank place inside a b (Some p) j are one is =
    let same : rank p ≡ j = cc in
    ap Some (sym (are.back p one.of_these) ∙ ap place same)

keeps_by_rank : (n : ℕ) (rank place : ℕ → ℕ) (inside inside_after : ℕ → Option Stay) (a b : ℕ → Life) (o : Option ℕ) → AreRanks n rank place → PicksAt n rank inside a b o → KeepsStays n o inside inside_after → KeepsStays n (rank_picked rank o) (λ j. inside (place j)) (λ j. inside_after (place j))
keeps_by_rank n rank place inside inside_after a b o are picks keeps = record {
  takes = λ j below is. keeps.takes (place j) (are.place_below j below) (picked_place n rank place inside a b o j are picks is);
  others = λ j below other. keeps.others (place j) (are.place_below j below) (λ is. other (ap (rank_picked rank) is ∙ ap Some (are.there j below)));
}

stays_by_rank : (ts : List Task) (rank place : ℕ → ℕ) (inside : ℕ → Option Stay) → AreRanks (length ts) rank place → AreStaysAt ts rank inside → AreStays ts (λ j. inside (place j))
stays_by_rank ts rank place inside are stays = record {
  above = λ j s below is. let h = stays.above (place j) s (are.place_below j below) is in let e = are.there j below in omega arith;
  apart = λ i j s t less below is_i is_j.
      let e = are.there i (omega arith) in
      let f = are.there j below in
      elim (stays.apart (place i) (place j) s t (are.place_below i (omega arith)) (are.place_below j below) (λ same. let g = ap rank same in absurd (omega arith)) is_i is_j) [
        | inl h ↦ inl (omega arith)
        | inr h ↦ inr (omega arith)
      ];
  short = λ level j s lower below is higher. let e = are.there j below in stays.short level (place j) s (omega arith) (are.place_below j below) is higher;
}

pub is_dispatched : (ts : List Task) (rank place : ℕ → ℕ) (end : ℕ) (t : Trace) (d : Dispatch) → AreRanks (length ts) rank place → IsPlaced ts rank end t d → IsDispatched ts end (by_rank place t) (dispatch_by_rank rank place d)
is_dispatched ts rank place end t d are placed = record {
  idle_first = λ j below. placed.idle_first (place j) (are.place_below j below);
  run = record {
    whole = λ k j within below. placed.whole k (place j) within (are.place_below j below);
    opens = λ k j within below.
        let P : ℕ → Type 0 = λ i. Opens (t.released k (place j)) (cost_at ts i) (t.before k (place j)) (t.after k (place j)) in
        subst P (are.there j below) (placed.opens k (place j) within (are.place_below j below));
    acts = λ k j within below. placed.acts k (place j) within (are.place_below j below);
  };
  spaced = λ j below.
      let P : ℕ → Type 0 = λ i. Spaced (task_at ts i).frame end (λ k. t.released k (place j)) in
      subst P (are.there j below) (placed.spaced (place j) (are.place_below j below));
  picks = λ k within. picks_by_rank (length ts) rank place (d.inside k) (t.after k) (t.before (suc k)) (d.picked k) are (placed.picks k within);
  keeps = λ k within. keeps_by_rank (length ts) rank place (d.inside k) (d.inside (suc k)) (t.after k) (t.before (suc k)) (d.picked k) are (placed.picks k within) (placed.keeps k within);
  stays = λ k within. stays_by_rank ts rank place (d.inside k) are (placed.stays k within);
}

-- an end by rank is one at the place
end_at_place : (place : ℕ → ℕ) (t : Trace) (j release bound : ℕ) → EndsWithin (by_rank place t) j release bound → EndsWithin t (place j) release bound
end_at_place place t j release bound e = record {
  tick = e.tick;
  since = e.since;
  soon = e.soon;
  ends = record { active = e.ends.active; idle = e.ends.idle };
  goes_on = e.goes_on;
}

pub in_time_at : (ts : List Task) (rank place bounds : ℕ → ℕ) (end : ℕ) (t : Trace) (d : Dispatch) → AreLimited ts → AreBounds ts bounds → AreRanks (length ts) rank place → IsPlaced ts rank end t d → IsInTimeAt ts rank place bounds end t
in_time_at ts rank place bounds end t d tasks solve are placed =
    let dispatched = is_dispatched ts rank place end t d are placed in
    let timed = in_time ts bounds end (by_rank place t) (λ level k. stay_at ts (λ j. d.inside k (place j)) level) tasks solve (is_ranked ts end (by_rank place t) (dispatch_by_rank rank place d) dispatched) in
    record {
      stretches = timed.stretches;
      idle = λ k p below within released.
          let e = are.back p below in
          let is : t.released k (place (rank p)) ≡ true = ap (t.released k) e ∙ released in
          let P : ℕ → Type 0 = λ i. (t.before k i).run_left ≡ 0 in
          subst P e (timed.idle k (rank p) (are.rank_below p below) within is);
      ends = λ k p below within released.
          let e = are.back p below in
          let is : t.released k (place (rank p)) ≡ true = ap (t.released k) e ∙ released in
          let P : ℕ → Type 0 = λ i. EndsWithin t i k (bounds (rank p)) in
          subst P e (end_at_place place t (rank p) k (bounds (rank p)) (timed.ends k (rank p) (are.rank_below p below) within is));
    }

pub meets_deadlines_at : (ts : List Task) (rank place bounds : ℕ → ℕ) (end : ℕ) (t : Trace) → AreBounds ts bounds → AreRanks (length ts) rank place → IsInTimeAt ts rank place bounds end t → MeetsDeadlinesAt ts rank bounds end t
meets_deadlines_at ts rank place bounds end t solve are is k p below within released =
    ends_sooner t p k (bounds (rank p)) (deadline_at ts (rank p)) (solve (rank p) (are.rank_below p below)).within (is.ends k p below within released)
