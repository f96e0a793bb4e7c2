-- Time-outs in the order of ranks.
use Rattle.std.proofs.Common.{◌≡◌, ◌≢◌, ◌<◌, ◌+◌, ◌-◌, ◌*◌, ℕ, suc, List, Option, Some, None, length, arith, ap, sym, subst, ◌∙◌, inl, inr}
use Rattle.std.specs.Prelude.{slice_get, slice_set}
use Rattle.base.proofs.Lists.{get_other, get_set, some_at}
use Rattle.base.specs.declared.event.Event.{Event}
use Rattle.machine_semantics.specs.Image.{Image, Process}
use Rattle.machine_semantics.specs.State.{Thread, State}
use Rattle.machine_semantics.specs.Starts.{Started, at_rank, followed, time_out, time_outs, unchanged}
use Rattle.vm_stretch.specs.StretchDue.{time_out_of}
use Rattle.vm_stretch.specs.Steps.{AreLeft, HasWaits}
use Rattle.vm_stretch.proofs.Leading.{left_same}
use Rattle.vm_stretch.proofs.Lists.{same_or_not}
use Rattle.vm_stretch.proofs.Parting.{at_rank_none, at_rank_one, none_then, time_out_none}
use Rattle.vm_stretch.proofs.Waiting.{due_of, time_out_ends}
use Rattle.vm_releases.specs.Begin.{HaveQueues, WaitsAlone, expiry_at, expiry_of}
use Rattle.vm_releases.specs.Order.{AreByRank}
use Rattle.vm_releases.proofs.Queueing.{time_out_keeps, time_out_others}

-- ---- one process

pub expiry_rests : (image : Image) (t k : ℕ) (s : State) (w : Process) → slice_get image.processes k ≡ Some w → due_of k s ≢ Some t → expiry_at image t k s ≡ unchanged s
expiry_rests image t k s w at not_due = ap (λ (o : Option Process). expiry_of image t k o s) at ∙ time_out_none image t k w s not_due

pub expiry_keeps : (image : Image) (t k : ℕ) (s s' : State) (w : Process) → slice_get image.processes k ≡ Some w → s' ≡ (expiry_at image t k s).state → HaveQueues s → HaveQueues s'
expiry_keeps image t k s s' w at is have =
    subst (λ (x : State). HaveQueues x) (sym (is ∙ ap (λ (o : Option Process). (expiry_of image t k o s).state) at)) (time_out_keeps image t k w s have)

-- the slot of the process is set to none, and all slots are right
pub expiry_waits : (image : Image) (t n k : ℕ) (s s' : State) (w : Process) (slots slots' : List (Option ℕ)) → slice_get image.processes k ≡ Some w → k < n → length slots ≡ 2 * n + 1 → HasWaits n s slots
    → s' ≡ (expiry_at image t k s).state → due_of k s ≡ Some t → slots' ≡ slice_set slots (n + k) None → HasWaits n s' slots'
expiry_waits image t n k s s' w slots slots' at below count has is due set j tick j_below slot =
    elim (same_or_not k j) [
      | inl same ↦
          let old = some_at slots (n + k) (omega (arith, below, count)) in
          let here : slice_get slots' (n + k) ≡ Some None = ap (λ (xs : List (Option ℕ)). slice_get xs (n + k)) set ∙ get_set slots (n + k) None old.0 old.1 in
          let mine : slice_get slots' (n + k) ≡ Some tick = subst (λ (i : ℕ). slice_get slots' (n + i) ≡ Some tick) (sym same) slot in
          let both : Some tick ≡ Some None = sym mine ∙ here in
          let none : tick ≡ None = cc in
          none ∙ sym (subst (λ (i : ℕ). due_of i s' ≡ None) same (subst (λ (x : State). due_of k x ≡ None) (sym state) over))
      | inr differ ↦
          let old : slice_get slots (n + j) ≡ Some tick = sym (get_other slots (n + k) (n + j) None (λ same. differ (omega (arith, same)))) ∙ ap (λ (xs : List (Option ℕ)). slice_get xs (n + j)) (sym set) ∙ slot in
          has j tick j_below old ∙ ap (λ (o : Option Thread). time_out_of o) (sym (time_out_others image t k j w s differ)) ∙ ap (λ (x : State). due_of j x) (sym state)
    ] where
      state : s' ≡ (time_out image t k w s (slice_get s.threads k)).state
      state = is ∙ ap (λ (o : Option Process). (expiry_of image t k o s).state) at

      over : due_of k (time_out image t k w s (slice_get s.threads k)).state ≡ None
      over = (let ends = time_out_ends image t k w s in elim (ends.ends.waits k) [ inl same ↦ absurd (ends.own (same ∙ due)) | inr now ↦ now.1 ])

-- ---- ranks

-- the process of the rank that comes next, if there is one
pub rank_left : (image : Image) (t i n : ℕ) (ranks : List (Option ℕ)) (k : ℕ) (go : State → Started) (s s' : State) (es es' : List Event) → AreByRank image.processes ranks → slice_get ranks i ≡ Some (Some k) → i < n
    → AreLeft go s es (time_outs image t (i + 1) (n - i)) s' es' → AreLeft go s es (λ (x : State). followed (expiry_at image t k x) (time_outs image t (i + 1 + 1) (n - (i + 1)))) s' es'
rank_left image t i n ranks k go s s' es es' by_rank at below left =
    let p = by_rank.rank i k at in
    let rest : State → Started = time_outs image t (i + 1 + 1) (n - (i + 1)) in
    let count : n - i ≡ suc (n - (i + 1)) = omega (arith, below) in
    let zero_first : 0 + k ≡ k = omega arith in
    let one : at_rank image t (i + 1) 0 image.processes s' ≡ expiry_at image t k s' =
    at_rank_one image t (i + 1) 0 k image.processes p.0 s' p.1 p.2 (λ j q there ranked. own j q there ranked)
    ∙ ap (λ (x : ℕ). time_out image t x p.0 s' (slice_get s'.threads x)) zero_first
    ∙ sym (ap (λ (o : Option Process). expiry_of image t k o s') p.1) in
    left_same go (time_outs image t (i + 1) (n - i)) (λ (x : State). followed (expiry_at image t k x) rest) s s' es es' left
    (ap (λ (m : ℕ). time_outs image t (i + 1) m s') count ∙ ap (λ (a : Started). followed a rest) one) where
      own : (j : ℕ) (q : Process) → slice_get image.processes j ≡ Some q → q.rank ≡ i + 1 → j ≡ k
      own j q there ranked =
          let place = (by_rank.place j q there).1 in
          let same : q.rank - 1 ≡ i = omega (arith, ranked) in
          let both : Some (Some j) ≡ Some (Some k) = sym place ∙ ap (λ (x : ℕ). slice_get ranks x) same ∙ at in
          cc

-- nobody has the rank
pub rank_skips : (image : Image) (t i n : ℕ) (ranks : List (Option ℕ)) (go : State → Started) (s s' : State) (es es' : List Event) → AreByRank image.processes ranks → slice_get ranks i ≡ Some None → i < n
    → AreLeft go s es (time_outs image t (i + 1) (n - i)) s' es' → AreLeft go s es (time_outs image t (i + 1 + 1) (n - (i + 1))) s' es'
rank_skips image t i n ranks go s s' es es' by_rank at below left =
    let rest : State → Started = time_outs image t (i + 1 + 1) (n - (i + 1)) in
    let count : n - i ≡ suc (n - (i + 1)) = omega (arith, below) in
    let none : at_rank image t (i + 1) 0 image.processes s' ≡ unchanged s' = at_rank_none image t (i + 1) 0 image.processes s' (λ j q there ranked. nobody j q there ranked) in
    left_same go (time_outs image t (i + 1) (n - i)) rest s s' es es' left
    (ap (λ (m : ℕ). time_outs image t (i + 1) m s') count ∙ none_then s' (at_rank image t (i + 1) 0 image.processes s') rest none) where
      nobody : (j : ℕ) (q : Process) → slice_get image.processes j ≡ Some q → q.rank ≢ i + 1
      nobody j q there ranked =
          let place = (by_rank.place j q there).1 in
          let same : q.rank - 1 ≡ i = omega (arith, ranked) in
          let both : Some (Some j) ≡ Some None = sym place ∙ ap (λ (x : ℕ). slice_get ranks x) same ∙ at in
          cc

-- ---- slots

pub alone_more : (n k : ℕ) (a b c : List (Option ℕ)) → k < n → WaitsAlone n a b → ((j : ℕ) → j ≢ n + k → slice_get c j ≡ slice_get b j) → length c ≡ length b → WaitsAlone n a c
alone_more n k a b c below alone others count = record {
  count = count ∙ alone.count;
  releases = λ j lt. others j (λ same. absurd (omega (arith, same, lt))) ∙ alone.releases j lt;
  line = others (2 * n) (λ same. absurd (omega (arith, same, below))) ∙ alone.line;
}
