use Rattle.std.proofs.Common.{◌≡◌, ◌<◌, ◌+◌, ◌++◌, ◌∷◌, [], ◌⊎◌, inl, inr, ℕ, List, Bool, true, false, not, length, get_or, ap, sym, ◌∙◌, subst, arith}
use Rattle.std.specs.Prelude.{◌==◌}
use Rattle.std.specs.List.{list_any}
use Rattle.std.proofs.lemmas.Bool.{cases_eq}
use Rattle.std.proofs.lemmas.List.{get_or_append_left, get_or_push, length_push}
use Rattle.static_calls.specs.Graph.{Reaches, marked}
use Rattle.static_calls.proofs.RoundsLemmas.{reaches-from, stays-around}
use Rattle.static_calls.proofs.cycles.suspects.Goals as goal
use Rattle.static_calls.proofs.cycles.suspects.Goals.{then-not-rising, else-not-rising}

pub loop-node-preserved : goal.loop-node-preserved
loop-node-preserved c =
    let g = c.args.graph.now in
    let n = c.loop-node.node in
    let items = c.loop-node.marks.items in
    let next = c.if-not-rising.push in
    let pushed : c.push.new.self.items ≡ items ++ next ∷ [] = c.in_ok-push.ensures.items in
    let number : ℕ → ℕ = λ a. get_or c.args.numbers.now a 0 in
    let level : c.stays-level.result ≡ list_any (λ to. number to == number n) (get_or g n []) =
    c.stays-level.ensures
    ∙ ap (λ i. list_any (λ to. number to == i) c.row.result.now) c.number.ensures
    ∙ ap (λ (row : List ℕ). list_any (λ to. number to == number n) row) c.row.ensures.row in
    let last : Reaches g n n → next ≡ true = λ r. elim c.if-not-rising.branch [
      | then-not-rising w ↦ w.push-is ∙ ap not w.if-not-rising.true
      | else-not-rising w ↦ w.push-is ∙ level ∙ stays-around g number (c.all_rise-rising.ensures w.if-not-rising.false) n r
    ] in
    record {
      size = ap length pushed ∙ length_push items next ∙ ap (λ k. k + 1) c.loop-node.invariant.size;
      marks = λ k below r. subst (λ (ms : List Bool). marked ms k ≡ true) (sym pushed) (by items next n c.loop-node.invariant.size k (λ l. c.loop-node.invariant.marks k l r) (λ e. last (subst (λ i. Reaches g i i) e r)) below (cases_eq k n));
    }
  where
    by : (items : List Bool) (next : Bool) (n : ℕ) → length items ≡ n → (k : ℕ) → (k < n → marked items k ≡ true) → (k ≡ n → next ≡ true) → k < n + 1 → (k ≡ n) ⊎ (k ≡ n → ⊥) → marked (items ++ next ∷ []) k ≡ true
    by items next n size k before now below (inl same) = get_or_push items next false k (size ∙ sym same) ∙ now same
    by items next n size k before now below (inr other) = get_or_append_left items (next ∷ []) false k (omega arith) ∙ before (omega arith)

pub returns-clause-marks : goal.returns-clause-marks
returns-clause-marks c node r = c.loop-node.invariant.marks node (let l = reaches-from c.args.graph.now node node r in omega arith) r
