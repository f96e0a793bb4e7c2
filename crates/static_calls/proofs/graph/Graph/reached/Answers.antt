use Rattle.std.proofs.Common.{◌≡◌, ◌++◌, [], List, Bool, true, false, ℕ, length, take, drop, replicate, sym, ◌∙◌, subst, arith}
use Rattle.static_calls.specs.Graph.{marked, IsReached}
use Rattle.static_calls.specs.Marks.{AreMarked, AreSpread}
use Rattle.static_calls.proofs.Edges.{lent-whole}
use Rattle.static_calls.proofs.Spreading.{reached-are}
use Rattle.static_calls.proofs.graph.Graph.reached.Goals as goal

pub returns-clause-reached : goal.returns-clause-reached
returns-clause-reached c =
    let g = c.args.self.now in
    let starts = c.args.starts.now in
    let size = c.size.result in
    let first = c.mark_all.new.marks in
    let last = c.spread.new.marks in
    let len = c.in_ok-marks.marks.len in
    let items = c.in_ok-marks.marks.items in
    let none : c.deref_mut.result.now ≡ replicate size false = c.deref_mut.ensures.value ∙ c.in_ok-marks.ensures.items_if_clones_equal (λ y e. e) in
    let between : take len (first ++ drop (length first) items) ≡ first = lent-whole len items first (omega arith) in
    let whole : take len (last ++ drop (length last) (take len (first ++ drop (length first) items))) ≡ last = lent-whole len (take len (first ++ drop (length first) items)) last (omega arith) in
    let marked_first : AreMarked (replicate size false) [] starts first c.mark_all.new.found.items =
    subst (λ f. AreMarked (replicate size false) f starts first c.mark_all.new.found.items) c.new-found.ensures.items
    (subst (λ m. AreMarked m c.new-found.result.items starts first c.mark_all.new.found.items) none c.in_ok-mark_all.ensures) in
    let spread : AreSpread g first last = subst (λ m. AreSpread g m last) (c.deref_mut-2.ensures.value ∙ between) c.in_ok-spread.ensures in
    let P : List Bool → Type 0 = λ m. (node : ℕ) → (marked m node ≡ true → IsReached g starts node) × (IsReached g starts node → marked m node ≡ true) in
    subst P (sym whole) (reached-are g size starts first last c.mark_all.new.found.items marked_first spread)
