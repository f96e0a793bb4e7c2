use Rattle.std.proofs.Common.{◌≡◌, List, Bool, ℕ, sym, ◌∙◌, ap, subst}
use Rattle.static_calls.specs.Graph.{Graph, Reaches, IsReached, marked}
use Rattle.static_calls.proofs.RoundsLemmas.{back-through, round-through}
use Rattle.static_calls.proofs.cycles.Cycles.comes_back.Goals as goal

pub returns : goal.returns
returns c =
    let g = c.self.inside.graph in
    let node = c.args.node in
    let same : g ≡ c.args.self.now = c.self.view_is in
    let mark : c.is_marked-2.result ≡ marked c.in_ok-marks.marks.items node = c.is_marked-2.ensures ∙ ap (λ (ms : List Bool). marked ms node) c.as_slice-2.ensures.value in
    let reached = c.in_ok-marks.ensures.reached node in (
      (λ h. subst (λ (w : Graph). Reaches w node node) same (back-through g node (subst (λ (row : List ℕ). IsReached g row node) c.row.ensures.row (reached.0 (sym mark ∙ h))))),
      λ r. mark ∙ reached.1 (subst (λ (row : List ℕ). IsReached g row node) (sym c.row.ensures.row) (round-through g node (subst (λ (w : Graph). Reaches w node node) (sym same) r))),
    )
