use Rattle.static_calls.proofs.Spreading.{turned-round}
use Rattle.static_calls.proofs.graph.Graph.reaching.Goals as goal

pub returns-clause-reaching : goal.returns-clause-reaching
returns-clause-reaching c node =
    let r = c.in_ok-marks.ensures.reached node in
    let t = turned-round c.args.self.now c.in_ok-turned.turned c.args.ends.now node c.in_ok-turned.ensures.edges in
    ((λ h. t.0 (r.0 h)), λ h. r.1 (t.1 h))
