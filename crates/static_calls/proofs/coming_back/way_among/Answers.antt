use Rattle.std.proofs.Common.{◌≡◌, ℕ, Bool, true, List, [], ◌∷◌, None, ap, sym, ◌∙◌, subst}
use Rattle.std.proofs.lemmas.Result.{IfOk-weaker}
use Rattle.syntax_tree.specs.Placed.{placed}
use Rattle.static_calls.specs.Graph.{ReachesOne, marked}
use Rattle.static_calls.specs.Tables.{seen_routines, places, number}
use Rattle.static_calls.proofs.Comings.{none-numbered, way-of-tables}
use Rattle.static_calls.proofs.coming_back.way_among.Goals as goal

pub returns-in_default : goal.returns-in_default
returns-in_default c =
    none-numbered (placed c.args.declarations.now) c.args.place
    (subst (λ ks. number ks c.args.place ≡ None) (c.requires.numbers ∙ ap places c.requires.routines) (sym c.number.ensures.number ∙ c.in_default.is))

pub returns : goal.returns
returns c =
    let graph = c.in_ok-graph.graph in
    let node = c.in-Some.node in
    let P : List Bool → Type 0 = λ marks. (n : ℕ) → (marked marks n ≡ true → ReachesOne graph (node ∷ []) n) × (ReachesOne graph (node ∷ []) n → marked marks n ≡ true) in
    IfOk-weaker c.marked_call_at.result _ _
    (λ callee told. way-of-tables (placed c.args.declarations.now) (seen_routines c.args.routines.now) c.args.numbers.now.keys graph c.args.place node c.as_slice.result.now callee
    c.requires.routines c.requires.numbers c.in_ok-graph.ensures.edges (sym c.number.ensures.number ∙ c.in-Some.is)
    (subst P (sym c.as_slice.ensures.value) c.in_ok-marks.ensures.reaching) told)
    c.marked_call_at.ensures
