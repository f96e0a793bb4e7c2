use Rattle.std.proofs.Common.{ℕ, List, ◌++◌, ap, sym, ◌∙◌}
use Rattle.std.proofs.lemmas.Result.{on_ok_weaker}
use Rattle.load.proofs.Pieces.{eight_pieces, process-pieces}
use Rattle.load.proofs.program.add_process.Goals as goal

pub returns : goal.returns
returns c = on_ok_weaker c.extend-2.result (λ last.
    eight_pieces _ _ _ _ _ _ _ _ _ _ _ _ _ _ _ _ _
    c.in_ok-add_number.ensures c.in_ok-add_number-2.ensures c.in_ok-add_number-3.ensures c.in_ok-add_number-4.ensures c.in_ok-extend.ensures.ok c.in_ok-add_pause.ensures
    c.in_ok-add_number-5.ensures last ∙ (let e = process-pieces c.args.count c.args.number c.args.drawn in sym (ap (λ (s : List ℕ). c.args.text.now ++ s) e))) c.extend-2.ensures.ok
