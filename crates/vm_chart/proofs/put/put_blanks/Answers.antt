use Rattle.std.proofs.Common.{◌++◌, ◌∷◌, [], ℕ, List, ap, ◌∙◌, append_assoc}
use Rattle.std.specs.Prelude.{replicate}
use Rattle.std.proofs.lemmas.List.{replicate_more}
use Rattle.vm_chart.proofs.put.put_blanks.Goals as goal

pub loop-blank-preserved : goal.loop-blank-preserved
loop-blank-preserved c =
    let n = c.loop-blank._blank in
    c.in_ok-extend.ensures.ok
    ∙ (ap (λ (bytes : List ℕ). bytes ++ 32 ∷ []) c.loop-blank.invariant
    ∙ (append_assoc c.args.text.now (replicate n 32) (32 ∷ []) ∙ ap (λ (bytes : List ℕ). c.args.text.now ++ bytes) (replicate_more n 32)))
