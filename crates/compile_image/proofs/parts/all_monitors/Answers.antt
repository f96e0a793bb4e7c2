use Rattle.std.proofs.Common.{◌≡◌, ◌≤◌, ◌∙◌, ap, subst, sym}
use Rattle.std.proofs.lemmas.Result.{IfOk-weaker}
use Rattle.syntax_tree.specs.Placed.{placed, plain}
use Rattle.source_semantics.specs.Names.{monitors}
use Rattle.code_names.specs.Parts.{seen_monitors}
use Rattle.compile_image.specs.Fields.{monitors_words}
use Rattle.compile_image.specs.Told.{monitors_told}
use Rattle.compile_image.proofs.parts.all_monitors.Goals as goal

pub raw_monitors-requires : goal.raw_monitors-requires
raw_monitors-requires c =
    let all : seen_monitors c.monitors.result.now ≡ monitors (plain (placed c.args.tables.now)) = c.monitors.ensures ∙ ap (λ t. monitors (plain (placed t))) (c.directory-directory.ensures ∙ c.numbering.ensures) in
    subst (λ ms. monitors_words (plain (placed c.values.result.now)) ms ≤ 1048576) (sym all)
    (subst (λ t. monitors_words (plain (placed t)) (monitors (plain (placed c.args.tables.now))) ≤ 1048576) (sym c.values.ensures) c.requires)

pub returns : goal.returns
returns c =
    let all : seen_monitors c.monitors.result.now ≡ monitors (plain (placed c.args.tables.now)) = c.monitors.ensures ∙ ap (λ t. monitors (plain (placed t))) (c.directory-directory.ensures ∙ c.numbering.ensures) in
    IfOk-weaker c.raw_monitors.result _ _ (λ list told.
    told ∙ ap (λ t. monitors_told (plain (placed t)) 0 (seen_monitors c.monitors.result.now)) c.values.ensures ∙ ap (λ ms. monitors_told (plain (placed c.args.tables.now)) 0 ms) all) c.raw_monitors.ensures
