use Rattle.std.proofs.Common.{◌≡◌, ◌∙◌, ap, length, subst, sym}
use Rattle.std.proofs.lemmas.Result.{IfOk-weaker}
use Rattle.std.proofs.lemmas.List.{length-map}
use Rattle.syntax_tree.specs.Placed.{placed, plain}
use Rattle.code_spec.specs.Numbering.{numbered}
use Rattle.code_names.specs.Texts.{text_of, texts_of}
use Rattle.compile_image.specs.Rows.{FitRows}
use Rattle.compile_image.specs.Told.{routines_told}
use Rattle.compile_image.proofs.parts.all_routines.Goals as goal

pub raw_routines-requires : goal.raw_routines-requires
raw_routines-requires c =
    let ts = c.as_slice.result.now in
    let all : texts_of ts ≡ numbered (plain (placed c.args.tables.now)) = ap texts_of c.as_slice.ensures ∙ c.order.ensures ∙ ap (λ t. numbered (plain (placed t))) c.numbering.ensures in
    let long : length (numbered (plain (placed c.args.tables.now))) ≡ length ts = ap length (sym all) ∙ length-map ts text_of in
    record {
      parts = ap length c.as_slice-2.ensures ∙ c.requires.parts ∙ long;
      rows = ap length c.as_slice-3.ensures ∙ c.requires.rows ∙ long;
      fits = subst (λ z. FitRows z c.as_slice-2.result.now c.as_slice-3.result.now) (sym all)
          (subst (λ z. FitRows (numbered (plain (placed c.args.tables.now))) z c.as_slice-3.result.now) (sym c.as_slice-2.ensures)
          (subst (λ z. FitRows (numbered (plain (placed c.args.tables.now))) c.args.code.now.routines z) (sym c.as_slice-3.ensures) c.requires.fits));
    }

pub returns : goal.returns
returns c =
    let ts = c.as_slice.result.now in
    let all : texts_of ts ≡ numbered (plain (placed c.args.tables.now)) = ap texts_of c.as_slice.ensures ∙ c.order.ensures ∙ ap (λ t. numbered (plain (placed t))) c.numbering.ensures in
    IfOk-weaker c.raw_routines.result _ _ (λ list told. told
    ∙ ap (λ z. routines_told z c.as_slice-2.result.now c.as_slice-3.result.now) all
    ∙ ap (λ z. routines_told (numbered (plain (placed c.args.tables.now))) z c.as_slice-3.result.now) c.as_slice-2.ensures
    ∙ ap (λ z. routines_told (numbered (plain (placed c.args.tables.now))) c.args.code.now.routines z) c.as_slice-3.ensures) c.raw_routines.ensures
