use Rattle.std.proofs.Common.{◌≡◌, ◌∙◌, ap, length, subst, sym}
use Rattle.std.proofs.lemmas.Result.{IfOk-weaker}
use Rattle.std.proofs.lemmas.List.{length-map}
use Rattle.syntax_tree.specs.Placed.{placed, plain}
use Rattle.source_semantics.specs.Names.{processes}
use Rattle.code_names.specs.Parts.{process_of, seen_processes}
use Rattle.compile_image.specs.Rows.{FitSizes}
use Rattle.compile_image.specs.Told.{processes_told}
use Rattle.compile_image.proofs.parts.all_processes.Goals as goal

pub raw_processes-requires : goal.raw_processes-requires
raw_processes-requires c =
    let g = plain (placed c.args.tables.now) in
    let ps = c.processes.result.now in
    let xs = c.as_slice.result.now in
    let sizes = c.as_slice-2.result.now in
    let all : seen_processes ps ≡ processes g = c.processes.ensures ∙ ap (λ t. processes (plain (placed t))) (c.directory-directory.ensures ∙ c.numbering.ensures) in
    let long : length (processes g) ≡ length ps = ap length (sym all) ∙ length-map ps process_of in
    record {
      over = c.requires.over;
      events = c.requires.events;
      parts = ap length c.as_slice.ensures ∙ c.requires.parts ∙ long;
      sizes = ap length c.as_slice-2.ensures ∙ c.requires.sizes ∙ long;
      fits = subst (λ t. FitSizes (plain (placed t)) (seen_processes ps) xs sizes) (sym c.values.ensures)
          (subst (λ z. FitSizes g z xs sizes) (sym all) (subst (λ z. FitSizes g (processes g) z sizes) (sym c.as_slice.ensures) (subst (λ z. FitSizes g (processes g) c.args.code.now.processes z) (sym c.as_slice-2.ensures) c.requires.fits)));
    }

pub returns : goal.returns
returns c =
    let g = plain (placed c.args.tables.now) in
    let ps = c.processes.result.now in
    let xs = c.as_slice.result.now in
    let sizes = c.as_slice-2.result.now in
    let es = c.args.events.now in
    let over = c.args.over in
    let all : seen_processes ps ≡ processes g = c.processes.ensures ∙ ap (λ t. processes (plain (placed t))) (c.directory-directory.ensures ∙ c.numbering.ensures) in
    IfOk-weaker c.raw_processes.result _ _ (λ list told. told
    ∙ ap (λ t. processes_told (plain (placed t)) es over (seen_processes ps) xs sizes) c.values.ensures
    ∙ ap (λ z. processes_told g es over z xs sizes) all
    ∙ ap (λ z. processes_told g es over (processes g) z sizes) c.as_slice.ensures
    ∙ ap (λ z. processes_told g es over (processes g) c.args.code.now.processes z) c.as_slice-2.ensures) c.raw_processes.ensures
