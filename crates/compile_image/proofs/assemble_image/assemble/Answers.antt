use Rattle.std.proofs.Common.{◌∙◌, ap, map}
use Rattle.syntax_tree.specs.Placed.{placed, plain}
use Rattle.image.specs.Raw.{image_of, monitor_of, process_of, routine_of}
use Rattle.compile_image.proofs.Tables.{all-fit, assembled, told-holds, told-declares}
use Rattle.compile_image.proofs.assemble_image.assemble.Goals as goal

pub named_parts-requires : goal.named_parts-requires
named_parts-requires c = record {
  over = c.requires.over;
  fits = all-fit (plain (placed c.args.program.now)) c.args.code c.args.measures.now c.requires.parts c.requires.fits c.requires.defined;
}

pub returns : goal.returns
returns c =
    let g = plain (placed c.args.program.now) in
    let k = c.args.code in
    let m = c.args.measures.now in
    let raw = c.with_code.result in
    let is = c.with_code.ensures in
    let named = c.in-Ok.ensures in
    let told = assembled g c.args.over k m raw is.over (is.names ∙ named.names)
    (ap (λ ms. map monitor_of ms) is.monitors ∙ named.monitors)
    (ap (λ rs. map routine_of rs) is.routines ∙ named.routines)
    (ap (λ ps. map process_of ps) is.processes ∙ named.processes)
    is.code in
    record {
      program = is.program ∙ named.program;
      names = is.names ∙ named.names;
      over = told.overhead;
      holds = told-holds g c.args.over k m (image_of raw) c.requires.parts c.requires.fits c.requires.defined told;
      declares = told-declares g c.args.over k m (image_of raw) c.requires.parts c.requires.fits c.requires.defined told;
    }
