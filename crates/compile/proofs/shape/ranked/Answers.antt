use Rattle.syntax_tree.specs.Placed.{placed}
use Rattle.compile.proofs.Shaping.{few_processes, is_ranked}
use Rattle.compile.proofs.shape.ranked.Goals as goal

pub rank-requires : goal.rank-requires
rank-requires g c = record {
  few = few_processes (placed c.args.program.now) c.args.over c.in_ok-raw.raw
      (c.checked_programs_are_ready.ensures (placed c.args.program.now) c.requires.1.checked) c.in_ok-raw.ensures;
}

pub returns-clause-image : goal.returns-clause-image
returns-clause-image g c =
    is_ranked c.checked_programs_are_ready.ensures c.programs_that_keep_sizes_are_small.ensures c.generated_code_is_code.ensures
    c.code_has_its_length.ensures c.ranked_images_are_shaped.ensures c.shaped_images_are_in_limits.ensures
    g.text (placed c.args.program.now) c.args.over c.in_ok-raw.raw c.in_ok-image.image c.requires.1 c.in_ok-parts.ensures.parts.fits
    c.in_ok-raw.ensures c.in_ok-image.ensures.same c.in_ok-image.ensures.ranks c.in_ok-image.ensures.bounds
