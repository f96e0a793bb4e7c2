use Rattle.std.proofs.Common.{List, ◌∙◌, ap, map, subst}
use Rattle.compile.specs.Steps.{IsRanked, IsSizeFault}
use Rattle.image.specs.Raw.{image_of}
use Rattle.image.specs.declared.raw.RawMonitor.{RawMonitor}
use Rattle.image.specs.declared.raw.RawProcess.{RawProcess}
use Rattle.syntax_tree.specs.declared.decl.Program.{Program}
use Rattle.syntax_tree.specs.Placed.{placed, plain}
use Rattle.replay.specs.Told.{ceiling_told}
use Rattle.replay.proofs.Ranked.{no_size_fault, ranks_of_image}
use Rattle.replay.proofs.ranks.ranks_of.Goals as goal

pub returns-in-Ok : goal.returns-in-Ok
returns-in-Ok g c =
    let ready = c.checked_programs_are_ready.ensures (placed c.args.program.now) c.requires.program.checked in
    let ranked = subst (λ (p : Program). IsRanked (placed p) 0 c.in-Ok.image) c.prog.ensures.tree c.in-Ok.ensures.image in
    ranks_of_image c.ranks_are_of_the_meaning.ensures c.ceilings_are_of_the_meaning.ensures (plain (placed c.args.program.now)) c.in-Ok.image ready.formed ready.apart
    (c.generated_code_is_code.ensures (placed c.args.program.now) (image_of c.in-Ok.image) c.requires.program.checked c.requires.fits ranked.shaped.code)
    ranked.shaped.ranks (record { ranks = c.in_ok-ranks-in-Ok.ranks; ceilings = c.in_ok-ceilings-in-Ok.ceilings })
    (c.in_ok-ranks-in-Ok.ensures ∙ ap (λ (ps : List RawProcess). map (λ p. p.rank) ps) c.as_slice.ensures)
    (c.in_ok-ceilings-in-Ok.ensures ∙ ap (λ (ms : List RawMonitor). map (λ m. ceiling_told m.ceiling) ms) c.as_slice-in-Ok.ensures)

pub unreachable-requires : goal.unreachable-requires
unreachable-requires g c =
    no_size_fault (placed c.args.program.now) c.in-Err-TooLarge.field-0 c.in-Err-TooLarge.field-0-0 c.in-Err-TooLarge.field-0-1 c.in-Err-TooLarge.field-0-is
    (subst (λ (t : Program). IsSizeFault (placed t) c.in-Err-TooLarge.field-0) c.prog.ensures.tree c.in-Err-TooLarge.ensures.fault) c.requires.fits
