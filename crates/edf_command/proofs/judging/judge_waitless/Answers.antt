use Rattle.syntax_tree.specs.Placed.{placed}
use Rattle.edf_command.proofs.Sized.{no_size_fault}
use Rattle.edf_command.proofs.judging.judge_waitless.Goals as goal

pub judge_program-requires : goal.judge_program-requires
judge_program-requires g c = c.requires.0.program

pub returns-in-Ok-clause-subject : goal.returns-in-Ok-clause-subject
returns-in-Ok-clause-subject g c =
    let is = c.in-Ok.ensures.judged in
    record {
      judged = record { tree = placed c.args.program.now; written = c.requires.0; waitless = c.requires.1; image = is.shape.image; answered = is.answered };
      valid = is.valid;
    }

pub unreachable-requires : goal.unreachable-requires
unreachable-requires g c =
    no_size_fault (placed c.args.program.now) c.in-Err-TooLarge.field-0 c.in-Err-TooLarge.field-0-0 c.in-Err-TooLarge.field-0-1 c.in-Err-TooLarge.field-0-is c.in-Err-TooLarge.ensures.fault c.requires.0.fits
