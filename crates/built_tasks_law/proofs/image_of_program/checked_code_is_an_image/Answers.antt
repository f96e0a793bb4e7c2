use Rattle.built_tasks_law.proofs.Joined.{code_is_an_image}
use Rattle.built_tasks_law.proofs.image_of_program.checked_code_is_an_image.Goals as goal

pub returns : goal.returns
returns c =
    code_is_an_image c.checked_programs_are_ready.ensures c.ranks_are_of_the_meaning.ensures
    c.ceilings_are_of_the_meaning.ensures
