use Rattle.built_tasks_law.proofs.Least.{ceilings_are}
use Rattle.built_tasks_law.proofs.ranks_and_ceilings.ceilings_are_of_the_meaning.Goals as goal

pub returns : goal.returns
returns c =
    ceilings_are c.code_enters_what_texts_touch.ensures c.texts_use_what_they_touch.ensures
    c.ranks_are_of_the_meaning.ensures
