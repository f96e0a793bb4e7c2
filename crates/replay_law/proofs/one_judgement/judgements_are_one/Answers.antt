use Rattle.replay_law.proofs.Judged.{judgements_are_one}
use Rattle.replay_law.proofs.one_judgement.judgements_are_one.Goals as goal

pub returns : goal.returns
returns c = judgements_are_one c.names_of_programs_are_sound.ensures c.one_log.ensures.text c.steps_are_determined.ensures
