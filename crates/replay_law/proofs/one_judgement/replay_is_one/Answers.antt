use Rattle.replay_law.proofs.ReplayOnceReplayed.{replay_is_one}
use Rattle.replay_law.proofs.one_judgement.replay_is_one.Goals as goal

pub returns : goal.returns
returns c =
    replay_is_one c.written_once.ensures c.written_or_faulty.ensures c.texts_have_one_fault.ensures c.one_script.ensures.text
    c.one_answer.ensures.script c.one_answer.ensures.fault c.judgements_are_one.ensures
