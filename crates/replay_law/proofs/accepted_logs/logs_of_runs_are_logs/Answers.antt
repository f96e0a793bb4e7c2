use Rattle.replay_law.proofs.Logged.{logs_of_runs_are_logs}
use Rattle.replay_law.proofs.accepted_logs.logs_of_runs_are_logs.Goals as goal

pub returns : goal.returns
returns c =
    logs_of_runs_are_logs c.built_images_are_ready.ensures c.valid_runs_have_lines.ensures c.made_code_has_words.ensures c.valid_runs_fit.ensures
    c.names_of_texts_are_words.ensures
