use Rattle.calls_law.proofs.Accepted.{go_then_replay}
use Rattle.calls_law.proofs.accepted_programs.go_then_replay_counts.Goals as goal

pub returns : goal.returns
returns c =
    go_then_replay c.timely_texts_have_one_image.ensures
    (record { faithful = c.built_images_are_faithful.ensures; in_time = c.built_is_in_time.ensures; bounds = c.bounds_are_of_the_text.ensures })
    c.logs_of_runs_are_logs.ensures c.logs_of_accepted_programs_are_runs.ensures c.replay_is_one.ensures
