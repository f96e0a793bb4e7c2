use Rattle.edf_admission.proofs.asking.judge_image.Goals as goal

pub returns : goal.returns
returns c =
    let found = c.each_set_has_one_reach.ensures.some c.in_ok-set.set c.in_ok-set.ensures.valid in
    record {
      tasks = c.in_ok-set.set;
      demands = c.in_ok-set.ensures.tasks;
      valid = c.in_ok-set.ensures.valid;
      reach = found.0;
      is_reach = found.1;
      judged = c.judge.ensures found.0 found.1;
    }
