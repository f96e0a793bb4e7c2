use Rattle.code_correct.proofs.SmallLemmas.{is_faithful}
use Rattle.code_correct.proofs.code_within_limits.generated_code_is_faithful.Goals as goal

pub returns : goal.returns
returns c = is_faithful c.programs_that_keep_sizes_are_small.ensures c.what_is_made_of_a_checked_program_is_faithful.ensures
