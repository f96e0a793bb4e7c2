use Rattle.std.proofs.Common.{refl}
use Rattle.std.specs.Fmt.{digits}
use Rattle.sched_response.specs.Demand.{demand_at}
use Rattle.sched_sections.specs.Sections.{block_line, blocker_text, bound_text, bounds_text, cost_line, process_line, rank_line, section_text, sum_line, taken_text, waits_lines}
use Rattle.sched_sections.proofs.text_law.known_texts.Goals as goal

pub returns : goal.returns
unfolding digits demand_at block_line blocker_text bound_text bounds_text cost_line process_line rank_line section_text sum_line taken_text waits_lines
returns c = record { wait = refl; block = refl; late = refl; over = refl }
