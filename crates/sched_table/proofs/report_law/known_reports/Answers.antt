use Rattle.std.proofs.Common.{refl}
use Rattle.std.specs.Fmt.{digits}
use Rattle.serde_json.proofs.OnLiterals.{serde_json_on_literals}
use Rattle.sched_table.specs.Json.{number_data, optional_data, with_deadline, process_members, monitor_data, report_data, report_json}
use Rattle.sched_table.specs.Report.{costs_text, deadline_text, monitor_text, process_text, report_text, sizes_text, times_text}
use Rattle.sched_table.proofs.report_law.known_reports.Goals as goal

pub returns : goal.returns
unfolding digits serde_json_on_literals number_data optional_data with_deadline process_members monitor_data report_data report_json costs_text deadline_text monitor_text process_text report_text sizes_text times_text
returns c = record { put = refl; mine = refl; late = refl; late_json = refl }
