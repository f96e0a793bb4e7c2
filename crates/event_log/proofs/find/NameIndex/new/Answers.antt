use Rattle.std.proofs.Common.{ℕ, List, [], length, ap, ◌∙◌}
use Rattle.std.specs.Prelude.{slice_get, unwrap_or}
use Rattle.event_log.specs.Line.{condition_name, monitor_name, process_name}
use Rattle.event_log.proofs.Finding.{numbers_same}
use Rattle.event_log.proofs.find.NameIndex.new.Goals as goal

pub returns-clause-found : goal.returns-clause-found
returns-clause-found c = record {
  processes_found = numbers_same c.in_ok-numbers_of.field-0.entries (length c.as_slice.result.now) (length c.args.names.now.processes) (λ k. unwrap_or (slice_get c.as_slice.result.now k) []) (process_name c.args.names.now) (ap length c.as_slice.ensures)
      (λ k below. ap (λ (xs : List (List ℕ)). unwrap_or (slice_get xs k) []) c.as_slice.ensures) c.in_ok-numbers_of.ensures;
  monitors_found = numbers_same c.in_ok-numbers_of-2.field-0.entries (length c.as_slice-2.result.now) (length c.args.names.now.monitors) (λ k. unwrap_or (slice_get c.as_slice-2.result.now k) []) (monitor_name c.args.names.now) (ap length c.as_slice-2.ensures)
      (λ k below. ap (λ (xs : List (List ℕ)). unwrap_or (slice_get xs k) []) c.as_slice-2.ensures) c.in_ok-numbers_of-2.ensures;
  conditions_found = numbers_same c.in_ok-numbers_of-3.field-0.entries (length c.as_slice-3.result.now) (length c.args.names.now.conditions) (λ k. unwrap_or (slice_get c.as_slice-3.result.now k) []) (condition_name c.args.names.now) (ap length c.as_slice-3.ensures ∙ c.requires.conditions.count)
      (λ k below. ap (λ (xs : List (List ℕ)). unwrap_or (slice_get xs k) []) c.as_slice-3.ensures ∙ c.requires.conditions.each k below) c.in_ok-numbers_of-3.ensures;
  devices_found = c.in_ok-device_numbers.ensures;
}
