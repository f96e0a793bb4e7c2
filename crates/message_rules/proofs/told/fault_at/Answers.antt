use Rattle.std.proofs.Common.{◌++◌, [], None}
use Rattle.std.specs.List.{flat_map}
use Rattle.syntax_tree.specs.Placed.{placed}
use Rattle.syntax_tree.specs.Parts.{processes, events}
use Rattle.static_declarations.specs.Values.{value}
use Rattle.static_declarations.specs.Parts.{parts}
use Rattle.static_numbers.specs.Types.{decls_bounds}
use Rattle.static_numbers.specs.Processes.{all_handled}
use Rattle.message_rules.specs.Findings.{part_findings, bounds_findings, process_findings, event_findings, handled_findings, count_findings}
use Rattle.message_rules.specs.Seen.{after, left}
use Rattle.message_rules.proofs.Walks.{both}
use Rattle.message_rules.proofs.told.fault_at.Goals as goal

pub returns : goal.returns
unfolding after left
returns c =
    let g = placed c.args.declarations.now in
    let of_statements = flat_map (part_findings (value g)) (parts g) in
    let of_bounds = flat_map (bounds_findings (value g)) (decls_bounds g.decls []) in
    let of_processes = flat_map (process_findings (value g)) (processes g.decls) in
    let of_events = flat_map (event_findings g) (events g.decls) in
    let of_handlers = flat_map (handled_findings (value g)) (all_handled (processes g.decls)) in
    let of_counts = count_findings g in
    let end = c.look-6.new.known in
    both c.args.broken None of_statements (of_bounds ++ (of_processes ++ (of_events ++ (of_handlers ++ of_counts)))) c.look.new.known end c.look.ensures
    (both c.args.broken c.look.new.known of_bounds (of_processes ++ (of_events ++ (of_handlers ++ of_counts))) c.look-2.new.known end c.look-2.ensures
    (both c.args.broken c.look-2.new.known of_processes (of_events ++ (of_handlers ++ of_counts)) c.look-3.new.known end c.look-3.ensures
    (both c.args.broken c.look-3.new.known of_events (of_handlers ++ of_counts) c.look-4.new.known end c.look-4.ensures
    (both c.args.broken c.look-4.new.known of_handlers of_counts c.look-5.new.known end c.look-5.ensures c.in_ok-look.ensures))))
