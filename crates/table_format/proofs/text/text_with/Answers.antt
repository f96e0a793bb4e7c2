use Rattle.std.proofs.Common.{◌++◌, ◌∙◌, ap, codes, map}
use Rattle.std.specs.Prelude.{flat_map}
use Rattle.syntax_tree.specs.Placed.{process}
use Rattle.table_format.specs.Program.{event_of, table_process}
use Rattle.table_format.specs.Parts.{seen, declarations_text}
use Rattle.table_format.proofs.Pieces.{program_put}
use Rattle.table_format.proofs.text.text_with.Goals as goal

pub returns : goal.returns
returns c =
    program_put c.args.tail.now c.args.table.now (seen c.args.stays.now) c.new-text.result _ _ _ _ _ c.requires c.new-text.ensures
    (c.in_ok-add_parts.ensures ∙ ap (λ n. c.new-text.result ++ (codes "program " ++ (n ++ codes "\n"))) c.as_bytes-name.ensures) (c.in_ok-add_events.ensures ∙ ap (λ ts. c.add_parts.new.text ++ declarations_text (flat_map (λ p. event_of p.event) ts)) c.as_slice-tasks.ensures) c.in_ok-add_all_monitors.ensures (c.in_ok-add_processes.ensures ∙ ap (λ ts. c.add_all_monitors.new.text ++ declarations_text (map (λ p. process (table_process c.args.tail.now p)) ts)) c.as_slice-tasks.ensures) (c.in_ok-add_parts-2.ensures ∙ ap (λ n. c.add_processes.new.text ++ (codes "end " ++ (n ++ codes "\n"))) c.as_bytes-name.ensures)
