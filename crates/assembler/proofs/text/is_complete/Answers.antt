use Rattle.std.proofs.Common.{◌&&◌, ◌∙◌, length, map, nat_lt, ap}
use Rattle.std.specs.List.{zip}
use Rattle.image.specs.Raw.{process_of}
use Rattle.image_reader.specs.File.{all_used}
use Rattle.assembler.proofs.Rows.{as_many}
use Rattle.assembler.proofs.text.is_complete.Goals as goal

pub returns : goal.returns
returns c =
    let p = c.args.processes.now in
    let rows = zip p.names (map process_of p.things) in
    let count = c.len.ensures ∙ as_many process_of p.names p.things c.requires.each in
    let used = c.as_slice.ensures ∙ c.requires.used in
    c.serve_all.ensures ∙ ap (λ n. nat_lt 0 n && all_used c.as_slice.result.now 0 c.args.events) count ∙ ap (λ us. nat_lt 0 (length rows) && all_used us 0 c.args.events) used
