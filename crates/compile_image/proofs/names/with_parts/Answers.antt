use Rattle.std.proofs.Common.{◌≡◌, ap, length, arith}
use Rattle.std.proofs.lemmas.List.{length-map}
use Rattle.syntax_tree.specs.Placed.{placed, plain}
use Rattle.source_semantics.specs.Names.{monitors}
use Rattle.code_names.specs.Parts.{monitor_of, seen_monitors}
use Rattle.compile_image.proofs.names.with_parts.Goals as goal

pub condition_names-requires : goal.condition_names-requires
condition_names-requires c =
    let all : length (seen_monitors c.monitors-all.result.now) ≡ length (monitors (plain (placed c.args.directory.now))) = ap length c.monitors-all.ensures in
    record { few = omega (arith, c.requires, all, length-map c.monitors-all.result.now monitor_of) }
