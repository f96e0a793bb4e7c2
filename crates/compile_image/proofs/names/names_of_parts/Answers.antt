use Rattle.std.proofs.Common.{◌≤◌, ◌∙◌, sym, ap, subst, length, map}
use Rattle.std.specs.Prelude.{filter_map}
use Rattle.syntax_tree.specs.Placed.{placed, placed_decl, plain, plain_decl}
use Rattle.source_semantics.specs.Names.{monitors, processes}
use Rattle.built_image.specs.Named.{named_conditions, named_device}
use Rattle.compile_image.proofs.Frames.{names-are}
use Rattle.compile_image.proofs.names.names_of_parts.Goals as goal

pub with_parts-requires : goal.with_parts-requires
with_parts-requires c = subst (λ t. length (monitors (plain (placed t))) ≤ 64) (sym c.requires.directory) c.requires.few

pub returns : goal.returns
returns c =
    let g = plain (placed c.args.program.now) in
    let made = c.in-Ok-with_parts.ensures in
    names-are g c.in-Ok-with_parts.it
    (made.processes ∙ ap (λ t. map (λ p. p.name) (processes (plain (placed t)))) c.requires.directory)
    (made.monitors ∙ ap (λ t. map (λ m. m.name) (monitors (plain (placed t)))) c.requires.directory)
    (made.conditions ∙ ap (λ t. named_conditions 0 (monitors (plain (placed t)))) c.requires.directory)
    (made.devices ∙ c.in-Ok-device_names.ensures ∙ ap (λ ds. filter_map named_device (map plain_decl (map placed_decl ds))) c.as_slice.ensures)
    (made.events ∙ c.in-Ok.ensures)
