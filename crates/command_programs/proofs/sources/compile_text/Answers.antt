use Rattle.command_programs.proofs.Ready.{readies}
use Rattle.command_programs.proofs.sources.compile_text.Goals as goal

pub returns-clause-ready : goal.returns-clause-ready
returns-clause-ready c =
    readies c.built_images_are_ready.ensures c.scripts_suit.ensures.framed c.names_of_texts_are_identifiers.ensures c.built_images_are_held.ensures c.args.over c.args.text.now c.compile.result c.requires c.compile.ensures
