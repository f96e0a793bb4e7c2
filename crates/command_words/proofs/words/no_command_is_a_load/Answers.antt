use Rattle.std.proofs.Common.{◌≡◌, Some, None, ap, sym, ◌∙◌}
use Rattle.command_words.specs.Words.{row_of}
use Rattle.command_words.proofs.words.no_command_is_a_load.Goals as goal

pub returns : goal.returns
returns c words call l is make =
    let none : Some call ≡ None = sym is.row ∙ ap row_of make.row in
    cc none
