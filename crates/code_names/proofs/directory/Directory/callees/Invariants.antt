use Rattle.std.proofs.Common.{◌≡◌, ◌++◌, drop}
use Rattle.std.specs.Prelude.{filter_map}
use Rattle.syntax_tree.specs.Placed.{placed, plain}
use Rattle.code_spec.specs.Numbering.{called_text}
use Rattle.code_names.specs.Calls.{calls_told}
use Rattle.code_names.specs.Texts.{owner_of, text_of, texts_of}
use Rattle.code_names.specs.Parts.{callees_of}
use Rattle.code_names.proofs.directory.Directory.callees.Given as goal

abbrev pub invariant-loop-called : goal.invariant-loop-called
invariant-loop-called l = texts_of l.list.items ++ filter_map (called_text (plain (placed l.self)) (owner_of l.text.owner)) (calls_told (drop l.called-index l.called-items)) ≡ callees_of (plain (placed l.self)) (text_of l.text)
