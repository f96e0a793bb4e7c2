use Rattle.std.proofs.Common.{◌≡◌, ◌++◌, map, drop}
use Rattle.syntax_tree.specs.Placed.{placed, plain}
use Rattle.codegen_spec.specs.Told.{callee}
use Rattle.code_names.specs.Texts.{texts_of}
use Rattle.codegen_texts.proofs.callees.callees.Given as goal

abbrev pub invariant-loop-text : goal.invariant-loop-text
invariant-loop-text l = l.callees.items ++ map (λ t. callee (plain (placed l.tables)) t) (texts_of (drop l.text-index l.text-items)) ≡ map (λ t. callee (plain (placed l.tables)) t) (texts_of l.text-items)
