use Rattle.std.proofs.Common.{◌∙◌, ◌∷◌, List, ap, sym, refl, map, drop, ◌+◌}
use Rattle.syntax_tree.specs.Plain.{Program}
use Rattle.syntax_tree.specs.Placed.{placed, plain}
use Rattle.syntax_tree.specs.declared.decl.Program.{Program as Tree}
use Rattle.codegen_spec.specs.Told.{callee}
use Rattle.codegen_spec.specs.declared.var_location.Callee.{Callee}
use Rattle.code_names.specs.declared.text.Body.{Body}
use Rattle.code_names.specs.Texts.{texts_of}
use Rattle.code_names.specs.Parts.{all_texts}
use Rattle.codegen_texts.proofs.Turns.{turn, last}
use Rattle.codegen_texts.proofs.callees.callees.Goals as goal

abbrev listed : Program → List Body → List Callee
listed g l = map (λ t. callee g t) (texts_of l)

pub loop-text-preserved : goal.loop-text-preserved
loop-text-preserved c =
    let all = listed (plain (placed c.args.tables.now)) in
    let items = c.as_slice-text-items.result.now in
    let at = c.loop-text.text-index in
    turn all all c.loop-text.callees.items c.push.new.self.items items at c.text-item.result c.in_ok-told.told (all items)
    (ap (λ t. t ∷ all (drop (at + 1) items)) (sym c.in_ok-told.ensures)) c.in_ok-push.ensures.items c.text-item.is c.loop-text-test.true c.loop-text.invariant

pub returns : goal.returns
returns c =
    let g = plain (placed c.args.tables.now) in
    let items = c.as_slice-text-items.result.now in
    last (listed g) c.loop-text.callees.items items c.loop-text.text-index (listed g items) refl c.loop-text-test.false c.loop-text.invariant
    ∙ ap (listed g) c.as_slice-text-items.ensures ∙ ap (map (callee g)) (c.texts.ensures ∙ ap (λ (t : Tree). all_texts (plain (placed t))) (c.directory.ensures ∙ c.numbering.ensures))
