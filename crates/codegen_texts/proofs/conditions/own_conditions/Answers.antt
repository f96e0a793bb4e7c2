use Rattle.std.proofs.Common.{◌≤◌, ◌<◌, ◌+◌, ◌∙◌, ◌∷◌, ◌++◌, ap, sym, map, drop, length, append-nil}
use Rattle.std.specs.Prelude.{filter_map}
use Rattle.std.proofs.lemmas.List.{drop_all, drop_more}
use Rattle.syntax_tree.specs.Placed.{placed_member, plain_member}
use Rattle.source_semantics.specs.Names.{condition_in}
use Rattle.code_names.specs.First.{names_of}
use Rattle.codegen_texts.proofs.conditions.own_conditions.Goals as goal

pub loop-member-preserved : goal.loop-member-preserved
loop-member-preserved c =
    let items = c.as_slice-member-items.result.now in
    let index = c.loop-member.member-index in
    let within : index < length items = c.loop-member-test.true in
    c.in_ok-list_condition.ensures (map plain_member (map placed_member (drop (index + 1) items)))
    ∙ ap (λ l. names_of c.loop-member.names.items ++ filter_map condition_in (map plain_member (map placed_member l)))
    (ap (λ m. m ∷ drop (index + 1) items) c.member-item.is ∙ sym (drop_more items index c.member-item.result within))
    ∙ c.loop-member.invariant

pub returns : goal.returns
returns c =
    let items = c.as_slice-member-items.result.now in
    let names = names_of c.loop-member.names.items in
    let all : length items ≤ c.loop-member.member-index = c.loop-member-test.false in
    c.in_ok-list.ensures ∙ sym (append-nil names)
    ∙ ap (λ l. names ++ filter_map condition_in (map plain_member (map placed_member l))) (sym (drop_all c.loop-member.member-index items all))
    ∙ c.loop-member.invariant
    ∙ ap (λ l. filter_map condition_in (map plain_member (map placed_member l))) c.as_slice-member-items.ensures
