use Rattle.std.proofs.Common.{◌≡◌, ◌∙◌, ap, subst, List, ℕ, Option}
use Rattle.code_names.specs.First.{index_of, names_of, first_index}
use Rattle.code_names.proofs.NameListTable.{finds-index}
use Rattle.code_names.proofs.name_list.NameList.index.Goals as goal

pub returns : goal.returns
returns c =
    let P : List (List ℕ) → Type 0 = λ ns. c.copied.result ≡ index_of c.args.name.now ns in
    subst P c.self.view_is
    (c.copied.ensures ∙ c.get.ensures.value ∙ ap (λ n. first_index c.self.inside.first.entries n) c.as_bytes-2.ensures ∙ ap (λ f. f c.args.name.now) c.self.invariant.finds ∙ finds-index (names_of c.self.inside.names.items) c.args.name.now)
