use Rattle.std.proofs.Common.{◌++◌, ◌∷◌, [], codes, ◌∙◌, append-nil}
use Rattle.std.proofs.lemmas.Result.{on_ok_weaker}
use Rattle.table_format.proofs.names.add_entry.Goals as goal

pub returns : goal.returns
returns c =
    on_ok_weaker c.add_name.result (λ put. put ∙ (λ i. c.args.made.now ++ (codes "stay" ++ ((c.as_bytes.ensures.value ∙ c.format.ensures.text) i ++ append-nil c.args.tail.now i)) ∷ [])) c.add_name.ensures
