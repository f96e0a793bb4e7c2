use Rattle.std.proofs.Common.{◌++◌, ◌∷◌, [], ◌∙◌, ap}
use Rattle.std.specs.Prelude.{flat_map}
use Rattle.table_format.specs.Rules.{task_names}
use Rattle.table_format.specs.Parts.{seen}
use Rattle.table_format.proofs.Turns.{seen_more}
use Rattle.table_format.proofs.Tails.{names_put}
use Rattle.table_format.proofs.names.all_names.Goals as goal

pub returns : goal.returns
returns c =
    names_put c.args.table.now (seen c.args.stays.now) _ _ _ _ c.requires (ap seen c.new-all.ensures.items) (seen_more _ _ _ c.in_ok-push.ensures.items ∙ ap (λ m. seen c.new-all.result.items ++ m ∷ []) c.as_bytes.ensures) (c.in_ok-add_names.ensures ∙ ap (λ ts. seen c.push.new.self.items ++ flat_map task_names ts) c.as_slice.ensures) c.in_ok-add_monitors.ensures
