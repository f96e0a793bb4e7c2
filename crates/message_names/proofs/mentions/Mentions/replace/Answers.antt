use Rattle.std.proofs.Common.{List, set, ap, ◌∙◌}
use Rattle.std.proofs.lemmas.List.{map-set}
use Rattle.message_names.specs.Mentions.{Mention}
use Rattle.message_names.specs.Seen.{mention_of}
use Rattle.message_names.proofs.mentions.Mentions.replace.Goals as goal

pub returns : goal.returns
returns c =
    map-set mention_of c.self.inside.items.items c.args.index c.args.mention
    ∙ ap (λ (l : List Mention). set l c.args.index (mention_of c.args.mention)) c.self.view_is
