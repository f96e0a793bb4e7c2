use Rattle.std.proofs.Common.{◌-◌, ap, ◌∙◌, arith}
use Rattle.message_names.specs.Mentions.{last_place}
use Rattle.message_names.proofs.Loops.{last-at}
use Rattle.message_names.proofs.mentions.Mentions.last_place.Goals as goal

pub returns : goal.returns
returns c =
    last-at c.args.place c.self.inside.items.items c.index.result.now (c.len-count.result - 1) (omega arith) c.index.ensures
    ∙ ap (last_place c.args.place) c.self.view_is
