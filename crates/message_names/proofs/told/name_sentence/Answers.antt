use Rattle.std.proofs.Common.{◌++◌, List, Some, ap, sym, ◌∙◌}
use Rattle.std.specs.Prelude.{option_map}
use Rattle.message_names.specs.Mentions.{Mention}
use Rattle.message_names.specs.Reach.{mention_at}
use Rattle.message_names.specs.Seen.{found, mention_of}
use Rattle.message_names.specs.Told.{name_sentence, sentence_of}
use Rattle.message_names.proofs.told.name_sentence.Goals as goal

pub returns : goal.returns
unfolding name_sentence
returns c =
    let listed = c.in-Ok.it in
    let put = c.in-Ok-add_sentence.ensures ∙ ap (λ l. l ++ sentence_of c.args.number listed (mention_of c.in-Some.mention)) c.new-sentence.ensures in
    let at = sym (ap found c.in-Some.is) ∙ c.mention_at.ensures in
    ap Some put ∙ ap (option_map (sentence_of c.args.number listed)) at
    ∙ ap (λ (ms : List Mention). option_map (sentence_of c.args.number ms) (mention_at c.args.place ms)) c.in-Ok.ensures
