use Rattle.message_expected.proofs.Behind as behind
use Rattle.message_expected.proofs.laws.follows_by_tokens.Goals as goal

pub returns : goal.returns
returns c text toks before after kind word listed all has fits = behind.follows text toks before after kind word listed all has fits
