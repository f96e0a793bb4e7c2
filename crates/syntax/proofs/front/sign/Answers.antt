use Rattle.std.proofs.Common.{take}
use Rattle.syntax.specs.Spellings.{signs}
use Rattle.syntax.proofs.SpellLemmas.{Contains-from, longest_two, longest_one, begins_nothing}
use Rattle.syntax.proofs.front.sign.Goals as goal

pub returns-in-Some-clause-ok : goal.returns-in-Some-clause-ok
returns-in-Some-clause-ok c =
    (longest_two c.args.bytes.now c.requires c.in-Some.ensures.within (Contains-from signs c.in-Some.at (take 2 c.args.bytes.now) c.in-Some.ensures.found), c.in-Some.ensures.found)

pub returns-in-Some-sign_of-clause-ok : goal.returns-in-Some-sign_of-clause-ok
returns-in-Some-sign_of-clause-ok c =
    (longest_one c.args.bytes.now c.requires c.in_default.ensures.none (Contains-from signs c.in-Some-sign_of.at (take 1 c.args.bytes.now) c.in-Some-sign_of.ensures.found), c.in-Some-sign_of.ensures.found)

pub returns-in-None-clause-err : goal.returns-in-None-clause-err
returns-in-None-clause-err c = begins_nothing c.args.bytes.now c.requires c.in_default.ensures.none c.in-None.ensures.none
