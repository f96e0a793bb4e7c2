use Rattle.message_expected.proofs.Follows.{where_a_name, where_no_name}
use Rattle.message_expected.proofs.HasWords.{has_deadline, has_name}
use Rattle.message_expected.proofs.finding.is_deadline_expected.Goals as goal

pub may_follow-requires-clause-word : goal.may_follow-requires-clause-word
may_follow-requires-clause-word c = has_name

pub may_follow-requires-2-clause-word : goal.may_follow-requires-2-clause-word
may_follow-requires-2-clause-word c = has_deadline

pub returns-then-may_follow : goal.returns-then-may_follow
returns-then-may_follow c = where_a_name c.args.text.now (c.may_follow.ensures.0 c.if-may_follow.true)

pub returns : goal.returns
returns c =
    where_no_name c.args.text.now c.may_follow-2.result (λ may. let both = c.may_follow.ensures.1 may in let false = c.if-may_follow.false in cc) c.may_follow-2.ensures
