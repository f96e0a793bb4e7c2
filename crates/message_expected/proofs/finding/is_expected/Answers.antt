use Rattle.message_expected.specs.Stack.{reached_of}
use Rattle.message_expected.proofs.Follows.{of_deadline, of_end, of_other, word_of_other}
use Rattle.message_expected.proofs.May.{ends}
use Rattle.message_expected.proofs.finding.is_expected.Goals as goal

pub may_follow-requires : goal.may_follow-requires
may_follow-requires c = record { leads = c.requires.leads; word = word_of_other c.args.kind c.requires.word c.in_default.not-End }

pub returns-in-End : goal.returns-in-End
returns-in-End c = of_end c.args.text.now c.args.kind c.is_whole.result c.in-End.is (ends c.args.text.now (reached_of c.args.reached.now) c.is_whole.result c.requires.leads c.is_whole.ensures)

pub returns-in-Deadline : goal.returns-in-Deadline
returns-in-Deadline c = of_deadline c.args.text.now c.args.kind c.is_deadline_expected.result c.in-Deadline.is c.is_deadline_expected.ensures

pub returns-in_default : goal.returns-in_default
returns-in_default c = of_other c.args.text.now c.args.kind c.may_follow.result c.in_default.not-End c.in_default.not-Deadline c.may_follow.ensures
