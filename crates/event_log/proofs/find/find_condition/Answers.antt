use Rattle.std.proofs.Common.{length}
use Rattle.event_log.specs.Line.{condition_name}
use Rattle.event_log.proofs.Finding.{is_within, is_found, is_none}
use Rattle.event_log.proofs.find.find_condition.Goals as goal

pub returns-clause-within : goal.returns-clause-within
returns-clause-within c = is_within c.find.result _ (length c.args.names.now.names.now.conditions) (condition_name c.args.names.now.names.now) c.args.word.now c.find.ensures (c.requires.conditions_found c.args.word.now)

pub returns-clause-found : goal.returns-clause-found
returns-clause-found c = is_found c.find.result _ (length c.args.names.now.names.now.conditions) (condition_name c.args.names.now.names.now) c.args.word.now c.find.ensures (c.requires.conditions_found c.args.word.now)

pub returns-clause-none : goal.returns-clause-none
returns-clause-none c = is_none c.find.result _ (length c.args.names.now.names.now.conditions) (condition_name c.args.names.now.names.now) c.args.word.now c.find.ensures (c.requires.conditions_found c.args.word.now)
