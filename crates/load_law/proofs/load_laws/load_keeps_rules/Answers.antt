use Rattle.load_law.proofs.Rules.{keeps_rules, keeps_sizes}
use Rattle.load_law.proofs.load_laws.load_keeps_rules.Goals as goal

pub returns-clause-rules : goal.returns-clause-rules
returns-clause-rules c = keeps_rules c.load_names.ensures c.load_types.ensures c.load_limits.ensures c.load_reach.ensures c.load_numbers.ensures

pub returns-clause-sizes : goal.returns-clause-sizes
returns-clause-sizes c = keeps_sizes c.load_size.ensures.short c.load_stacks.ensures
