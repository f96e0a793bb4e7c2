use Rattle.std.proofs.Common.{◌≡◌, ◌==◌, drop, map}
use Rattle.std.specs.Prelude.{find}
use Rattle.message_program.specs.Seen.{rule_of}
use Rattle.message_program.proofs.rule_rows.rule_among.Given as goal

abbrev pub invariant-loop-rule : goal.invariant-loop-rule
invariant-loop-rule l = find (λ rule. rule.number == l.number) (map rule_of (drop l.rule-index l.rules)) ≡ find (λ rule. rule.number == l.number) (map rule_of l.rules)
