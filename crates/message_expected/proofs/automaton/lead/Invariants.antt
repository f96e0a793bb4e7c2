use Rattle.std.proofs.Common.{◌≡◌, drop, reverse}
use Rattle.message_expected.specs.Automaton as automaton
use Rattle.message_expected.proofs.automaton.lead.Given as goal

abbrev pub invariant-loop-index : goal.invariant-loop-index
invariant-loop-index l =
    automaton.reach (automaton.on l.levels (reverse l.stack.items)) (automaton.kinds_in l.text (drop l.index l.all)) ≡ automaton.reach automaton.start (automaton.kinds_in l.text l.all)
