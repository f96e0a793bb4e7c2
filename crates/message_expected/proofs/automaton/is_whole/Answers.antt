use Rattle.std.proofs.Common.{ap, sym, ◌∙◌}
use Rattle.std.specs.List.{list_all}
use Rattle.message_expected.specs.Automaton as automaton
use Rattle.message_expected.specs.Stack.{reached_of}
use Rattle.message_expected.proofs.Stacks.{all_reversed}
use Rattle.message_expected.proofs.automaton.is_whole.Goals as goal

pub returns-in-On : goal.returns-in-On
returns-in-On c =
    c.are_optional.ensures ∙ ap (list_all automaton.is_optional) c.as_slice.ensures.value ∙ sym (all_reversed automaton.is_optional c.in-On.stack.items)
    ∙ sym (ap (λ it. automaton.is_whole (reached_of it)) c.in-On.is)
