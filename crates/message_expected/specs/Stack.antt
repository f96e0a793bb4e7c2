-- The automaton as the code has it: slices of symbols, and a stack whose top stands last.
use Rattle.std.specs.Prelude.{List, Option, None, Some, reverse, take}
use Rattle.message_expected.specs.Automaton.{Head, refused, along, inside, Turn, Found, Reached, stopped, too_deep, on}
use Rattle.message_expected.specs.declared.symbols.Symbol.{Symbol}
use Rattle.message_expected.specs.declared.symbols.Head.{Head as CodeHead}
use Rattle.message_expected.specs.declared.symbols.Head.TheVariants as head
use Rattle.message_expected.specs.declared.symbols.Turn.{Turn as CodeTurn}
use Rattle.message_expected.specs.declared.automaton.Found.{Found as CodeFound}
use Rattle.message_expected.specs.declared.automaton.Fed.{Fed}
use Rattle.message_expected.specs.declared.automaton.Fed.TheVariants as fed
use Rattle.message_expected.specs.declared.automaton.Reached.{Reached as CodeReached}
use Rattle.message_expected.specs.declared.automaton.Reached.TheVariants as reached

abbrev pub head_of : CodeHead → Head
head_of head.Refused = refused
head_of (head.Along symbols) = along symbols.now
head_of (head.Inside symbols) = inside symbols.now

abbrev pub turn_of : CodeTurn → Turn
turn_of turn = record { head = head_of turn.head; behind = turn.behind.now }

-- what is found on this stack, by how many stand below it
abbrev pub found_on : List Symbol → Option CodeFound → Option Found
found_on stack None = None
found_on stack (Some found) = Some (record { levels = found.levels; turn = turn_of found.turn; below = reverse (take found.below stack) })

-- where a word has led, by the stack that it left
abbrev pub fed_to : List Symbol → Fed → Reached
fed_to stack fed.Refused = stopped
fed_to stack fed.TooDeep = too_deep
fed_to stack (fed.On levels) = on levels (reverse stack)

abbrev pub reached_of : CodeReached → Reached
reached_of reached.Stopped = stopped
reached_of reached.TooDeep = too_deep
reached_of (reached.On levels stack) = on levels (reverse stack.items)
