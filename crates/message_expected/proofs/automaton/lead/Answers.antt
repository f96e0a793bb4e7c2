use Rattle.std.proofs.Common.{◌+◌, ap, arith, drop, reverse, sym, ◌∙◌}
use Rattle.message_expected.specs.Automaton as automaton
use Rattle.message_expected.specs.Stack.{fed_to}
use Rattle.message_expected.proofs.Stacks.{stays_deep, stays_on, stays_stopped, step_to}
use Rattle.message_expected.proofs.automaton.lead.Goals as goal

pub returns-in-Refused : goal.returns-in-Refused
returns-in-Refused c =
    sym (stays_stopped (automaton.kinds_in c.args.text.now (drop (c.loop-index.index + 1) c.args.all.now)))
    ∙ sym (step_to c.args.text.now c.args.all.now c.loop-index.index _ c.loop-index.levels (reverse c.loop-index.stack.items) automaton.stopped (omega (arith, c.loop-index-test.true, c.loop-index.auto.index-end))
    (sym (ap (fed_to c.feed.new.stack.items) c.in-Refused.is) ∙ c.in_ok-feed.ensures ∙ ap (automaton.feed c.loop-index.levels (reverse c.loop-index.stack.items)) c.kind_in.ensures)) ∙ c.loop-index.invariant

pub returns-in-TooDeep : goal.returns-in-TooDeep
returns-in-TooDeep c =
    sym (stays_deep (automaton.kinds_in c.args.text.now (drop (c.loop-index.index + 1) c.args.all.now)))
    ∙ sym (step_to c.args.text.now c.args.all.now c.loop-index.index _ c.loop-index.levels (reverse c.loop-index.stack.items) automaton.too_deep (omega (arith, c.loop-index-test.true, c.loop-index.auto.index-end))
    (sym (ap (fed_to c.feed.new.stack.items) c.in-TooDeep.is) ∙ c.in_ok-feed.ensures ∙ ap (automaton.feed c.loop-index.levels (reverse c.loop-index.stack.items)) c.kind_in.ensures)) ∙ c.loop-index.invariant

pub loop-index-preserved : goal.loop-index-preserved
loop-index-preserved c =
    sym (step_to c.args.text.now c.args.all.now c.loop-index.index _ c.loop-index.levels (reverse c.loop-index.stack.items) (automaton.on c.in-On.left (reverse c.feed.new.stack.items)) (omega (arith, c.loop-index-test.true, c.loop-index.auto.index-end))
    (sym (ap (fed_to c.feed.new.stack.items) c.in-On.is) ∙ c.in_ok-feed.ensures ∙ ap (automaton.feed c.loop-index.levels (reverse c.loop-index.stack.items)) c.kind_in.ensures)) ∙ c.loop-index.invariant

pub returns : goal.returns
returns c =
    sym (stays_on c.args.text.now c.args.all.now c.loop-index.index c.loop-index.levels (reverse c.loop-index.stack.items) (omega (arith, c.loop-index-test.false))) ∙ c.loop-index.invariant
