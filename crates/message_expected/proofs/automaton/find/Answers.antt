use Rattle.std.proofs.Common.{◌≡◌, ◌-◌, ap, sym, ◌∙◌, get_or, reverse, take, arith}
use Rattle.message_expected.specs.Automaton.{find}
use Rattle.message_expected.specs.Stack.{turn_of}
use Rattle.message_expected.specs.declared.symbols.Symbol.TheVariants.{Name}
use Rattle.message_expected.proofs.Stacks.{empty, here, nowhere, past, top}
use Rattle.message_expected.proofs.automaton.find.Goals as goal

pub returns-then-not-is_refused : goal.returns-then-not-is_refused
returns-then-not-is_refused c =
    let stack = c.args.stack.now in
    let below = c.loop-below.below in
    let whole = top stack below Name (omega (arith, c.loop-below-test.true)) c.loop-below.invariant.0 in
    sym (here c.loop-below.levels (get_or stack (below - 1) Name) (reverse (take (below - 1) stack)) c.args.kind (turn_of c.turn-turn.result) c.turn-turn.ensures (sym c.is_refused.ensures ∙ c.if-not-is_refused.true))
    ∙ sym (ap (λ s. find c.loop-below.levels s c.args.kind) whole) ∙ c.loop-below.invariant.1

pub returns-then-not-is_optional : goal.returns-then-not-is_optional
returns-then-not-is_optional c =
    let stack = c.args.stack.now in
    let below = c.loop-below.below in
    let whole = top stack below Name (omega (arith, c.loop-below-test.true)) c.loop-below.invariant.0 in
    sym (nowhere c.loop-below.levels (get_or stack (below - 1) Name) (reverse (take (below - 1) stack)) c.args.kind (turn_of c.turn-turn.result) c.turn-turn.ensures (sym c.is_refused.ensures ∙ c.if-not-is_refused.false)
    (sym c.is_optional.ensures ∙ c.if-not-is_optional.true)) ∙ sym (ap (λ s. find c.loop-below.levels s c.args.kind) whole) ∙ c.loop-below.invariant.1

pub loop-below-preserved : goal.loop-below-preserved
loop-below-preserved c =
    let stack = c.args.stack.now in
    let below = c.loop-below.below in
    let whole = top stack below Name (omega (arith, c.loop-below-test.true)) c.loop-below.invariant.0 in (
      omega (arith, c.loop-below.invariant.0),
      ap (λ n. find n (reverse (take (below - 1) stack)) c.args.kind) c.levels_behind-levels.ensures
          ∙ sym (past c.loop-below.levels (get_or stack (below - 1) Name) (reverse (take (below - 1) stack)) c.args.kind (turn_of c.turn-turn.result) c.turn-turn.ensures (sym c.is_refused.ensures ∙ c.if-not-is_refused.false)
          (sym c.is_optional.ensures ∙ c.if-not-is_optional.false)) ∙ sym (ap (λ s. find c.loop-below.levels s c.args.kind) whole) ∙ c.loop-below.invariant.1,
    )

pub returns : goal.returns
returns c =
    let none : c.loop-below.below ≡ 0 = omega (arith, c.loop-below-test.false) in
    sym (empty c.loop-below.levels c.args.kind) ∙ sym (ap (λ n. find c.loop-below.levels (reverse (take n c.args.stack.now)) c.args.kind) none) ∙ c.loop-below.invariant.1
