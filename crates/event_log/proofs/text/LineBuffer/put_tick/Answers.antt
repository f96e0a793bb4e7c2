use Rattle.std.proofs.Common.{◌≡◌, ◌+◌, ◌++◌, decimal, length, arith, refl, ap, ◌∙◌, append_assoc, length-append}
use Rattle.event_log.proofs.TickDigits.{by_upper, tick_short}
use Rattle.event_log.proofs.text.LineBuffer.put_tick.Goals as goal
use Rattle.event_log.proofs.text.LineBuffer.put_tick.Goals.{After-put_digits}

made : (c : After-put_digits) → c.put_digits.new.self ≡ decimal c.args.tick ++ c.args.self.now
made c = rw (c.put_digits.ensures.items, c.put_four.ensures.items, c.upper_digits-upper.ensures.digits, c.upper_digits-upper.ensures.same, by_upper c.args.tick c.if-tick-lt10000.false c.requires.tick, append_assoc) refl

pub returns-clause-items : goal.returns-clause-items
returns-clause-items c = made c

pub returns-clause-len : goal.returns-clause-len
returns-clause-len c = omega (arith, tick_short c.args.tick c.requires.tick, ap length (made c) ∙ length-append (decimal c.args.tick) c.args.self.now)
