use Rattle.std.proofs.Common.{Option, Some, None, arith}
use Rattle.std.specs.Prelude.{IfNone}
use Rattle.script.proofs.Readings.{parts_lack, unsaid_lacks, unsaid_end, unsaid_tick, unsaid_timed}
use Rattle.script.proofs.line.read_line.Goals as goal

if_none : {X : Type 0} (r : Option X) (P Q : Type 0) → (P → Q) → IfNone r P → IfNone r Q
if_none None P Q f h = f h
if_none (Some x) P Q f h = tt

pub timed-requires-clause-line : goal.timed-requires-clause-line
timed-requires-clause-line c = let r = parts_lack 32 10 c.args.line.now c.in-Some.parts.before.now c.in-Some.parts.after.now c.requires c.in-Some.ensures.found in r.1

pub returns-in-None-clause-none : goal.returns-in-None-clause-none
returns-in-None-clause-none c = unsaid_lacks c.args.line.now c.in-None.ensures.none

pub returns-in-None-unsigned-clause-none : goal.returns-in-None-unsigned-clause-none
returns-in-None-unsigned-clause-none c = unsaid_end c.args.line.now c.in-Some.parts.before.now c.in-Some.parts.after.now c.in-Some.ensures.found (c.is_same.ensures.yes c.if-is_same.true) c.in-None-unsigned.ensures.none

pub returns-in-None-unsigned-2-clause-none : goal.returns-in-None-unsigned-2-clause-none
returns-in-None-unsigned-2-clause-none c = unsaid_tick c.args.line.now c.in-Some.parts.before.now c.in-Some.parts.after.now c.in-Some.ensures.found (c.is_same.ensures.no c.if-is_same.false) c.in-None-unsigned-2.ensures.none

pub returns-in-Some-unsigned-2-clause-none : goal.returns-in-Some-unsigned-2-clause-none
returns-in-Some-unsigned-2-clause-none c = if_none c.timed.result _ _ (unsaid_timed c.args.line.now c.in-Some.parts.before.now c.in-Some.parts.after.now c.in-Some-unsigned-2.tick c.in-Some.ensures.found (c.is_same.ensures.no c.if-is_same.false) c.in-Some-unsigned-2.ensures.found (omega (arith, c.in-Some-unsigned-2.ensures.small))) c.timed.ensures.none
