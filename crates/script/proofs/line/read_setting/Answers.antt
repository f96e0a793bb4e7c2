use Rattle.script.proofs.Readings.{parts_lack, no_setting, no_device, no_value}
use Rattle.script.proofs.line.read_setting.Goals as goal

pub is_word-requires : goal.is_word-requires
is_word-requires c = let r = parts_lack 32 10 c.args.bytes.now c.in-Some.parts.before.now c.in-Some.parts.after.now c.requires c.in-Some.ensures.found in r.0

pub returns-then-not-is_word-clause-none : goal.returns-then-not-is_word-clause-none
returns-then-not-is_word-clause-none c = no_device c.args.bytes.now c.in-Some.parts.before.now c.in-Some.parts.after.now c.in-Some.ensures.found (c.is_word.ensures.no c.if-not-is_word.true)

pub returns-in-None-clause-none : goal.returns-in-None-clause-none
returns-in-None-clause-none c = no_setting c.args.bytes.now c.in-None.ensures.none

pub returns-in-None-signed-clause-none : goal.returns-in-None-signed-clause-none
returns-in-None-signed-clause-none c = no_value c.args.bytes.now c.in-Some.parts.before.now c.in-Some.parts.after.now c.in-Some.ensures.found c.in-None-signed.ensures.none
