use Rattle.std.proofs.Common.{All, subst}
use Rattle.std.proofs.lemmas.List.{take_all}
use Rattle.std.proofs.lemmas.List.Elements.{All-more}
use Rattle.machine_isa.specs.Bytes.{HasWords}
use Rattle.image_bytes.proofs.code.code_has_words.Goals as goal

pub loop-instr-preserved : goal.loop-instr-preserved
loop-instr-preserved c = All-more HasWords c.args.code.now c.loop-instr.instr-index _ c.loop-instr-test.true c.loop-instr.invariant c.instr_has_words.ensures

pub returns : goal.returns
returns c = subst (All HasWords) (take_all c.loop-instr.instr-index c.args.code.now c.loop-instr-test.false) c.loop-instr.invariant
