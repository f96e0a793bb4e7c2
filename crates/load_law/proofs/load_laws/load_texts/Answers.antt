use Rattle.load_law.proofs.Built.{has_instructions, has_script}
use Rattle.load_law.proofs.Faults.{is_faultless, is_never_late}
use Rattle.load_law.proofs.load_laws.load_texts.Goals as goal

pub returns-clause-faultless : goal.returns-clause-faultless
returns-clause-faultless c =
    is_faultless c.load_keeps_rules.ensures.rules c.load_keeps_rules.ensures.sizes c.load_text.ensures.tree c.load_text.ensures.only
    c.program_or_fault.ensures

pub returns-clause-timely : goal.returns-clause-timely
returns-clause-timely c = is_never_late c.load_is_in_time.ensures c.load_text.ensures.only c.load_size.ensures.same

pub returns-clause-script : goal.returns-clause-script
returns-clause-script c = has_script c.load_script.ensures.script c.load_script.ensures.device c.load_text.ensures.only c.load_size.ensures.same

pub returns-clause-instructions : goal.returns-clause-instructions
returns-clause-instructions c =
    has_instructions c.checked_programs_are_ready.ensures c.made_programs_have_their_length.ensures c.load_text.ensures.only
    c.load_size.ensures.same c.load_size.ensures.length
