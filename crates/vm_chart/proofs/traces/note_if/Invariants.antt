use Rattle.vm_chart.proofs.traces.note_if.Given as goal

abbrev pub ghost-note : goal.ghost-note
ghost-note g a = g.before
