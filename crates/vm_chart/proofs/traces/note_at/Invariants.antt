use Rattle.vm_chart.proofs.traces.note_at.Given as goal

abbrev pub ghost-note_if : goal.ghost-note_if
ghost-note_if g a = g.before
