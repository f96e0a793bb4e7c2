use Rattle.vm_chart.proofs.course.Course.row.Given as goal

abbrev pub ghost-advance_row_to : goal.ghost-advance_row_to
ghost-advance_row_to g a = record { image = g.drawing.image; script = g.drawing.script }

abbrev pub ghost-note_all : goal.ghost-note_all
ghost-note_all g a = record { drawing = g.drawing; from = a.from }
