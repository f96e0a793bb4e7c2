use Rattle.vm_chart.proofs.course.Course.turn.Given as goal

abbrev pub ghost-begin_turn : goal.ghost-begin_turn
ghost-begin_turn g a = record { image = g.drawing.image; script = g.drawing.script }

abbrev pub ghost-see_all : goal.ghost-see_all
ghost-see_all g a = g.drawing

abbrev pub ghost-end_turn : goal.ghost-end_turn
ghost-end_turn g a = record { image = g.drawing.image; script = g.drawing.script }

abbrev pub ghost-note_all : goal.ghost-note_all
ghost-note_all g a = record { drawing = g.drawing; from = a.from }
