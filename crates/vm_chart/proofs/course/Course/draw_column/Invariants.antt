use Rattle.vm_chart.proofs.course.Course.draw_column.Given as goal

abbrev pub ghost-draw_to : goal.ghost-draw_to
ghost-draw_to g a = g.drawing
