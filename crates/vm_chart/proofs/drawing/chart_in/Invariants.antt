use Rattle.vm_chart.proofs.drawing.chart_in.Given as goal

abbrev pub ghost-new : goal.ghost-new
ghost-new g a = g.drawing.image

abbrev pub ghost-go_to : goal.ghost-go_to
ghost-go_to g a = g.drawing

abbrev pub ghost-draw : goal.ghost-draw
ghost-draw g a = g.drawing.image

abbrev pub ghost-text_of : goal.ghost-text_of
ghost-text_of g a = g.drawing.script
