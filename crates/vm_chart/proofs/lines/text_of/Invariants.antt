use Rattle.vm_chart.proofs.lines.text_of.Given as goal

abbrev pub ghost-put_ranks : goal.ghost-put_ranks
ghost-put_ranks g a = g.script
