use Rattle.vm_chart.proofs.lines.put_if.Given as goal

abbrev pub ghost-put_process : goal.ghost-put_process
ghost-put_process g a = g.script
