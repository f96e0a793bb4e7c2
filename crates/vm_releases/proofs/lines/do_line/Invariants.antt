use Rattle.vm_releases.proofs.lines.do_line.Given as goal

abbrev pub ghost-release_row : goal.ghost-release_row
ghost-release_row g a = g.image
