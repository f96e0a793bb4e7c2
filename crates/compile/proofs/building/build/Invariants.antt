use Rattle.compile.proofs.building.build.Given as goal

abbrev pub ghost-ranked : goal.ghost-ranked
ghost-ranked g a = g.text
