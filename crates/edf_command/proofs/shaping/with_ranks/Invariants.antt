use Rattle.edf_command.proofs.shaping.with_ranks.Given as goal

abbrev pub ghost-ranked : goal.ghost-ranked
ghost-ranked g a = g.text
