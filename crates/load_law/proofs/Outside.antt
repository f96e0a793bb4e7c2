-- What is known of names outside the processes and the monitor of the load, and inside them.
use Rattle.std.proofs.Common.{[], ◌∷◌, codes}
use Rattle.static_names.specs.declared.kind.Kind.TheVariants as kind_is
use Rattle.load_law.proofs.Knowing.{free, known_as, opens, Known}

abbrev pub outside : Known
outside =
    (codes "src", known_as kind_is.Device) ∷ (codes "dst", known_as kind_is.Device) ∷ (codes "m", opens)
    ∷ (codes "x", free) ∷ (codes "i", free) ∷ (codes "n", free) ∷ (codes "c", free) ∷ (codes "v", free) ∷ (codes "add", free) ∷ (codes "pause", free) ∷ []

-- where the variable of a process is declared
abbrev pub in_process : Known
in_process = (codes "x", known_as kind_is.Variable) ∷ outside

abbrev pub in_monitor : Known
in_monitor = (codes "n", known_as kind_is.Variable) ∷ (codes "c", known_as kind_is.Condition) ∷ (codes "v", free) ∷ []

-- where the parameter of the first entry is declared
abbrev pub in_add : Known
in_add = (codes "v", known_as kind_is.Variable) ∷ in_monitor
