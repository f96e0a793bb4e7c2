use Rattle.std.proofs.Common.{ℕ, List, ◌<◌, get_or}
use Rattle.text_fields.specs.Fields.{IsWord}
use Rattle.event_log.proofs.words.are_names.Given as goal

abbrev pub invariant-loop-name : goal.invariant-loop-name
invariant-loop-name l = (i : ℕ) (d : List ℕ) → i < l.name-index → IsWord (get_or l.list i d)
