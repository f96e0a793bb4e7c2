-- The lines of the events that are left.
use Rattle.std.proofs.Common.{◌≡◌, ◌<◌, ◌+◌, ℕ, List, ◌∷◌, ◌++◌, length, drop, get_or, ap, ◌∙◌, add-one, drop-cons}
use Rattle.base.specs.declared.event.Event.{Event}
use Rattle.image.specs.declared.names.ImageNames.{ImageNames}
use Rattle.event_log.specs.Line.{line_of, log_of}
use Rattle.vm_run.proofs.Lines.{log_of-cons}

pub log_of-drop : (names : ImageNames) (es : List Event) (i : ℕ) (d : Event) → i < length es → log_of names (drop i es) ≡ line_of names (get_or es i d) ++ log_of names (drop (i + 1) es)
log_of-drop names es i d below =
    let rest : drop i es ≡ get_or es i d ∷ drop (i + 1) es = rw add-one (drop-cons es i d below) in
    ap (log_of names) rest ∙ log_of-cons names (get_or es i d) (drop (i + 1) es)
