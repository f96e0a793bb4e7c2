use Rattle.std.proofs.Common.{◌≡◌, drop, map}
use Rattle.std.specs.Prelude.{bytes_eq, find}
use Rattle.message_log.specs.Seen.{form_of}
use Rattle.message_log.proofs.table.form_among.Given as goal

abbrev pub invariant-loop-form : goal.invariant-loop-form
invariant-loop-form l = find (λ form. bytes_eq form.word l.word) (map form_of (drop l.form-index l.forms)) ≡ find (λ form. bytes_eq form.word l.word) (map form_of l.forms)
