use Rattle.std.proofs.Common.{◌≡◌, take, map}
use Rattle.message_log.specs.Seen.{form_of}
use Rattle.message_log.proofs.table.words_of.Given as goal

abbrev pub invariant-loop-form : goal.invariant-loop-form
invariant-loop-form l = map (λ word. word.now) l.all.items ≡ map (λ form. form.word) (map form_of (take l.form-index l.forms))
