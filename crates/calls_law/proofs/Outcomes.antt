-- Parts of outcomes that are the same.
use Rattle.std.proofs.Common.{◌≡◌, ◌∙◌, ℕ, List, Some, sym, ap}
use Rattle.command_due.specs.CommandsDue.{Outcome}
use Rattle.command_due_law.proofs.DueOnceScripts.{text_once}

-- the bytes that are stored
pub image_once : (o p : Outcome) (bytes other : List ℕ) → o.image ≡ Some bytes → p.image ≡ Some other → o ≡ p → bytes ≡ other
image_once o p bytes other one two same = text_once p.image bytes other (sym (ap (λ (x : Outcome). x.image) same) ∙ one) two
