-- The start events that are missing, found one by one.
use Rattle.std.specs.Prelude.{◌≡◌, ℕ, zero, suc, List, [], ◌∷◌}
use Rattle.std.proofs.Common.{refl, sym, ◌∙◌, ap}
use Rattle.base.specs.declared.event.Event.{Event}
use Rattle.syntax_tree.specs.Plain.{Program}
use Rattle.source_semantics.specs.Config.{Config}
use Rattle.source_semantics.specs.Starts.{NoneMissing, Script}
use Rattle.source_semantics.specs.Source.{after_start}
use Rattle.replay_reason_spec.specs.Missing.{AreMissing, IsNextStart, MayCome, enough, none, held, taken}
use Rattle.replay_reason_spec.proofs.Next.{next_is_one, next_is_some}

-- the events begin with this one
pub record BeginsWith (x : Event) (es : List Event) : Type 0 where
  pub later : List Event
  pub is : es ≡ x ∷ later

-- where there is a next one, the list begins with it
pub begins : (g : Program) (s : Script) (until n : ℕ) (c : Config) (es : List Event) (x : Event) → AreMissing g s until (suc n) c es → IsNextStart g s c until x → BeginsWith x es
begins g s until n c es x (none m d empty) next = absurd (next_is_some g s d until x empty next)
begins g s until n c es x (held m d e first busy) next = record { later = []; is = ap (λ y. y ∷ []) (next_is_one g s d until until e x first next) }
begins g s until n c es x (taken m d e later first may rest) next = record { later = later; is = ap (λ y. y ∷ later) (next_is_one g s d until until e x first next) }
