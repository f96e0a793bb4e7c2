-- The answer to an event is determined.
use Rattle.std.specs.Prelude.{◌≡◌, Bool, true, false}
use Rattle.std.proofs.Common.{refl, sym, ◌∙◌}
use Rattle.base.specs.declared.event.Event.{Event}
use Rattle.syntax_tree.specs.Plain.{Program}
use Rattle.source_semantics.specs.Config.{Config}
use Rattle.source_semantics.specs.Starts.{Script}
use Rattle.source_semantics.specs.Source.{Step}
use Rattle.replay_due_events.specs.Accepts.{Accepts}

pub one_answer : (g : Program) (s : Script) (c : Config) (e : Event) (a b : Bool) (x y : Config) → ((p q : Config) → Step g s c e p → Step g s c e q → p ≡ q) → Accepts g s c e a x → Accepts g s c e b y → (a ≡ b) × (x ≡ y)
one_answer g s c e true true x y one h k = (refl, one x y h k)
one_answer g s c e true false x y one h k = absurd (k.0 x h)
one_answer g s c e false true x y one h k = absurd (h.0 y k)
one_answer g s c e false false x y one h k = (refl, h.1 ∙ sym k.1)
