-- Start events that are due and have not come, in the order in which they would come.
use Rattle.std.specs.Prelude.{◌≡◌, ℕ, zero, suc, ◌≤◌, ◌<◌, Bool, true, false, List, [], ◌∷◌, slice_get}
use Rattle.base.specs.declared.event.Event.{Event}
use Rattle.base.specs.declared.event.Act.{Act}
use Rattle.base.specs.declared.event.Act.TheVariants as act
use Rattle.syntax_tree.specs.Plain.{Program}
use Rattle.source_semantics.specs.Config.{Config}
use Rattle.source_semantics.specs.Starts.{NoneMissing, Script, due}
use Rattle.source_semantics.specs.Source.{MayStart, after_start}

abbrev pub is_start : Act → Bool
is_start act.Release = true
is_start (act.TimeOut c number) = true
is_start _ = false

-- the event finds its process as a start event needs it: a release finds it idle
abbrev pub MayCome : Config → Event → Type 0
MayCome c e = MayStart e.act (slice_get c.jobs e.proc)

-- the event is the first start event that is due before tick until and has not come
pub record IsNextStart (g : Program) (s : Script) (c : Config) (until : ℕ) (e : Event) : Type 0 where
  pub reached : c.tick ≤ e.tick
  pub before : e.tick < until
  pub none_before : NoneMissing g s c e.tick
  pub later : List Event
  pub first : due g s c e.tick ≡ e ∷ later

-- the first n of the start events that are due before tick until and have not come, in the order in
-- which they are due, each taken before the next is asked for. One that may not come is the last.
pub data AreMissing (g : Program) (s : Script) (until : ℕ) : (n : ℕ) → Config → List Event → Type 0 where
  enough : (c : Config) → AreMissing g s until zero c []
  none : (n : ℕ) (c : Config) → NoneMissing g s c until → AreMissing g s until (suc n) c []
  held : (n : ℕ) (c : Config) (e : Event) → IsNextStart g s c until e → (MayCome c e → ⊥) → AreMissing g s until (suc n) c (e ∷ [])
  taken : (n : ℕ) (c : Config) (e : Event) (es : List Event) → IsNextStart g s c until e → MayCome c e → AreMissing g s until n (after_start g c e) es
      → AreMissing g s until (suc n) c (e ∷ es)
