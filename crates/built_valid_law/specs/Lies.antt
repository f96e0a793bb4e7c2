-- Variables that lie in an area of words.
use Rattle.std.specs.Prelude.{◌≡◌, ℕ, true, pos, List, [], ◌∷◌, Option, Some, None, int_le}
use Rattle.source_semantics.specs.Store.{Range}
use Rattle.machine_semantics.specs.Image.{Image}
use Rattle.valid_image.specs.Operands.{Area, Whose, in_area, bad_array, local_words, own_words, monitor_words}
use Rattle.code_spec.specs.Layout.{Shape, single, array, Place, Area as KindOfArea, in_frame, in_process, in_monitor, Spot}

-- one word is of the area; an array ends in it, has as many words as an instruction may name, and a
-- word as its last index
abbrev pub ShapeLies : Area → (word : ℕ) → Shape → Type 0
ShapeLies x w single = in_area x (pos w) ≡ true
ShapeLies x w (array low len) = bad_array x (pos w) low (pos len) ≡ None

-- the bounds of a range are in order
abbrev pub InOrder : Option Range → Type 0
InOrder None = Unit {0}
InOrder (Some r) = int_le r.low r.high ≡ true

pub record Lies (x : Area) (p : Place) : Type 0 where
  pub shape : ShapeLies x p.word p.shape
  pub range : InOrder p.range

abbrev pub AllLie : Area → List Place → Type 0
AllLie x [] = Unit {0}
AllLie x (p ∷ ps) = Lies x p × AllLie x ps

-- the words of an area that the code may name
abbrev pub area_of : Image → Whose → KindOfArea → Area
area_of m w in_frame = local_words w
area_of m w in_process = own_words m w
area_of m w in_monitor = monitor_words m w

-- the variable, if there is one, lies in its area
abbrev pub SpotLies : Image → Whose → Option Spot → Type 0
SpotLies m w None = Unit {0}
SpotLies m w (Some s) = Lies (area_of m w s.area) s.place
