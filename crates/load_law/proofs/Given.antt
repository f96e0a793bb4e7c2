-- What is known of the names of a program and of its declarations, and what is to be shown of its
-- statements. What stands declared where the name used at a place is declared is `named`; what stands
-- declared at a place is `thing`.
use Rattle.std.proofs.Common.{◌≡◌, ℕ, zero, suc, Bool, true, List, [], ◌∷◌, Option, Some, None, ap, ◌∙◌}
use Rattle.syntax_tree.specs.Plain.{Name}
use Rattle.syntax_tree.specs.Placed.{int, Param, Routine, procedure}
use Rattle.syntax_tree.specs.declared.place.Place.{Place}
use Rattle.static_names.specs.declared.kind.Declared.{Declared}
use Rattle.static_names.specs.Reach.{Site, through}
use Rattle.static_names.specs.Occurrences.{Occurrence, declares, closes, used}
use Rattle.static_declarations.specs.declared.sort.Sort.TheVariants as sort_is
use Rattle.static_declarations.specs.declared.sort.VarType.TheVariants as shape_is
use Rattle.static_declarations.specs.Things.{Thing, device_thing, routine_thing, variable_thing}
use Rattle.static_declarations.specs.Parts.{Part}
use Rattle.static_types.specs.Types.{mistyped}
use Rattle.static_types.specs.Conduct.{misplaced, misdirected}

-- each of a list, part by part
abbrev pub Each : {X : Type 0} → (X → Type 0) → List X → Type 0
Each P [] = Unit {0}
Each P (x ∷ xs) = P x × Each P xs

abbrev pub AreInts : ℕ → List (Param Place) → Type 0
AreInts zero [] = Unit {0}
AreInts zero (v ∷ vs) = ⊥
AreInts (suc k) [] = ⊥
AreInts (suc k) (v ∷ vs) = (v.kind ≡ int) × AreInts k vs

module _ (named : Place → Option Thing) (thing : Place → Thing) where
  pub record IsMeant (place : Place) (means : Option Declared) : Type 0 where
    pub declared : Declared
    pub meant : means ≡ Some declared
    pub is : named place ≡ Some (thing declared.place)

  -- a use has its declaration
  abbrev pub Found : Occurrence → Type 0
  Found (declares name place taken) = Unit {0}
  Found (closes name place opening) = Unit {0}
  Found (used name place want means) = IsMeant place means

  -- a declaration is known by its place
  abbrev pub Known : Place × Thing → Type 0
  Known x = thing x.0 ≡ x.1

  -- a statement, or a result, keeps to the rules
  pub record Good (x : Part) : Type 0 where
    pub typed : mistyped named x ≡ None
    pub placed : misplaced named x ≡ None
    pub directed : misdirected named x ≡ None

  -- ---- what names stand for

  -- a variable that holds a number
  pub record IsNumber (here : Site) (name : Name) : Type 0 where
    pub declared : Declared
    pub meant : here.means name ≡ Some declared
    pub owner : Option Place
    pub is : thing declared.place ≡ variable_thing owner (shape_is.One sort_is.Number)

  pub record IsDevice (here : Site) (is_out : Bool) (name : Name) : Type 0 where
    pub declared : Declared
    pub meant : here.means name ≡ Some declared
    pub is : thing declared.place ≡ device_thing is_out

  -- an entry of the monitor, a procedure with so many parameters, all of them numbers
  pub record IsEntry (here : Site) (mon entry : Name) (count : ℕ) : Type 0 where
    pub declared : Declared
    pub meant : through here mon entry ≡ Some declared
    pub routine : Routine Place
    pub is : thing declared.place ≡ routine_thing true routine
    pub kind : routine.kind ≡ procedure
    pub params : AreInts count routine.params

  -- ---- so is what stands where they are used

  one_some : {X : Type 0} (o : Option X) (x y : X) → o ≡ Some x → o ≡ Some y → x ≡ y
  one_some None x y a b = cc
  one_some (Some z) x y a b = cc

  is_named : (place : Place) (means : Option Declared) (d : Declared) (t : Thing) → IsMeant place means → means ≡ Some d → thing d.place ≡ t → named place ≡ Some t
  is_named place means d t found meant is =
      let same = one_some means found.declared d found.meant meant in
      found.is ∙ ap (λ (e : Declared). Some (thing e.place)) same ∙ ap (λ u. Some u) is

  pub number_named : (here : Site) (name : Name) (n : IsNumber here name) (place : Place) → IsMeant place (here.means name) → named place ≡ Some (variable_thing n.owner (shape_is.One sort_is.Number))
  number_named here name n place found = is_named place (here.means name) n.declared _ found n.meant n.is

  pub device_named : (here : Site) (is_out : Bool) (name : Name) → IsDevice here is_out name → (place : Place) → IsMeant place (here.means name) → named place ≡ Some (device_thing is_out)
  device_named here is_out name d place found = is_named place (here.means name) d.declared _ found d.meant d.is

  pub entry_named : (here : Site) (mon entry : Name) (count : ℕ) (e : IsEntry here mon entry count) (place : Place) → IsMeant place (through here mon entry) → named place ≡ Some (routine_thing true e.routine)
  entry_named here mon entry count e place found = is_named place (through here mon entry) e.declared _ found e.meant e.is
