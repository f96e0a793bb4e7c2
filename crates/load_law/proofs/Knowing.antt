-- What is known of names where they stand: by a list of them, with no place.
use Rattle.std.proofs.Common.{◌≡◌, Bool, true, false, ◌||◌, List, [], ◌∷◌, Option, Some, None, codes, refl, ap, sym, ◌∙◌, subst}
use Rattle.std.specs.Prelude.{if◌then◌else◌}
use Rattle.syntax_tree.specs.Plain.{Name}
use Rattle.static_names.specs.declared.kind.Declared.{Declared}
use Rattle.static_names.specs.declared.kind.Kind.{Kind}
use Rattle.static_names.specs.declared.kind.Kind.TheVariants as kind_is
use Rattle.static_names.specs.Reach.{same, Names, first, or_else, Site, inside, members_of, through}
use Rattle.wellformed_law.proofs.Lookups.{same-is}

-- a name means nothing, or is of a kind, or is that of a monitor whose entries are those of the load
pub data Fact : Type 0 where
  free : Fact
  known_as : Kind → Fact
  opens : Fact

abbrev pub Known : Type 0
Known = List (Name × Fact)

abbrev pub known : Known → Name → Option Fact
known [] name = None
known (e ∷ es) name = if same name e.0 then Some e.1 else known es name

abbrev pub kind_of : Option Declared → Option Kind
kind_of None = None
kind_of (Some d) = Some d.kind

abbrev pub is_entry : Name → Bool
is_entry name = same name (codes "add") || same name (codes "pause")

abbrev pub Holds : Site → Name → Fact → Type 0
Holds here name free = here.means name ≡ None
Holds here name (known_as k) = kind_of (here.means name) ≡ Some k
Holds here name opens = (kind_of (here.means name) ≡ Some kind_is.Monitor) × ((entry : Name) → is_entry entry ≡ true → kind_of (through here name entry) ≡ Some kind_is.Entry)

abbrev pub Agrees : Known → Site → Type 0
Agrees es here = (name : Name) (f : Fact) → known es name ≡ Some f → Holds here name f

abbrev pub HoldAll : Known → Site → Type 0
HoldAll [] here = Unit {0}
HoldAll (e ∷ es) here = Holds here e.0 e.1 × HoldAll es here

pub agrees : (es : Known) (here : Site) → HoldAll es here → Agrees es here
agrees [] here all name f found = absurd cc
agrees (e ∷ es) here all name f found = by (same name e.0) refl found (λ got. agrees es here all.1 name f got)
  where
    by : (b : Bool) → same name e.0 ≡ b → (if b then Some e.1 else known es name) ≡ Some f → (known es name ≡ Some f → Holds here name f) → Holds here name f
    by true is got later =
        let fact : e.1 ≡ f = cc in
        let at = sym (same-is name e.0 is) in
        subst (λ (n : Name). Holds here n f) at (subst (λ k. Holds here e.0 k) fact all.0)
    by false is got later = later got

-- ---- one scope further in

same_members : (ds : Names) (here : Site) (o : Option Declared) (entry : Name) → members_of (inside ds here) o entry ≡ members_of here o entry
same_members ds here None entry = refl
same_members ds here (Some d) entry = refl

kept : (ds : Names) (here : Site) (name : Name) (f : Fact) → first ds name ≡ None → Holds here name f → Holds (inside ds here) name f
kept ds here name free none h = ap (λ o. or_else o (here.means name)) none ∙ h
kept ds here name (known_as k) none h = ap (λ o. kind_of (or_else o (here.means name))) none ∙ h
kept ds here name opens none h = (
  ap (λ o. kind_of (or_else o (here.means name))) none ∙ h.0,
  λ entry ok.
      ap (λ o. kind_of (members_of (inside ds here) (or_else o (here.means name)) entry)) none
      ∙ ap kind_of (same_members ds here (here.means name) entry) ∙ h.1 entry ok,
)

-- in a scope of one declaration its name is known too
pub enter : (es : Known) (d : Name × Declared) (here : Site) → Agrees es here → Agrees ((d.0, known_as d.1.kind) ∷ es) (inside (d ∷ []) here)
enter es d here all name f found = by (same name d.0) refl found
  where
    by : (b : Bool) → same name d.0 ≡ b → (if b then Some (known_as d.1.kind) else known es name) ≡ Some f → Holds (inside (d ∷ []) here) name f
    by true is got =
        let fact : known_as d.1.kind ≡ f = cc in
        let none : Option Declared = None in
        subst (λ k. Holds (inside (d ∷ []) here) name k) fact (ap (λ b. kind_of (or_else (if b then Some d.1 else none) (here.means name))) is)
    by false is got =
        let none : Option Declared = None in
        kept (d ∷ []) here name f (ap (λ b. if b then Some d.1 else none) is) (all name f got)
