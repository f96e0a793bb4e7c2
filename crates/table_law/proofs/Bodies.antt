-- No name in a body of a table's program is refused.
use Rattle.std.proofs.Common.{◌≡◌, ◌≤◌, ℕ, true, false, not, ◌||◌, List, [], ◌∷◌, ◌++◌, Option, Some, None, codes, refl, ap, ◌∙◌}
use Rattle.std.specs.Prelude.{is_some}
use Rattle.syntax_tree.specs.Plain.{Name}
use Rattle.syntax_tree.specs.declared.place.Place.{Place}
use Rattle.syntax_tree.specs.Placed.{Constant, literal_constant, named_constant, loop, Stmts, no_stmts, stmts}
use Rattle.syntax_tree.specs.Bare.{bare_constant}
use Rattle.static_names.specs.declared.kind.Declared.{Declared}
use Rattle.static_names.specs.declared.kind.Kind.{Kind}
use Rattle.static_names.specs.declared.kind.Kind.TheVariants as kind_is
use Rattle.static_names.specs.declared.kind.NameUse.{NameUse}
use Rattle.static_names.specs.declared.kind.NameUse.TheVariants as want_is
use Rattle.static_names.specs.Reach.{suits, Site, inside, through}
use Rattle.static_names.specs.Occurrences.{Occurrence, used, constant_names, stmts_names}
use Rattle.table_format.specs.Spending.{of_number, of_x}
use Rattle.table_law.proofs.Shapes.{IsBody, ended, clears, keeps, lowers, turns, turns_twice, enters}
use Rattle.table_law.proofs.Fine.{is_fine, Fine}

-- what a name is declared as
abbrev pub kind_of : Option Declared → Option Kind
kind_of None = None
kind_of (Some d) = Some d.kind

pub suits_so : (want : NameUse) (o : Option Declared) (k : Kind) (name : Name) (place : Place) → kind_of o ≡ Some k → suits want k ≡ true → is_fine (used name place want o) ≡ true
suits_so want None k name place is fits = absurd cc
suits_so want (Some d) k name place is fits = (let kinds : d.kind ≡ k = cc in ap (suits want) kinds ∙ fits)

pub literal_fine : (here : Site) (c : Constant Place) (n : ℕ) → bare_constant c ≡ of_number n → (more : List Occurrence) → Fine more → Fine (constant_names here c more)
literal_fine here (literal_constant p is_minus m q) n same more fine = fine
literal_fine here (named_constant p is_minus name q) n same more fine = absurd cc

-- what a site tells of the names in a body
pub record Tells (tail : Name) (May : Name → Name → Type 0) (here : Site) : Type 0 where
  pub x : kind_of (here.means (of_x tail)) ≡ Some kind_is.Variable
  pub i : here.means (codes "i" ++ tail) ≡ None
  pub j : here.means (codes "j" ++ tail) ≡ None
  pub may : (m e : Name) → May m e → (kind_of (here.means m) ≡ Some kind_is.Monitor) × (kind_of (through here m e) ≡ Some kind_is.Entry)

pub body_fine : (tail : Name) (May : Name → Name → Type 0) (here : Site) → Tells tail May here → (ss : Stmts Place) → IsBody tail May ss → (more : List Occurrence) → Fine more
    → Fine (stmts_names here ss more)
body_fine tail May here tells ss ended more fine = fine
body_fine tail May here tells ss (clears p q v rest body) more fine =
    (suits_so want_is.Target (here.means (of_x tail)) kind_is.Variable (of_x tail) p tells.x refl, body_fine tail May here tells rest body more fine)
body_fine tail May here tells ss (keeps p q rest body) more fine = (
  suits_so want_is.Target (here.means (of_x tail)) kind_is.Variable (of_x tail) p tells.x refl,
  (suits_so want_is.Value (here.means (of_x tail)) kind_is.Variable (of_x tail) q tells.x refl, body_fine tail May here tells rest body more fine),
)
body_fine tail May here tells ss (lowers p q r v rest body) more fine =
    (suits_so want_is.Target (here.means (of_x tail)) kind_is.Variable (of_x tail) p tells.x refl, body_fine tail May here tells rest body more fine)
body_fine tail May here tells ss (turns p q low high k rest from up some few body) more fine =
    let after = stmts_names here rest more in (
      ap (λ o. not (false || is_some o)) tells.i,
      literal_fine here low 1 from (constant_names here high after) (literal_fine here high k up after (body_fine tail May here tells rest body more fine)),
    )
body_fine tail May here tells ss (turns_twice p q low high k a b least most rest from up some few from_one to_most body) more fine =
    let after = stmts_names here rest more in
    let it : Declared = record { place = q; kind = kind_is.LoopVariable } in
    let inner = inside ((codes "i" ++ tail, it) ∷ []) here in
    let one = literal_fine inner least 1 from_one (constant_names inner most after) (literal_fine inner most 1000 to_most after (body_fine tail May here tells rest body more fine)) in
    let two : Fine (stmts_names inner (stmts (loop a (codes "j" ++ tail) b least most no_stmts) no_stmts) after) = (ap (λ o. not (false || is_some o)) tells.j, one) in (
      ap (λ o. not (false || is_some o)) tells.i,
      literal_fine here low 1 from (constant_names here high (stmts_names inner (stmts (loop a (codes "j" ++ tail) b least most no_stmts) no_stmts) after))
          (literal_fine here high k up (stmts_names inner (stmts (loop a (codes "j" ++ tail) b least most no_stmts) no_stmts) after) two),
    )
body_fine tail May here tells ss (enters p q m e rest is body) more fine =
    let it = tells.may m e is in (
      suits_so want_is.Monitor (here.means m) kind_is.Monitor m p it.0 refl,
      (suits_so want_is.Entry (through here m e) kind_is.Entry e q it.1 refl, body_fine tail May here tells rest body more fine),
    )
