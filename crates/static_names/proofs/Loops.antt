-- Entering a loop puts its variable inside.
use Rattle.std.proofs.Common.{◌≡◌, ◌-◌, List, [], ◌∷◌, ◌++◌, Option, Some, None, if◌then◌else◌, refl, ap, ◌∙◌}
use Rattle.syntax_tree.specs.Plain.{Name}
use Rattle.static_names.specs.declared.kind.Declared.{Declared}
use Rattle.static_names.specs.declared.scope.Local.{Local}
use Rattle.static_names.specs.declared.scope_chain.ScopeChain.{ScopeChain}
use Rattle.static_names.specs.Reach.{same, or_else, within, inside}
use Rattle.static_names.specs.Seen.{in_loops, meaning_in, outer_site, site}

pub in_loops-end : (name : Name) (ls : List Local) (l : Local) (o : Option Declared) → in_loops name (ls ++ l ∷ []) o ≡ or_else (if same name l.name.now then Some l.declared else None) (in_loops name ls o)
in_loops-end name [] l o = refl
in_loops-end name (x ∷ ls) l o = in_loops-end name ls l (or_else (if same name x.name.now then Some x.declared else None) o)

pub site-enter : (a : ScopeChain) (ls : List Local) (l : Local) → site a (ls ++ l ∷ []) ≡ inside ((l.name.now, l.declared) ∷ []) (site a ls)
site-enter a ls l = λ i. record {
  means = λ name. in_loops-end name ls l (within (meaning_in a.locals) (outer_site a.outer).means name) i;
  members = (outer_site a.outer).members;
}

or_else-assoc : (c o p : Option Declared) → or_else c (or_else o p) ≡ or_else (or_else c o) p
or_else-assoc (Some d) o p = refl
or_else-assoc None o p = refl

-- a loop variable comes before what is outside of loops
pub loops_before : (name : Name) (ls : List Local) (o p : Option Declared) → in_loops name ls (or_else o p) ≡ or_else (in_loops name ls o) p
loops_before name [] o p = refl
loops_before name (l ∷ ls) o p =
    ap (in_loops name ls) (or_else-assoc (if same name l.name.now then Some l.declared else None) o p) ∙ loops_before name ls (or_else (if same name l.name.now then Some l.declared else None) o) p
