-- What the code's scopes say.
use Rattle.std.specs.Prelude.{◌≡◌, ◌++◌, ℕ, Bool, true, false, ◌&&◌, ◌||◌, List, [], ◌∷◌, Option, Some, None, is_some, map, if◌then◌else◌, nat_eq}
use Rattle.std.specs.Borrow.{Bor}
use Rattle.indexmap.specs.IndexMap.{IndexMap}
use Rattle.std.specs.declared.hash.BuildHasherDefault.{BuildHasherDefault}
use Rattle.std.specs.declared.hash.FoldHasher.{FoldHasher}
use Rattle.syntax_tree.specs.Plain.{Name}
use Rattle.syntax_tree.specs.Placed.{Decl, constant, device, event, routine, monitor, process, Prog, Stmt, assign, assign_entry, assign_empty, perform, perform_entry, when, when_else, loop, exit_when, get, wait, signal, broadcast, except, assert}
use Rattle.syntax_tree.specs.Placed as tree
use Rattle.syntax_tree.specs.declared.place.Place.{Place}
use Rattle.static_names.specs.declared.kind.Declared.{Declared}
use Rattle.static_names.specs.declared.scope.Local.{Local}
use Rattle.static_names.specs.declared.scope_chain.TopScope.{TopScope}
use Rattle.static_names.specs.declared.scope_chain.OuterScopes.{OuterScopes}
use Rattle.static_names.specs.declared.scope_chain.ScopeChain.{ScopeChain}
use Rattle.syntax_tree.specs.Parts.{same_place}
use Rattle.static_names.specs.Reach.{same, Names, Reach, nowhere, first, or_else, within, Site}
use Rattle.static_names.specs.Findings.{Found, noted}
use Rattle.static_names.specs.Occurrences.{Occurrence, declares, decl_name, others, inner_names, entry_name, stmt_names}

abbrev pub ScopeValue : Type 0
ScopeValue = IndexMap (Bor Name) Declared (BuildHasherDefault FoldHasher)

abbrev pub entry_of : Bor Name × Declared → Name × Declared
entry_of e = (e.0.now, e.1)

-- what the entries of a map say of a name
abbrev pub meaning : List (Bor Name × Declared) → Reach
meaning es = first (map entry_of es)

-- what a scope says of a name, where there is a scope
abbrev pub meaning_in : Option (Bor ScopeValue) → Reach
meaning_in None = nowhere
meaning_in (Some scope) = meaning scope.now.entries

-- once one more is declared in a scope: the first declaration of a name counts
abbrev pub add : Reach → Name × Declared → Reach
add reach d name = or_else (reach name) (if same name d.0 then Some d.1 else None)

abbrev pub add_all : Reach → Names → Reach
add_all reach [] = reach
add_all reach (d ∷ ds) = add_all (add reach d) ds

-- the declarations of one scope, what stands before them being known
abbrev pub declared_after : (outside earlier : Reach) → Names → List Occurrence → List Occurrence
declared_after outside earlier [] more = more
declared_after outside earlier (d ∷ ds) more = declares d.0 d.1.place (is_some (earlier d.0) || is_some (outside d.0)) ∷ declared_after outside (add earlier d) ds more

-- what a name means in loops, the outermost being the first of the list
abbrev pub in_loops : Name → List Local → Option Declared → Option Declared
in_loops name [] outer = outer
in_loops name (l ∷ ls) outer = in_loops name ls (or_else (if same name l.name.now then Some l.declared else None) outer)

abbrev pub EntryKey : Type 0
EntryKey = ℕ × ℕ × Bor Name

-- what the entries of the map of entries say of a name behind a monitor's
abbrev pub entry_meaning : List (EntryKey × Declared) → Place → Reach
entry_meaning [] place name = None
entry_meaning (e ∷ es) place name = if (nat_eq place.line e.0.0 && nat_eq place.col e.0.1) && same name e.0.2.now then Some e.1 else entry_meaning es place name

abbrev pub add_entry : (Place → Reach) → Place → Name × Declared → Place → Reach
add_entry members at d place name = or_else (members place name) (if same_place place at && same name d.0 then Some d.1 else None)

abbrev pub add_entries : (Place → Reach) → Place → Names → Place → Reach
add_entries members at [] = members
add_entries members at (d ∷ ds) = add_entries (add_entry members at d) at ds

abbrev pub add_monitors : (Place → Reach) → List (Decl Place) → Place → Reach
add_monitors members [] = members
add_monitors members (constant name p c ∷ ds) = add_monitors members ds
add_monitors members (device name p is_out ∷ ds) = add_monitors members ds
add_monitors members (event name p ∷ ds) = add_monitors members ds
add_monitors members (routine r ∷ ds) = add_monitors members ds
add_monitors members (monitor m ∷ ds) = add_monitors (add_entries members m.place (map entry_name m.entries)) ds
add_monitors members (process p ∷ ds) = add_monitors members ds

-- the names of declarations, what stands before them being known
abbrev pub decls_after : (members : Place → Reach) → (earlier : Reach) → List (Decl Place) → List Occurrence → List Occurrence
decls_after members earlier [] more = more
decls_after members earlier (d ∷ ds) more = declares (decl_name d).0 (decl_name d).1.place (is_some (earlier (decl_name d).0)) ∷ inner_names (record { means = add_all earlier (others (d ∷ ds)); members = members }) d (decls_after members (add earlier (decl_name d)) ds more)

abbrev pub member_meaning : Option Place → (inner : Reach) → (entries : Place → Reach) → Place → Reach
member_meaning None inner entries place = entries place
member_meaning (Some m) inner entries place = if same_place place m then inner else entries place

-- what is in reach at the top, around routines, and inside a routine or a process
abbrev pub top_site : TopScope → Site
top_site t = record { means = meaning t.program.now.entries; members = entry_meaning t.entries.now.entries }

abbrev pub outer_site : OuterScopes → Site
outer_site o = record {
  means = within (meaning_in o.members) (top_site o.top).means;
  members = member_meaning o.monitor (meaning_in o.members) (top_site o.top).members;
}

abbrev pub site : ScopeChain → List Local → Site
site a loops = record {
  means = λ name. in_loops name loops (within (meaning_in a.locals) (outer_site a.outer).means name);
  members = (outer_site a.outer).members;
}

abbrev pub AroundValue : Type 0
AroundValue = ScopeChain

-- With what is noted in f and the scope s, the names ds are to be declared; with g and t, es are
-- left of them.
pub record Scoped (outside : Reach) (f : Found) (s : Reach) (ds : Names) (g : Found) (t : Reach) (es : Names) : Type 0 where
  pub notes : (rest : Names) (more : List Occurrence) → noted g (declared_after outside t (es ++ rest) more) ≡ noted f (declared_after outside s (ds ++ rest) more)
  pub scope : (rest : Names) → add_all t (es ++ rest) ≡ add_all s (ds ++ rest)

-- a name declared in place of what it meant
abbrev pub put : Reach → Name × Declared → Reach
put reach d name = if same name d.0 then Some d.1 else reach name

-- With f noted, the program's names being in the map p and those before in the map s, the
-- declarations ds are to be gone through; with g, q and t, es are left of them.
pub record Next (members : Place → Reach) (f : Found) (p s : Reach) (ds : List (Decl Place)) (g : Found) (q t : Reach) (es : List (Decl Place)) : Type 0 where
  pub notes : (more : List Occurrence) → noted g (decls_after members t es more) ≡ noted f (decls_after members s ds more)
  pub scope : q ≡ add_all t (others es)

abbrev pub IsNext : (Place → Reach) → Found → Reach → Reach → List (Decl Place) → Found → Reach → Reach → List (Decl Place) → Type 0
IsNext members f p s ds g q t es = p ≡ add_all s (others ds) → Next members f p s ds g q t es

abbrev pub nothing : Found
nothing = record { first = None; ties = [] }

-- ---- statements, by the groups of their forms

abbrev pub is_assignment : Stmt Place → Bool
is_assignment (assign r e) = true
is_assignment (assign_entry r mon p entry q es) = true
is_assignment (assign_empty r cond p) = true
is_assignment s = false

abbrev pub is_call : Stmt Place → Bool
is_call (perform p name es) = true
is_call (perform_entry p mon entry q es) = true
is_call s = false

abbrev pub is_transfer : Stmt Place → Bool
is_transfer (get p dev q r) = true
is_transfer (tree.put p dev q e) = true
is_transfer s = false

abbrev pub is_condition : Stmt Place → Bool
is_condition (wait p cond q limit number) = true
is_condition (signal p cond q) = true
is_condition (broadcast p cond q) = true
is_condition s = false

abbrev pub is_check : Stmt Place → Bool
is_check (exit_when p e) = true
is_check (except p number) = true
is_check (assert p e) = true
is_check s = false

-- in the statement no others stand
abbrev pub is_plain : Stmt Place → Bool
is_plain (when p e a) = false
is_plain (when_else p e a b) = false
is_plain (loop p name q low high a) = false
is_plain s = true

-- the names of a statement, if it is so
abbrev pub names_if : (Stmt Place → Bool) → Site → Stmt Place → List Occurrence → List Occurrence
names_if form here s more = if form s then stmt_names here s more else more
