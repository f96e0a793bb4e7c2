-- The names, statements and results in each declaration are those of the program.
use Rattle.std.proofs.Common.{false, List, [], ◌∷◌, ◌++◌, map, sym, subst, append_assoc}
use Rattle.std.specs.Prelude.{Contains, is_some}
use Rattle.std.proofs.lemmas.List.{append-nil}
use Rattle.std.proofs.lemmas.List.Elements.{Contains-append_left, Contains-append_right}
use Rattle.base.proofs.Members.{behind}
use Rattle.syntax_tree.specs.Placed.{Decl, Prog}
use Rattle.syntax_tree.specs.declared.place.Place.{Place}
use Rattle.static_names.specs.Reach.{Names, Reach, Site, first}
use Rattle.static_names.specs.Occurrences.{Occurrence, declares, closes, decl_name, others, entries_at, inner_names, decls_names, program_name}
use Rattle.static_declarations.specs.Parts.{Part, decl_parts, decls_parts}
use Rattle.static_semantics.specs.Mirrors.{NamesListed, PartsListed}
use Rattle.wellformed_law.proofs.Appends.{Puts, inner_puts, decl_parts_puts}

-- what stands in the front stands in the whole
in_front : {A : Type 0} (f : List A → List A) → Puts f → (more : List A) (x : A) → Contains (f []) x → Contains (f more) x
in_front f puts more x c = subst (λ l. Contains l x) (sym (puts [] more)) (Contains-append_left (f []) more x c)

-- what follows stands in the whole
in_rest : {A : Type 0} (f : List A → List A) → Puts f → (more : List A) (x : A) → Contains more x → Contains (f more) x
in_rest f puts more x c = subst (λ l. Contains l x) (sym (puts [] more)) (Contains-append_right (f []) more x c)

-- ---- parts

parts_within : (before : List (Decl Place)) (d : Decl Place) (after : List (Decl Place)) (more : List Part) (x : Part) → Contains (decl_parts d []) x → Contains (decls_parts (before ++ d ∷ after) more) x
parts_within [] d after more x c = in_front (decl_parts d) (decl_parts_puts d) (decls_parts after more) x c
parts_within (e ∷ es) d after more x c = in_rest (decl_parts e) (decl_parts_puts e) (decls_parts (es ++ d ∷ after) more) x (parts_within es d after more x c)

pub parts_are_listed : (g : Prog Place) → PartsListed g
parts_are_listed g before d after e x c = subst (λ ds. Contains (decls_parts ds []) x) (sym e) (parts_within before d after [] x c)

-- ---- names

-- where these names stand before
abbrev site_after : (Place → Reach) → Names → List (Decl Place) → Site
site_after members earlier rest = record { means = first (earlier ++ others rest); members = members }

names_within : (members : Place → Reach) (before : List (Decl Place)) (earlier : Names) (d : Decl Place) (after : List (Decl Place)) (more : List Occurrence) (o : Occurrence)
    → Contains (inner_names (site_after members (earlier ++ map decl_name before) (d ∷ after)) d []) o → Contains (decls_names members earlier (before ++ d ∷ after) more) o
names_within members [] earlier d after more o c =
    let here : Site = site_after members earlier (d ∷ after) in
    let rest : List Occurrence = decls_names members (earlier ++ decl_name d ∷ []) after more in
    behind (declares (decl_name d).0 (decl_name d).1.place (is_some (first earlier (decl_name d).0))) (inner_names here d rest) o
    (in_front (inner_names here d) (inner_puts here d) rest o (subst (λ e. Contains (inner_names (site_after members e (d ∷ after)) d []) o) (append-nil earlier) c))
names_within members (x ∷ xs) earlier d after more o c =
    let here : Site = site_after members earlier (x ∷ (xs ++ d ∷ after)) in
    let rest : List Occurrence = decls_names members (earlier ++ decl_name x ∷ []) (xs ++ d ∷ after) more in
    behind (declares (decl_name x).0 (decl_name x).1.place (is_some (first earlier (decl_name x).0))) (inner_names here x rest) o
    (in_rest (inner_names here x) (inner_puts here x) rest o
    (names_within members xs (earlier ++ decl_name x ∷ []) d after more o
    (subst (λ e. Contains (inner_names (site_after members e (d ∷ after)) d []) o) (sym (append_assoc earlier (decl_name x ∷ []) (map decl_name xs))) c)))

pub names_are_listed : (g : Prog Place) → NamesListed g
names_are_listed g before d after e o c =
    let members : Place → Reach = λ place. first (entries_at g.decls place) in
    let rest : List Occurrence = closes g.close g.close_place g.name ∷ [] in
    subst (λ ds. Contains (declares g.name g.place false ∷ decls_names members (program_name g ∷ []) ds rest) o) (sym e)
    (behind (declares g.name g.place false) (decls_names members (program_name g ∷ []) (before ++ d ∷ after) rest) o (names_within members before (program_name g ∷ []) d after rest o c))
