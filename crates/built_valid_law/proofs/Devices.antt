-- Devices of one name go one way, since no name is declared twice.
use Rattle.std.proofs.Common.{◌≡◌, ◌⊎◌, inl, inr, Bool, true, false, List, [], ◌∷◌, map, refl, ap, sym, subst, ◌∙◌}
use Rattle.syntax_tree.specs.Plain as plain_of
use Rattle.syntax_tree.specs.Plain.{Name}
use Rattle.syntax_tree.specs.Placed.{Decl, constant, device, event, routine, monitor, process, Prog, plain, plain_decl}
use Rattle.syntax_tree.specs.declared.place.Place.{Place}
use Rattle.static_names.specs.Reach.{same, first}
use Rattle.static_names.specs.Occurrences.{declares, names, entries_at, closes, program_name, decl_name}
use Rattle.static_names.specs.Resolved.{IsRead, IsNamed}
use Rattle.static_semantics.specs.Places.{NamesFound}
use Rattle.wellformed_law.proofs.Members.{In, in-contains, contains-in}
use Rattle.built_image_law.proofs.Differ.{DeclsDiffer, decls_differ}
use Rattle.built_valid_law.specs.Checked.{CheckedDevicesGoOneWay}
use Rattle.static_names.proofs.Scopes.{same-refl}

-- a device of the plain tree, in the tree with places
pub record Placed (ds : List (Decl Place)) (d : Name) (out : Bool) : Type 0 where
  pub place : Place
  pub there : In ds (device d place out)

placed : (ds : List (Decl Place)) (d : Name) (out : Bool) → In (map plain_decl ds) (plain_of.device d out) → Placed ds d out
placed [] d out i = absurd i
placed (x ∷ ds) d out (inr i) = let p = placed ds d out i in record { place = p.place; there = inr p.there }
placed (device n q b ∷ ds) d out (inl e) = record { place = q; there = inl (same_device n d b out q e) }
  where
    same_device : (n d : Name) (b out : Bool) (q : Place) → plain_of.device n b ≡ plain_of.device d out → device n q b ≡ device d q out
    same_device n d b out q e = let f : n ≡ d = cc in let h : b ≡ out = cc in cc
placed (constant n q k ∷ ds) d out (inl e) = absurd cc
placed (event n q ∷ ds) d out (inl e) = absurd cc
placed (routine r ∷ ds) d out (inl e) = absurd cc
placed (monitor m ∷ ds) d out (inl e) = absurd cc
placed (process p ∷ ds) d out (inl e) = absurd cc

twice : (d : Name) (q r : Place) (a b : Bool) (x : Decl Place) → x ≡ device d q a → same (decl_name (device d r b)).0 (decl_name x).0 ≡ false → ⊥
twice d q r a b x e h =
    let f : same d d ≡ false = ap (λ z. same d (decl_name z).0) (sym e) ∙ h in
    let g : true ≡ false = sym (same-refl d) ∙ f in
    cc

one_way : (ds : List (Decl Place)) (d : Name) (q r : Place) (a b : Bool) → DeclsDiffer ds → In ds (device d q a) → In ds (device d r b) → a ≡ b
one_way [] d q r a b h i j = absurd i
one_way (x ∷ ds) d q r a b h (inl e) (inl f) = let g : device d q a ≡ device d r b = sym e ∙ f in cc
one_way (x ∷ ds) d q r a b h (inl e) (inr j) = absurd (twice d q r a b x e (h.0 (device d r b) j))
one_way (x ∷ ds) d q r a b h (inr i) (inl f) = absurd (twice d r q b a x f (h.0 (device d q a) i))
one_way (x ∷ ds) d q r a b h (inr i) (inr j) = one_way ds d q r a b h.1 i j

differ : (g : Prog Place) → NamesFound g → DeclsDiffer g.decls
differ g found =
    decls_differ (λ place. first (entries_at g.decls place)) (program_name g ∷ []) g.decls (closes g.close g.close_place g.name ∷ [])
    (λ n q t i. found.free n q t (in-contains (names g) (declares n q t) (inr i)))

pub devices_go_one_way : ((g : Prog Place) → IsRead g → IsNamed g → NamesFound g) → CheckedDevicesGoOneWay
devices_go_one_way found g is d a b i j =
    let p = placed g.decls d a (contains-in (plain g).decls (plain_of.device d a) i) in
    let q = placed g.decls d b (contains-in (plain g).decls (plain_of.device d b) j) in
    one_way g.decls d p.place q.place a b (differ g (found g is.read is.named)) p.there q.there
