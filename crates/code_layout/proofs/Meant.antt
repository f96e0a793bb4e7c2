-- What the tables tell of a name is what the relation of code and text says of it.
use Rattle.std.proofs.Common.{◌≡◌, ◌∙◌, ap, refl, ℕ, Bool, true, false, cond, List, [], ◌∷◌, Option, Some, None, map}
use Rattle.std.specs.Prelude.{option_map, bytes_eq}
use Rattle.std.proofs.lemmas.Option.{slice_get-map}
use Rattle.syntax_tree.specs.Plain.{Name, Program}
use Rattle.source_semantics.specs.Run.{or_else}
use Rattle.code_spec.specs.Layout as layout
use Rattle.code_spec.specs.Layout.{Place, Scope, in_frame, in_area, place_named, outer_spot, spot_of}
use Rattle.code_names.specs.First.{index_of}
use Rattle.code_names.proofs.NameListTable.{get_some, named-index}
use Rattle.codegen_spec.specs.Told.{told_area, told_spot, inside, within, counter}
use Rattle.codegen_spec.specs.declared.var_location.Area.{Area}
use Rattle.codegen_spec.specs.declared.var_location.Loop.{Loop}
use Rattle.codegen_spec.specs.declared.var_location.VarLocation.{VarLocation}
use Rattle.code_layout.specs.LayoutTables.{told_in, table_of, spot_in}
use Rattle.code_layout.specs.LookupTables.{in_loop, loop_told}

got-map : (a : Area) (ps : List Place) (o : Option ℕ) → get_some (map (told_in a) ps) o ≡ option_map (told_in a) (get_some ps o)
got-map a ps None = refl
got-map a ps (Some k) = slice_get-map (told_in a) ps k

told-there : (a : layout.Area) (o : Option Place) → option_map (told_in (told_area a)) o ≡ told_spot (in_area a o)
told-there a None = refl
told-there a (Some p) = refl

-- a table of variables tells of a name what the first variable of that name is
pub table-spot : (a : layout.Area) (ps : List Place) (x : Name) → spot_in (table_of (told_area a) ps) x ≡ told_spot (in_area a (place_named x ps))
table-spot a ps x =
    got-map (told_area a) ps (index_of x (map (λ p. p.name) ps)) ∙ ap (option_map (told_in (told_area a))) (named-index (λ p. p.name) x ps)
    ∙ told-there a (place_named x ps)

or-told : (s t : Option layout.Spot) → or_else (told_spot s) (told_spot t) ≡ told_spot (or_else s t)
or-told None t = refl
or-told (Some s) t = refl

-- a name that the frame or what is beside it has
pub outside-told : (g : Program) (c : Scope) (x : Name) (own outer : Option VarLocation) → own ≡ told_spot (in_area in_frame (place_named x c.own)) → outer ≡ told_spot (outer_spot g c.owner x) → or_else own outer ≡ told_spot (spot_of g c x)
outside-told g c x own outer e f =
    ap (λ o. or_else o outer) e ∙ ap (λ o. or_else (told_spot (in_area in_frame (place_named x c.own))) o) f
    ∙ or-told (in_area in_frame (place_named x c.own)) (outer_spot g c.owner x)

one-told : (g : Program) (c : Scope) (l : Loop) (x : Name) → in_loop (told_spot (spot_of g c x)) l x ≡ told_spot (spot_of g (within c l.name l.word) x)
one-told g c l x = by-test (bytes_eq l.name x)
  where
    by-test : (b : Bool) → cond b (Some (told_in (told_area in_frame) (counter l.name l.word))) (told_spot (spot_of g c x)) ≡ told_spot (or_else (in_area in_frame (cond b (Some (counter l.name l.word)) (place_named x c.own))) (outer_spot g c.owner x))
    by-test true = refl
    by-test false = refl

-- and inside loops
pub loops-told : (g : Program) (c : Scope) (ls : List Loop) (x : Name) (s : Option VarLocation) → s ≡ told_spot (spot_of g c x) → loop_told s ls x ≡ told_spot (spot_of g (inside ls c) x)
loops-told g c [] x s e = e
loops-told g c (l ∷ ls) x s e = loops-told g (within c l.name l.word) ls x (in_loop s l x) (ap (λ o. in_loop o l x) e ∙ one-told g c l x)
