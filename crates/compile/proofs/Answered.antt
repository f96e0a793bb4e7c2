-- What the steps come to: the image of a timely program, or the table of a late one.
use Rattle.std.proofs.Common.{◌≡◌, ◌∙◌, ℕ, suc, List, [], ◌∷◌, length, Option, Some, None, refl, ap, sym, subst}
use Rattle.std.specs.Prelude.{All, IsSome, slice_get}
use Rattle.std.proofs.lemmas.List.{length-map}
use Rattle.std.proofs.lemmas.List.Elements.{All-cons, All-nil}
use Rattle.syntax_tree.specs.declared.place.Place.{Place}
use Rattle.syntax_tree.specs.Placed.{Prog, plain}
use Rattle.machine_semantics.specs.Image.{Image, Process}
use Rattle.image.specs.declared.names.ImageNames.{ImageNames}
use Rattle.image.specs.declared.raw.RawImage.{RawImage}
use Rattle.image.specs.Raw.{image_of, named_of}
use Rattle.sched_table.specs.declared.table.Table.{Table}
use Rattle.sched_table.specs.Late.{IsNamed}
use Rattle.built_image.specs.Built.{IsBuilt, IsShaped}
use Rattle.built_image.specs.Named.{names_of}
use Rattle.built_image.specs.Shown.{AreLeast, table_of}
use Rattle.built_image_law.specs.FilledLaws.{BoundedImagesAreBuilt, LateWhereOneIsNone}
use Rattle.built_image_law.specs.Tables.{TablesAreNamed}
use Rattle.compile.specs.declared.built.Built.{Built}
use Rattle.compile.specs.declared.built.LateProgram.{LateProgram}
use Rattle.compile.specs.Build.{IsBuiltOf, IsLateOf}
use Rattle.compile.specs.Steps.{IsRanked, IsFilled, IsReport}

-- ---- names of tables

named : TablesAreNamed → (g : Prog Place) (over : ℕ) (m : Image) (bounds : List (Option ℕ)) (names : ImageNames) (table : Table) → IsShaped (plain g) over m
    → length bounds ≡ length m.processes → names ≡ names_of (plain g) → table ≡ table_of m bounds → IsNamed names table
named law g over m bounds names table shaped one_each same is =
    subst (λ (t : Table). IsNamed names t) (sym is)
    (subst (λ (n : ImageNames). IsNamed n (table_of m bounds)) (sym same) (law (plain g) over m bounds shaped one_each))

-- ---- a timely program

pub is_built : BoundedImagesAreBuilt → TablesAreNamed → (g : Prog Place) (over : ℕ) (image : RawImage) (bounds : List (Option ℕ)) (b : Built)
    → IsRanked g over image → AreLeast (image_of image) bounds → IsFilled image bounds b → IsBuiltOf g over b
is_built built_law named_law g over image bounds b ranked least filled =
    let built : IsBuilt (plain g) over (named_of b.image) =
    built_law (plain g) over (image_of image) bounds (named_of b.image) ranked.shaped least (filled.same.program ∙ ranked.program) (filled.same.names ∙ ranked.names) filled.same.image filled.declared in
    let one_each : length bounds ≡ length (image_of b.image).processes =
    ap (λ (xs : List (Option ℕ)). length xs) (sym filled.declared) ∙ length-map (image_of b.image).processes (λ (p : Process). Some p.bound) in
    record {
      fits = ranked.fits;
      built = built;
      table = filled.table ∙ ap (λ (xs : List (Option ℕ)). table_of (image_of b.image) xs) (sym filled.declared);
      named = named named_law g over (image_of b.image) bounds b.image.names b.table built.shaped one_each built.names filled.table;
    }

-- ---- a late program

none_there : (bs : List (Option ℕ)) → ¬ All IsSome bs → (k : ℕ) × (slice_get bs k ≡ Some None)
none_there [] missing = absurd (missing (All-nil IsSome))
none_there (None ∷ bs) missing = (0, refl)
none_there (Some b ∷ bs) missing =
    let r : (k : ℕ) × (slice_get bs k ≡ Some None) = none_there bs (λ all. missing (All-cons IsSome (Some b) bs refl all)) in
    (suc r.0, r.1)

pub is_late : LateWhereOneIsNone → TablesAreNamed → (g : Prog Place) (over : ℕ) (image : RawImage) (bounds : List (Option ℕ)) (l : LateProgram)
    → IsRanked g over image → AreLeast (image_of image) bounds → ¬ All IsSome bounds → IsReport image bounds l → IsLateOf g over l
is_late late_law named_law g over image bounds l ranked least missing report = record {
  fits = ranked.fits;
  late = (late_law (plain g) over (image_of image) bounds ranked.shaped least).1 (none_there bounds missing);
  table = record { image = image_of image; shaped = ranked.shaped; bounds = bounds; least = least; is = report.table };
  names = report.names ∙ ranked.names;
  program = report.program ∙ ranked.program;
  named = named named_law g over (image_of image) bounds l.names l.table ranked.shaped least.one_each (report.names ∙ ranked.names) report.table;
}
