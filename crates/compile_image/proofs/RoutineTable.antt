-- The routines that are put into an image.
use Rattle.std.proofs.Common.{◌≡◌, ◌∙◌, sym, ap, subst, refl, ℕ, zero, suc, List, [], ◌∷◌, length}
use Rattle.std.specs.Prelude.{Some, slice_get}
use Rattle.std.proofs.lemmas.Option.{same_Some}
use Rattle.syntax_tree.specs.Plain.{Program}
use Rattle.machine_semantics.specs.Image as image
use Rattle.code_spec.specs.Layout.{count, routine_words, words_of, loops}
use Rattle.code_spec.specs.Numbering.{Text, numbered}
use Rattle.code_cost.specs.declared.measure.RoutineMeasure.{RoutineMeasure}
use Rattle.code_cost.specs.declared.program.Measures.{Measures}
use Rattle.codegen_spec.specs.declared.code.Part.{Part}
use Rattle.codegen_spec.specs.declared.code.Code.{Code}
use Rattle.codegen_spec.specs.Held.{HoldRoutines}
use Rattle.code_cost_spec.specs.Levels.{cost_of_routine, stay_of_entry}
use Rattle.code_measures.specs.Declared.{DeclaresRoutine}
use Rattle.code_cost.specs.Sizes.{AreDefined, IsRowOf}
use Rattle.compile_image.specs.Fields.{FitsFields, FitsPart, FitsText, HasParts}
use Rattle.compile_image.specs.Rows.{FitsRow, FitRows, IsCapped}
use Rattle.compile_image.specs.Told.{routine_told, routines_told}
use Rattle.compile_image.proofs.Costs.{exact-held, first-of-three-low, is-capped, low-cap, low-held, none-left, none-there, same-rest}

-- a row that is defined of a text that fits
row-fits : (g : Program) (t : Text) (x : Part) (row : RoutineMeasure) → FitsText g t → FitsPart x → IsRowOf g t row → FitsRow t x row
row-fits g t x row fits part is = record {
  owner = fits.owner;
  params = first-of-three-low (count t.routine.params) (words_of g t.routine.vars) (loops t.routine.body) fits.words;
  part = part;
  words = low-held row.words (routine_words g t.routine) is.words fits.words;
  cost = subst (λ c. IsCapped c) (sym is.cost) (is-capped (cost_of_routine g t));
  stay = low-cap row.stay (stay_of_entry g t) is.stay;
}

-- texts, parts and rows of a list, one by one
all-fit : (g : Program) (ts : List Text) (xs : List Part) (rows : List RoutineMeasure) → length xs ≡ length ts → length rows ≡ length ts
    → ((r : ℕ) (t : Text) → slice_get ts r ≡ Some t → FitsText g t)
    → ((r : ℕ) (x : Part) → slice_get xs r ≡ Some x → FitsPart x)
    → ((r : ℕ) (t : Text) (row : RoutineMeasure) → slice_get ts r ≡ Some t → slice_get rows r ≡ Some row → IsRowOf g t row)
    → FitRows ts xs rows
all-fit g [] [] [] a b fits begins is = tt
all-fit g [] [] (k ∷ ks) a b fits begins is = none-left (length ks) b
all-fit g [] (x ∷ xs) rows a b fits begins is = none-left (length xs) a
all-fit g (t ∷ ts) [] rows a b fits begins is = none-there (length ts) a
all-fit g (t ∷ ts) (x ∷ xs) [] a b fits begins is = none-there (length ts) b
all-fit g (t ∷ ts) (x ∷ xs) (k ∷ ks) a b fits begins is = (
  row-fits g t x k (fits 0 t refl) (begins 0 x refl) (is 0 t k refl refl),
  all-fit g ts xs ks (same-rest (length xs) (length ts) a) (same-rest (length ks) (length ts) b) (λ r. fits (suc r)) (λ r. begins (suc r)) (λ r. is (suc r)),
)

pub rows-fit : (g : Program) (k : Code) (m : Measures) → HasParts g k → FitsFields g k → AreDefined g m → FitRows (numbered g) k.routines m.routines
rows-fit g k m parts fits is = all-fit g (numbered g) k.routines m.routines parts.routines is.rows fits.texts fits.routine_parts is.routines

-- ---- what the image holds

all-held : (g : Program) (ts : List Text) (xs : List Part) (rows : List RoutineMeasure) → FitRows ts xs rows
    → ((r : ℕ) (t : Text) (row : RoutineMeasure) → slice_get ts r ≡ Some t → slice_get rows r ≡ Some row → row.words ≡ routine_words g t.routine)
    → HoldRoutines g ts xs (routines_told ts xs rows)
all-held g [] [] [] fit words = tt
all-held g [] [] (k ∷ ks) fit words = absurd fit
all-held g [] (x ∷ xs) rows fit words = absurd fit
all-held g (t ∷ ts) [] rows fit words = absurd fit
all-held g (t ∷ ts) (x ∷ xs) [] fit words = absurd fit
all-held g (t ∷ ts) (x ∷ xs) (k ∷ ks) fit words = (
  record { kind = refl; owner = refl; params = refl; locals = words 0 t k refl refl; gives = refl; start = refl; tree = refl },
  all-held g ts xs ks fit.1 (λ r. words (suc r)),
)

exact : (g : Program) (t : Text) (row : RoutineMeasure) → FitsText g t → IsRowOf g t row → row.words ≡ routine_words g t.routine
exact g t row fits is = exact-held row.words (routine_words g t.routine) is.words fits.words

pub routines-held : (g : Program) (k : Code) (m : Measures) → HasParts g k → FitsFields g k → AreDefined g m → HoldRoutines g (numbered g) k.routines (routines_told (numbered g) k.routines m.routines)
routines-held g k m parts fits is =
    all-held g (numbered g) k.routines m.routines (rows-fit g k m parts fits is)
    (λ r t row there known. exact g t row (fits.texts r t there) (is.routines r t row there known))

-- ---- what the image declares

-- a routine of the image, with what it is told of
record Found (t : Text) (rows : List RoutineMeasure) (r : ℕ) (y : image.Routine) : Type 0 where
  part : Part
  row : RoutineMeasure
  known : slice_get rows r ≡ Some row
  is : routine_told t part row ≡ y

found : (ts : List Text) (xs : List Part) (rows : List RoutineMeasure) → FitRows ts xs rows → (r : ℕ) (t : Text) (y : image.Routine) → slice_get ts r ≡ Some t
    → slice_get (routines_told ts xs rows) r ≡ Some y → Found t rows r y
found [] [] [] fit r t y there is = absurd (cc)
found [] [] (k ∷ ks) fit r t y there is = absurd fit
found [] (x ∷ xs) rows fit r t y there is = absurd fit
found (u ∷ ts) [] rows fit r t y there is = absurd fit
found (u ∷ ts) (x ∷ xs) [] fit r t y there is = absurd fit
found (u ∷ ts) (x ∷ xs) (k ∷ ks) fit zero t y there is =
    record { part = x; row = k; known = refl; is = ap (λ v. routine_told v x k) (sym (same_Some u t there)) ∙ same_Some (routine_told u x k) y is }
found (u ∷ ts) (x ∷ xs) (k ∷ ks) fit (suc r) t y there is =
    let d = found ts xs ks fit.1 r t y there is in
    record { part = d.part; row = d.row; known = d.known; is = d.is }

row-declares : (g : Program) (t : Text) (x : Part) (row : RoutineMeasure) (y : image.Routine) → IsRowOf g t row → routine_told t x row ≡ y → DeclaresRoutine g t y
row-declares g t x row y of is = record {
  run = ap (λ z. z.run) (sym is) ∙ ap (λ c. c.run) of.cost;
  susp = ap (λ z. z.susp) (sym is) ∙ ap (λ c. c.susp) of.cost;
  waits = ap (λ z. z.waits) (sym is) ∙ ap (λ c. c.waits) of.cost;
  stay = ap (λ z. z.stay) (sym is) ∙ of.stay;
}

pub routine-declares : (g : Program) (k : Code) (m : Measures) → HasParts g k → FitsFields g k → AreDefined g m
    → (r : ℕ) (t : Text) (y : image.Routine) → slice_get (numbered g) r ≡ Some t → slice_get (routines_told (numbered g) k.routines m.routines) r ≡ Some y → DeclaresRoutine g t y
routine-declares g k m parts fits is r t y there found_there =
    let d = found (numbered g) k.routines m.routines (rows-fit g k m parts fits is) r t y there found_there in
    row-declares g t d.part d.row y (is.routines r t d.row there d.known) d.is
