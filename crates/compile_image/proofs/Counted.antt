-- What a routine or a process of the image is put together of.
use Rattle.std.proofs.Common.{◌≡◌, ◌≤◌, ◌∙◌, ap, refl, ℕ, suc, Bool, List, [], ◌∷◌, length, map, arith}
use Rattle.std.specs.Prelude.{Option, bytes_eq, is_some, option_map}
use Rattle.std.proofs.lemmas.List.{length-map}
use Rattle.syntax_tree.specs.Plain.{Name, Process, Program}
use Rattle.syntax_tree.specs.Placed.{placed_param, placed_routine, plain_param, plain_routine}
use Rattle.syntax_tree.specs.declared.decl.Routine as code_routine
use Rattle.base.specs.Capped.{cap}
use Rattle.source_semantics.specs.Names.{place_of}
use Rattle.machine_semantics.specs.Image as image
use Rattle.machine_semantics.specs.Trees as tree
use Rattle.image_format.specs.View.{views}
use Rattle.valid_image.specs.Sizes.{with_dispatch}
use Rattle.code_spec.specs.Layout.{count, frame_words, words_of}
use Rattle.code_spec.specs.Numbering.{Text}
use Rattle.code_spec.specs.Compiled.{kind_number, owner_number}
use Rattle.code_cost.specs.declared.measure.RoutineMeasure.{RoutineMeasure}
use Rattle.code_cost.specs.declared.program.ProcessMeasure.{ProcessMeasure}
use Rattle.codegen_spec.specs.declared.code.Part.{Part}
use Rattle.codegen_spec.specs.declared.code.ProcessParts.{ProcessParts}
use Rattle.compile_image.specs.declared.releases.ReleaseFields.{ReleaseFields}
use Rattle.compile_image.proofs.Inserted.{one_more}
use Rattle.compile_image.specs.Told.{numbers_told, process_told, release_told, routine_told, start_told}

count-mapped : {A B : Type 0} (f : A → B) (xs : List A) → count (map f xs) ≡ length xs
count-mapped f [] = refl
count-mapped f (x ∷ xs) = ap (λ n. suc n) (count-mapped f xs)

pub params-count : (r : code_routine.Routine) → count (plain_routine (placed_routine r)).params ≡ length r.params
params-count r = count-mapped plain_param (map placed_param r.params) ∙ length-map r.params placed_param

pub place-most : (e : Name) (es : List Name) → place_of e es ≤ length es
place-most e [] = omega arith
place-most e (n ∷ ns) = one_more (bytes_eq n e) (place_of e ns) (length ns) (place-most e ns)

-- ---- a routine

abbrev routine_with : image.Routine → (kind owner params : ℕ) → Bool → tree.Segs → image.Routine
routine_with r kind owner params gives segs = record r { kind = kind; owner = owner; params = params; gives = gives; tree = segs }

pub routine-is : (t : Text) (x : Part) (row : RoutineMeasure) (kind owner params : ℕ) (gives : Bool) (segs : tree.Segs)
    → kind ≡ kind_number t.owner → owner ≡ owner_number t.owner → params ≡ count t.routine.params → gives ≡ is_some t.routine.answers → segs ≡ views x.tree
    → record (routine_told t x row) { kind = kind; owner = owner; params = params; gives = gives; tree = segs } ≡ routine_told t x row
routine-is t x row kind owner params gives segs a b c d e =
    let r : image.Routine = routine_told t x row in
    ap (λ v. routine_with r v owner params gives segs) a
    ∙ ap (λ v. routine_with r r.kind v params gives segs) b
    ∙ ap (λ v. routine_with r r.kind r.owner v gives segs) c
    ∙ ap (λ v. routine_with r r.kind r.owner r.params v segs) d
    ∙ ap (λ v. routine_with r r.kind r.owner r.params r.gives v) e

-- ---- a process

abbrev process_with : image.Process → ReleaseFields → (run words locals handler : ℕ) → List ℕ → tree.Segs → Option tree.Segs → image.Process
process_with p release run words locals handler numbers body segs = record p {
  kind = release.kind;
  frame = release.frame;
  deadline = release.deadline;
  first = release.first;
  event = release.event;
  run = run;
  words = words;
  locals = locals;
  handler = handler;
  numbers = numbers;
  body = body;
  handler_tree = segs;
}

module _ (g : Program) (events : List Name) (over : ℕ) (p : Process) (x : ProcessParts) (size : ProcessMeasure) where
  pub process-is : (release : ReleaseFields) (run words locals handler : ℕ) (numbers : List ℕ) (body : tree.Segs) (segs : Option tree.Segs) → release ≡ release_told g events p.activation
      → run ≡ cap (with_dispatch over size.cost) → words ≡ words_of g p.vars → locals ≡ frame_words p → handler ≡ start_told x.handler → numbers ≡ numbers_told g p.handler
      → body ≡ views x.body.tree → segs ≡ option_map (λ y. views y.tree) x.handler
      → record (process_told g events over p x size) {
        kind = release.kind;
        frame = release.frame;
        deadline = release.deadline;
        first = release.first;
        event = release.event;
        run = run;
        words = words;
        locals = locals;
        handler = handler;
        numbers = numbers;
        body = body;
        handler_tree = segs;
      } ≡ process_told g events over p x size
  process-is release run words locals handler numbers body segs a b c d e f h i =
      let q : image.Process = process_told g events over p x size in
      let r : ReleaseFields = release_told g events p.activation in
      ap (λ v. process_with q v run words locals handler numbers body segs) a
      ∙ ap (λ v. process_with q r v words locals handler numbers body segs) b
      ∙ ap (λ v. process_with q r q.run v locals handler numbers body segs) c
      ∙ ap (λ v. process_with q r q.run q.words v handler numbers body segs) d
      ∙ ap (λ v. process_with q r q.run q.words q.locals v numbers body segs) e
      ∙ ap (λ v. process_with q r q.run q.words q.locals q.handler v body segs) f
      ∙ ap (λ v. process_with q r q.run q.words q.locals q.handler q.numbers v segs) h
      ∙ ap (λ v. process_with q r q.run q.words q.locals q.handler q.numbers q.body v) i
