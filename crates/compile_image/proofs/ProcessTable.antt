-- The processes that are put into an image.
use Rattle.std.proofs.Common.{◌≡◌, ◌∙◌, sym, ap, subst, refl, ℕ, zero, suc, List, [], ◌∷◌, length}
use Rattle.std.specs.Prelude.{Option, Some, None, filter_map, is_some, option_map, slice_get}
use Rattle.std.proofs.lemmas.Option.{same_Some as same}
use Rattle.syntax_tree.specs.Plain.{Name, Trigger, periodic, at_event, Handler, Process, Program}
use Rattle.base.specs.Capped.{cap}
use Rattle.source_semantics.specs.Names.{deadline_of, event_in, frame_of, processes}
use Rattle.machine_semantics.specs.Image as image
use Rattle.image_format.specs.View.{views}
use Rattle.valid_image.specs.Sizes.{with_dispatch}
use Rattle.code_spec.specs.Layout.{frame_words}
use Rattle.code_spec.specs.Compiled.{IsReleased}
use Rattle.code_cost_spec.specs.Levels.{cost_of_process, stack_of_process}
use Rattle.code_cost.specs.declared.program.ProcessMeasure.{ProcessMeasure}
use Rattle.code_cost.specs.declared.program.Measures.{Measures}
use Rattle.codegen_spec.specs.declared.code.Part.{Part}
use Rattle.codegen_spec.specs.declared.code.ProcessParts.{ProcessParts}
use Rattle.codegen_spec.specs.declared.code.Code.{Code}
use Rattle.codegen_spec.specs.Held.{HoldsHandler, HoldsProcess, HoldProcesses}
use Rattle.code_measures.specs.Declared.{DeclaresProcess}
use Rattle.code_cost.specs.Sizes.{AreDefined, IsSizeOf}
use Rattle.compile_image.specs.Fields.{FitsFields, FitsParts, FitsProcess, HasParts, HaveHandlers}
use Rattle.compile_image.specs.Rows.{FitsSize, FitSizes, IsCapped}
use Rattle.compile_image.specs.Told.{numbers_told, process_told, processes_told, release_told, start_told}
use Rattle.compile_image.proofs.Costs.{dispatched, exact-held, first-low, is-capped, low-held, none-left, none-there, same-rest}

size-fits : (g : Program) (k : ℕ) (p : Process) (x : ProcessParts) (size : ProcessMeasure) → FitsProcess g k p → FitsParts x → IsSizeOf g k p size → FitsSize g p x size
size-fits g k p x size fits parts is = record {
  words = fits.words;
  locals = first-low (frame_words p) _ fits.stack;
  stack = low-held size.stack (stack_of_process g k p) is.stack fits.stack;
  handler = fits.handler;
  parts = parts;
  cost = subst (λ c. IsCapped c) (sym is.cost) (is-capped (cost_of_process g k p));
}

-- what holds of a process by its number, in lists of which this is the beginning
all-fit : (g : Program) (number : ℕ → ℕ) (ps : List Process) (xs : List ProcessParts) (sizes : List ProcessMeasure) → HaveHandlers ps xs → length sizes ≡ length ps
    → ((k : ℕ) (p : Process) → slice_get ps k ≡ Some p → FitsProcess g (number k) p)
    → ((k : ℕ) (x : ProcessParts) → slice_get xs k ≡ Some x → FitsParts x)
    → ((k : ℕ) (p : Process) (size : ProcessMeasure) → slice_get ps k ≡ Some p → slice_get sizes k ≡ Some size → IsSizeOf g (number k) p size)
    → FitSizes g ps xs sizes
all-fit g number [] [] [] a b fits begins is = tt
all-fit g number [] [] (s ∷ ss) a b fits begins is = none-left (length ss) b
all-fit g number [] (x ∷ xs) sizes a b fits begins is = absurd a
all-fit g number (p ∷ ps) [] sizes a b fits begins is = absurd a
all-fit g number (p ∷ ps) (x ∷ xs) [] a b fits begins is = none-there (length ps) b
all-fit g number (p ∷ ps) (x ∷ xs) (s ∷ ss) a b fits begins is = (
  size-fits g (number 0) p x s (fits 0 p refl) (begins 0 x refl) (is 0 p s refl refl),
  all-fit g (λ k. number (suc k)) ps xs ss a.1 (same-rest (length ss) (length ps) b) (λ k. fits (suc k)) (λ k. begins (suc k)) (λ k. is (suc k)),
)

pub sizes-fit : (g : Program) (k : Code) (m : Measures) → HasParts g k → FitsFields g k → AreDefined g m → FitSizes g (processes g) k.processes m.processes
sizes-fit g k m parts fits is = all-fit g (λ n. n) (processes g) k.processes m.processes parts.processes is.sizes fits.processes fits.process_parts is.bodies

-- ---- what the image holds

handler-held : (g : Program) (h : Option Handler) (x : Option Part) (p : image.Process) → is_some x ≡ is_some h → p.handler ≡ start_told x → p.numbers ≡ numbers_told g h
    → p.handler_tree ≡ option_map (λ y. views y.tree) x → HoldsHandler g h x p
handler-held g None None p same start numbers tree = (start, numbers, tree)
handler-held g None (Some x) p same start numbers tree = absurd (cc)
handler-held g (Some h) None p same start numbers tree = absurd (cc)
handler-held g (Some h) (Some x) p same start numbers tree = (start, numbers, tree)

frame-told : (g : Program) (events : List Name) (a : Trigger) → (release_told g events a).frame ≡ frame_of g a
frame-told g events (periodic frame deadline first) = refl
frame-told g events (at_event e frame deadline) = refl

deadline-told : (g : Program) (events : List Name) (a : Trigger) → (release_told g events a).deadline ≡ deadline_of g a
deadline-told g events (periodic frame deadline first) = refl
deadline-told g events (at_event e frame deadline) = refl

released : (g : Program) (a : Trigger) (p : image.Process) → p.kind ≡ (release_told g (filter_map event_in g.decls) a).kind → p.first ≡ (release_told g (filter_map event_in g.decls) a).first
    → p.event ≡ (release_told g (filter_map event_in g.decls) a).event → IsReleased g a p
released g (periodic frame deadline first) p kind start event = (kind, start, event)
released g (at_event e frame deadline) p kind start event = (kind, start, event)

process-held : (g : Program) (over : ℕ) (p : Process) (x : ProcessParts) (size : ProcessMeasure) → is_some x.handler ≡ is_some p.handler → HoldsProcess g p x (process_told g (filter_map event_in g.decls) over p x size)
process-held g over p x size same =
    let y : image.Process = process_told g (filter_map event_in g.decls) over p x size in
    record {
      start = refl;
      tree = refl;
      handler = handler-held g p.handler x.handler y same refl refl refl;
      locals = refl;
      words = refl;
      frame = frame-told g (filter_map event_in g.decls) p.activation;
      deadline = deadline-told g (filter_map event_in g.decls) p.activation;
      released = released g p.activation y refl refl refl;
    }

all-held : (g : Program) (over : ℕ) (ps : List Process) (xs : List ProcessParts) (sizes : List ProcessMeasure) → FitSizes g ps xs sizes → HaveHandlers ps xs
    → HoldProcesses g ps xs (processes_told g (filter_map event_in g.decls) over ps xs sizes)
all-held g over [] [] [] fit same = tt
all-held g over [] [] (s ∷ ss) fit same = absurd fit
all-held g over [] (x ∷ xs) sizes fit same = absurd fit
all-held g over (p ∷ ps) [] sizes fit same = absurd fit
all-held g over (p ∷ ps) (x ∷ xs) [] fit same = absurd fit
all-held g over (p ∷ ps) (x ∷ xs) (s ∷ ss) fit same = (process-held g over p x s same.0, all-held g over ps xs ss fit.1 same.1)

pub processes-held : (g : Program) (over : ℕ) (k : Code) (m : Measures) → HasParts g k → FitsFields g k → AreDefined g m
    → HoldProcesses g (processes g) k.processes (processes_told g (filter_map event_in g.decls) over (processes g) k.processes m.processes)
processes-held g over k m parts fits is = all-held g over (processes g) k.processes m.processes (sizes-fit g k m parts fits is) parts.processes

-- ---- what the image declares

record Found (g : Program) (events : List Name) (over : ℕ) (p : Process) (sizes : List ProcessMeasure) (n : ℕ) (y : image.Process) : Type 0 where
  parts : ProcessParts
  size : ProcessMeasure
  known : slice_get sizes n ≡ Some size
  is : process_told g events over p parts size ≡ y

found : (g : Program) (events : List Name) (over : ℕ) (ps : List Process) (xs : List ProcessParts) (sizes : List ProcessMeasure) → FitSizes g ps xs sizes
    → (n : ℕ) (p : Process) (y : image.Process) → slice_get ps n ≡ Some p → slice_get (processes_told g events over ps xs sizes) n ≡ Some y → Found g events over p sizes n y
found g events over [] [] [] fit n p y there is = absurd (cc)
found g events over [] [] (s ∷ ss) fit n p y there is = absurd fit
found g events over [] (x ∷ xs) sizes fit n p y there is = absurd fit
found g events over (q ∷ ps) [] sizes fit n p y there is = absurd fit
found g events over (q ∷ ps) (x ∷ xs) [] fit n p y there is = absurd fit
found g events over (q ∷ ps) (x ∷ xs) (s ∷ ss) fit zero p y there is =
    record { parts = x; size = s; known = refl; is = ap (λ v. process_told g events over v x s) (sym (same q p there)) ∙ same (process_told g events over q x s) y is }
found g events over (q ∷ ps) (x ∷ xs) (s ∷ ss) fit (suc n) p y there is =
    let d = found g events over ps xs ss fit.1 n p y there is in
    record { parts = d.parts; size = d.size; known = d.known; is = d.is }

size-declares : (g : Program) (events : List Name) (over k : ℕ) (p : Process) (x : ProcessParts) (size : ProcessMeasure) (y : image.Process) → FitsProcess g k p → IsSizeOf g k p size
    → process_told g events over p x size ≡ y → DeclaresProcess g over k p y
size-declares g events over k p x size y fits of is = record {
  run = ap (λ z. z.run) (sym is) ∙ ap (λ c. cap (with_dispatch over c)) of.cost ∙ dispatched over (cost_of_process g k p);
  susp = ap (λ z. z.susp) (sym is) ∙ ap (λ c. c.susp) of.cost;
  waits = ap (λ z. z.waits) (sym is) ∙ ap (λ c. c.waits) of.cost;
  stack = ap (λ z. z.stack) (sym is) ∙ exact;
}
  where
    exact : size.stack ≡ stack_of_process g k p
    exact = exact-held size.stack (stack_of_process g k p) of.stack fits.stack

pub process-declares : (g : Program) (events : List Name) (over : ℕ) (k : Code) (m : Measures) → HasParts g k → FitsFields g k → AreDefined g m
    → (n : ℕ) (p : Process) (y : image.Process) → slice_get (processes g) n ≡ Some p → slice_get (processes_told g events over (processes g) k.processes m.processes) n ≡ Some y
    → DeclaresProcess g over n p y
process-declares g events over k m parts fits is n p y there told =
    let d = found g events over (processes g) k.processes m.processes (sizes-fit g k m parts fits is) n p y there told in
    size-declares g events over n p d.parts d.size y (fits.processes n p there) (is.bodies n p d.size there d.known) d.is
