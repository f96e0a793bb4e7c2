-- The processes of an image that declares what its text says.
use Rattle.std.specs.Prelude.{◌≡◌, ◌+◌, ℕ, zero, suc, List, [], ◌∷◌, length, Option, Some, None, slice_get}
use Rattle.std.proofs.Common.{refl, sym, subst, arith}
use Rattle.syntax_tree.specs.Plain.{Process, Program}
use Rattle.source_semantics.specs.Names.{processes, routine_count}
use Rattle.machine_isa.specs.declared.instr.Instr.{Instr}
use Rattle.machine_semantics.specs.Image as image
use Rattle.machine_semantics.specs.Trees.{Segs, size}
use Rattle.valid_image.specs.Tables.{known, handler_found}
use Rattle.code_spec.specs.Numbering.{Text, numbered, number_of}
use Rattle.code_spec.specs.Compiled.{EmitsRoutines, EmitsProcess, EmitsProcesses, IsCodeOf}
use Rattle.code_cost_spec.specs.Levels.{calls_at}
use Rattle.code_measures.specs.Sound.{IsKnown}
use Rattle.code_measures.specs.Measured.{handler_part, IsMeasuredProcess}
use Rattle.code_measures.proofs.Parts.{processes_are_measured}
use Rattle.code_measures.specs.Declared.{IsBelow, IsSound, Declares, declared_calls}
use Rattle.code_measures.proofs.Likes.{CallsSame}
use Rattle.code_measures.proofs.Maps.{map_process}
use Rattle.code_measures.proofs.Rows.{row}

-- a routine of the image is that of a text
pub text_at : (g : Program) (code : List Instr) (p q : ℕ) (ts : List Text) (rs : List image.Routine) (r : ℕ) (x : image.Routine) → EmitsRoutines g code p q ts rs → slice_get rs r ≡ Some x → (t : Text) × (slice_get ts r ≡ Some t)
text_at g code p q [] [] r x h at = absurd cc
text_at g code p q [] (y ∷ ys) r x h at = absurd h
text_at g code p q (u ∷ us) [] r x h at = absurd h
text_at g code p q (u ∷ us) (y ∷ ys) zero x h at = (u, refl)
text_at g code p q (u ∷ us) (y ∷ ys) (suc r) x h at = text_at g code h.0 q us ys r x h.4 at

body_at : (g : Program) (code : List Instr) (k p q : ℕ) (ts : List Process) (rs : List image.Process) (r : ℕ) (x : image.Process) → EmitsProcesses g code k p q ts rs → slice_get rs r ≡ Some x
    → (t : Process) × (next : ℕ) × (slice_get ts r ≡ Some t) × EmitsProcess g code (k + r) t x.start next x
body_at g code k p q [] [] r x h at = absurd cc
body_at g code k p q [] (y ∷ ys) r x h at = absurd h
body_at g code k p q (u ∷ us) [] r x h at = absurd h
body_at g code k p q (u ∷ us) (y ∷ ys) zero x h at =
    let same : y ≡ x = cc in (u, h.0, refl, subst (λ z. EmitsProcess g code (k + 0) u z.start h.0 z) same (subst (λ j. EmitsProcess g code j u y.start h.0 y) (flat k) (subst (λ a. EmitsProcess g code k u a h.0 y) (sym h.1.start) h.1)))
  where
    flat : (k : ℕ) → k ≡ k + 0
    flat k = omega arith
body_at g code k p q (u ∷ us) (y ∷ ys) (suc r) x h at =
    let b = body_at g code (suc k) h.0 q us ys r x h.2 at in (b.0, b.1, b.2, subst (λ j. EmitsProcess g code j b.0 x.start b.1 x) (further k r) b.3)
  where
    further : (k r : ℕ) → suc k + r ≡ k + suc r
    further k r = omega arith

module _ (g : Program) (m : image.Image) (is : IsCodeOf g m) (sound : IsSound g) (declares : Declares g m) where
  pub known_all : (t : Text) → IsBelow g (length (numbered g)) t → IsKnown g (known m) (declared_calls g) t
  known_all t low = let b = row g m is sound declares (number_of g t) t low.there in record { known_as = b.row; there = b.there; params = b.params; results = b.results; locals = b.locals; height = b.height; cost = b.cost }

  pub record BodyIs (k : ℕ) (x : image.Process) : Type 0 where
    pub text : Process
    pub there : slice_get (processes g) k ≡ Some text
    pub next : ℕ
    pub emits : EmitsProcess g m.code k text x.start next x
    pub measured : IsMeasuredProcess g m.code (known m) (declared_calls g) k text x next

  pub body : (k : ℕ) (x : image.Process) → slice_get m.processes k ≡ Some x → BodyIs k x
  body k x at =
      let b = body_at g m.code 0 is.between (length m.code) (processes g) m.processes k x is.process_code at in
      let here : EmitsProcess g m.code k b.0 x.start b.1 x = subst (λ j. EmitsProcess g m.code j b.0 x.start b.1 x) (plain k) b.3 in
      record {
        text = b.0;
        there = b.2;
        next = b.1;
        emits = here;
        measured = processes_are_measured g m.code (known m) (declared_calls g) k b.0 x b.1 here (map_process g (λ y. IsBelow g (length (numbered g)) y) (λ y. IsKnown g (known m) (declared_calls g) y) (λ u low. known_all u low) k b.0 (sound.bodies k b.0 b.2));
      }
    where
      plain : (k : ℕ) → 0 + k ≡ k
      plain k = omega arith

  pub calls_all : CallsSame (λ y. IsBelow g (length (numbered g)) y) (declared_calls g) (calls_at (routine_count g) g)
  calls_all t low = (row g m is sound declares (number_of g t) t low.there).same (routine_count g) (omega (arith, low.low, sound.few))

  pub handler_same : (x : image.Process) (o : Option Segs) → handler_found m x o ≡ handler_part m.code (known m) o (x.start + size x.body + 1)
  handler_same x None = refl
  handler_same x (Some tree) = refl
