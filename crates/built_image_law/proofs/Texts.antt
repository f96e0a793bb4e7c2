-- The text of a process of an image.
use Rattle.std.proofs.Common.{◌≡◌, ℕ, zero, suc, List, [], ◌∷◌, Some, refl, subst}
use Rattle.std.specs.Prelude.{slice_get}
use Rattle.machine_isa.specs.declared.instr.Instr.{Instr}
use Rattle.syntax_tree.specs.Plain as tree
use Rattle.syntax_tree.specs.Plain.{Program}
use Rattle.machine_semantics.specs.Image.{Process}
use Rattle.code_spec.specs.Compiled.{EmitsProcess, EmitsProcesses}

pub record Emitted (g : Program) (code : List Instr) (ts : List tree.Process) (i : ℕ) (p : Process) : Type 0 where
  pub text : tree.Process
  pub there : slice_get ts i ≡ Some text
  pub number : ℕ
  pub start : ℕ
  pub next : ℕ
  pub emits : EmitsProcess g code number text start next p

pub emitted : (g : Program) (code : List Instr) (k a b : ℕ) (ts : List tree.Process) (ps : List Process) → EmitsProcesses g code k a b ts ps
    → (i : ℕ) (p : Process) → slice_get ps i ≡ Some p → Emitted g code ts i p
emitted g code k a b [] [] h i p at = absurd cc
emitted g code k a b [] (x ∷ xs) h i p at = absurd h
emitted g code k a b (t ∷ ts) [] h i p at = absurd h
emitted g code k a b (t ∷ ts) (x ∷ xs) h zero p at =
    let same : x ≡ p = cc in
    record { text = t; there = refl; number = k; start = a; next = h.0; emits = subst (λ (y : Process). EmitsProcess g code k t a h.0 y) same h.1 }
emitted g code k a b (t ∷ ts) (x ∷ xs) h (suc i) p at =
    let r = emitted g code (suc k) h.0 b ts xs h.2 i p at in
    record { text = r.text; there = r.there; number = r.number; start = r.start; next = r.next; emits = r.emits }
