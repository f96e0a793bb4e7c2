-- An image that holds a program has as many routines and processes, and their frames and deadlines.
use Rattle.std.proofs.Common.{◌≡◌, ℕ, zero, suc, List, [], ◌∷◌, length, Some, refl, ap, subst}
use Rattle.std.specs.Prelude.{slice_get}
use Rattle.syntax_tree.specs.Plain.{Process, Program}
use Rattle.source_semantics.specs.Names.{frame_of, deadline_of}
use Rattle.machine_semantics.specs.Image as image
use Rattle.code_spec.specs.Numbering.{Text}
use Rattle.codegen_spec.specs.declared.code.Part.{Part}
use Rattle.codegen_spec.specs.declared.code.ProcessParts.{ProcessParts}
use Rattle.codegen_spec.specs.Held.{HoldProcesses, HoldRoutines}

pub as_many_routines : (g : Program) (ts : List Text) (xs : List Part) (rs : List image.Routine) → HoldRoutines g ts xs rs → length rs ≡ length ts
as_many_routines g [] [] [] holds = refl
as_many_routines g [] [] (r ∷ rs) holds = absurd holds
as_many_routines g [] (x ∷ xs) rs holds = absurd holds
as_many_routines g (t ∷ ts) [] rs holds = absurd holds
as_many_routines g (t ∷ ts) (x ∷ xs) [] holds = absurd holds
as_many_routines g (t ∷ ts) (x ∷ xs) (r ∷ rs) holds = ap (λ n. suc n) (as_many_routines g ts xs rs holds.1)

pub as_many_processes : (g : Program) (ts : List Process) (xs : List ProcessParts) (ps : List image.Process) → HoldProcesses g ts xs ps → length ps ≡ length ts
as_many_processes g [] [] [] holds = refl
as_many_processes g [] [] (p ∷ ps) holds = absurd holds
as_many_processes g [] (x ∷ xs) ps holds = absurd holds
as_many_processes g (t ∷ ts) [] ps holds = absurd holds
as_many_processes g (t ∷ ts) (x ∷ xs) [] holds = absurd holds
as_many_processes g (t ∷ ts) (x ∷ xs) (p ∷ ps) holds = ap (λ n. suc n) (as_many_processes g ts xs ps holds.1)

-- as the text of the process says
pub record HasTimes (g : Program) (t : Process) (p : image.Process) : Type 0 where
  pub frame : p.frame ≡ frame_of g t.activation
  pub deadline : p.deadline ≡ deadline_of g t.activation

pub have_times : (g : Program) (ts : List Process) (xs : List ProcessParts) (ps : List image.Process) → HoldProcesses g ts xs ps
    → (k : ℕ) (t : Process) (p : image.Process) → slice_get ts k ≡ Some t → slice_get ps k ≡ Some p → HasTimes g t p
have_times g [] [] [] holds k t p text there = cc
have_times g [] [] (q ∷ ps) holds k t p text there = absurd holds
have_times g [] (x ∷ xs) ps holds k t p text there = absurd holds
have_times g (u ∷ ts) [] ps holds k t p text there = absurd holds
have_times g (u ∷ ts) (x ∷ xs) [] holds k t p text there = absurd holds
have_times g (u ∷ ts) (x ∷ xs) (q ∷ ps) holds zero t p text there =
    let same : u ≡ t = cc in
    let one : q ≡ p = cc in
    subst (λ v. HasTimes g v p) same (subst (λ r. HasTimes g u r) one (record { frame = holds.0.frame; deadline = holds.0.deadline }))
have_times g (u ∷ ts) (x ∷ xs) (q ∷ ps) holds (suc k) t p text there = have_times g ts xs ps holds.1 k t p text there
