-- The frame of the process that an event releases, found from left to right.
use Rattle.std.proofs.Common.{◌≡◌, ◌==◌, ◌<◌, ◌+◌, ◌&&◌, ◌∙◌, ◌∷◌, ℕ, List, not, length, get_or, drop, map, if◌then◌else◌, ap, refl, sym}
use Rattle.std.specs.Prelude.{nat_eq}
use Rattle.std.proofs.lemmas.Bool.{eq-eqb, ne_eqb}
use Rattle.std.proofs.lemmas.List.{at_drop_more}
use Rattle.image.specs.declared.raw.RawProcess.{RawProcess}
use Rattle.image.specs.Raw.{process_of}
use Rattle.image_reader.specs.File.{frame_for}

abbrev rest_frame : (event : ℕ) → List RawProcess → ℕ
rest_frame event ps = frame_for event (map process_of ps)

one_process : (event : ℕ) (ps : List RawProcess) (i : ℕ) (p : RawProcess) → i < length ps → p ≡ get_or ps i p
    → rest_frame event (drop i ps) ≡ (if not (p.kind == 0) && nat_eq p.event event then p.frame else rest_frame event (drop (i + 1) ps))
one_process event ps i p lt is = at_drop_more (rest_frame event) ps i p lt ∙ ap (λ (q : RawProcess). rest_frame event (q ∷ drop (i + 1) ps)) (sym is)

-- the process has the event
pub found_frame : (event : ℕ) (ps : List RawProcess) (i : ℕ) (p : RawProcess) (total : ℕ) → i < length ps → p ≡ get_or ps i p → (p.kind ≡ 0 → ⊥) → p.event ≡ event → rest_frame event (drop i ps) ≡ total
    → p.frame ≡ total
found_frame event ps i p total lt is kind same so_far =
    let one : (if not (p.kind == 0) && nat_eq p.event event then p.frame else rest_frame event (drop (i + 1) ps)) ≡ p.frame = rw (ne_eqb p.kind 0 kind, eq-eqb p.event event same) refl in
    sym (one_process event ps i p lt is ∙ one) ∙ so_far

-- the process has none
pub next_periodic : (event : ℕ) (ps : List RawProcess) (i : ℕ) (p : RawProcess) (total : ℕ) → i < length ps → p ≡ get_or ps i p → p.kind ≡ 0 → rest_frame event (drop i ps) ≡ total
    → rest_frame event (drop (i + 1) ps) ≡ total
next_periodic event ps i p total lt is kind so_far =
    let one : (if not (p.kind == 0) && nat_eq p.event event then p.frame else rest_frame event (drop (i + 1) ps)) ≡ rest_frame event (drop (i + 1) ps) = rw (eq-eqb p.kind 0 kind) refl in
    sym (one_process event ps i p lt is ∙ one) ∙ so_far

-- the process has another
pub next_other : (event : ℕ) (ps : List RawProcess) (i : ℕ) (p : RawProcess) (total : ℕ) → i < length ps → p ≡ get_or ps i p → (p.kind ≡ 0 → ⊥) → (p.event ≡ event → ⊥) → rest_frame event (drop i ps) ≡ total
    → rest_frame event (drop (i + 1) ps) ≡ total
next_other event ps i p total lt is kind other so_far =
    let one : (if not (p.kind == 0) && nat_eq p.event event then p.frame else rest_frame event (drop (i + 1) ps)) ≡ rest_frame event (drop (i + 1) ps) = rw (ne_eqb p.kind 0 kind, ne_eqb p.event event other) refl in
    sym (one_process event ps i p lt is ∙ one) ∙ so_far
