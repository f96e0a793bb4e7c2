-- The frame that is kept for an event is that of the process that it releases.
use Rattle.std.proofs.Common.{◌≡◌, ◌≤◌, ◌<◌, ◌+◌, ◌++◌, ◌∙◌, ℕ, zero, suc, Bool, true, false, List, [], ◌∷◌, length, map, take, Option, Some, None, arith, refl, ap, sym, subst}
use Rattle.std.specs.Prelude.{◌&&◌, ◌||◌, ◌==◌, not, if◌then◌else◌, nat_eq, nat_lt, option_map, slice_get, unwrap_or}
use Rattle.std.specs.List.{list_any}
use Rattle.std.proofs.lemmas.Bool.Decides.{nat_tests}
use Rattle.std.proofs.lemmas.Bool.{or_parts}
use Rattle.image.specs.declared.names.EventName.{EventName}
use Rattle.image_format.specs.Format.{unless}
use Rattle.image_reader.specs.Grammar as g
use Rattle.image_reader.specs.File as f
use Rattle.machine_semantics.specs.Image.{Process}
use Rattle.image_reader_law.proofs.Readings.{fine_is}

-- an event that is there, and that none of these uses
record IsNew (events : ℕ) (used : List ℕ) (event : ℕ) : Type 0 where
  there : event < events
  fresh : list_any (λ e. nat_eq e event) used ≡ false

is_new : (events : ℕ) (used : List ℕ) (kind event : ℕ) → kind ≡ 1 → g.wrong_event events used kind event ≡ None → IsNew events used event
is_new events used kind event is fine =
    by (nat_lt event events) (list_any (λ e. nat_eq e event) used) refl refl
    (fine_is (nat_lt event events && not (list_any (λ e. nat_eq e event) used)) 4 (subst (λ (k : ℕ). g.wrong_event events used k event ≡ None) is fine))
  where
    by : (a b : Bool) → nat_lt event events ≡ a → list_any (λ e. nat_eq e event) used ≡ b → (a && not b) ≡ true → IsNew events used event
    by true false below none h = record { there = grind (arith, nat_tests, below); fresh = none }
    by true true below some h = absurd cc
    by false b below any h = absurd cc

-- the event's process is the first that names it
first_frame : (qs : List (List ℕ × Process)) (k : ℕ) (x : List ℕ × Process) → slice_get qs k ≡ Some x → x.1.kind ≡ 1 → list_any (λ e. nat_eq e x.1.event) (f.used_by (take k qs)) ≡ false
    → f.frame_for x.1.event (map (λ (q : List ℕ × Process). q.1) qs) ≡ x.1.frame
first_frame [] k x at kind fresh = absurd cc
first_frame (y ∷ qs) zero x at kind fresh =
    let same : y ≡ x = cc in
    let test : nat_eq x.1.event x.1.event ≡ true = grind (arith, nat_tests) in
    subst (λ (z : List ℕ × Process). f.frame_for x.1.event (z.1 ∷ map (λ (q : List ℕ × Process). q.1) qs) ≡ x.1.frame) (sym same)
    (ap (λ (n : ℕ). if not (n == 0) && nat_eq x.1.event x.1.event then x.1.frame else f.frame_for x.1.event (map (λ (q : List ℕ × Process). q.1) qs)) kind
    ∙ ap (λ (b : Bool). if b then x.1.frame else f.frame_for x.1.event (map (λ (q : List ℕ × Process). q.1) qs)) test)
first_frame (y ∷ qs) (suc k) x at kind fresh = by (λ unused. first_frame qs k x at kind unused) (y.1.kind == 0) refl where
  rest : List Process
  rest = map (λ (q : List ℕ × Process). q.1) qs

  by : (list_any (λ e. nat_eq e x.1.event) (f.used_by (take k qs)) ≡ false → f.frame_for x.1.event rest ≡ x.1.frame) → (b : Bool) → (y.1.kind == 0) ≡ b → f.frame_for x.1.event (y.1 ∷ rest) ≡ x.1.frame
  by later true is =
      let unused : list_any (λ e. nat_eq e x.1.event) (f.used_by (take k qs)) ≡ false = sym (ap (λ (b : Bool). list_any (λ e. nat_eq e x.1.event) ((if b then [] else y.1.event ∷ []) ++ f.used_by (take k qs))) is) ∙ fresh in
      ap (λ (b : Bool). if not b && nat_eq y.1.event x.1.event then y.1.frame else f.frame_for x.1.event rest) is ∙ later unused
  by later false is =
      let both : (nat_eq y.1.event x.1.event || list_any (λ e. nat_eq e x.1.event) (f.used_by (take k qs))) ≡ false =
      sym (ap (λ (b : Bool). list_any (λ e. nat_eq e x.1.event) ((if b then [] else y.1.event ∷ []) ++ f.used_by (take k qs))) is) ∙ fresh in
      let two = or_parts (nat_eq y.1.event x.1.event) (list_any (λ e. nat_eq e x.1.event) (f.used_by (take k qs))) both in
      ap (λ (b : Bool). if not b && nat_eq y.1.event x.1.event then y.1.frame else f.frame_for x.1.event rest) is
      ∙ (ap (λ (b : Bool). if b then y.1.frame else f.frame_for x.1.event rest) two.0 ∙ later two.1)

-- the frame that stands at an event
abbrev pub frame_at : List EventName → ℕ → ℕ
frame_at events n = unwrap_or (option_map (λ (e : EventName). e.frame) (slice_get events n)) 0

framed_at : (at n : ℕ) (es : List (List ℕ)) (ps : List Process) → n < length es → frame_at (f.framed at es ps) n ≡ f.frame_for (at + n) ps
framed_at at n [] ps low = absurd (omega (arith, low))
framed_at at zero (e ∷ es) ps low = let here : at ≡ at + 0 = omega arith in ap (λ (m : ℕ). f.frame_for m ps) here
framed_at at (suc n) (e ∷ es) ps low =
    let here : at + 1 + n ≡ at + suc n = omega arith in
    framed_at (at + 1) n es ps (omega (arith, low)) ∙ ap (λ (m : ℕ). f.frame_for m ps) here

-- the frame of an event is that of its process
pub frame_is : (es : List (List ℕ)) (qs : List (List ℕ × Process)) (k : ℕ) (x : List ℕ × Process) → slice_get qs k ≡ Some x → x.1.kind ≡ 1 → g.wrong_event (length es) (f.used_by (take k qs)) x.1.kind x.1.event ≡ None
    → frame_at (f.framed 0 es (map (λ (q : List ℕ × Process). q.1) qs)) x.1.event ≡ x.1.frame
frame_is es qs k x at kind fine =
    let new = is_new (length es) (f.used_by (take k qs)) x.1.kind x.1.event kind fine in
    let here : 0 + x.1.event ≡ x.1.event = omega arith in
    framed_at 0 x.1.event es (map (λ (q : List ℕ × Process). q.1) qs) new.there
    ∙ (ap (λ (m : ℕ). f.frame_for m (map (λ (q : List ℕ × Process). q.1) qs)) here ∙ first_frame qs k x at kind new.fresh)
