-- Releases of a process stand its frame apart, where the script respects the frames.
use Rattle.std.proofs.Common.{◌≡◌, ◌≤◌, ◌<◌, ◌+◌, ◌-◌, ◌*◌, ◌⊎◌, inl, inr, ℕ, zero, suc, List, [], ◌∷◌, Some, arith, refl, ap, sym, subst, ◌∙◌, true, false, Bool}
use Rattle.std.specs.Prelude.{slice_get, nat_eq, nat_le, ◌&&◌, ◌||◌, ◌/◌, ◌%◌}
use Rattle.std.proofs.lemmas.Bool.Decides.{nat_tests}
use Rattle.std.proofs.lemmas.Nat.{div-add-mod'}
use Rattle.std.proofs.lemmas.Bool.{or_cases, and_parts}
use Rattle.machine_semantics.specs.Image.{Image, Process, Script, Line, Sets, Occurs}
use Rattle.machine_semantics.specs.Starts.{is_periodic_due}
use Rattle.sched_timing.specs.Views.{occurs_at, is_event_due, is_due}
use Rattle.sched_timing.specs.Timed.{RespectsFrames}
use Rattle.sched_timing.proofs.Overruns.{Once}

-- ---- multiples

less_or_not : (a b : ℕ) → (a < b) ⊎ (b ≤ a)
less_or_not a zero = inr (omega arith)
less_or_not zero (suc b) = inl (omega arith)
less_or_not (suc a) (suc b) = elim (less_or_not a b) [ inl lt ↦ inl (omega (arith, lt)) | inr le ↦ inr (omega (arith, le)) ]

times_le : (a b c : ℕ) → b ≤ c → b * a ≤ c * a
times_le a b c h = let e : c ≡ b + (c - b) = omega arith in subst (λ (x : ℕ). b * a ≤ x * a) (sym e) (omega arith)

multiples_apart : (x y a b frame : ℕ) → x ≡ a * frame → y ≡ b * frame → x < y → x + frame ≤ y
multiples_apart x y a b frame of_x of_y below = elim (less_or_not a b) [
  | inl lt ↦ omega (arith, of_x, of_y, times_le frame (suc a) b lt)
  | inr le ↦ absurd (omega (arith, of_x, of_y, below, times_le frame b a le))
]

multiple : (x frame : ℕ) → x % frame ≡ 0 → x ≡ x / frame * frame
multiple x frame is = omega (arith, div-add-mod' x frame, is)

-- what is known of a periodic release
record Periodic (t : ℕ) (p : Process) : Type 0 where
  kind : p.kind ≡ 0
  since : p.first ≤ t
  whole : (t - p.first) % p.frame ≡ 0

is_periodic : (t : ℕ) (p : Process) → is_periodic_due t p ≡ true → Periodic t p
is_periodic t p due =
    let a : (nat_eq p.kind 0 && nat_le p.first t ≡ true) × (nat_eq ((t - p.first) % p.frame) 0 ≡ true) = and_parts (nat_eq p.kind 0 && nat_le p.first t) (nat_eq ((t - p.first) % p.frame) 0) due in
    let b : (nat_eq p.kind 0 ≡ true) × (nat_le p.first t ≡ true) = and_parts (nat_eq p.kind 0) (nat_le p.first t) a.0 in
    record { kind = grind (arith, nat_tests, b.0); since = grind (arith, nat_tests, b.1); whole = grind (arith, nat_tests, a.1) }

periods_apart : (t u : ℕ) (p : Process) → Periodic t p → Periodic u p → t < u → t + p.frame ≤ u
periods_apart t u p a b below =
    let apart : (t - p.first) + p.frame ≤ u - p.first =
    multiples_apart (t - p.first) (u - p.first) ((t - p.first) / p.frame) ((u - p.first) / p.frame) p.frame (multiple (t - p.first) p.frame a.whole) (multiple (u - p.first) p.frame b.whole) (omega (arith, a.since, b.since, below)) in
    omega (arith, a.since, b.since, apart)

-- ---- events

-- an event that occurs at a tick stands in a line
pub occurs_found : (ls : List Line) (t n : ℕ) → occurs_at ls t n ≡ true → (j : ℕ) × (slice_get ls j ≡ Some (Occurs t n))
occurs_found [] t n is = absurd cc
occurs_found (Sets u d v ∷ ls) t n is = let later : (j : ℕ) × (slice_get ls j ≡ Some (Occurs t n)) = occurs_found ls t n is in (suc later.0, later.1)
occurs_found (Occurs u m ∷ ls) t n is = by (nat_eq u t && nat_eq n m) refl is (occurs_found ls t n) where
  by : (b : Bool) → nat_eq u t && nat_eq n m ≡ b → b || occurs_at ls t n ≡ true → (occurs_at ls t n ≡ true → (j : ℕ) × (slice_get ls j ≡ Some (Occurs t n))) → (j : ℕ) × (slice_get (Occurs u m ∷ ls) j ≡ Some (Occurs t n))
  by true here is later =
      let both : (nat_eq u t ≡ true) × (nat_eq n m ≡ true) = and_parts (nat_eq u t) (nat_eq n m) here in
      let tick_is : u ≡ t = grind (arith, nat_tests, both.0) in
      let event_is : n ≡ m = grind (arith, nat_tests, both.1) in
      (0, ap (λ (x : ℕ). Some (Occurs x m)) tick_is ∙ ap (λ (x : ℕ). Some (Occurs t x)) (sym event_is))
  by false here is later = let found : (j : ℕ) × (slice_get ls j ≡ Some (Occurs t n)) = later is in (suc found.0, found.1)

once_from : (image : Image) (script : Script) (t i : ℕ) (ls : List Line) → RespectsFrames image script → ((k : ℕ) (p : Process) → slice_get image.processes k ≡ Some p → 1 ≤ p.frame)
    → ((j : ℕ) → slice_get ls j ≡ slice_get script.lines (i + j)) → Once image t ls
once_from image script t i [] respects frames same = tt
once_from image script t i (Sets u d v ∷ ls) respects frames same = once_from image script t (i + 1) ls respects frames (λ j. (let z : i + suc j ≡ i + 1 + j = omega arith in same (suc j) ∙ ap (λ (x : ℕ). slice_get script.lines x) z))
once_from image script t i (Occurs u n ∷ ls) respects frames same = (
  (λ tick_is k p process kind event. by tick_is k p process kind event (occurs_at ls t n) refl),
  once_from image script t (i + 1) ls respects frames (λ j. (let z : i + suc j ≡ i + 1 + j = omega arith in same (suc j) ∙ ap (λ (x : ℕ). slice_get script.lines x) z)),
) where
  by : u ≡ t → (k : ℕ) (p : Process) → slice_get image.processes k ≡ Some p → p.kind ≡ 1 → p.event ≡ n → (b : Bool) → occurs_at ls t n ≡ b → b ≡ false
  by tick_is k p process kind event false is = refl
  by tick_is k p process kind event true is =
      let found : (j : ℕ) × (slice_get ls j ≡ Some (Occurs t n)) = occurs_found ls t n is in
      let here : slice_get script.lines (i + 0) ≡ Some (Occurs t p.event) = sym (same 0) ∙ (ap (λ (x : ℕ). Some (Occurs x n)) tick_is ∙ ap (λ (x : ℕ). Some (Occurs t x)) (sym event)) in
      let there : slice_get script.lines (i + suc found.0) ≡ Some (Occurs t p.event) = sym (same (suc found.0)) ∙ (found.1 ∙ ap (λ (x : ℕ). Some (Occurs t x)) (sym event)) in
      absurd (elim (respects k p process kind (i + 0) (i + suc found.0) t t (λ z. absurd (omega (arith, z))) here there) [ inl late ↦ omega (arith, late, frames k p process) | inr late ↦ omega (arith, late, frames k p process) ])

pub once : (image : Image) (script : Script) (t : ℕ) → RespectsFrames image script → ((k : ℕ) (p : Process) → slice_get image.processes k ≡ Some p → 1 ≤ p.frame) → Once image t script.lines
once image script t respects frames = once_from image script t 0 script.lines respects frames (λ j. (let z : j ≡ 0 + j = omega arith in ap (λ (x : ℕ). slice_get script.lines x) z))

events_apart : (image : Image) (script : Script) (k t u : ℕ) (p : Process) → RespectsFrames image script → slice_get image.processes k ≡ Some p → is_event_due script t p ≡ true → is_event_due script u p ≡ true → t < u → t + p.frame ≤ u
events_apart image script k t u p respects process first second below =
    let a : (nat_eq p.kind 1 ≡ true) × (occurs_at script.lines t p.event ≡ true) = and_parts (nat_eq p.kind 1) (occurs_at script.lines t p.event) first in
    let b : (nat_eq p.kind 1 ≡ true) × (occurs_at script.lines u p.event ≡ true) = and_parts (nat_eq p.kind 1) (occurs_at script.lines u p.event) second in
    let kind : p.kind ≡ 1 = grind (arith, nat_tests, a.0) in
    let at_t : (j : ℕ) × (slice_get script.lines j ≡ Some (Occurs t p.event)) = occurs_found script.lines t p.event a.1 in
    let at_u : (j : ℕ) × (slice_get script.lines j ≡ Some (Occurs u p.event)) = occurs_found script.lines u p.event b.1 in
    elim (respects k p process kind at_t.0 at_u.0 t u (λ same. (let is : Occurs t p.event ≡ Occurs u p.event = (let both : Some (Occurs t p.event) ≡ Some (Occurs u p.event) = sym at_t.1 ∙ (ap (λ (x : ℕ). slice_get script.lines x) same ∙ at_u.1) in cc) in let ticks_are : t ≡ u = cc in absurd (omega (arith, ticks_are, below)))) at_t.1 at_u.1) [
      | inl late ↦ late
      | inr late ↦ absurd (omega (arith, late, below))
    ]

-- ---- both

event_kind : (script : Script) (t u : ℕ) (p : Process) → is_event_due script t p ≡ true → Periodic u p → ⊥
event_kind script t u p due periodic =
    let is : nat_eq p.kind 1 ≡ true = (and_parts (nat_eq p.kind 1) (occurs_at script.lines t p.event) due).0 in
    let kind : p.kind ≡ 1 = grind (arith, nat_tests, is) in
    omega (arith, kind, periodic.kind)

pub releases_apart : (image : Image) (script : Script) (k t u : ℕ) (p : Process) → RespectsFrames image script → slice_get image.processes k ≡ Some p → is_due script t p ≡ true → is_due script u p ≡ true → t < u → t + p.frame ≤ u
releases_apart image script k t u p respects process first second below =
    elim (or_cases (is_event_due script t p) (is_periodic_due t p) first) [
      | inl event_t ↦ elim (or_cases (is_event_due script u p) (is_periodic_due u p) second) [
        | inl event_u ↦ events_apart image script k t u p respects process event_t event_u below
        | inr period_u ↦ absurd (event_kind script t u p event_t (is_periodic u p period_u))
      ]
      | inr period_t ↦ elim (or_cases (is_event_due script u p) (is_periodic_due u p) second) [
        | inl event_u ↦ absurd (event_kind script u t p event_u (is_periodic t p period_t))
        | inr period_u ↦ periods_apart t u p (is_periodic t p period_t) (is_periodic u p period_u) below
      ]
    ]
