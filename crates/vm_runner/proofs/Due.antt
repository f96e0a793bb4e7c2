-- The least of the slots, and that nothing is due again at a tick whose start events are done.
use Rattle.std.proofs.Common.{◌≡◌, ◌≢◌, ◌≤◌, ◌<◌, ◌+◌, ◌-◌, ◌*◌, inl, inr, ℕ, zero, suc, Bool, true, false, List, [], ◌∷◌, Option, Some, None, length, drop, arith, refl, ap, sym, subst, ◌∙◌}
use Rattle.std.specs.Prelude.{slice_get, cond, nat_eq}
use Rattle.std.proofs.lemmas.Bool.{cases_lt}
use Rattle.std.proofs.lemmas.Bool.Decides.{nat_tests}
use Rattle.std.proofs.lemmas.Option.{slice_get_within}
use Rattle.base.proofs.Lists.{some_at}
use Rattle.vm_stretch.specs.Due.{least}
use Rattle.machine_semantics.specs.Image.{Image, Script, Line}
use Rattle.machine_semantics.specs.State.{State}
use Rattle.machine_semantics.specs.Starts.{starts}
use Rattle.vm_stretch.specs.Quiet.{line_tick}
use Rattle.vm_stretch.specs.StretchDue.{HasSlots, IsNextRelease, NoneBefore, first_tick}
use Rattle.vm_stretch.specs.StartLawsDue.{AreDone, HasDue, HasOwnRanks, moved_on}
use Rattle.vm_stretch.proofs.Waiting.{StartsEnd, due_of, starts_end}
use Rattle.vm_releases.proofs.Least.{at_least, least_there}

-- ---- the least of the slots

-- the least of slots of which none is due before v is not before v
pub due_later : (slots : List (Option ℕ)) (v due : ℕ) → NoneBefore v slots → Some due ≡ least slots → v ≤ due
due_later slots v due none is = let there = least_there slots due (sym is) in none there.0 due there.1

-- nothing is due before the least
pub due_first : (slots : List (Option ℕ)) (due : ℕ) → Some due ≡ least slots → NoneBefore due slots
due_first slots due is i r at =
    let d = at_least slots i r at in
    let both : Some due ≡ Some d.0 = is ∙ d.1.0 in
    let same : due ≡ d.0 = cc in
    let le : d.0 ≤ r = d.1.1 in
    omega (arith, same, le)

-- where nothing is due, nothing is before any tick
pub none_due : (slots : List (Option ℕ)) (v : ℕ) → None ≡ least slots → NoneBefore v slots
none_due slots v is i r at = let d = at_least slots i r at in absurd (let both : None ≡ Some d.0 = is ∙ d.1.0 in cc)

-- ---- after the start events of a tick

pub first_there : (ls : List Line) (k r : ℕ) → first_tick (drop k ls) ≡ Some r → (l : Line) × ((slice_get ls k ≡ Some l) × (line_tick l ≡ r))
first_there [] zero r is = absurd cc
first_there [] (suc k) r is = absurd cc
first_there (l ∷ ls) zero r is = (l, (refl, cc))
first_there (l ∷ ls) (suc k) r is = first_there ls k r is

-- a wait that was not over at tick t times out later
moved_later : (t r : ℕ) (old : Option ℕ) → Some r ≡ moved_on t None old → (old ≡ Some r) × (r ≢ t)
moved_later t r None is = absurd cc
moved_later t r (Some u) is = by (nat_eq u t) refl is where
  by : (b : Bool) → nat_eq u t ≡ b → Some r ≡ cond b None (Some u) → (Some u ≡ Some r) × (r ≢ t)
  by true test is' = absurd cc
  by false test is' =
      let same : r ≡ u = cc in
      (sym is', λ now. absurd (let here : u ≡ t = sym same ∙ now in grind (arith, nat_tests, test, here)))

-- once the start events of tick t are done, nothing is due up to it
pub starts_later : (image : Image) (script : Script) (t done done' : ℕ) (s : State) (slots slots' : List (Option ℕ)) → HasOwnRanks image → HasDue image script t done s slots → HasSlots image script t done' (starts image script t s).state slots' → AreDone t done' script.lines → NoneBefore (t + 1) slots'
starts_later image script t done done' s slots slots' ranks has new lines i r at =
    let n : ℕ = length image.processes in
    let within : i < 2 * n + 1 = (let w = slice_get_within slots' i (Some r) at in omega (arith, w, new.count)) in
    elim (cases_lt i n) [
      | inl release ↦
          let p = some_at image.processes i release in
          let next : IsNextRelease t p.0 (Some r) = new.releases i p.0 (Some r) p.1 at in
          let after : t < r = next.1 in
          omega (arith, after)
      | inr above ↦ elim (cases_lt i (2 * n)) [
        | inl wait ↦
            let k : ℕ = i - n in
            let here : i ≡ n + k = omega (arith, above) in
            let below : k < n = omega (arith, wait, above) in
            let p = some_at image.processes k below in
            let ends : StartsEnd t image s (starts image script t s).state = starts_end image script t s ranks in
            let at' : slice_get slots' (n + k) ≡ Some (Some r) = subst (λ (x : ℕ). slice_get slots' x ≡ Some (Some r)) here at in
            let is : Some r ≡ moved_on t None (due_of k s) = new.waits k (Some r) below at' ∙ ends.waits k p.0 p.1 in
            let moved = moved_later t r (due_of k s) is in
            let old = some_at slots (n + k) (omega (arith, has.count, below)) in
            let was : slice_get slots (n + k) ≡ Some (Some r) = old.1 ∙ ap (λ (x : Option ℕ). Some x) (has.waits k old.0 below old.1 ∙ moved.0) in
            let le : t ≤ r = has.none_late (n + k) r was in
            let apart : r ≢ t = moved.1 in
            omega (arith, le, apart)
        | inr line ↦
            let here : i ≡ 2 * n = omega (arith, within, line) in
            let both : Some (first_tick (drop done' script.lines)) ≡ Some (Some r) = sym new.line ∙ subst (λ (x : ℕ). slice_get slots' x ≡ Some (Some r)) here at in
            let is : first_tick (drop done' script.lines) ≡ Some r = cc in
            let first = first_there script.lines done' r is in
            let after : t < line_tick first.0 = lines.coming done' first.0 first.1.0 (omega arith) in
            let same : line_tick first.0 ≡ r = first.1.1 in
            omega (arith, after, same)
      ]
    ]
