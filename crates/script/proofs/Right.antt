-- A line of a script that respects the frames has no flaw after the lines before it.
use Rattle.std.proofs.Common.{◌≡◌, ℕ, ℤ, ◌+◌, ◌<◌, ◌≤◌, List, [], ◌∷◌, ◌++◌, length, get_or, fold, Bool, true, false, cond, Option, Some, None, refl, ap, sym, subst, ◌∙◌, arith, All, AllPairs, option_map, nat_lt, nat_eq, length-append}
use Rattle.std.proofs.lemmas.List.{get_or_append_left}
use Rattle.std.proofs.Math.Seq.{get_or-append_seam}
use Rattle.std.proofs.lemmas.List.Elements.{All-head, All-tail}
use Rattle.std.proofs.lemmas.Bool.Decides.{nat_tests}
use Rattle.std.proofs.lemmas.Bool.{eqb-true}
use Rattle.image.specs.declared.names.ImageNames.{ImageNames}
use Rattle.script.specs.declared.script.ScriptLine.{ScriptLine}
use Rattle.script.specs.declared.script.ScriptLine.TheVariants.{Set, Occur}
use Rattle.script.specs.declared.fault.Flaw.TheVariants.{Early, Soon}
use Rattle.script.specs.Saying.{Said, set, event, end}
use Rattle.script.specs.Scripts.{meaning, tick_of, frame_of, in_device, event_number, IsLater, IsApart, Respects}
use Rattle.script.specs.Faults.{last_tick, last_of, last_after, is_from, is_above, too_soon, first_flaw, event_too_soon, flaw}

-- each of the front stands so to the line behind it
front_to : (R : ScriptLine → ScriptLine → Type 0) (front rest : List ScriptLine) (line : ScriptLine) → AllPairs R (front ++ line ∷ rest) → All (λ x. R x line) front
front_to R front rest line pairs k d below =
    let len = length-append front (line ∷ rest) in
    let both = pairs k (length front) d below (omega (arith, len)) in
    let seam : get_or (front ++ line ∷ rest) (length front) d ≡ line = get_or-append_seam front line rest d in
    let here : get_or (front ++ line ∷ rest) k d ≡ get_or front k d = get_or_append_left front (line ∷ rest) d k below in
    subst (λ y. R (get_or front k d) y) seam (subst (λ x. R x (get_or (front ++ line ∷ rest) (length front) d)) here both)

-- ---- ticks

from_all : (tick : ℕ) (lines : List ScriptLine) (last : Option ℕ) → is_from tick last ≡ true → All (λ x. tick_of x ≤ tick) lines → is_from tick (fold (λ (o : Option ℕ) line. Some (tick_of line)) last lines) ≡ true
from_all tick [] last from all = from
from_all tick (x ∷ lines) last from all =
    let head : tick_of x ≤ tick = All-head (λ x. tick_of x ≤ tick) x lines all in
    let here : is_from tick (Some (tick_of x)) ≡ true = grind (arith, nat_tests) in
    from_all tick lines (Some (tick_of x)) here (All-tail (λ x. tick_of x ≤ tick) x lines all)

above_all : (tick : ℕ) (lines : List ScriptLine) (last : Option ℕ) → is_above tick last ≡ true → All (λ x. tick_of x < tick) lines → is_above tick (fold (λ (o : Option ℕ) line. Some (tick_of line)) last lines) ≡ true
above_all tick [] last above all = above
above_all tick (x ∷ lines) last above all =
    let head : tick_of x < tick = All-head (λ x. tick_of x < tick) x lines all in
    let here : is_above tick (Some (tick_of x)) ≡ true = grind (arith, nat_tests) in
    above_all tick lines (Some (tick_of x)) here (All-tail (λ x. tick_of x < tick) x lines all)

-- an end above all ticks has no flaw
pub end_right : (names : ImageNames) (lines : List ScriptLine) (last : ℕ) → All (λ line. tick_of line < last) lines → flaw names lines (end last) ≡ None
end_right names lines last all = at (is_above last (last_tick lines)) (above_all last lines None refl all)
  where
    at : (b : Bool) → b ≡ true → cond b None (Some Early) ≡ None
    at true e = refl
    at false e = cc

-- ---- occurrences

apart_free : (tick frame before : ℕ) → before + frame ≤ tick → too_soon tick frame (Some before) ≡ None
apart_free tick frame before apart = at (nat_lt tick (before + frame)) refl
  where
    at : (b : Bool) → nat_lt tick (before + frame) ≡ b → cond b (Some (Soon before tick)) None ≡ None
    at true e = absurd (grind (arith, nat_tests))
    at false e = refl

free_all : (names : ImageNames) (tick number : ℕ) (lines : List ScriptLine) (last : Option ℕ) → too_soon tick (frame_of names number) last ≡ None → All (λ x. IsApart names x (Occur tick number)) lines → too_soon tick (frame_of names number) (fold (last_after number) last lines) ≡ None
free_all names tick number [] last free all = free
free_all names tick number (x ∷ lines) last free all =
    free_all names tick number lines (last_after number last x) (step x (All-head (λ x. IsApart names x (Occur tick number)) x lines all)) (All-tail (λ x. IsApart names x (Occur tick number)) x lines all)
  where
    step : (x : ScriptLine) → IsApart names x (Occur tick number) → too_soon tick (frame_of names number) (last_after number last x) ≡ None
    step (Set t d v) apart = free
    step (Occur t n) apart = at (nat_eq n number) refl
      where
        at : (b : Bool) → nat_eq n number ≡ b → too_soon tick (frame_of names number) (cond b (Some t) last) ≡ None
        at true e = let same : n ≡ number = eqb-true n number e in apart_free tick (frame_of names number) t (subst (λ k. t + frame_of names k ≤ tick) same (apart same))
        at false e = free

-- ---- a line

set_right : (names : ImageNames) (lines : List ScriptLine) (tick : ℕ) (value : ℤ) (line : ScriptLine) (device : Option ℕ) → option_map (λ n. Set tick n value) device ≡ Some line → All (λ x. tick_of x ≤ tick_of line) lines → first_flaw device (is_from tick (last_tick lines)) None ≡ None
set_right names lines tick value line None means order = cc
set_right names lines tick value line (Some n) means order =
    let is : Set tick n value ≡ line = cc in
    let before : All (λ x. tick_of x ≤ tick) lines = subst (λ l. All (λ x. tick_of x ≤ tick_of l) lines) (sym is) order in
    ap (λ b. first_flaw (Some n) b None) (from_all tick lines None refl before)

event_right : (names : ImageNames) (lines : List ScriptLine) (tick : ℕ) (line : ScriptLine) (number : Option ℕ) → option_map (λ n. Occur tick n) number ≡ Some line → All (λ x. tick_of x ≤ tick_of line) lines → All (λ x. IsApart names x line) lines → first_flaw number (is_from tick (last_tick lines)) (event_too_soon names lines tick number) ≡ None
event_right names lines tick line None means order apart = cc
event_right names lines tick line (Some n) means order apart =
    let is : Occur tick n ≡ line = cc in
    let before : All (λ x. tick_of x ≤ tick) lines = subst (λ l. All (λ x. tick_of x ≤ tick_of l) lines) (sym is) order in
    let far : All (λ x. IsApart names x (Occur tick n)) lines = subst (λ l. All (λ x. IsApart names x l) lines) (sym is) apart in
    ap (λ b. first_flaw (Some n) b (too_soon tick (frame_of names n) (last_of n lines))) (from_all tick lines None refl before)
    ∙ free_all names tick n lines None refl far

right_after : (names : ImageNames) (lines : List ScriptLine) (said : Said) (line : ScriptLine) → meaning names said ≡ Some line → All (λ x. IsLater x line) lines → All (λ x. IsApart names x line) lines → flaw names lines said ≡ None
right_after names lines (set tick dev value) line means order apart = set_right names lines tick value line (in_device names dev) means order
right_after names lines (event tick name) line means order apart = event_right names lines tick line (event_number names name) means order apart
right_after names lines (end tick) line means order apart = cc

-- a line of a script that respects the frames is right where it stands
pub right_there : (names : ImageNames) (front rest : List ScriptLine) (said : Said) (line : ScriptLine) → meaning names said ≡ Some line → Respects names (front ++ line ∷ rest) → flaw names front said ≡ None
right_there names front rest said line means respects =
    right_after names front said line means (front_to IsLater front rest line respects.order) (front_to (IsApart names) front rest line respects.frames)
