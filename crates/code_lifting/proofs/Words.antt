-- The words of monitors stand apart, and hold their variables at the start.
use Rattle.std.proofs.Common.{◌≡◌, ◌≤◌, ◌<◌, ◌+◌, inl, inr, ℕ, zero, suc, List, [], ◌∷◌, Option, Some, None, length, arith, refl, ap, sym, subst, ◌∙◌, true, map, length-append}
use Rattle.std.specs.Prelude.{ℤ, pos, slice_get, nat_le, nat_lt, ◌&&◌, replicate, sum_by}
use Rattle.std.proofs.lemmas.Bool.{cases_lt}
use Rattle.std.proofs.lemmas.Bool.Decides.{nat_tests}
use Rattle.std.proofs.lemmas.List.{length-replicate}
use Rattle.std.proofs.lemmas.List.Sums.{sum_by-append}
use Rattle.std.proofs.Math.Nat.{zero-add}
use Rattle.base.proofs.Lists.{one_some}
use Rattle.syntax_tree.specs.Plain.{Program, Var, Kind, scalar, array as array_of}
use Rattle.syntax_tree.specs.Plain as tree
use Rattle.source_semantics.specs.Names.{monitors, conditions_of, condition_count}
use Rattle.source_semantics.specs.Store.{Held, one, many, Vars, fresh, fresh_held}
use Rattle.machine_semantics.specs.Image.{Image, Monitor}
use Rattle.machine_semantics.specs.State.{zeros}
use Rattle.machine_semantics.specs.Effect.{is_among_some, is_reached}
use Rattle.machine_semantics.specs.Run as target
use Rattle.code_spec.specs.Layout.{Shape, single, array, size_of, shape_of, Place, words_of, places_from, in_process, in_monitor, base_from, monitor_base, vars_of_monitor, monitor_places}
use Rattle.code_spec.specs.Layout as layout
use Rattle.code_spec.specs.Compiled.{AreMonitors, condition_monitors}
use Rattle.code_spec.specs.Memory.{IsAt, HoldsHeld, Holds}

-- ---- the monitors of the image and those of the text

pub record IsMonitor (g : Program) (base : ℕ) (ms : List tree.Monitor) (i : ℕ) (k : Monitor) : Type 0 where
  pub text : tree.Monitor
  pub there : slice_get ms i ≡ Some text
  pub base_is : k.base ≡ base_from g base i ms
  pub words_is : k.words ≡ words_of g (layout.monitor_vars text)

pub monitor_at : (g : Program) (base : ℕ) (ms : List tree.Monitor) (ks : List Monitor) → AreMonitors g base ms ks → (i : ℕ) (k : Monitor) → slice_get ks i ≡ Some k → IsMonitor g base ms i k
monitor_at g base [] [] are i k at = absurd cc
monitor_at g base [] (x ∷ ks) are i k at = absurd are
monitor_at g base (m ∷ ms) [] are i k at = absurd are
monitor_at g base (m ∷ ms) (x ∷ ks) are zero k at =
    let same : x ≡ k = one_some refl at in
    record { text = m; there = refl; base_is = ap (λ (y : Monitor). y.base) (sym same) ∙ are.0; words_is = ap (λ (y : Monitor). y.words) (sym same) ∙ are.1 }
monitor_at g base (m ∷ ms) (x ∷ ks) are (suc i) k at =
    let later : IsMonitor g (base + words_of g (layout.monitor_vars m)) ms i k = monitor_at g (base + words_of g (layout.monitor_vars m)) ms ks are.2 i k at in
    record { text = later.text; there = later.there; base_is = later.base_is; words_is = later.words_is }

pub same_length : (g : Program) (base : ℕ) (ms : List tree.Monitor) (ks : List Monitor) → AreMonitors g base ms ks → length ks ≡ length ms
same_length g base [] [] are = refl
same_length g base [] (x ∷ ks) are = absurd are
same_length g base (m ∷ ms) [] are = absurd are
same_length g base (m ∷ ms) (x ∷ ks) are = ap suc (same_length g (base + words_of g (layout.monitor_vars m)) ms ks are.2)

-- each stands from the base on, and ends within all of them
pub from_base : (g : Program) (base : ℕ) (ms : List tree.Monitor) (ks : List Monitor) → AreMonitors g base ms ks → (i : ℕ) (k : Monitor) → slice_get ks i ≡ Some k → (base ≤ k.base) × (k.base + k.words ≤ base + target.words_of ks)
from_base g base [] [] are i k at = absurd cc
from_base g base [] (x ∷ ks) are i k at = absurd are
from_base g base (m ∷ ms) [] are i k at = absurd are
from_base g base (m ∷ ms) (x ∷ ks) are zero k at =
    let same : x ≡ k = one_some refl at in
    let b : k.base ≡ base = ap (λ (y : Monitor). y.base) (sym same) ∙ are.0 in
    let v : x.words ≡ k.words = ap (λ (y : Monitor). y.words) same in (omega (arith, b), omega (arith, b, v))
from_base g base (m ∷ ms) (x ∷ ks) are (suc i) k at =
    let later : (base + words_of g (layout.monitor_vars m) ≤ k.base) × (k.base + k.words ≤ base + words_of g (layout.monitor_vars m) + target.words_of ks) = from_base g (base + words_of g (layout.monitor_vars m)) ms ks are.2 i k at in
    (omega (arith, later.0), omega (arith, later.1, are.1))

in_turn : (g : Program) (base : ℕ) (ms : List tree.Monitor) (ks : List Monitor) → AreMonitors g base ms ks → (i j : ℕ) (a b : Monitor) → i < j → slice_get ks i ≡ Some a → slice_get ks j ≡ Some b → a.base + a.words ≤ b.base
in_turn g base [] [] are i j a b lt at_i at_j = absurd cc
in_turn g base [] (x ∷ ks) are i j a b lt at_i at_j = absurd are
in_turn g base (m ∷ ms) [] are i j a b lt at_i at_j = absurd are
in_turn g base (m ∷ ms) (x ∷ ks) are i zero a b lt at_i at_j = absurd (omega (arith, lt))
in_turn g base (m ∷ ms) (x ∷ ks) are zero (suc j) a b lt at_i at_j =
    let same : x ≡ a = one_some refl at_i in
    let later : (base + words_of g (layout.monitor_vars m) ≤ b.base) × (b.base + b.words ≤ base + words_of g (layout.monitor_vars m) + target.words_of ks) = from_base g (base + words_of g (layout.monitor_vars m)) ms ks are.2 j b at_j in
    let p : a.base ≡ base = ap (λ (y : Monitor). y.base) (sym same) ∙ are.0 in
    let q : a.words ≡ words_of g (layout.monitor_vars m) = ap (λ (y : Monitor). y.words) (sym same) ∙ are.1 in
    omega (arith, later.0, p, q)
in_turn g base (m ∷ ms) (x ∷ ks) are (suc i) (suc j) a b lt at_i at_j = in_turn g (base + words_of g (layout.monitor_vars m)) ms ks are.2 i j a b (omega (arith, lt)) at_i at_j

-- ---- the words that a monitor reaches

pub record Reached (image : Image) (m v : ℕ) : Type 0 where
  pub monitor : Monitor
  pub there : slice_get image.monitors m ≡ Some monitor
  pub low : monitor.base ≤ v
  pub below : v < monitor.base + monitor.words

pub reached_of : (image : Image) (m v : ℕ) → is_reached image (Some m) (pos v) ≡ true → Reached image m v
reached_of image m v is = by (slice_get image.monitors m) refl is where
  by : (o : Option Monitor) → slice_get image.monitors m ≡ o → is_among_some o (pos v) ≡ true → Reached image m v
  by None at is_so = absurd cc
  by (Some k) at is_so = record { monitor = k; there = at; low = both k.base v (k.base + k.words) is_so; below = both_later k.base v (k.base + k.words) is_so } where
    both : (a b c : ℕ) → nat_le a b && nat_lt b c ≡ true → a ≤ b
    both a b c is = grind (arith, nat_tests, is)

    both_later : (a b c : ℕ) → nat_le a b && nat_lt b c ≡ true → b < c
    both_later a b c is = grind (arith, nat_tests, is)

pub reaches : (image : Image) (m v : ℕ) (k : Monitor) → slice_get image.monitors m ≡ Some k → k.base ≤ v → v < k.base + k.words → is_reached image (Some m) (pos v) ≡ true
reaches image m v k at low below = ap (λ (o : Option Monitor). is_among_some o (pos v)) at ∙ both k.base v (k.base + k.words) low below where
  both : (a b c : ℕ) → a ≤ b → b < c → nat_le a b && nat_lt b c ≡ true
  both a b c le lt = grind (arith, nat_tests, le, lt)

pub words_apart : (g : Program) (image : Image) → AreMonitors g 0 (monitors g) image.monitors → (m n v : ℕ) → is_reached image (Some m) (pos v) ≡ true → is_reached image (Some n) (pos v) ≡ true → m ≡ n
words_apart g image are m n v is_m is_n =
    let x : Reached image m v = reached_of image m v is_m in
    let y : Reached image n v = reached_of image n v is_n in
    elim (cases_lt m n) [
      | inl lt ↦ absurd (omega (arith, in_turn g 0 (monitors g) image.monitors are m n x.monitor y.monitor lt x.there y.there, x.below, y.low))
      | inr ge ↦ elim (cases_lt n m) [
        | inl lt ↦ absurd (omega (arith, in_turn g 0 (monitors g) image.monitors are n m y.monitor x.monitor lt y.there x.there, y.below, x.low))
        | inr le ↦ omega (arith, ge, le)
      ]
    ]

-- ---- words that hold variables, at the start and after a change elsewhere

pub get_zero : (n k : ℕ) → k < n → slice_get (zeros n) k ≡ Some (pos 0)
get_zero zero k lt = absurd (omega (arith, lt))
get_zero (suc n) zero lt = refl
get_zero (suc n) (suc k) lt = get_zero n k (omega (arith, lt))

get_replicate : (n k : ℕ) (v : ℤ) → k < n → slice_get (replicate n v) k ≡ Some v
get_replicate zero k v lt = absurd (omega (arith, lt))
get_replicate (suc n) zero v lt = refl
get_replicate (suc n) (suc k) v lt = get_replicate n k v (omega (arith, lt))

-- so many words from w on are 0, and may be reached
abbrev Zeros : (ℕ → Type 0) → List ℤ → (w n : ℕ) → Type 0
Zeros opens ws w n = (k : ℕ) → k < n → IsAt opens ws (w + k) (pos 0)

kind_holds : (opens : ℕ → Type 0) (g : Program) (ws : List ℤ) (w : ℕ) (k : Kind) → Zeros opens ws w (size_of (shape_of g k)) → HoldsHeld opens ws w (shape_of g k) (fresh_held g k)
kind_holds opens g ws w (scalar s) z = let e : w + 0 ≡ w = omega arith in subst (λ (x : ℕ). IsAt opens ws x (pos 0)) e (z 0 (omega arith))
kind_holds opens g ws w (array_of low high s) z = (refl, length-replicate _ _, λ k lt. (pos 0, get_replicate _ k (pos 0) lt, z k lt))

pub vars_hold : (opens : ℕ → Type 0) (g : Program) (ws : List ℤ) (w : ℕ) (vs : List Var) → Zeros opens ws w (words_of g vs) → Holds opens ws (places_from g w vs) (map (fresh g) vs)
vars_hold opens g ws w [] z = tt
vars_hold opens g ws w (v ∷ vs) z = (
  record { name = refl; range = refl; held = kind_holds opens g ws w v.kind (λ k lt. z k (omega (arith, lt))) },
  vars_hold opens g ws (w + size_of (shape_of g v.kind)) vs
      (λ k lt. (let e : w + (size_of (shape_of g v.kind) + k) ≡ w + size_of (shape_of g v.kind) + k = omega arith in subst (λ (x : ℕ). IsAt opens ws x (pos 0)) e (z (size_of (shape_of g v.kind) + k) (omega (arith, lt))))),
)

held_still : (opens : ℕ → Type 0) (before after : List ℤ) → ((k : ℕ) → opens k → slice_get after k ≡ slice_get before k) → (w : ℕ) (shape : Shape) (held : Held) → HoldsHeld opens before w shape held → HoldsHeld opens after w shape held
held_still opens before after same w single (one v) h = record { holds = same w h.open_to ∙ h.holds; open_to = h.open_to }
held_still opens before after same w single (many l vs) h = h
held_still opens before after same w (array low len) (one v) h = h
held_still opens before after same w (array low len) (many l vs) h = (
  h.0,
  h.1,
  λ k lt. (let x = h.2 k lt in (x.0, x.1, record { holds = same (w + k) x.2.open_to ∙ x.2.holds; open_to = x.2.open_to })),
)

pub vars_still : (opens : ℕ → Type 0) (before after : List ℤ) → ((k : ℕ) → opens k → slice_get after k ≡ slice_get before k) → (ps : List Place) (vs : Vars) → Holds opens before ps vs → Holds opens after ps vs
vars_still opens before after same [] [] h = tt
vars_still opens before after same [] (s ∷ ss) h = h
vars_still opens before after same (p ∷ ps) [] h = h
vars_still opens before after same (p ∷ ps) (s ∷ ss) h = (record { name = h.0.name; range = h.0.range; held = held_still opens before after same p.word p.shape s.held h.0.held }, vars_still opens before after same ps ss h.1)

-- ---- conditions

sum_cons : (f : tree.Monitor → ℕ) (m : tree.Monitor) (ms : List tree.Monitor) → sum_by f (m ∷ ms) ≡ f m + sum_by f ms
sum_cons f m ms = sum_by-append f (m ∷ []) ms ∙ ap (λ (n : ℕ). n + sum_by f ms) (zero-add (f m))

pub conditions_are : (m : ℕ) (ms : List tree.Monitor) → length (condition_monitors m ms) ≡ condition_count ms
conditions_are m [] = refl
conditions_are m (k ∷ ks) =
    length-append (replicate (length (conditions_of k)) m) (condition_monitors (suc m) ks)
    ∙ ap (λ (n : ℕ). n + length (condition_monitors (suc m) ks)) (length-replicate (length (conditions_of k)) m)
    ∙ ap (λ (n : ℕ). length (conditions_of k) + n) (conditions_are (suc m) ks)
    ∙ sym (sum_cons (λ x. length (conditions_of x)) k ks)
