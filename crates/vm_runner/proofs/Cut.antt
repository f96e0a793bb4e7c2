-- The events of a run, cut at a tick.
use Rattle.std.proofs.Common.{◌≡◌, ◌≤◌, ◌+◌, ◌-◌, ◌++◌, ℕ, [], arith, ap, ◌∙◌}
use Rattle.vm_runner.specs.Course.{Course, events_between}

-- its events may be cut at any tick
abbrev pub Cuts : Course → Type 0
Cuts c = (n m t : ℕ) → c.events (n + m) t ≡ c.events n t ++ c.events m (t + n)

-- no event falls in no tick
abbrev pub HasNone : Course → Type 0
HasNone c = (t : ℕ) → c.events 0 t ≡ []

module _ (c : Course) where
  -- the events up to a tick, and then those from it on up to a later one
  pub cut_at : Cuts c → (t u v : ℕ) → t ≤ u → u ≤ v → events_between c t v ≡ events_between c t u ++ events_between c u v
  cut_at cuts t u v later last =
      let n : ℕ = u - t in
      let m : ℕ = v - u in
      let all : v - t ≡ n + m = omega (arith, later, last) in
      let there : t + n ≡ u = omega (arith, later) in
      ap (λ (k : ℕ). c.events k t) all
      ∙ (cuts n m t
      ∙ ap (λ (w : ℕ). c.events n t ++ c.events m w) there)

  -- nor from a tick to itself
  pub none_between : HasNone c → (t : ℕ) → events_between c t t ≡ []
  none_between none_in t =
      let none : t - t ≡ 0 = omega arith in
      ap (λ (k : ℕ). c.events k t) none ∙ none_in t
