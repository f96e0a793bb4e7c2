-- The last events of a run that goes on.
use Rattle.std.proofs.Common.{◌≡◌, ◌≤◌, ◌+◌, ◌-◌, ◌++◌, ℕ, List, [], length, drop, arith, refl, ap, sym, ◌∙◌}
use Rattle.std.proofs.lemmas.List.{drop-append-le, drop-drop, length-append, length-drop}
use Rattle.circular_buffer.specs.Buffer.{keep_last}
use Rattle.base.specs.declared.event.Event.{Event}
use Rattle.machine_semantics.specs.Image.{Image, Script}
use Rattle.machine_semantics.specs.Run.{events_from, state_at}
use Rattle.vm_runner.proofs.ByRanks.{cut}
use Rattle.vm_runner.specs.Standing.{events_between}
use Rattle.command_due.specs.Text.{events_before, recent}

-- of the last n and what comes then, the last n are those of all
pub keep_on : {X : Type 0} (n : ℕ) (xs ys : List X) → keep_last n (keep_last n xs ++ ys) ≡ keep_last n (xs ++ ys)
keep_on {X} n xs ys =
    let k : ℕ = length xs - n in
    let zs : List X = xs ++ ys in
    let part : drop k xs ++ ys ≡ drop k zs = sym (drop-append-le k xs ys (omega arith)) in
    let rest : length (drop k zs) ≡ length zs - k = length-drop k zs in
    let both : length zs ≡ length xs + length ys = length-append xs ys in
    let places : k + (length (drop k zs) - n) ≡ length zs - n = omega (arith, rest, both) in
    ap (λ (ws : List X). keep_last n ws) part ∙ (drop-drop (length (drop k zs) - n) k zs ∙ ap (λ (m : ℕ). drop m zs) places)

module _ (image : Image) (script : Script) where
  -- the events before tick t, by the state before tick 0
  from_start : (t : ℕ) → events_before image script t ≡ events_from image script t 0 (state_at image script 0)
  unfolding state_at
  from_start t = refl

  pub none_before : events_before image script 0 ≡ []
  unfolding events_from
  none_before = refl

  -- those before a later tick
  pub before_later : (t u : ℕ) → t ≤ u → events_before image script u ≡ events_before image script t ++ events_between image script t u
  before_later t u later =
      let m : ℕ = u - t in
      let all : u ≡ t + m = omega (arith, later) in
      let there : 0 + t ≡ t = omega arith in
      from_start u
      ∙ (ap (λ (n : ℕ). events_from image script n 0 (state_at image script 0)) all
      ∙ (cut image script t m 0
      ∙ (ap (λ (es : List Event). es ++ events_from image script m (0 + t) (state_at image script (0 + t))) (sym (from_start t))
      ∙ ap (λ (v : ℕ). events_before image script t ++ events_from image script m v (state_at image script v)) there)))

  -- the last of them, from the last before tick t and those between
  pub recent_later : (t u : ℕ) → t ≤ u → keep_last 16 (recent (events_before image script t) ++ events_between image script t u) ≡ recent (events_before image script u)
  recent_later t u later =
      keep_on 16 (events_before image script t) (events_between image script t u)
      ∙ ap (λ (es : List Event). recent es) (sym (before_later t u later))

  pub none_recent : (t : ℕ) → t ≡ 0 → [] ≡ recent (events_before image script t)
  none_recent t start = sym (ap (λ (u : ℕ). recent (events_before image script u)) start ∙ ap (λ (es : List Event). recent es) none_before)
