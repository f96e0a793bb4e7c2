-- The table of the uses of events.
use Rattle.std.proofs.Common.{◌≡◌, ◌+◌, ℕ, Bool, true, false, cond, List, Some, unwrap_or, refl, ap, ◌∙◌, if◌then◌else◌}
use Rattle.std.specs.Map.{lookup}
use Rattle.syntax_tree.specs.declared.place.Place.{Place}
use Rattle.static_names.specs.Findings.{Key, same_key, key_of}
use Rattle.syntax_tree.specs.Parts.{same_place}
use Rattle.static_names.proofs.Notes.{key-true}
use Rattle.static_numbers.specs.Seen.{held, known_uses}

-- one more use of an event
pub use-noted : (p : Place) (count : ℕ) (old new : List (Key × ℕ)) → ((q : Key) → lookup (same_key q) new ≡ cond (same_key (key_of p) q) (Some count) (lookup (same_key q) old))
    → count ≡ held (known_uses old p + 1) → (e : Place) → known_uses new e ≡ (if same_place p e then held (known_uses old e + 1) else known_uses old e)
use-noted p count old new puts is e = ap (λ r. unwrap_or r 0) (puts (key_of e)) ∙ by (same_place p e) refl
  where
    by : (b : Bool) → same_place p e ≡ b → unwrap_or (cond b (Some count) (lookup (same_key (key_of e)) old)) 0 ≡ (if b then held (known_uses old e + 1) else known_uses old e)
    by true h = is ∙ ap (λ q. held (known_uses old q + 1)) (key-true p e h)
    by false h = refl
