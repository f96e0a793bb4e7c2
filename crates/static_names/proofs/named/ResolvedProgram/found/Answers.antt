use Rattle.std.proofs.Common.{◌≡◌, ◌∙◌, sym, subst, Option, Some, None, IfSome, IfNone, rules}
use Rattle.std.specs.Map.{lookup}
use Rattle.syntax_tree.specs.Placed.{Prog as Placed, placed}
use Rattle.syntax_tree.specs.declared.decl.Program.{Program}
use Rattle.syntax_tree.specs.declared.place.Place.{Place}
use Rattle.static_names.specs.Occurrences.{names, declared_at}
use Rattle.static_names.specs.Rules.{NamesAt, UsedAt}
use Rattle.static_names.specs.Findings.{same_key, key_of}
use Rattle.static_names.proofs.named.ResolvedProgram.found.Goals as goal

some_at : (g : Placed Place) (at : Place) (found r : Option Place) → ((d : Place) → found ≡ Some d → NamesAt g at d) → found ≡ r → IfSome r (λ d. NamesAt g at d)
some_at g at found None says e = search rules
some_at g at found (Some d) says e = says d e

none_at : (g : Placed Place) (at : Place) (found r : Option Place) → (found ≡ None → ¬ UsedAt g at) → found ≡ r → IfNone r (¬ UsedAt g at)
none_at g at found None says e = says e
none_at g at found (Some d) says e = search rules

pub returns-clause-some : goal.returns-clause-some
returns-clause-some c =
    let at = c.args.at.now in
    let ties = c.self.inside.ties.entries in
    let e : lookup (same_key (key_of at)) ties ≡ c.copied.result = sym (c.copied.ensures ∙ c.get.ensures.value) in
    let P : Program → Type 0 = λ t. IfSome c.copied.result (λ d. NamesAt (placed t) at d) in
    let said = some_at (placed c.self.inside.prog) at (lookup (same_key (key_of at)) ties) c.copied.result (λ d h. c.self.invariant.tied at d h) e in
    subst P c.self.view_is said

pub returns-clause-none : goal.returns-clause-none
returns-clause-none c =
    let at = c.args.at.now in
    let ties = c.self.inside.ties.entries in
    let e : lookup (same_key (key_of at)) ties ≡ c.copied.result = sym (c.copied.ensures ∙ c.get.ensures.value) in
    let P : Program → Type 0 = λ t. IfNone c.copied.result (¬ UsedAt (placed t) at) in
    let said = none_at (placed c.self.inside.prog) at (lookup (same_key (key_of at)) ties) c.copied.result (λ h. c.self.invariant.unused at h) e in
    subst P c.self.view_is said

pub returns-clause-declared : goal.returns-clause-declared
returns-clause-declared c =
    let P : Program → Type 0 = λ t. c.copied.result ≡ declared_at (names (placed t)) c.args.at.now in
    let said = c.copied.ensures ∙ c.get.ensures.value ∙ c.self.invariant.declared c.args.at.now in
    subst P c.self.view_is said
