-- Tests over lists of calls, of stays and of monitors.
use Rattle.std.specs.Prelude.{◌≡◌, ◌++◌, ◌||◌, ℕ, Bool, false, List, [], ◌∷◌, Option, Some, None, nat_eq, Contains}
use Rattle.std.proofs.Common.{refl, sym, ap, ◌∙◌}
use Rattle.base.proofs.Members.{at_front, behind}
use Rattle.source_semantics.specs.Ranks.{includes}
use Rattle.valid_image.specs.Tables.{longer_stay}
use Rattle.valid_image.specs.Times.{is_some}
use Rattle.code_spec.specs.Numbering.{Text, Called}
use Rattle.sched_program.specs.Tasks.{passes_some, some_called}
use Rattle.built_tasks_law.proofs.Tests.{or_three, or_both}

-- ---- calls

-- two tests that agree on all that is called
pub called_alike : (test other : Text → Bool) (means : Called → Option Text) (cs : List Called) → ((c : Called) (u : Text) → Contains cs c → means c ≡ Some u → test u ≡ other u)
    → some_called test means cs ≡ some_called other means cs
called_alike test other means [] same = refl
called_alike test other means (c ∷ cs) same =
    or_both (by (means c) refl) (called_alike test other means cs (λ d u i e. same d u (behind c cs d i) e))
  where
    by : (o : Option Text) → means c ≡ o → passes_some test o ≡ passes_some other o
    by None is = refl
    by (Some u) is = same c u (at_front c cs) is

-- none of what is called passes
pub none_called : (test : Text → Bool) (means : Called → Option Text) (cs : List Called) → ((c : Called) (u : Text) → Contains cs c → means c ≡ Some u → test u ≡ false) → some_called test means cs ≡ false
none_called test means [] none = refl
none_called test means (c ∷ cs) none =
    or_both (by (means c) refl) (none_called test means cs (λ d u i e. none d u (behind c cs d i) e))
  where
    by : (o : Option Text) → means c ≡ o → passes_some test o ≡ false
    by None is = refl
    by (Some u) is = none c u (at_front c cs) is

-- ---- stays

pub longer_some : (a b : Option ℕ) → is_some (longer_stay a b) ≡ is_some a || is_some b
longer_some None b = refl
longer_some (Some a) None = refl
longer_some (Some a) (Some b) = refl

-- ---- monitors

pub includes_both : (j : ℕ) (xs ys : List ℕ) → includes j (xs ++ ys) ≡ includes j xs || includes j ys
includes_both j [] ys = refl
includes_both j (x ∷ xs) ys = ap (λ b. nat_eq x j || b) (includes_both j xs ys) ∙ sym (or_three (nat_eq x j) (includes j xs) (includes j ys))
