-- The words of the kinds.
use Rattle.std.proofs.Common.{◌≡◌, ℕ, ◌<◌, true, false, not, List, [], length, refl, arith}
use Rattle.std.proofs.lemmas.Option.{slice_get-get_or}
use Rattle.std.specs.List.{Contains, list_all}
use Rattle.std.specs.Prelude.{bytes_eq, codes}
use Rattle.syntax.proofs.SpellLemmas.{listed}
use Rattle.syntax.specs.Spellings.{keywords, signs}
use Rattle.syntax.specs.declared.token.TokenKind.TheVariants as token
use Rattle.message_expected.specs.Leads.{HasWord}
use Rattle.message_expected.specs.declared.kinds.Kind.TheVariants.{Deadline, Keyword, Name, Number, Sign}

no_keyword : (name : List ℕ) → list_all (λ k. not (bytes_eq k name)) keywords ≡ true → not (bytes_eq name name) ≡ false → ¬ Contains keywords name
no_keyword name none same has = let other = listed (λ k. not (bytes_eq k name)) keywords name none has in cc

pub has_name : HasWord Name
has_name = (token.Ident, (refl, no_keyword (codes "a") refl refl, omega arith), refl)

pub has_deadline : HasWord Deadline
has_deadline = (token.Ident, (refl, no_keyword (codes "deadline") refl refl, omega arith), refl)

pub has_number : HasWord Number
has_number = (token.Literal 1, (refl, refl, omega arith), refl)

pub has_keyword : (at : ℕ) → at < length keywords → HasWord (Keyword at)
has_keyword at below = (token.Keyword at, slice_get-get_or keywords at [] below, refl)

pub has_sign : (at : ℕ) → at < length signs → HasWord (Sign at)
has_sign at below = (token.Sign at, slice_get-get_or signs at [] below, refl)
