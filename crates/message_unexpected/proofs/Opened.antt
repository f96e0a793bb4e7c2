-- One turn, and the end, of noting what tokens open and close.
use Rattle.std.proofs.Common.{◌≡◌, ℕ, ◌+◌, ◌<◌, ◌≤◌, Bool, List, length, drop, get_or, ap, sym, ◌∙◌}
use Rattle.std.proofs.lemmas.List.{drop_all, drop_more}
use Rattle.syntax.specs.declared.token.Token.{Token}
use Rattle.syntax.specs.declared.token.keyword.TheConstants as k
use Rattle.message_expected.specs.Kinds.{of_token, same}
use Rattle.message_unexpected.specs.Parts.{open_behind, turn}
use Rattle.message_expected.specs.declared.kinds.Kind.TheVariants.{Keyword}

pub turned : (toks : List Token) (i : ℕ) (d : Token) (b next : Bool) (opened new whole : List Token) → i < length toks → open_behind b (drop i toks) opened ≡ whole
    → new ≡ turn b (get_or toks i d) opened → next ≡ same (Keyword k.END) (of_token (get_or toks i d).kind) → open_behind next (drop (i + 1) toks) new ≡ whole
unfolding open_behind
turned toks i d b next opened new whole below so_far step end =
    (λ j. open_behind (end j) (drop (i + 1) toks) (step j)) ∙ sym (ap (λ l. open_behind b l opened) (drop_more toks i d below)) ∙ so_far

pub ended : (toks : List Token) (i : ℕ) (b : Bool) (opened whole : List Token) → length toks ≤ i → open_behind b (drop i toks) opened ≡ whole → opened ≡ whole
unfolding open_behind
ended toks i b opened whole all so_far = sym (ap (λ l. open_behind b l opened) (drop_all i toks all)) ∙ so_far
