-- Kinds by number, and all kinds in turn.
use Rattle.std.proofs.Common.{◌≡◌, ℕ, ◌+◌, List, [], ◌∷◌, ◌++◌, refl, ap, sym, ◌∙◌, subst, append_assoc, append-nil, add-one, length}
use Rattle.syntax.specs.Spellings.{keywords, signs}
use Rattle.message_expected.specs.Expected.{Picks}
use Rattle.message_expected.specs.Kinds.{kinds, numbered}
use Rattle.message_expected.specs.declared.kinds.Kind.{Kind}
use Rattle.message_expected.specs.declared.kinds.Kind.TheVariants.{End, Name, Number, Deadline, Keyword, Sign}

-- what is found goes on from one list of kinds to a longer one
abbrev pub GoesOn : (Passes : Kind → Type 0) (more old new : List Kind) → Type 0
GoesOn Passes more old new = (all : List Kind) → Picks Passes all old → Picks Passes (all ++ more) new

pub none_yet : (Passes : Kind → Type 0) (make : ℕ → Kind) (found : List Kind) → GoesOn Passes (numbered make 0) found found
unfolding numbered
none_yet Passes make found all before = subst (λ l. Picks Passes l found) (sym (append-nil all)) before

next : (make : ℕ → Kind) (n : ℕ) → numbered make (n + 1) ≡ numbered make n ++ make n ∷ []
unfolding numbered
next make n = rw add-one refl

pub one_more : (Passes : Kind → Type 0) (make : ℕ → Kind) (n : ℕ) (old found new : List Kind) → GoesOn Passes (numbered make n) old found → GoesOn Passes (make n ∷ []) found new
    → GoesOn Passes (numbered make (n + 1)) old new
one_more Passes make n old found new so_far step all before =
    let same : (all ++ numbered make n) ++ make n ∷ [] ≡ all ++ numbered make (n + 1) = append_assoc all (numbered make n) (make n ∷ []) ∙ ap (λ l. all ++ l) (sym (next make n)) in
    subst (λ l. Picks Passes l new) same (step (all ++ numbered make n) (so_far all before))

pub all_kinds : (Passes : Kind → Type 0) (f0 f1 f2 f3 f4 f5 f6 : List Kind) → f0 ≡ []
    → GoesOn Passes (End ∷ []) f0 f1 → GoesOn Passes (Name ∷ []) f1 f2 → GoesOn Passes (Number ∷ []) f2 f3 → GoesOn Passes (Deadline ∷ []) f3 f4
    → GoesOn Passes (numbered Keyword (length keywords)) f4 f5 → GoesOn Passes (numbered Sign (length signs)) f5 f6 → Picks Passes kinds f6
unfolding Picks kinds
all_kinds Passes f0 f1 f2 f3 f4 f5 f6 none end name number deadline keyword sign =
    let first : List Kind = End ∷ Name ∷ Number ∷ Deadline ∷ [] in
    let found = sign (first ++ numbered Keyword (length keywords)) (keyword first (deadline (End ∷ Name ∷ Number ∷ []) (number (End ∷ Name ∷ []) (name (End ∷ []) (end [] none))))) in
    subst (λ l. Picks Passes l f6) (append_assoc first (numbered Keyword (length keywords)) (numbered Sign (length signs))) found
