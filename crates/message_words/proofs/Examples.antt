-- The message for three words that are no call.
use Rattle.std.proofs.Common.{refl}
use Rattle.std.specs.Prelude.{◌≡◌, [], ◌∷◌, codes}
use Rattle.message_words.specs.Usage.{rows, usage}

-- an overhead that is too large
pub too_large : usage (codes "check" ∷ codes "P" ∷ codes "2000" ∷ []) ≡ codes "rte: wrong words for `check`\n  rte check P [K]     check P and put its report\nK: overhead in ticks, 0 to 1000; 0 where it is not given\n"
unfolding usage rows
too_large = refl
