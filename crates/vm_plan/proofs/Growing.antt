-- Lists that grow by one.
use Rattle.std.proofs.Common.{◌≡◌, ◌+◌, ◌++◌, ℕ, List, [], ◌∷◌, map, take, Some, arith, ap, subst, sym, ◌∙◌}
use Rattle.std.specs.Prelude.{slice_get}
use Rattle.std.proofs.lemmas.List.{map_more, take_more}
use Rattle.std.proofs.lemmas.Option.{get_or_from_slice_get, slice_get_within}
use Rattle.machine_semantics.specs.Image.{Monitor, Process as Whole}
use Rattle.machine_semantics.specs.Run.{words_of}
use Rattle.vm_state.specs.declared.decoded_image.DecodedProcess.{DecodedProcess}
use Rattle.vm_state.specs.Plan.{AreProcesses, IsProcess}

-- the first elements, and one more
pub take_grown : {X : Type 0} (xs : List X) (i : ℕ) (x : X) → slice_get xs i ≡ Some x → take (i + 1) xs ≡ take i xs ++ x ∷ []
take_grown xs i x at = take_more xs i x (slice_get_within xs i x at) ∙ ap (λ (y : _). take i xs ++ y ∷ []) (get_or_from_slice_get xs i x x at)

-- the same of what a function makes of them
pub map_grown : {X Y : Type 0} (f : X → Y) (xs : List X) (i : ℕ) (x : X) → slice_get xs i ≡ Some x → map f (take (i + 1) xs) ≡ map f (take i xs) ++ f x ∷ []
map_grown f xs i x at = map_more f xs i x (slice_get_within xs i x at) ∙ ap (λ (y : _). map f (take i xs) ++ f y ∷ []) (get_or_from_slice_get xs i x x at)

-- ---- words

pub words_append : (xs : List Monitor) (m : Monitor) → words_of (xs ++ m ∷ []) ≡ words_of xs + m.words
words_append [] m = omega arith
words_append (x ∷ xs) m = omega (arith, words_append xs m)

pub words_grown : (xs : List Monitor) (i : ℕ) (x : Monitor) → slice_get xs i ≡ Some x → words_of (take (i + 1) xs) ≡ words_of (take i xs) + x.words
words_grown xs i x at = ap words_of (take_grown xs i x at) ∙ words_append (take i xs) x

-- ---- processes

pub are_append : (ws : List Whole) (ps : List DecodedProcess) (w : Whole) (p : DecodedProcess) → AreProcesses ws ps → IsProcess w p → AreProcesses (ws ++ w ∷ []) (ps ++ p ∷ [])
are_append [] [] w p are is = (is, tt)
are_append [] (q ∷ ps) w p are is = absurd are
are_append (v ∷ ws) [] w p are is = absurd are
are_append (v ∷ ws) (q ∷ ps) w p are is = (are.0, are_append ws ps w p are.1 is)

pub are_grown : (ws : List Whole) (i : ℕ) (w : Whole) (ps : List DecodedProcess) (p : DecodedProcess) → slice_get ws i ≡ Some w → AreProcesses (take i ws) ps → IsProcess w p → AreProcesses (take (i + 1) ws) (ps ++ p ∷ [])
are_grown ws i w ps p at are is = subst (λ (vs : List Whole). AreProcesses vs (ps ++ p ∷ [])) (sym (take_grown ws i w at)) (are_append (take i ws) ps w p are is)
