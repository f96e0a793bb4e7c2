-- One process more in the choice.
use Rattle.std.proofs.Common.{◌≡◌, ◌+◌, ℕ, List, ◌∷◌, Some, drop, refl, ap, ◌∙◌}
use Rattle.std.specs.Prelude.{slice_get}
use Rattle.base.proofs.Lists.{drop_at}
use Rattle.machine_semantics.specs.Image.{Image, Process}
use Rattle.machine_semantics.specs.State.{Thread, Idle, Ready, Waiting}
use Rattle.edf_semantics.specs.Choice as ch
use Rattle.edf_semantics.specs.Choice.{Mark, choose, place_of, taken}
use Rattle.edf_machine.specs.Sights.{Seen, looked, seen_from}

head : (image : Image) (k : ℕ) (p : Process) (ps : List Process) (t : Thread) (ts : List Thread) (m : Mark) (ms : List Mark) → seen_from image k (p ∷ ps) (t ∷ ts) (m ∷ ms) ≡ looked image k p t m (seen_from image (k + 1) ps ts ms)
head image k p ps Idle ts m ms = refl
head image k p ps (Ready job) ts m ms = refl
head image k p ps (Waiting c d e job) ts m ms = refl

pub seen_more : (image : Image) (k : ℕ) (ps : List Process) (ts : List Thread) (ms : List Mark) (p : Process) (t : Thread) (m : Mark) → slice_get ps k ≡ Some p → slice_get ts k ≡ Some t → slice_get ms k ≡ Some m
    → seen_from image k (drop k ps) (drop k ts) (drop k ms) ≡ looked image k p t m (seen_from image (k + 1) (drop (k + 1) ps) (drop (k + 1) ts) (drop (k + 1) ms))
seen_more image k ps ts ms p t m at_p at_t at_m =
    ap (λ (xs : List Process). seen_from image k xs (drop k ts) (drop k ms)) (drop_at ps k p at_p)
    ∙ ap (λ (xs : List Thread). seen_from image k (p ∷ drop (k + 1) ps) xs (drop k ms)) (drop_at ts k t at_t)
    ∙ ap (λ (xs : List Mark). seen_from image k (p ∷ drop (k + 1) ps) (t ∷ drop (k + 1) ts) xs) (drop_at ms k m at_m)
    ∙ head image k p (drop (k + 1) ps) t (drop (k + 1) ts) m (drop (k + 1) ms)

pub chosen_of : (image : Image) (ts : List Thread) (ms : List Mark) (s : Seen) → s ≡ seen_from image 0 image.processes ts ms → taken s.least (place_of s.begun) s.first ≡ choose image ts ms
unfolding ch.choose
chosen_of image ts ms s is = ap (λ (x : Seen). taken x.least (place_of x.begun) x.first) is
