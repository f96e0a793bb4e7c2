-- A line says one thing, and a text is one script.
use Rattle.std.proofs.Common.{◌≡◌, ℕ, ℤ, pos, negsuc, ◌^◌, ◌<◌, List, [], ◌∷◌, ◌++◌, length, map, codes, decimal, Some, refl, ap, sym, ◌∙◌, arith, All, get_or, length-append}
use Rattle.std.proofs.lemmas.List.{append-nil}
use Rattle.std.specs.Fmt.{signed_decimal}
use Rattle.std.proofs.lemmas.Fmt.{decimal_injective, signed_decimal_injective}
use Rattle.std.proofs.lemmas.List.Elements.{All-head, All-tail, All-push}
use lib.Signed.{mag}
use Rattle.text_fields.specs.Fields.{Is32}
use Rattle.text_fields.proofs.Cuts.{cut_once, cut_lacks}
use Rattle.image.specs.declared.names.ImageNames.{ImageNames}
use Rattle.script.specs.declared.script.ScriptLine.{ScriptLine}
use Rattle.script.specs.Saying.{Said, set, event, end, IsInForm, spelled, text_of}
use Rattle.script.specs.Scripts.{meaning, IsScript}
use Rattle.script.specs.Reading.{behind}
use Rattle.script.proofs.Readings.{said_lacks, no_end_tick, tick_lacks, end_lacks}
use Rattle.script.proofs.Steps.{text_push}

mag_small : (z : ℤ) → Is32 z → mag z < 2 ^ 63
mag_small (pos n) small = omega arith
mag_small (negsuc n) small = omega arith

same_ticks : (t u : ℕ) → t < 1000000000 → u < 1000000000 → decimal t ≡ decimal u → t ≡ u
same_ticks t u small low e = decimal_injective t u (omega arith) (omega arith) e

clash : (x y : ℕ) → x ≡ 115 → y ≡ 101 → x ≡ y → ⊥
clash x y p q e = omega arith

set_no_event : (a b : List ℕ) → codes "set" ++ 32 ∷ a ≡ codes "event" ++ 32 ∷ b → ⊥
set_no_event a b e = clash 115 101 refl refl (ap (λ xs. get_or xs 0 0) e)

pub one_saying : (said other : Said) → IsInForm said → IsInForm other → spelled said ≡ spelled other → said ≡ other
one_saying (set t dev value) (set u name word) f g e =
    let r = cut_once 32 (decimal t) (behind (set t dev value)) (decimal u) (behind (set u name word)) (tick_lacks t f.0) (tick_lacks u g.0) e in
    let rest : behind (set t dev value) ≡ behind (set u name word) = r.1 in
    let inner : dev ++ 32 ∷ signed_decimal value ≡ name ++ 32 ∷ signed_decimal word = cc in
    let dev_word = f.1 in
    let name_word = g.1 in
    let s = cut_once 32 dev (signed_decimal value) name (signed_decimal word) dev_word.no_space name_word.no_space inner in
    let ticks : t ≡ u = same_ticks t u f.0 g.0 r.0 in
    let devs : dev ≡ name = s.0 in
    let values : value ≡ word = signed_decimal_injective value word (mag_small value f.2) (mag_small word g.2) s.1 in
    cc
one_saying (set t dev value) (event u name) f g e =
    let r = cut_once 32 (decimal t) (behind (set t dev value)) (decimal u) (behind (event u name)) (tick_lacks t f.0) (tick_lacks u g.0) e in
    absurd (set_no_event (dev ++ 32 ∷ signed_decimal value) name r.1)
one_saying (set t dev value) (end u) f g e =
    let r = cut_once 32 (decimal t) (behind (set t dev value)) (codes "end") (decimal u) (tick_lacks t f.0) end_lacks e in
    absurd (no_end_tick (codes "end") t f.0 refl (sym r.0))
one_saying (event t dev) (set u name word) f g e =
    let r = cut_once 32 (decimal t) (behind (event t dev)) (decimal u) (behind (set u name word)) (tick_lacks t f.0) (tick_lacks u g.0) e in
    absurd (set_no_event (name ++ 32 ∷ signed_decimal word) dev (sym r.1))
one_saying (event t dev) (event u name) f g e =
    let r = cut_once 32 (decimal t) (behind (event t dev)) (decimal u) (behind (event u name)) (tick_lacks t f.0) (tick_lacks u g.0) e in
    let rest : behind (event t dev) ≡ behind (event u name) = r.1 in
    let ticks : t ≡ u = same_ticks t u f.0 g.0 r.0 in
    let devs : dev ≡ name = cc in
    cc
one_saying (event t dev) (end u) f g e =
    let r = cut_once 32 (decimal t) (behind (event t dev)) (codes "end") (decimal u) (tick_lacks t f.0) end_lacks e in
    absurd (no_end_tick (codes "end") t f.0 refl (sym r.0))
one_saying (end t) (set u name word) f g e =
    let r = cut_once 32 (codes "end") (decimal t) (decimal u) (behind (set u name word)) end_lacks (tick_lacks u g.0) e in
    absurd (no_end_tick (codes "end") u g.0 refl r.0)
one_saying (end t) (event u name) f g e =
    let r = cut_once 32 (codes "end") (decimal t) (decimal u) (behind (event u name)) end_lacks (tick_lacks u g.0) e in
    absurd (no_end_tick (codes "end") u g.0 refl r.0)
one_saying (end t) (end u) f g e =
    let digits : decimal t ≡ decimal u = cc in
    let ticks : t ≡ u = decimal_injective t u (omega arith) (omega arith) digits in
    ap end ticks

texts_once : (a b : List Said) → All IsInForm a → All IsInForm b → text_of a ≡ text_of b → a ≡ b
texts_once [] [] f g e = refl
texts_once [] (y ∷ b) f g e = absurd (cut_lacks 10 [] (spelled y) (text_of b) tt e)
texts_once (x ∷ a) [] f g e = absurd (cut_lacks 10 [] (spelled x) (text_of a) tt (sym e))
texts_once (x ∷ a) (y ∷ b) f g e =
    let in_x = All-head IsInForm x a f in
    let in_y = All-head IsInForm y b g in
    let r = cut_once 10 (spelled x) (text_of a) (spelled y) (text_of b) (said_lacks x in_x) (said_lacks y in_y) e in
    let first : x ≡ y = one_saying x y in_x in_y r.0 in
    let rest : a ≡ b = texts_once a b (All-tail IsInForm x a f) (All-tail IsInForm y b g) r.1 in
    cc

snoc_once : (a b : List Said) (x y : Said) → a ++ x ∷ [] ≡ b ++ y ∷ [] → (a ≡ b) × (x ≡ y)
snoc_once [] [] x y e = let s : x ≡ y = cc in (refl, s)
snoc_once [] (z ∷ b) x y e = let l = ap length e in absurd (omega (arith, l, length-append b (y ∷ [])))
snoc_once (z ∷ a) [] x y e = let l = ap length e in absurd (omega (arith, l, length-append a (x ∷ [])))
snoc_once (z ∷ a) (w ∷ b) x y e =
    let first : z ≡ w = cc in
    let t : a ++ x ∷ [] ≡ b ++ y ∷ [] = cc in
    let r = snoc_once a b x y t in
    let rest : a ≡ b = r.0 in
    let both : (z ∷ a) ≡ (w ∷ b) = cc in
    (both, r.1)

somes_once : (a b : List ScriptLine) → map (λ line. Some line) a ≡ map (λ line. Some line) b → a ≡ b
somes_once [] [] e = refl
somes_once [] (y ∷ b) e = cc
somes_once (x ∷ a) [] e = cc
somes_once (x ∷ a) (y ∷ b) e =
    let first : x ≡ y = cc in
    let t : map (λ (line : ScriptLine). Some line) a ≡ map (λ (line : ScriptLine). Some line) b = cc in
    let rest : a ≡ b = somes_once a b t in cc

whole_text : (names : ImageNames) (text : List ℕ) (lines : List ScriptLine) (last : ℕ) (s : IsScript names text lines last) → text ≡ text_of (s.said ++ end last ∷ [])
whole_text names text lines last s = s.begun.whole ∙ text_push s.said (end last) [] ∙ append-nil (text_of (s.said ++ end last ∷ []))

pub one_text : (names : ImageNames) (text : List ℕ) (lines others : List ScriptLine) (last other : ℕ) → IsScript names text lines last → IsScript names text others other → (lines ≡ others) × (last ≡ other)
one_text names text lines others last other s t =
    let both : text_of (s.said ++ end last ∷ []) ≡ text_of (t.said ++ end other ∷ []) = sym (whole_text names text lines last s) ∙ whole_text names text others other t in
    let r = snoc_once s.said t.said (end last) (end other) (texts_once (s.said ++ end last ∷ []) (t.said ++ end other ∷ []) (All-push IsInForm s.said (end last) s.begun.form s.form) (All-push IsInForm t.said (end other) t.begun.form t.form) both) in
    let ends : end last ≡ end other = r.1 in
    let ticks : last ≡ other = cc in
    (somes_once lines others (sym s.begun.means ∙ ap (λ said. map (meaning names) said) r.0 ∙ t.begun.means), ticks)
