-- A line that is put together piece by piece.
use Rattle.std.proofs.Common.{◌≡◌, ◌++◌, ◌∙◌, ℕ, List, ap, append_assoc}

-- one piece more behind those that there are
more : (t u v a b : List ℕ) → u ≡ t ++ a → v ≡ u ++ b → v ≡ t ++ (a ++ b)
more t u v a b is_u is_v = is_v ∙ (ap (λ (s : List ℕ). s ++ b) is_u ∙ append_assoc t a b)

joined : (a b c d e f g h i : List ℕ) → (((((((a ++ b) ++ c) ++ d) ++ e) ++ f) ++ g) ++ h) ++ i ≡ a ++ (b ++ (c ++ (d ++ (e ++ (f ++ (g ++ (h ++ i)))))))
joined a b c d e f g h i = simp append_assoc

pub nine : (t t1 t2 t3 t4 t5 t6 t7 t8 t9 a b c d e f g h i : List ℕ)
    → t1 ≡ t ++ a → t2 ≡ t1 ++ b → t3 ≡ t2 ++ c → t4 ≡ t3 ++ d → t5 ≡ t4 ++ e → t6 ≡ t5 ++ f → t7 ≡ t6 ++ g → t8 ≡ t7 ++ h → t9 ≡ t8 ++ i
    → t9 ≡ t ++ (a ++ (b ++ (c ++ (d ++ (e ++ (f ++ (g ++ (h ++ i))))))))
nine t t1 t2 t3 t4 t5 t6 t7 t8 t9 a b c d e f g h i is1 is2 is3 is4 is5 is6 is7 is8 is9 =
    let two = more t t1 t2 a b is1 is2 in
    let three = more t t2 t3 (a ++ b) c two is3 in
    let four = more t t3 t4 ((a ++ b) ++ c) d three is4 in
    let five = more t t4 t5 (((a ++ b) ++ c) ++ d) e four is5 in
    let six = more t t5 t6 ((((a ++ b) ++ c) ++ d) ++ e) f five is6 in
    let seven = more t t6 t7 (((((a ++ b) ++ c) ++ d) ++ e) ++ f) g six is7 in
    let eight = more t t7 t8 ((((((a ++ b) ++ c) ++ d) ++ e) ++ f) ++ g) h seven is8 in
    more t t8 t9 (((((((a ++ b) ++ c) ++ d) ++ e) ++ f) ++ g) ++ h) i eight is9 ∙ ap (λ (s : List ℕ). t ++ s) (joined a b c d e f g h i)
