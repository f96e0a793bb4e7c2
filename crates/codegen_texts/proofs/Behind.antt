-- Monitors behind a word are told as behind any other beyond the greatest operand.
use Rattle.std.proofs.Common.{◌≡◌, ◌+◌, ◌∙◌, min, ℕ, List, [], ◌∷◌, ℤ, pos, refl, sym, ap, arith}
use Rattle.syntax_tree.specs.Plain.{Monitor, Name, Program, Var}
use Rattle.code_spec.specs.Layout.{monitor_vars, places_from, shape_of, size_of, words_of}
use Rattle.codegen_spec.specs.Told.{fit}
use Rattle.codegen_spec.specs.declared.var_location.VarLocation.{VarLocation}
use Rattle.codegen_spec.specs.declared.var_location.Area.TheVariants as in_area
use Rattle.code_layout.specs.LayoutTables.{Table, place_names, told_all}
use Rattle.codegen_texts.specs.Shared.{monitor_table, monitor_tables}

-- each word from here on is told as the one as far from there
abbrev Alike : (a b : ℕ) → Type 0
Alike a b = (k : ℕ) → fit (pos (a + k)) ≡ fit (pos (b + k))

further : (a b n : ℕ) → Alike a b → Alike (a + n) (b + n)
further a b n alike k =
    let left : a + n + k ≡ a + (n + k) = omega arith in
    let right : b + n + k ≡ b + (n + k) = omega arith in
    ap (λ w. fit (pos w)) left ∙ alike (n + k) ∙ ap (λ w. fit (pos w)) (sym right)

here : (a b : ℕ) → Alike a b → fit (pos a) ≡ fit (pos b)
here a b alike =
    let left : a ≡ a + 0 = omega arith in
    let right : b + 0 ≡ b = omega arith in
    ap (λ w. fit (pos w)) left ∙ alike 0 ∙ ap (λ w. fit (pos w)) right

same_names : (g : Program) (a b : ℕ) (vs : List Var) → place_names (places_from g a vs) ≡ place_names (places_from g b vs)
same_names g a b [] = refl
same_names g a b (v ∷ vs) = ap (λ (ns : List Name). v.name ∷ ns) (same_names g (a + size_of (shape_of g v.kind)) (b + size_of (shape_of g v.kind)) vs)

same_spots : (g : Program) (a b : ℕ) (vs : List Var) → Alike a b → told_all in_area.Monitor (places_from g a vs) ≡ told_all in_area.Monitor (places_from g b vs)
same_spots g a b [] alike = refl
same_spots g a b (v ∷ vs) alike = rw (here a b alike, same_spots g (a + size_of (shape_of g v.kind)) (b + size_of (shape_of g v.kind)) vs (further a b (size_of (shape_of g v.kind)) alike)) refl

same_table : (g : Program) (a b : ℕ) (m : Monitor) → Alike a b → monitor_table g a m ≡ monitor_table g b m
same_table g a b m alike =
    ap (λ (ns : List Name). record { names = ns; spots = told_all in_area.Monitor (places_from g a (monitor_vars m)) }) (same_names g a b (monitor_vars m))
    ∙ ap (λ (ss : List VarLocation). record { names = place_names (places_from g b (monitor_vars m)); spots = ss }) (same_spots g a b (monitor_vars m) alike)

same_tables : (g : Program) (a b : ℕ) (ms : List Monitor) → Alike a b → monitor_tables g a ms ≡ monitor_tables g b ms
same_tables g a b [] alike = refl
same_tables g a b (m ∷ ms) alike =
    ap (λ (t : Table). t ∷ monitor_tables g (a + words_of g (monitor_vars m)) ms) (same_table g a b m alike)
    ∙ ap (λ (ts : List Table). monitor_table g b m ∷ ts) (same_tables g (a + words_of g (monitor_vars m)) (b + words_of g (monitor_vars m)) ms (further a b (words_of g (monitor_vars m)) alike))

-- 2 ^ 32 is beyond it
pub behind_same : (g : Program) (w : ℕ) (ms : List Monitor) → monitor_tables g (min w 4294967296) ms ≡ monitor_tables g w ms
behind_same g w ms = same_tables g (min w 4294967296) w ms (λ k. let same : min (min w 4294967296 + k) 2147483647 ≡ min (w + k) 2147483647 = omega arith in ap (λ n. pos n) same)
