-- The numbers of a handler rise, and are such as a handler may take.
use Rattle.std.proofs.Common.{◌≡◌, ◌≤◌, ◌<◌, ◌∙◌, ◌||◌, ◌&&◌, ◌++◌, inl, inr, ℕ, suc, Bool, true, false, cond, ℤ, pos, negsuc, List, [], ◌∷◌, length, map, get_or, refl, ap, arith}
use Rattle.std.specs.Prelude.{All, AllPairs, nat_le}
use Rattle.std.proofs.lemmas.Bool.{cases_lt, leb-true, leb-false, lt-ltb}
use Rattle.std.proofs.lemmas.List.Elements.{All-head, All-tail}
use Rattle.base.specs.Words.{within}
use Rattle.syntax_tree.specs.Plain.{Constant, Program}
use Rattle.source_semantics.specs.Names.{as_count, constant_value, count_value}
use Rattle.image_format.specs.Format.{checked, each_is, is_fine, u16}
use Rattle.image_format.proofs.Booleans.{together}
use Rattle.image_reader.specs.Grammar as g
use Rattle.image_reader.proofs.Rising.{above_last}
use Rattle.code_spec.specs.Compiled.{ascending, inserted}
use Rattle.static_semantics.specs.WellFormed.{Differ, IsHandled}
use Rattle.image_reader_law.proofs.Ranged.{in_range}
use Rattle.replay_law.proofs.Numbers.{fine, short_fits}

-- ---- lists of numbers

-- the number is none of these
abbrev Absent : ℕ → List ℕ → Type 0
Absent k [] = Unit {0}
Absent k (n ∷ ns) = (k ≡ n → ⊥) × Absent k ns

abbrev Once : List ℕ → Type 0
Once [] = Unit {0}
Once (n ∷ ns) = Absent n ns × Once ns

abbrev AllTaken : List ℕ → Type 0
AllTaken [] = Unit {0}
AllTaken (n ∷ ns) = (g.is_taken n ≡ true) × AllTaken ns

-- each is above the one before; all are above the first
abbrev AllAbove : ℕ → List ℕ → Type 0
AllAbove k [] = Unit {0}
AllAbove k (n ∷ ns) = (k < n) × AllAbove k ns

abbrev Rises : List ℕ → Type 0
Rises [] = Unit {0}
Rises (n ∷ ns) = AllAbove n ns × Rises ns

-- ---- in ascending order

absent_in : (k j : ℕ) (ns : List ℕ) → (k ≡ j → ⊥) → Absent k ns → Absent k (inserted j ns)
absent_in k j [] other h = (other, tt)
absent_in k j (n ∷ ns) other h = by (nat_le j n) (absent_in k j ns other h.1) where
  by : (b : Bool) → Absent k (inserted j ns) → Absent k (cond b (j ∷ n ∷ ns) (n ∷ inserted j ns))
  by true rest = (other, h)
  by false rest = (h.0, rest)

absent_all : (k : ℕ) (ns : List ℕ) → Absent k ns → Absent k (ascending ns)
absent_all k [] h = tt
absent_all k (n ∷ ns) h = absent_in k n (ascending ns) h.0 (absent_all k ns h.1)

taken_in : (j : ℕ) (ns : List ℕ) → g.is_taken j ≡ true → AllTaken ns → AllTaken (inserted j ns)
taken_in j [] is h = (is, tt)
taken_in j (n ∷ ns) is h = by (nat_le j n) (taken_in j ns is h.1) where
  by : (b : Bool) → AllTaken (inserted j ns) → AllTaken (cond b (j ∷ n ∷ ns) (n ∷ inserted j ns))
  by true rest = (is, h)
  by false rest = (h.0, rest)

taken_all : (ns : List ℕ) → AllTaken ns → AllTaken (ascending ns)
taken_all [] h = tt
taken_all (n ∷ ns) h = taken_in n (ascending ns) h.0 (taken_all ns h.1)

above_in : (k j : ℕ) (ns : List ℕ) → k < j → AllAbove k ns → AllAbove k (inserted j ns)
above_in k j [] low h = (low, tt)
above_in k j (n ∷ ns) low h = by (nat_le j n) (above_in k j ns low h.1) where
  by : (b : Bool) → AllAbove k (inserted j ns) → AllAbove k (cond b (j ∷ n ∷ ns) (n ∷ inserted j ns))
  by true rest = (low, h)
  by false rest = (h.0, rest)

lower : (k n : ℕ) (ns : List ℕ) → k ≤ n → AllAbove n ns → AllAbove k ns
lower k n [] le h = tt
lower k n (m ∷ ns) le h = (omega (arith, le, h.0), lower k n ns le h.1)

below : (m k : ℕ) → m ≤ k → (m ≡ k → ⊥) → m < k
below m k le differ = elim (cases_lt m k) [ inl low ↦ low | inr high ↦ (let e : m ≡ k = omega (arith, le, high) in absurd (differ e)) ]

rises_in : (j : ℕ) (ns : List ℕ) → Absent j ns → Rises ns → Rises (inserted j ns)
rises_in j [] other h = (tt, tt)
rises_in j (n ∷ ns) other h = by (nat_le j n) refl (rises_in j ns other.1 h.1) where
  by : (b : Bool) → nat_le j n ≡ b → Rises (inserted j ns) → Rises (cond b (j ∷ n ∷ ns) (n ∷ inserted j ns))
  by true is rest =
      let le : j ≤ n = leb-true j n is in
      let low : j < n = below j n le other.0 in
      ((low, lower j n ns le h.0), h)
  by false is rest =
      let low : n < j = leb-false j n is in
      (above_in n j ns low h.0, rest)

rises_all : (ns : List ℕ) → Once ns → Rises (ascending ns)
rises_all [] h = tt
rises_all (n ∷ ns) h = rises_in n (ascending ns) (absent_all n ns h.0) (rises_all ns h.1)

-- ---- as they are read

one_is : (earlier : List ℕ) (n : ℕ) → g.is_above earlier n ≡ true → g.is_taken n ≡ true → (checked u16 (g.wrong_number earlier)).is n ≡ true
one_is earlier n above is =
    let range = in_range n is in
    together (u16.is n) (is_fine (g.wrong_number earlier n)) (short_fits n (omega (arith, range.1))) (fine (g.is_above earlier n && g.is_taken n) 8 (together (g.is_above earlier n) (g.is_taken n) above is))

rest_is : (earlier : List ℕ) (last : ℕ) (ns : List ℕ) → AllAbove last ns → Rises ns → AllTaken ns → each_is (λ before. checked u16 (g.wrong_number before)) (earlier ++ last ∷ []) (length ns) ns ≡ true
rest_is earlier last [] low rises taken = refl
rest_is earlier last (n ∷ ns) low rises taken =
    together ((checked u16 (g.wrong_number (earlier ++ last ∷ []))).is n) (each_is (λ before. checked u16 (g.wrong_number before)) ((earlier ++ last ∷ []) ++ n ∷ []) (length ns) ns)
    (one_is (earlier ++ last ∷ []) n (above_last earlier last n ∙ lt-ltb last n low.0) taken.0) (rest_is (earlier ++ last ∷ []) n ns rises.0 rises.1 taken.1)

all_is : (ns : List ℕ) → Rises ns → AllTaken ns → (g.numbers_format (length ns)).is ns ≡ true
all_is [] rises taken = refl
all_is (n ∷ ns) rises taken =
    together ((checked u16 (g.wrong_number [])).is n) (each_is (λ before. checked u16 (g.wrong_number before)) (n ∷ []) (length ns) ns) (one_is [] n refl taken.0) (rest_is [] n ns rises.0 rises.1 taken.1)

-- ---- the numbers of a text

abbrev IsNumber : ℤ → Type 0
IsNumber v = within (pos 1) (pos 4) v || within (pos 10) (pos 999) v ≡ true

taken : (v : ℤ) → IsNumber v → g.is_taken (as_count v) ≡ true
taken (pos n) h = h
taken (negsuc n) h = absurd cc

apart : (v w : ℤ) → IsNumber v → IsNumber w → (v ≡ w → ⊥) → as_count v ≡ as_count w → ⊥
apart (pos m) (pos n) a b differ same = differ (ap (λ (k : ℕ). pos k) same)
apart (negsuc m) w a b differ same = absurd cc
apart (pos m) (negsuc n) a b differ same = absurd cc

module _ (p : Program) where
  abbrev value : Constant → ℕ
  value c = count_value p c

  all_taken : (cs : List Constant) → All (IsHandled p) cs → AllTaken (map value cs)
  all_taken [] h = tt
  all_taken (c ∷ cs) h = (taken (constant_value p c) (All-head (IsHandled p) c cs h).limits, all_taken cs (All-tail (IsHandled p) c cs h))

  absent : (c : Constant) (cs : List Constant) → IsHandled p c → All (IsHandled p) cs → ((j : ℕ) → j < length cs → Differ p c (get_or cs j c)) → Absent (value c) (map value cs)
  absent c [] one h differ = tt
  absent c (d ∷ ds) one h differ = (
    apart (constant_value p c) (constant_value p d) one.limits (All-head (IsHandled p) d ds h).limits (differ 0 (omega arith)),
    absent c ds one (All-tail (IsHandled p) d ds h) (λ j low. differ (suc j) (omega (arith, low))),
  )

  once : (cs : List Constant) → All (IsHandled p) cs → AllPairs (Differ p) cs → Once (map value cs)
  once [] h pairs = tt
  once (c ∷ cs) h pairs = (
    absent c cs (All-head (IsHandled p) c cs h) (All-tail (IsHandled p) c cs h) (λ j low. pairs 0 (suc j) c (omega arith) (omega (arith, low))),
    once cs (All-tail (IsHandled p) c cs h) (λ i j d before low. pairs (suc i) (suc j) d (omega (arith, before)) (omega (arith, low))),
  )

  pub numbers_are : (cs : List Constant) → All (IsHandled p) cs → AllPairs (Differ p) cs → (g.numbers_format (length (ascending (map value cs)))).is (ascending (map value cs)) ≡ true
  numbers_are cs h pairs = all_is (ascending (map value cs)) (rises_all (map value cs) (once cs h pairs)) (taken_all (map value cs) (all_taken cs h))
