-- Each right line is ended by a line feed, and has no other.
use Rattle.std.proofs.Common.{◌≡◌, ◌⊎◌, inl, inr, ◌+◌, ◌-◌, ◌++◌, ℕ, suc, List, [], ◌∷◌, length, take, drop, Option, arith, refl, ap, sym, subst, ◌∙◌, true, false, Bool, cond, length-append, append_assoc}
use Rattle.std.specs.Prelude.{◌==◌, codes, count_by, nat_eq, nat_lt, if◌then◌else◌}
use Rattle.std.specs.List.{prefix_len}
use Rattle.std.specs.Cmp.Lexicographic.{pointwise}
use Rattle.std.proofs.lemmas.Bool.{cases_Bool, eqb-true}
use Rattle.std.proofs.lemmas.List.{take-append-drop}
use Rattle.std.proofs.lemmas.List.Sums.{sum_by-append, sum_by-cons}
use Rattle.std.proofs.Math.Seq.{take-append_seam}
use Rattle.image_reader.proofs.Words.{same_words}
use Rattle.text_fields.specs.Front.{begins}
use Rattle.text_fields.specs.LineFields.{is_digit, digits_len, small, value}
use Rattle.asm_lines.specs.Names.{is_in_word, word_len}
use Rattle.assembler.specs.Sections.{line_at}
use Rattle.asm_law.specs.Notes.{Holds}
use Rattle.asm_law.specs.Layout.{Layout, finish, done, none, word, choice, numeral, name, note, tree, left, too_deep, ends}
use Rattle.asm_law.specs.Places.{HasForm, LacksForm, Behind, here, line}

abbrev pub feeds : List ℕ → ℕ
feeds bytes = count_by (λ b. b == 10) bytes

abbrev one_if : Bool → ℕ
one_if c = cond c 1 0

feeds_append : (xs ys : List ℕ) → feeds (xs ++ ys) ≡ feeds xs + feeds ys
feeds_append xs ys = sum_by-append (λ b. cond (b == 10) 1 0) xs ys

no_feed : (p : ℕ → Bool) → p 10 ≡ false → (bytes : List ℕ) → feeds (take (prefix_len p bytes) bytes) ≡ 0
no_feed p stops [] = refl
no_feed p stops (b ∷ bs) = by (p b) refl (no_feed p stops bs) where
  other : p b ≡ true → (b == 10) ≡ false
  other is = elim (cases_Bool (b == 10)) [
    | inl same ↦ absurd (let e : true ≡ false = sym is ∙ (ap p (eqb-true b 10 same) ∙ stops) in cc)
    | inr not_same ↦ not_same
  ]

  by : (c : Bool) → p b ≡ c → feeds (take (prefix_len p bs) bs) ≡ 0 → feeds (take (cond c (1 + prefix_len p bs) 0) (b ∷ bs)) ≡ 0
  by true is later =
      let first : feeds (b ∷ take (prefix_len p bs) bs) ≡ one_if (b == 10) + feeds (take (prefix_len p bs) bs) = sum_by-cons (λ b. cond (b == 10) 1 0) b (take (prefix_len p bs) bs) in
      let none_here : one_if (b == 10) ≡ 0 = ap one_if (other is) in
      let one_more : 1 + prefix_len p bs ≡ suc (prefix_len p bs) = omega arith in
      ap (λ m. feeds (take m (b ∷ bs))) one_more ∙ omega (arith, first, none_here, later)
  by false is later = refl

begun : (w bytes : List ℕ) → begins w bytes ≡ true → bytes ≡ w ++ drop (length w) bytes
begun w bytes is = by (nat_lt (length bytes) (length w)) is where
  by : (b : Bool) → (if b then false else pointwise nat_eq (take (length w) bytes) w) ≡ true → bytes ≡ w ++ drop (length w) bytes
  by true h = absurd cc
  by false h = sym (take-append-drop (length w) bytes) ∙ ap (λ (x : List ℕ). x ++ drop (length w) bytes) (same_words (take (length w) bytes) w h)

-- ---- layouts whose words have no line feed

-- a byte must be there
abbrev pub Asks : Layout → Type 0
Asks finish = ⊥
Asks done = ⊥
Asks none = Unit {0}
Asks (word w l) = begins w [] ≡ false
Asks (choice w l other) = (begins w [] ≡ false) × Asks other
Asks (numeral l) = Unit {0}
Asks (name l) = Unit {0}
Asks (note x l) = Asks l
Asks (tree l) = Unit {0}
Asks (left l) = Asks (l 0)
Asks too_deep = ⊥
Asks (ends l) = Unit {0}

clash : (b : Bool) → b ≡ true → b ≡ false → ⊥
clash b up down = (let e : true ≡ false = sym up ∙ down in cc)

pub asks_lacks : (l : Layout) → Asks l → LacksForm l []
asks_lacks finish asks f n r h = absurd asks
asks_lacks done asks f n r h = absurd asks
asks_lacks none asks f n r h = h
asks_lacks (word w l) asks f n r h = clash (begins w []) h.0 asks
asks_lacks (choice w l other) asks f n r (inl h) = clash (begins w []) h.0 asks.0
asks_lacks (choice w l other) asks f n r (inr h) = asks_lacks other asks.1 f n r h.1
asks_lacks (numeral l) asks f n r h = (let e : false ≡ true = h.0 in cc)
asks_lacks (name l) asks f n r h = (let some = h.0 in omega (arith, some))
asks_lacks (note x l) asks f n r (inl h) = asks_lacks l asks f n r h.1
asks_lacks (note x l) asks f n r (inr h) = asks_lacks l asks h.2.0 n r h.2.1
asks_lacks (tree l) asks f n r h = (let e : false ≡ true = h.0 in cc)
asks_lacks (left l) asks f n r h = asks_lacks (l 0) asks f n r h
asks_lacks too_deep asks f n r h = absurd asks
asks_lacks (ends l) asks f n r h = (let e : false ≡ true = h.0 in cc)

-- a line that comes asks for a byte, or the text ends
abbrev pub IsNext : Layout → Type 0
IsNext l = (l ≡ finish) ⊎ Asks l

abbrev pub Clean : Layout → Type 0
Clean finish = Unit {0}
Clean done = ⊥
Clean none = Unit {0}
Clean (word w l) = (feeds w ≡ 0) × Clean l
Clean (choice w l other) = Clean l × Clean other
Clean (numeral l) = (n : Option ℕ) → Clean (l n)
Clean (name l) = (x : List ℕ) → Clean (l x)
Clean (note x l) = Holds x → Clean l
Clean (tree l) = Clean l
Clean (left l) = (n : ℕ) → Clean (l n)
Clean too_deep = Unit {0}
Clean (ends l) = IsNext l × Clean l

-- the bytes have this one line in front, or they are at their end
pub record OneLineOf (bytes : List ℕ) (n : Layout) (r : List ℕ) : Type 0 where
  pub front : List ℕ
  pub are : bytes ≡ front ++ r
  pub one : feeds front ≡ 1
  pub next : IsNext n
  pub clean : Clean n

abbrev pub IsOver : Layout → List ℕ → Type 0
IsOver n r = (n ≡ finish) × (r ≡ [])

more_front : (first bytes : List ℕ) (n : Layout) (r whole : List ℕ) → whole ≡ first ++ bytes → feeds first ≡ 0 → OneLineOf bytes n r ⊎ IsOver n r → OneLineOf whole n r ⊎ IsOver n r
more_front first bytes n r whole is zero_feeds (inr over) = inr over
more_front first bytes n r whole is zero_feeds (inl o) =
    inl (record {
      front = first ++ o.front;
      are = is ∙ (ap (λ (x : List ℕ). first ++ x) o.are ∙ sym (append_assoc first o.front r));
      one = (let sum = feeds_append first o.front in let one = o.one in omega (arith, sum, one, zero_feeds));
      next = o.next;
      clean = o.clean;
    })

pub counted : (l : Layout) (bytes : List ℕ) (n : Layout) (r : List ℕ) → Clean l → HasForm l bytes true n r → OneLineOf bytes n r ⊎ IsOver n r
counted finish bytes n r clean h = inr (h.2, h.3)
counted done bytes n r clean h = absurd clean
counted none bytes n r clean h = absurd h
counted (word w l) bytes n r clean h = more_front w (drop (length w) bytes) n r bytes (begun w bytes h.0) clean.0 (counted l (drop (length w) bytes) n r clean.1 h.1)
counted (choice w l other) bytes n r clean (inl h) = counted l bytes n r clean.0 h.1
counted (choice w l other) bytes n r clean (inr h) = counted other bytes n r clean.1 h.1
counted (numeral l) bytes n r clean h =
    more_front (take (digits_len bytes) bytes) (drop (digits_len bytes) bytes) n r bytes (sym (take-append-drop (digits_len bytes) bytes)) (no_feed is_digit refl bytes)
    (counted (l (small (value (take (digits_len bytes) bytes)))) (drop (digits_len bytes) bytes) n r (clean (small (value (take (digits_len bytes) bytes)))) h.1)
counted (name l) bytes n r clean h =
    more_front (take (word_len bytes) bytes) (drop (word_len bytes) bytes) n r bytes (sym (take-append-drop (word_len bytes) bytes)) (no_feed is_in_word refl bytes)
    (counted (l (take (word_len bytes) bytes)) (drop (word_len bytes) bytes) n r (clean (take (word_len bytes) bytes)) h.1)
counted (note x l) bytes n r clean (inl h) = counted l bytes n r (clean h.0) h.1
counted (note x l) bytes n r clean (inr h) = absurd (let e : true ≡ false = h.1 in cc)
counted (tree l) bytes n r clean h = counted l bytes n r clean h.1
counted (left l) bytes n r clean h = counted (l (length bytes)) bytes n r (clean (length bytes)) h
counted too_deep bytes n r clean h = absurd (let e : true ≡ false = h in cc)
counted (ends l) bytes n r clean h =
    inl (record {
      front = codes "\n";
      are = begun (codes "\n") bytes h.0 ∙ ap (λ (x : List ℕ). codes "\n" ++ x) (sym h.3);
      one = refl;
      next = subst (λ (m : Layout). IsNext m) (sym h.2) clean.0;
      clean = subst (λ (m : Layout). Clean m) (sym h.2) clean.1;
    })

-- ---- lines before

over_stays : (l : Layout) (bytes : List ℕ) (lines : ℕ) (n : Layout) (r : List ℕ) → Behind l bytes lines n r → IsOver l bytes → IsOver n r
over_stays l bytes lines n r (here _ _) over = over
over_stays l bytes lines n r (line {m = m} {more = more} {lines = before} right behind) over =
    let form = subst (λ (x : Layout). HasForm x bytes true m more) over.0 right in
    over_stays m more before n r behind (form.2, form.3)

pub record LinesOf (bytes : List ℕ) (lines : ℕ) (r : List ℕ) : Type 0 where
  pub front : List ℕ
  pub are : bytes ≡ front ++ r
  pub count : feeds front ≡ lines

pub lines_before : (l : Layout) (bytes : List ℕ) (lines : ℕ) (n : Layout) (r : List ℕ) → Clean l → Behind l bytes lines n r → LinesOf bytes lines r ⊎ IsOver n r
lines_before l bytes lines n r clean (here _ _) = inl (record { front = []; are = refl; count = refl })
lines_before l bytes lines n r clean (line {m = m} {more = more} {lines = before} right behind) = by (λ c. lines_before m more before n r c behind) (counted l bytes m more clean right) where
  further : OneLineOf bytes m more → LinesOf more before r ⊎ IsOver n r → LinesOf bytes (suc before) r ⊎ IsOver n r
  further o (inr over) = inr over
  further o (inl b) =
      inl (record {
        front = o.front ++ b.front;
        are = o.are ∙ (ap (λ (x : List ℕ). o.front ++ x) b.are ∙ sym (append_assoc o.front b.front r));
        count = (let sum = feeds_append o.front b.front in let one = o.one in let rest = b.count in omega (arith, sum, one, rest));
      })

  by : (Clean m → LinesOf more before r ⊎ IsOver n r) → OneLineOf bytes m more ⊎ IsOver m more → LinesOf bytes (suc before) r ⊎ IsOver n r
  by later (inl o) = further o (later o.clean)
  by later (inr over) = inr (over_stays m more before n r behind over)

-- what comes behind right lines
pub comes : (l : Layout) (bytes : List ℕ) (lines : ℕ) (n : Layout) (r : List ℕ) → IsNext l → Clean l → Behind l bytes lines n r → IsNext n
comes l bytes lines n r next clean (here _ _) = next
comes l bytes lines n r next clean (line {m = m} {more = more} {lines = before} right behind) = by (λ x c. comes m more before n r x c behind) (counted l bytes m more clean right) where
  by : (IsNext m → Clean m → IsNext n) → OneLineOf bytes m more ⊎ IsOver m more → IsNext n
  by later (inl o) = later o.next o.clean
  by later (inr over) = inl (over_stays m more before n r behind over).0

pub line_is : (bytes : List ℕ) (lines : ℕ) (r : List ℕ) → LinesOf bytes lines r → line_at bytes (length r) ≡ lines + 1
line_is bytes lines r b =
    let sum = length-append b.front r in
    let all : length bytes ≡ length (b.front ++ r) = ap length b.are in
    let long : length bytes - length r ≡ length b.front = omega (arith, sum, all) in
    ap (λ m. feeds (take m bytes) + 1) long ∙ (ap (λ (x : List ℕ). feeds (take (length b.front) x) + 1) b.are
    ∙ (ap (λ (x : List ℕ). feeds x + 1) (take-append_seam b.front r) ∙ ap (λ m. m + 1) b.count))
