-- One turn, and the end, of the loops of the reader.
use Rattle.std.proofs.Common.{◌≡◌, ◌≢◌, ◌⊎◌, inl, inr, ◌<◌, ◌≤◌, ◌+◌, ◌-◌, ℕ, List, [], ◌∷◌, ◌++◌, length, map, take, get_or, decimal, ap, sym, subst, ◌∙◌, arith, All}
use Rattle.std.specs.Prelude.{IsTrue, sum_by}
use Rattle.std.specs.Borrow.{Bor}
use Rattle.std.specs.Int.{IsInRange}
use Rattle.std.proofs.lemmas.List.{take_more, map-append, take_all}
use Rattle.std.proofs.lemmas.List.Elements.{All-nil, All-cons, All-head, All-tail, All-more, All-get_or, All-push}
use Rattle.std.proofs.lemmas.List.Sums.{sum_by_more}
use Rattle.text_fields.specs.LineFields.{value}
use Rattle.table_format.specs.declared.table.TaskStay.{TaskStay}
use Rattle.table_format.specs.declared.table.TaskLine.{TaskLine}
use Rattle.table_format.specs.Spelling.{Word, SaidStay, said_stay}
use Rattle.table_format.specs.Rules.{CanBeMet}
use Rattle.table_format.specs.Faults.{stay_meant, is_numeral}
use Rattle.table_reader.specs.declared.line.StayWords.{StayWords}
use Rattle.table_reader.specs.Judging.{IsNumber, AreStays}
use Rattle.table_reader.specs.Reading.{seen, stay_of}

-- ---- words that are all of a kind

seen_at : (xs : List (Bor Word)) (i : ℕ) (x : Bor Word) → i < length xs → x ≡ get_or xs i x → seen (take (i + 1) xs) ≡ seen (take i xs) ++ x.now ∷ []
seen_at xs i x below is =
    ap seen (take_more xs i x below ∙ ap (λ (r : Bor Word). take i xs ++ r ∷ []) (sym is)) ∙ map-append (λ (r : Bor Word). r.now) (take i xs) (x ∷ [])

pub all_more : (P : Word → Type 0) (xs : List (Bor Word)) (i : ℕ) (x : Bor Word) → i < length xs → x ≡ get_or xs i x → All P (seen (take i xs)) → P x.now → All P (seen (take (i + 1) xs))
all_more P xs i x below is so_far here = subst (All P) (sym (seen_at xs i x below is)) (All-push P (seen (take i xs)) x.now so_far here)

pub all_done : (P : Word → Type 0) (xs : List (Bor Word)) (i : ℕ) → length xs ≤ i → All P (seen (take i xs)) → All P (seen xs)
all_done P xs i all so_far = subst (λ (ys : List (Bor Word)). All P (seen ys)) (take_all i xs all) so_far

of_seen : (P : Word → Type 0) (xs : List (Bor Word)) → All P (seen xs) → All (λ (x : Bor Word). P x.now) xs
of_seen P [] all = All-nil (λ (x : Bor Word). P x.now)
of_seen P (x ∷ xs) all =
    All-cons (λ (y : Bor Word). P y.now) x xs
    (All-head P x.now (seen xs) all)
    (of_seen P xs (All-tail P x.now (seen xs) all))

pub not_all : (P : Word → Type 0) (xs : List (Bor Word)) (i : ℕ) (x : Bor Word) → i < length xs → x ≡ get_or xs i x → ¬ P x.now → ¬ All P (seen xs)
not_all P xs i x below is bad all =
    bad (subst (λ (y : Bor Word). P y.now) (sym is) (All-get_or (λ (y : Bor Word). P y.now) xs i x below (of_seen P xs all)))

-- ---- the cost that is left

abbrev pub IsMet : TaskStay → Type 0
IsMet s = (s.ticks ≡ 3) ⊎ (6 ≤ s.ticks)

abbrev pub taken_by : TaskStay → ℕ
taken_by s = 15 + s.ticks

pub met_more : (stays : List TaskStay) (i : ℕ) (s : TaskStay) → i < length stays → s ≡ get_or stays i s → All IsMet (take i stays) → IsMet s → All IsMet (take (i + 1) stays)
met_more stays i s below is so_far here = All-more IsMet stays i s below so_far (subst IsMet is here)

pub left_more : (stays : List TaskStay) (i : ℕ) (s : TaskStay) (cost left : ℕ) → i < length stays → s ≡ get_or stays i s → left ≡ cost - (3 + sum_by taken_by (take i stays))
    → left - 15 - s.ticks ≡ cost - (3 + sum_by taken_by (take (i + 1) stays))
left_more stays i s cost left below is so_far =
    let sum = sum_by_more taken_by stays i s below in
    let this : taken_by s ≡ taken_by (get_or stays i s) = ap taken_by is in
    omega (arith, sum, this, so_far)

pub not_met : (p : TaskLine) (i : ℕ) (s : TaskStay) → i < length p.stays → s ≡ get_or p.stays i s → s.ticks ≢ 3 → s.ticks < 6 → ¬ CanBeMet p
not_met p i s below is other low met =
    elim (subst IsMet (sym is) (All-get_or IsMet p.stays i s below met.stay)) [
      | inl three ↦ other three
      | inr six ↦ omega (arith, six, low)
    ]

pub met_is : (p : TaskLine) (i left : ℕ) → length p.stays ≤ i → All IsMet (take i p.stays) → left ≡ p.cost - (3 + sum_by taken_by (take i p.stays)) → (left ≡ 1) ⊎ (4 ≤ left) → CanBeMet p
met_is p i left all met so_far enough =
    let whole : take i p.stays ≡ p.stays = take_all i p.stays all in
    let sum = ap (sum_by taken_by) whole in
    record {
      stay = subst (All IsMet) whole met;
      cost = elim enough [
        | inl one ↦ inl (omega (arith, one, so_far, sum))
        | inr four ↦ inr (omega (arith, four, so_far, sum))
      ];
    }

pub cost_not_met : (p : TaskLine) (i left : ℕ) → length p.stays ≤ i → left ≡ p.cost - (3 + sum_by taken_by (take i p.stays)) → left ≢ 1 → left < 4 → ¬ CanBeMet p
cost_not_met p i left all so_far other low met =
    let sum = ap (sum_by taken_by) (take_all i p.stays all) in
    elim met.cost [
      | inl same ↦ omega (arith, same, so_far, sum, other, low)
      | inr above ↦ omega (arith, above, so_far, sum, low)
    ]

-- ---- stays by their words

abbrev pub InRange : TaskStay → Type 0
InRange s = IsInRange 3 1000000000 s.ticks

stay_at : (words : List StayWords) (i : ℕ) (w : StayWords) → i < length words → w ≡ get_or words i w → map stay_of (take (i + 1) words) ≡ map stay_of (take i words) ++ stay_of w ∷ []
stay_at words i w below is =
    ap (map stay_of) (take_more words i w below ∙ ap (λ (x : StayWords). take i words ++ x ∷ []) (sym is)) ∙ map-append stay_of (take i words) (w ∷ [])

stay_is : (m n : Word) (a b : ℕ) → m ≡ n → a ≡ b → (let s : TaskStay = record { monitor = m; ticks = a } in s) ≡ record { monitor = n; ticks = b }
stay_is m n a b e f = cc

said_is : (m n : Word) (a b : Word) → m ≡ n → a ≡ b → (let s : SaidStay = record { monitor = m; ticks = a } in s) ≡ record { monitor = n; ticks = b }
said_is m n a b e f = cc

pub stays_more : (words : List StayWords) (i : ℕ) (w : StayWords) (old new : List TaskStay) (monitor : Word) (ticks : ℕ) → i < length words → w ≡ get_or words i w
    → AreStays (map stay_of (take i words)) old → monitor ≡ w.monitor.now → IsNumber 3 1000000000 w.ticks.now ticks
    → new ≡ old ++ (record { monitor = monitor; ticks = ticks }) ∷ [] → AreStays (map stay_of (take (i + 1) words)) new
stays_more words i w old new monitor ticks below at so_far named number is =
    let more = stay_at words i w below at in
    let one : (let s : TaskStay = record { monitor = monitor; ticks = ticks } in s) ≡ stay_meant (stay_of w) = stay_is monitor w.monitor.now ticks (value w.ticks.now) named number.is in
    let told : (let s : SaidStay = record { monitor = monitor; ticks = decimal ticks } in s) ≡ stay_of w = said_is monitor w.monitor.now (decimal ticks) w.ticks.now named number.spelled in
    let s : TaskStay = record { monitor = monitor; ticks = ticks } in
    let are : new ≡ map stay_meant (map stay_of (take i words) ++ stay_of w ∷ []) =
    is ∙ (ap (λ (xs : List TaskStay). xs ++ s ∷ []) so_far.are ∙ (ap (λ (x : TaskStay). map stay_meant (map stay_of (take i words)) ++ x ∷ []) one
    ∙ sym (map-append stay_meant (map stay_of (take i words)) (stay_of w ∷ [])))) in
    let spelled : map said_stay new ≡ map stay_of (take i words) ++ stay_of w ∷ [] =
    ap (map said_stay) is ∙ (map-append said_stay old (s ∷ [])
    ∙ (ap (λ (xs : List SaidStay). xs ++ said_stay s ∷ []) so_far.spelled ∙ ap (λ (x : SaidStay). map stay_of (take i words) ++ x ∷ []) told)) in
    record {
      are = are ∙ ap (map stay_meant) (sym more);
      spelled = spelled ∙ sym more;
      within = subst (All InRange) (sym is) (All-push InRange old s so_far.within number.within);
    }

pub stays_done : (words : List StayWords) (i : ℕ) (stays : List TaskStay) → length words ≤ i → AreStays (map stay_of (take i words)) stays → AreStays (map stay_of words) stays
stays_done words i stays all so_far = subst (λ (ws : List StayWords). AreStays (map stay_of ws) stays) (take_all i words all) so_far

means_ranges : (words : List StayWords) → All InRange (map stay_meant (map stay_of words)) → All (λ (w : StayWords). IsInRange 3 1000000000 (value w.ticks.now)) words
means_ranges [] all = All-nil (λ (w : StayWords). IsInRange 3 1000000000 (value w.ticks.now))
means_ranges (w ∷ words) all =
    All-cons (λ (v : StayWords). IsInRange 3 1000000000 (value v.ticks.now)) w words
    (All-head InRange (stay_meant (stay_of w)) (map stay_meant (map stay_of words)) all)
    (means_ranges words (All-tail InRange (stay_meant (stay_of w)) (map stay_meant (map stay_of words)) all))

pub stay_out : (words : List StayWords) (i : ℕ) (w : StayWords) → i < length words → w ≡ get_or words i w → ¬ IsInRange 3 1000000000 (value w.ticks.now) → ¬ All InRange (map stay_meant (map stay_of words))
stay_out words i w below is bad all =
    bad (subst (λ (v : StayWords). IsInRange 3 1000000000 (value v.ticks.now)) (sym is)
    (All-get_or (λ (v : StayWords). IsInRange 3 1000000000 (value v.ticks.now)) words i w below (means_ranges words all)))

pub numeral_at : (words : List StayWords) (i : ℕ) (w : StayWords) → i < length words → w ≡ get_or words i w → All (λ (v : StayWords). IsTrue (is_numeral v.ticks.now)) words → IsTrue (is_numeral w.ticks.now)
numeral_at words i w below is all =
    subst (λ (v : StayWords). IsTrue (is_numeral v.ticks.now)) (sym is) (All-get_or (λ (v : StayWords). IsTrue (is_numeral v.ticks.now)) words i w below all)
