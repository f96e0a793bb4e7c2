-- The lines of a table: which words they have, and that they are those of one table.
use Rattle.std.proofs.Common.{◌≡◌, ◌≢◌, ◌<◌, ◌≤◌, ◌^◌, ◌++◌, ℕ, zero, suc, Bool, true, List, [], ◌∷◌, Option, Some, None, IfSome, length, map, flat_map, option_map, option_to_list, get_or, codes, decimal, refl, sym, ap, subst, ◌∙◌, arith, All}
use Rattle.std.proofs.lemmas.List.{append_assoc}
use Rattle.std.proofs.lemmas.List.Elements.{All-nil, All-cons, All-head, All-tail, All-append, All-map, All-weaker}
use Rattle.std.proofs.lemmas.Fmt.{decimal_injective}
use Rattle.std.specs.Prelude.{IsTrue}
use Rattle.text_fields.specs.Fields.{Lacks, IsWord}
use Rattle.table_format.specs.declared.table.TaskStay.{TaskStay}
use Rattle.table_format.specs.declared.table.TaskLine.{TaskLine}
use Rattle.table_format.specs.declared.table.TaskTable.{TaskTable}
use Rattle.table_format.specs.Spelling.{Word, line_of, SaidStay, SaidLine, with_key, stay_words, process_words, said_stay, said, first_line, process_line, last_line, lines_before_end, table_bytes}
use Rattle.table_format.specs.Rules.{IsName, task_names, monitors_named, names_of_line, IsInRanges, IsTaskLine}
use Rattle.table_format.specs.Faults.{is_numeral, IsTableWord, IsFormed, stay_meant, meant, numbers}
use Rattle.table_law.proofs.Words.{line_once, words_once}
use Rattle.table_law.proofs.Numbers.{letters_word, number_word, decimal_numeral, value_decimal, name_word}

-- ---- a process line by its words

abbrev pub Low : TaskStay → Type 0
Low s = s.ticks < 2 ^ 64

-- the numbers are all small
pub record IsSmallLine (p : TaskLine) : Type 0 where
  pub frame : p.frame < 2 ^ 64
  pub deadline : IfSome p.deadline (λ d. d < 2 ^ 64)
  pub first : IfSome p.first (λ n. n < 2 ^ 64)
  pub cost : p.cost < 2 ^ 64
  pub stays : All Low p.stays

small_deadline : (o : Option ℕ) (frame : ℕ) → frame ≤ 1000000000 → IfSome o (λ d. (10 ≤ d) × (d ≤ frame)) → IfSome o (λ d. d < 2 ^ 64)
small_deadline None frame low is = tt
small_deadline (Some d) frame low is = omega (arith, low, is.1)

small_first : (o : Option ℕ) → IfSome o (λ n. n ≤ 1000000000) → IfSome o (λ d. d < 2 ^ 64)
small_first None is = tt
small_first (Some d) is = omega (arith, is)

pub small_line : (p : TaskLine) → IsInRanges p → IsSmallLine p
small_line p is = record {
  frame = let f = is.frame in omega (arith, f.1);
  deadline = small_deadline p.deadline p.frame is.frame.1 is.deadline;
  first = small_first p.first is.first;
  cost = let c = is.cost in omega (arith, c.1);
  stays = All-weaker (λ s. (3 ≤ s.ticks) × (s.ticks ≤ 1000000000)) Low (λ s h. omega (arith, h.1)) p.stays is.stay;
}

-- what the words of a line mean
same_option : (o : Option ℕ) → IfSome o (λ d. d < 2 ^ 64) → option_map Rattle.text_fields.specs.LineFields.value (option_map decimal o) ≡ o
same_option None low = refl
same_option (Some d) low = ap Some (value_decimal d low)

stay_is : (m : Word) (a b : ℕ) → a ≡ b → (let s : TaskStay = record { monitor = m; ticks = a } in s) ≡ record { monitor = m; ticks = b }
stay_is m a b e = cc

same_stays : (ss : List TaskStay) → All Low ss → map stay_meant (map said_stay ss) ≡ ss
same_stays [] low = refl
same_stays (s ∷ ss) low =
    let first = stay_is s.monitor _ s.ticks (value_decimal s.ticks (All-head Low s ss low)) in
    let more = same_stays ss (All-tail Low s ss low) in
    cc

line_is : (name : Word) (event : Option Word) (frame frame' : ℕ) (deadline deadline' : Option ℕ) (first first' : Option ℕ) (cost cost' : ℕ) (stays stays' : List TaskStay)
    → frame ≡ frame' → deadline ≡ deadline' → first ≡ first' → cost ≡ cost' → stays ≡ stays'
    → (let p : TaskLine = record { name = name; event = event; frame = frame; deadline = deadline; first = first; cost = cost; stays = stays } in p)
    ≡ record { name = name; event = event; frame = frame'; deadline = deadline'; first = first'; cost = cost'; stays = stays' }
line_is name event frame frame' deadline deadline' first first' cost cost' stays stays' a b c d e = cc

pub means_itself : (p : TaskLine) → IsSmallLine p → meant (said p) ≡ p
means_itself p low =
    line_is p.name p.event _ p.frame _ p.deadline _ p.first _ p.cost _ p.stays
    (value_decimal p.frame low.frame) (same_option p.deadline low.deadline) (same_option p.first low.first) (value_decimal p.cost low.cost) (same_stays p.stays low.stays)

-- ---- the words of a line are words

all_left : {X : Type 0} (P : X → Type 0) (xs ys : List X) → All P (xs ++ ys) → All P xs
all_left P [] ys h = All-nil P
all_left P (x ∷ xs) ys h = All-cons P x xs (All-head P x (xs ++ ys) h) (all_left P xs ys (All-tail P x (xs ++ ys) h))

all_right : {X : Type 0} (P : X → Type 0) (xs ys : List X) → All P (xs ++ ys) → All P ys
all_right P [] ys h = h
all_right P (x ∷ xs) ys h = all_right P xs ys (All-tail P x (xs ++ ys) h)

abbrev Numeral : Word → Type 0
Numeral w = IsTrue (is_numeral w)

keyed : (key : Word) (o : Option Word) → IsWord key → IfSome o IsWord → All IsWord (with_key key o)
keyed key None is word = All-nil IsWord
keyed key (Some w) is word = All-cons IsWord key (w ∷ []) is (All-cons IsWord w [] word (All-nil IsWord))

named : (o : Option Word) → All IsTableWord (option_to_list o) → IfSome o IsWord
named None are = tt
named (Some w) are = (All-head IsTableWord w [] are).is_word

numbered : (o : Option Word) → All Numeral (option_to_list o) → IfSome o IsWord
numbered None are = tt
numbered (Some w) are = number_word w (All-head Numeral w [] are)

stays_words : (ss : List SaidStay) → All IsTableWord (map (λ s. s.monitor) (map stay_meant ss)) → All Numeral (map (λ s. s.ticks) ss) → All IsWord (flat_map stay_words ss)
stays_words [] names ticks = All-nil IsWord
stays_words (s ∷ ss) names ticks =
    let monitor = All-head IsTableWord s.monitor (map (λ x. x.monitor) (map stay_meant ss)) names in
    All-cons IsWord (codes "stay") (s.monitor ∷ s.ticks ∷ flat_map stay_words ss) (letters_word (codes "stay") (omega arith) refl)
    (All-cons IsWord s.monitor (s.ticks ∷ flat_map stay_words ss) monitor.is_word
    (All-cons IsWord s.ticks (flat_map stay_words ss) (number_word s.ticks (All-head Numeral s.ticks (map (λ x. x.ticks) ss) ticks))
    (stays_words ss (All-tail IsTableWord s.monitor (map (λ x. x.monitor) (map stay_meant ss)) names) (All-tail Numeral s.ticks (map (λ x. x.ticks) ss) ticks))))

pub formed_words : (s : SaidLine) → IsFormed s → All IsWord (process_words s)
formed_words s form =
    let monitors = map (λ x. x.monitor) (map stay_meant s.stays) in
    let own = s.name ∷ option_to_list s.event in
    let named_all : All IsTableWord (own ++ monitors) = form.words in
    let task_words = all_left IsTableWord own monitors named_all in
    let stay_names = all_right IsTableWord own monitors named_all in
    let name = All-head IsTableWord s.name (option_to_list s.event) task_words in
    let event = named s.event (All-tail IsTableWord s.name (option_to_list s.event) task_words) in
    let ticks = map (λ x. x.ticks) s.stays in
    let later = option_to_list s.deadline ++ (option_to_list s.first ++ ticks) in
    let all : All Numeral (s.frame ∷ s.cost ∷ later) = form.numbers in
    let frame = All-head Numeral s.frame (s.cost ∷ later) all in
    let cost = All-head Numeral s.cost later (All-tail Numeral s.frame (s.cost ∷ later) all) in
    let rest = All-tail Numeral s.cost later (All-tail Numeral s.frame (s.cost ∷ later) all) in
    let deadline = numbered s.deadline (all_left Numeral (option_to_list s.deadline) (option_to_list s.first ++ ticks) rest) in
    let behind = all_right Numeral (option_to_list s.deadline) (option_to_list s.first ++ ticks) rest in
    let first = numbered s.first (all_left Numeral (option_to_list s.first) ticks behind) in
    let stays = stays_words s.stays stay_names (all_right Numeral (option_to_list s.first) ticks behind) in
    let from_cost = All-cons IsWord (codes "cost") (s.cost ∷ flat_map stay_words s.stays) (letters_word (codes "cost") (omega arith) refl) (All-cons IsWord s.cost (flat_map stay_words s.stays) (number_word s.cost cost) stays) in
    let costs = codes "cost" ∷ s.cost ∷ flat_map stay_words s.stays in
    let firsts = with_key (codes "first") s.first ++ costs in
    let deadlines = with_key (codes "deadline") s.deadline ++ firsts in
    let frames = codes "frame" ∷ s.frame ∷ deadlines in
    let from_first = All-append IsWord (with_key (codes "first") s.first) costs (keyed (codes "first") s.first (letters_word (codes "first") (omega arith) refl) first) from_cost in
    let from_deadline = All-append IsWord (with_key (codes "deadline") s.deadline) firsts (keyed (codes "deadline") s.deadline (letters_word (codes "deadline") (omega arith) refl) deadline) from_first in
    let from_frame = All-cons IsWord (codes "frame") (s.frame ∷ deadlines) (letters_word (codes "frame") (omega arith) refl) (All-cons IsWord s.frame deadlines (number_word s.frame frame) from_deadline) in
    let from_event = All-append IsWord (with_key (codes "event") s.event) frames (keyed (codes "event") s.event (letters_word (codes "event") (omega arith) refl) event) from_frame in
    All-cons IsWord (codes "process") (s.name ∷ (with_key (codes "event") s.event ++ frames)) (letters_word (codes "process") (omega arith) refl) (All-cons IsWord s.name (with_key (codes "event") s.event ++ frames) name.is_word from_event)

-- ---- a line of a table has its form

decimals : (o : Option ℕ) → IfSome o (λ d. d < 2 ^ 64) → All Numeral (option_to_list (option_map decimal o))
decimals None low = All-nil Numeral
decimals (Some d) low = All-cons Numeral (decimal d) [] (decimal_numeral d low) (All-nil Numeral)

stay_decimals : (ss : List TaskStay) → All Low ss → All Numeral (map (λ s. s.ticks) (map said_stay ss))
stay_decimals [] low = All-nil Numeral
stay_decimals (s ∷ ss) low = All-cons Numeral (decimal s.ticks) (map (λ x. x.ticks) (map said_stay ss)) (decimal_numeral s.ticks (All-head Low s ss low)) (stay_decimals ss (All-tail Low s ss low))

pub formed_said : (p : TaskLine) → IsTaskLine p → IsFormed (said p)
formed_said p is =
    let low = small_line p is.ranges in
    let itself = sym (means_itself p low) in
    let ticks = map (λ x. x.ticks) (map said_stay p.stays) in
    let firsts = option_to_list (option_map decimal p.first) ++ ticks in
    let deadlines = option_to_list (option_map decimal p.deadline) ++ firsts in
    record {
      words = subst (λ (q : TaskLine). All IsTableWord (names_of_line q)) itself (All-weaker IsName IsTableWord name_word (names_of_line p) is.names);
      numbers =
          All-cons Numeral (decimal p.frame) (decimal p.cost ∷ deadlines) (decimal_numeral p.frame low.frame)
          (All-cons Numeral (decimal p.cost) deadlines (decimal_numeral p.cost low.cost)
          (All-append Numeral (option_to_list (option_map decimal p.deadline)) firsts (decimals p.deadline low.deadline)
          (All-append Numeral (option_to_list (option_map decimal p.first)) ticks (decimals p.first low.first) (stay_decimals p.stays low.stays))));
      activation = subst (λ (q : TaskLine). Rattle.table_format.specs.Rules.IsOneActivation q) itself is.activation;
    }

-- ---- lines are those of one table

-- a line of a table, where one of these words stands
pub said_once : (p : TaskLine) (s : SaidLine) (r q : List ℕ) → IsTaskLine p → IsFormed s → process_line (said p) ++ r ≡ process_line s ++ q → (meant s ≡ p) × (r ≡ q)
said_once p s r q is form e =
    let same = line_once (process_words (said p)) (process_words s) r q (formed_words (said p) (formed_said p is)) (formed_words s form) e in
    let words : said p ≡ s = words_once (said p) s same.0 in
    (sym (ap meant words) ∙ means_itself p (small_line p is.ranges), same.1)

abbrev pub lines : List TaskLine → List ℕ
lines ps = flat_map (λ p. process_line (said p)) ps

at_first : (xs ys : List ℕ) → xs ≡ ys → get_or xs 0 0 ≡ get_or ys 0 0
at_first xs ys e = ap (λ zs. get_or zs 0 0) e

pub no_last : (s : SaidLine) (rest other : List ℕ) → last_line ++ other ≡ process_line s ++ rest → ⊥
no_last s rest other e = let at = at_first (last_line ++ other) (process_line s ++ rest) e in omega (arith, at)

-- what stands behind the lines of other processes
pub record IsBehind (ps qs : List TaskLine) (rest : List ℕ) : Type 0 where
  pub later : List TaskLine
  pub whole : ps ≡ qs ++ later
  pub is : rest ≡ lines later ++ last_line

pub behind : (ps qs : List TaskLine) (rest : List ℕ) → All IsTaskLine ps → All IsTaskLine qs → lines ps ++ last_line ≡ lines qs ++ rest → IsBehind ps qs rest
behind ps [] rest are also e = record { later = ps; whole = refl; is = sym e }
behind [] (q ∷ qs) rest are also e = absurd (no_last (said q) (lines qs ++ rest) [] (e ∙ append_assoc (process_line (said q)) (lines qs) rest))
behind (p ∷ ps) (q ∷ qs) rest are also e =
    let p_is = All-head IsTaskLine p ps are in
    let q_is = All-head IsTaskLine q qs also in
    let here = sym (append_assoc (process_line (said p)) (lines ps) last_line) ∙ (e ∙ append_assoc (process_line (said q)) (lines qs) rest) in
    let one = said_once p (said q) (lines ps ++ last_line) (lines qs ++ rest) p_is (formed_said q q_is) here in
    let same : q ≡ p = sym (means_itself q (small_line q q_is.ranges)) ∙ one.0 in
    let more = behind ps qs rest (All-tail IsTaskLine p ps are) (All-tail IsTaskLine q qs also) one.1 in
    let whole = more.whole in
    record { later = more.later; whole = cc; is = more.is }

-- the first line
first_words : (name : Word) → IsTableWord name → All IsWord (codes "table" ∷ name ∷ [])
first_words name is = All-cons IsWord (codes "table") (name ∷ []) (letters_word (codes "table") (omega arith) refl) (All-cons IsWord name [] is.is_word (All-nil IsWord))

pub first_once : (name other : Word) (r q : List ℕ) → IsTableWord name → IsTableWord other → first_line name ++ r ≡ first_line other ++ q → (name ≡ other) × (r ≡ q)
first_once name other r q is that e =
    let same = line_once (codes "table" ∷ name ∷ []) (codes "table" ∷ other ∷ []) r q (first_words name is) (first_words other that) e in
    let words = same.0 in
    (ap (λ ws. get_or ws 1 []) words, same.1)
