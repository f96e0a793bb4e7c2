-- The words of a line with a form have no space and no LF.
use Rattle.std.proofs.Common.{◌≡◌, ◌++◌, ◌||◌, ◌==◌, ℕ, Bool, true, false, List, [], ◌∷◌, Option, Some, None, IfSome, map, flat_map, option_to_list, codes, refl, ap, sym, ◌∙◌, arith, All}
use Rattle.std.specs.List.{list_all}
use Rattle.std.specs.Prelude.{IsTrue}
use Rattle.std.proofs.lemmas.Bool.{and_parts, false≢true}
use Rattle.std.proofs.lemmas.List.Elements.{All-nil, All-cons, All-head, All-tail}
use Rattle.syntax.specs.Spellings.{is_digit, is_word, is_number}
use Rattle.text_fields.specs.Fields.{Lacks, spaced}
use Rattle.text_fields.specs.LineFields.{is_numeral as has_no_leading_zero}
use Rattle.text_fields.proofs.Cuts.{lacks_both}
use Rattle.table_format.specs.Spelling.{Word, SaidStay, SaidLine, with_key, stay_words, process_words}
use Rattle.table_format.specs.Faults.{is_numeral, IsTableWord, IsFormed, stay_meant}
use Rattle.table_reader.proofs.Splits.{AllLack}

test_lacks : (test : ℕ → Bool) (stop : ℕ) → test stop ≡ false → (bs : List ℕ) → list_all test bs ≡ true → Lacks stop bs
test_lacks test stop other [] all = tt
test_lacks test stop other (b ∷ bs) all =
    let h = and_parts (test b) (list_all test bs) all in
    ((λ e. false≢true (sym other ∙ (sym (ap test e) ∙ h.0))), test_lacks test stop other bs h.1)

-- no space and no LF
pub record IsPlain (w : Word) : Type 0 where
  pub space : Lacks 32 w
  pub feed : Lacks 10 w

abbrev pub AllPlain : List Word → Type 0
AllPlain [] = Unit {0}
AllPlain (w ∷ ws) = IsPlain w × AllPlain ws

letters : (w : Word) → list_all is_word w ≡ true → IsPlain w
letters w all = record { space = test_lacks is_word 32 refl w all; feed = test_lacks is_word 10 refl w all }

digits : (w : Word) → list_all is_digit w ≡ true → IsPlain w
digits w all = record { space = test_lacks is_digit 32 refl w all; feed = test_lacks is_digit 10 refl w all }

numeral : (w : Word) → IsTrue (is_numeral w) → IsPlain w
numeral [] is = absurd (false≢true (and_parts (is_number []) (has_no_leading_zero []) is).0)
numeral (b ∷ bs) is = digits (b ∷ bs) (and_parts (is_number (b ∷ bs)) (has_no_leading_zero (b ∷ bs)) is).0

table_word : (w : Word) → IsTableWord w → IsPlain w
table_word w is = record { space = is.is_word.no_space; feed = is.is_word.no_line_feed }

plain_both : (xs ys : List Word) → AllPlain xs → AllPlain ys → AllPlain (xs ++ ys)
plain_both [] ys a b = b
plain_both (x ∷ xs) ys a b = (a.0, plain_both xs ys a.1 b)

keyed : (key : Word) (o : Option Word) → IsPlain key → IfSome o IsPlain → AllPlain (with_key key o)
keyed key None is word = tt
keyed key (Some w) is word = (is, (word, tt))

-- ---- a line with a form

pub all_left : {X : Type 0} (P : X → Type 0) (xs ys : List X) → All P (xs ++ ys) → All P xs
all_left P [] ys h = All-nil P
all_left P (x ∷ xs) ys h = All-cons P x xs (All-head P x (xs ++ ys) h) (all_left P xs ys (All-tail P x (xs ++ ys) h))

pub all_right : {X : Type 0} (P : X → Type 0) (xs ys : List X) → All P (xs ++ ys) → All P ys
all_right P [] ys h = h
all_right P (x ∷ xs) ys h = all_right P xs ys (All-tail P x (xs ++ ys) h)

abbrev Numeral : Word → Type 0
Numeral w = IsTrue (is_numeral w)

pub if_all : {X : Type 0} (P : X → Type 0) (o : Option X) → All P (option_to_list o) → IfSome o P
if_all P None all = tt
if_all P (Some x) all = All-head P x [] all

if_plain : (P : Word → Type 0) → ((w : Word) → P w → IsPlain w) → (o : Option Word) → IfSome o P → IfSome o IsPlain
if_plain P means None is = tt
if_plain P means (Some w) is = means w is

stays_plain : (ss : List SaidStay) → All IsTableWord (map (λ s. s.monitor) (map stay_meant ss)) → All Numeral (map (λ s. s.ticks) ss) → AllPlain (flat_map stay_words ss)
stays_plain [] names ticks = tt
stays_plain (s ∷ ss) names ticks = (
  letters (codes "stay") refl,
  (
    table_word s.monitor (All-head IsTableWord s.monitor (map (λ x. x.monitor) (map stay_meant ss)) names),
    (
      numeral s.ticks (All-head Numeral s.ticks (map (λ x. x.ticks) ss) ticks),
      stays_plain ss (All-tail IsTableWord s.monitor (map (λ x. x.monitor) (map stay_meant ss)) names) (All-tail Numeral s.ticks (map (λ x. x.ticks) ss) ticks),
    ),
  ),
)

-- the words in the places of numbers, by their places
pub record HasNumbers (s : SaidLine) : Type 0 where
  pub frame : IsTrue (is_numeral s.frame)
  pub deadline : IfSome s.deadline (λ w. IsTrue (is_numeral w))
  pub first : IfSome s.first (λ w. IsTrue (is_numeral w))
  pub cost : IsTrue (is_numeral s.cost)
  pub stays : All (λ w. IsTrue (is_numeral w)) (map (λ stay. stay.ticks) s.stays)

pub formed_numbers : (s : SaidLine) → IsFormed s → HasNumbers s
formed_numbers s form =
    let ticks = map (λ x. x.ticks) s.stays in
    let later = option_to_list s.deadline ++ (option_to_list s.first ++ ticks) in
    let all : All Numeral (s.frame ∷ s.cost ∷ later) = form.numbers in
    let behind = All-tail Numeral s.frame (s.cost ∷ later) all in
    let rest = All-tail Numeral s.cost later behind in
    let firsts = all_right Numeral (option_to_list s.deadline) (option_to_list s.first ++ ticks) rest in
    record {
      frame = All-head Numeral s.frame (s.cost ∷ later) all;
      deadline = if_all Numeral s.deadline (all_left Numeral (option_to_list s.deadline) (option_to_list s.first ++ ticks) rest);
      first = if_all Numeral s.first (all_left Numeral (option_to_list s.first) ticks firsts);
      cost = All-head Numeral s.cost later behind;
      stays = all_right Numeral (option_to_list s.first) ticks firsts;
    }

pub formed_plain : (s : SaidLine) → IsFormed s → AllPlain (process_words s)
formed_plain s form =
    let monitors = map (λ x. x.monitor) (map stay_meant s.stays) in
    let own = s.name ∷ option_to_list s.event in
    let words : All IsTableWord (own ++ monitors) = form.words in
    let owns = all_left IsTableWord own monitors words in
    let name = table_word s.name (All-head IsTableWord s.name (option_to_list s.event) owns) in
    let event = if_plain IsTableWord table_word s.event (if_all IsTableWord s.event (All-tail IsTableWord s.name (option_to_list s.event) owns)) in
    let n = formed_numbers s form in
    let stays = stays_plain s.stays (all_right IsTableWord own monitors words) n.stays in
    let costs = codes "cost" ∷ s.cost ∷ flat_map stay_words s.stays in
    let firsts = with_key (codes "first") s.first ++ costs in
    let deadlines = with_key (codes "deadline") s.deadline ++ firsts in
    let from_cost : AllPlain costs = (letters (codes "cost") refl, (numeral s.cost n.cost, stays)) in
    let from_first : AllPlain firsts = plain_both (with_key (codes "first") s.first) costs (keyed (codes "first") s.first (letters (codes "first") refl) (if_plain Numeral numeral s.first n.first)) from_cost in
    let from_deadline : AllPlain deadlines = plain_both (with_key (codes "deadline") s.deadline) firsts (keyed (codes "deadline") s.deadline (letters (codes "deadline") refl) (if_plain Numeral numeral s.deadline n.deadline)) from_first in
    let frames = codes "frame" ∷ s.frame ∷ deadlines in
    let from_frame : AllPlain frames = (letters (codes "frame") refl, (numeral s.frame n.frame, from_deadline)) in
    let from_event : AllPlain (with_key (codes "event") s.event ++ frames) = plain_both (with_key (codes "event") s.event) frames (keyed (codes "event") s.event (letters (codes "event") refl) event) from_frame in
    (letters (codes "process") refl, (name, from_event))

-- ---- what is put together of such words

pub all_lack : (ws : List Word) → AllPlain ws → AllLack ws
all_lack [] are = tt
all_lack (w ∷ ws) are = (are.0.space, all_lack ws are.1)

pub no_feed : (ws : List Word) → AllPlain ws → Lacks 10 (spaced ws)
no_feed [] are = tt
no_feed (w ∷ []) are = are.0.feed
no_feed (w ∷ v ∷ ws) are = lacks_both 10 w (32 ∷ spaced (v ∷ ws)) are.0.feed ((λ e. absurd (omega (arith, e))), no_feed (v ∷ ws) are.1)

pub table_no_feed : (name : Word) → IsTableWord name → Lacks 10 (codes "table " ++ name)
table_no_feed name is = lacks_both 10 (codes "table ") name (test_lacks (λ b. is_word b || b == 32) 10 refl (codes "table ") refl) is.is_word.no_line_feed
