-- The text of lines has their words as its tokens.
use Rattle.std.proofs.Common.{◌≡◌, ℕ, suc, ◌+◌, ◌-◌, ◌*◌, ◌%◌, ◌^◌, ◌<◌, ◌≤◌, true, ◌&&◌, nat_le, List, [], ◌∷◌, ◌++◌, fold, length, All, unwrap_or, Some, refl, ap, sym, ◌∙◌, subst, arith, append_assoc, le-leb, decimal}
use Rattle.std.specs.List.{list_all}
use Rattle.std.proofs.lemmas.Fmt.{decimal_by_steps}
use Rattle.std.proofs.lemmas.Bool.{and_parts}
use Rattle.syntax.specs.declared.token.Token.{Token}
use Rattle.syntax.specs.declared.token.TokenKind.{TokenKind}
use Rattle.syntax.specs.declared.token.TokenKind.TheVariants as kind
use Rattle.syntax.specs.Spellings as spells
use Rattle.syntax.specs.Spellings.{keywords, signs, is_digit, is_number, greatest_literal, HasKind}
use Rattle.syntax.specs.Tokens.{bytes_of, longest_text}
use Rattle.syntax.specs.Words.{Word, named, number, keyword, sign, word_of, toks_of, words_of}
use Rattle.syntax_printer.specs.Canonical.{Line, spelling, line_text, text_of}
use Rattle.syntax_printer.proofs.Lexed.{Item, spelled, alone, item_text, item_words, AreItems, HasWords, items_lexed}

-- ---- words

abbrev pub kind_of : Word → TokenKind
kind_of (named n) = kind.Ident
kind_of (number n) = kind.Literal n
kind_of (keyword at) = kind.Keyword at
kind_of (sign at) = kind.Sign at

-- the word is the token that its spelling is
abbrev pub IsSpelled : Word → Type 0
IsSpelled word = HasKind (spelling word) (kind_of word)

abbrev pub AreSpelled : List Word → Type 0
AreSpelled [] = Unit {0}
AreSpelled (word ∷ words) = IsSpelled word × AreSpelled words

word_back : (word : Word) → word_of (kind_of word) (spelling word) ≡ word
word_back (named n) = refl
word_back (number n) = refl
word_back (keyword at) = refl
word_back (sign at) = refl

-- ---- decimal digits

pub record Reads (n : ℕ) (digits : List ℕ) : Type 0 where
  pub are : is_number digits ≡ true
  pub value : n ≡ spells.decimal digits

pub digit_is : (d : ℕ) → d < 10 → is_digit (48 + d) ≡ true
digit_is d below =
    let low : nat_le 48 (48 + d) ≡ true = le-leb 48 (48 + d) (omega arith) in
    let high : nat_le (48 + d) 57 ≡ true = le-leb (48 + d) 57 (omega arith) in
    ap (λ b. b && nat_le (48 + d) 57) low ∙ high

pub all_with_last : (digits : List ℕ) (d : ℕ) → list_all is_digit digits ≡ true → is_digit d ≡ true → list_all is_digit (digits ++ d ∷ []) ≡ true
all_with_last [] d all is = ap (λ b. b && true) is
all_with_last (c ∷ cs) d all is =
    let parts = and_parts (is_digit c) (list_all is_digit cs) all in
    ap (λ b. b && list_all is_digit (cs ++ d ∷ [])) parts.0 ∙ all_with_last cs d parts.1 is

pub number_with_last : (digits : List ℕ) (d : ℕ) → is_number digits ≡ true → is_digit d ≡ true → is_number (digits ++ d ∷ []) ≡ true
number_with_last [] d are is = cc
number_with_last (c ∷ cs) d are is = all_with_last (c ∷ cs) d are is

pub fold_with_last : (n : ℕ) (digits : List ℕ) (d : ℕ) → fold (λ n d. 10 * n + (d - 48)) n (digits ++ d ∷ []) ≡ 10 * fold (λ n d. 10 * n + (d - 48)) n digits + (d - 48)
fold_with_last n [] d = refl
fold_with_last n (c ∷ cs) d = fold_with_last (10 * n + (c - 48)) cs d

pub decimal_reads : (n : ℕ) → n < 2 ^ 64 → Reads n (decimal n)
decimal_reads = decimal_by_steps Reads
    (λ n below. record { are = ap (λ b. b && true) (digit_is n below); value = omega arith })
    (λ n digits high reads. record {
      are = number_with_last digits (48 + n % 10) reads.are (digit_is (n % 10) (omega arith));
      value = omega (arith, reads.value, fold_with_last 0 digits (48 + n % 10));
    })

-- ---- the words of tokens

token_spelled : (bytes : List ℕ) (k : TokenKind) → HasKind bytes k → IsSpelled (word_of k bytes)
token_spelled bytes kind.Ident has = has
token_spelled bytes (kind.Keyword at) has = has ∙ sym (ap (λ o. Some (unwrap_or o [])) has)
token_spelled bytes (kind.Literal v) has = let it = decimal_reads v (omega (arith, has.2)) in (it.are, it.value, has.2)
token_spelled bytes (kind.Sign at) has = has ∙ sym (ap (λ o. Some (unwrap_or o [])) has)

pub tokens_spelled : (text : List ℕ) (toks : List Token) → All (λ t. HasKind (bytes_of text t) t.kind) toks → AreSpelled (words_of (toks_of text toks))
tokens_spelled text [] all = tt
tokens_spelled text (t ∷ toks) all =
    (token_spelled (bytes_of text t) t.kind (all 0 t (omega arith)), tokens_spelled text toks (λ k d below. all (suc k) d (omega arith)))

-- ---- lines

abbrev line_items : Line → List Item
line_items [] = alone 10 ∷ []
line_items (word ∷ []) = spelled (spelling word) (kind_of word) 10 ∷ []
line_items (word ∷ next ∷ more) = spelled (spelling word) (kind_of word) 32 ∷ line_items (next ∷ more)

abbrev items_of : List Line → List Item
items_of [] = []
items_of (line ∷ lines) = line_items line ++ items_of lines

-- the words of lines, one after another
abbrev pub flat : List Line → List Word
flat [] = []
flat (line ∷ lines) = line ++ flat lines

line_items_text : (line : Line) (items : List Item) → item_text (line_items line ++ items) ≡ line_text line ++ item_text items
line_items_text [] items = refl
line_items_text (word ∷ []) items = sym (append_assoc (spelling word) (10 ∷ []) (item_text items))
line_items_text (word ∷ next ∷ more) items =
    ap (λ (t : List ℕ). spelling word ++ 32 ∷ t) (line_items_text (next ∷ more) items)
    ∙ sym (append_assoc (spelling word) (32 ∷ line_text (next ∷ more)) (item_text items))

items_text : (lines : List Line) → item_text (items_of lines) ≡ text_of lines
items_text [] = refl
items_text (line ∷ lines) = line_items_text line (items_of lines) ∙ ap (λ (t : List ℕ). line_text line ++ t) (items_text lines)

line_items_words : (line : Line) (items : List Item) → item_words (line_items line ++ items) ≡ line ++ item_words items
line_items_words [] items = refl
line_items_words (word ∷ []) items = ap (λ v. v ∷ item_words items) (word_back word)
line_items_words (word ∷ next ∷ more) items = let first = word_back word in let rest = line_items_words (next ∷ more) items in λ i. first i ∷ rest i

items_words : (lines : List Line) → item_words (items_of lines) ≡ flat lines
items_words [] = refl
items_words (line ∷ lines) = line_items_words line (items_of lines) ∙ ap (λ (ws : List Word). line ++ ws) (items_words lines)

line_are_items : (line : Line) (words : List Word) (items : List Item) → AreSpelled (line ++ words) → (AreSpelled words → AreItems items) → AreItems (line_items line ++ items)
line_are_items [] words items are rest = (refl, rest are)
line_are_items (word ∷ []) words items (is, are) rest = (is, refl, rest are)
line_are_items (word ∷ next ∷ more) words items (is, are) rest = (is, refl, line_are_items (next ∷ more) words items are rest)

are_items : (lines : List Line) → AreSpelled (flat lines) → AreItems (items_of lines)
are_items [] are = tt
are_items (line ∷ lines) are = line_are_items line (flat lines) (items_of lines) are (are_items lines)

-- spelled words in lines are the tokens of the text of these lines
pub lines_lexed : (lines : List Line) → AreSpelled (flat lines) → length (text_of lines) ≤ longest_text → HasWords (text_of lines) (flat lines)
lines_lexed lines are short =
    let same = items_text lines in
    let all = items_lexed (items_of lines) (are_items lines are) (subst (λ (t : List ℕ). length t ≤ longest_text) (sym same) short) in
    subst (λ ws. HasWords (text_of lines) ws) (items_words lines) (subst (λ t. HasWords t (item_words (items_of lines))) same all)
