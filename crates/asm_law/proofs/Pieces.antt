-- Pieces of a text, one after the other, before what follows them.
use Rattle.std.proofs.Common.{◌≡◌, ◌++◌, ℕ, List, append_assoc}

pub pieces_4 : (a b c d rest : List ℕ) → (a ++ (b ++ (c ++ d))) ++ rest ≡ a ++ (b ++ (c ++ (d ++ rest)))
pieces_4 a b c d rest = simp append_assoc

pub pieces_8 : (a b c d e f g h rest : List ℕ) → (a ++ (b ++ (c ++ (d ++ (e ++ (f ++ (g ++ h))))))) ++ rest ≡ a ++ (b ++ (c ++ (d ++ (e ++ (f ++ (g ++ (h ++ rest)))))))
pieces_8 a b c d e f g h rest = simp append_assoc

-- a line of four pieces, its end, and the next line
pub lines_2 : (a b c d end next rest : List ℕ) → (a ++ (b ++ (c ++ (d ++ (end ++ next))))) ++ rest ≡ (a ++ (b ++ (c ++ d))) ++ (end ++ (next ++ rest))
lines_2 a b c d end next rest = simp append_assoc

-- a line of pieces, and its end
pub ended_2 : (a b end rest : List ℕ) → (a ++ (b ++ end)) ++ rest ≡ (a ++ b) ++ (end ++ rest)
ended_2 a b end rest = simp append_assoc

pub ended_3 : (a b c end rest : List ℕ) → (a ++ (b ++ (c ++ end))) ++ rest ≡ (a ++ (b ++ c)) ++ (end ++ rest)
ended_3 a b c end rest = simp append_assoc

pub ended_6 : (a b c d e f end rest : List ℕ) → (a ++ (b ++ (c ++ (d ++ (e ++ (f ++ end)))))) ++ rest ≡ (a ++ (b ++ (c ++ (d ++ (e ++ f))))) ++ (end ++ rest)
ended_6 a b c d e f end rest = simp append_assoc

-- a line of six pieces, its end, and two lines
pub lines_3 : (a b c d e f end next last rest : List ℕ) → (a ++ (b ++ (c ++ (d ++ (e ++ ((f ++ end) ++ (next ++ last))))))) ++ rest ≡ (a ++ (b ++ (c ++ (d ++ (e ++ f))))) ++ (end ++ (next ++ (last ++ rest)))
lines_3 a b c d e f end next last rest = simp append_assoc

-- ---- fields, each a label and its number

pub field_then : (l a more rest : List ℕ) → ((l ++ a) ++ more) ++ rest ≡ l ++ (a ++ (more ++ rest))
field_then l a more rest = simp append_assoc

pub fields_3 : (l a k b m c rest : List ℕ) → ((l ++ a) ++ ((k ++ b) ++ (m ++ c))) ++ rest ≡ l ++ (a ++ (k ++ (b ++ (m ++ (c ++ rest)))))
fields_3 l a k b m c rest = simp append_assoc

pub fields_3_then : (l a k b m c more rest : List ℕ) → ((l ++ a) ++ ((k ++ b) ++ ((m ++ c) ++ more))) ++ rest ≡ l ++ (a ++ (k ++ (b ++ (m ++ (c ++ (more ++ rest))))))
fields_3_then l a k b m c more rest = simp append_assoc

pub fields_4 : (l a k b m c n d rest : List ℕ) → ((l ++ a) ++ ((k ++ b) ++ ((m ++ c) ++ (n ++ d)))) ++ rest ≡ l ++ (a ++ (k ++ (b ++ (m ++ (c ++ (n ++ (d ++ rest)))))))
fields_4 l a k b m c n d rest = simp append_assoc

pub fields_6 : (l a k b m c n d o e p f rest : List ℕ) → ((l ++ a) ++ ((k ++ b) ++ ((m ++ c) ++ ((n ++ d) ++ ((o ++ e) ++ (p ++ f)))))) ++ rest
    ≡ l ++ (a ++ (k ++ (b ++ (m ++ (c ++ (n ++ (d ++ (o ++ (e ++ (p ++ (f ++ rest)))))))))))
fields_6 l a k b m c n d o e p f rest = simp append_assoc

-- a label, a name, two fields, a label, a word and an end
pub named_2 : (label name l a k b m word end rest : List ℕ) → (label ++ (name ++ ((l ++ a) ++ ((k ++ b) ++ (m ++ (word ++ end)))))) ++ rest
    ≡ label ++ (name ++ (l ++ (a ++ (k ++ (b ++ (m ++ (word ++ (end ++ rest))))))))
named_2 label name l a k b m word end rest = simp append_assoc
