-- An instruction whose operands are words is in range.
use Rattle.std.proofs.Common.{◌≡◌, ◌++◌, true, ℤ, List, [], ◌∷◌, length, refl, sym}
use Rattle.std.specs.Prelude.{All, FitsSigned}
use Rattle.std.specs.Int.{cast_signed, cast_unsigned, w32}
use Rattle.std.proofs.lemmas.Bool.Decides.{Decides-int_eq}
use Rattle.std.proofs.lemmas.List.Elements.{All-head, All-tail}
use Rattle.std.proofs.lemmas.Int.{to_z-of_z}
use Rattle.machine_isa.specs.declared.instr.Instr.{Instr}
use Rattle.machine_isa.specs.declared.instr.Instr.TheVariants as i
use Rattle.machine_isa.specs.Bytes.{HasWords}
use Rattle.image_format.specs.Format.{each_is}
use Rattle.image_format.proofs.Booleans.{together}
use Rattle.image_reader.specs.Grammar as g
use Rattle.image_reader_law.proofs.ImageFaultsFields.{is_word}

word_is : (z : ℤ) → FitsSigned w32 z → is_word z ≡ true
word_is z fits = (Decides-int_eq z (cast_signed w32 (cast_unsigned w32 z))).1 (sym (to_z-of_z w32 z fits))

pub instr_is : (j : Instr) → HasWords j → g.instr_format.is j ≡ true
instr_is (i.Push value) h = rw (word_is value h.0) refl
instr_is (i.LoadLocal word) h = rw (word_is word h.0) refl
instr_is (i.StoreLocal word) h = rw (word_is word h.0) refl
instr_is (i.LoadOwn word) h = rw (word_is word h.0) refl
instr_is (i.StoreOwn word) h = rw (word_is word h.0) refl
instr_is (i.LoadMon word) h = rw (word_is word h.0) refl
instr_is (i.StoreMon word) h = rw (word_is word h.0) refl
instr_is (i.LoadLocalAt word low len) h = rw (word_is word h.0, word_is low h.1.0, word_is len h.1.1.0) refl
instr_is (i.StoreLocalAt word low len) h = rw (word_is word h.0, word_is low h.1.0, word_is len h.1.1.0) refl
instr_is (i.LoadOwnAt word low len) h = rw (word_is word h.0, word_is low h.1.0, word_is len h.1.1.0) refl
instr_is (i.StoreOwnAt word low len) h = rw (word_is word h.0, word_is low h.1.0, word_is len h.1.1.0) refl
instr_is (i.LoadMonAt word low len) h = rw (word_is word h.0, word_is low h.1.0, word_is len h.1.1.0) refl
instr_is (i.StoreMonAt word low len) h = rw (word_is word h.0, word_is low h.1.0, word_is len h.1.1.0) refl
instr_is (i.Range low high) h = rw (word_is low h.0, word_is high h.1.0) refl
instr_is (i.JumpZero to) h = rw (word_is to h.0) refl
instr_is (i.Jump to) h = rw (word_is to h.0) refl
instr_is (i.Repeats turns) h = rw (word_is turns h.0) refl
instr_is (i.Repeat to) h = rw (word_is to h.0) refl
instr_is (i.Exit to) h = rw (word_is to h.0) refl
instr_is (i.Call routine) h = rw (word_is routine h.0) refl
instr_is (i.Enter monitor) h = rw (word_is monitor h.0) refl
instr_is (i.Leave monitor) h = rw (word_is monitor h.0) refl
instr_is (i.Wait condition limit raised) h = rw (word_is condition h.0, word_is limit h.1.0, word_is raised h.1.1.0) refl
instr_is (i.Reenter monitor) h = rw (word_is monitor h.0) refl
instr_is (i.Signal condition) h = rw (word_is condition h.0) refl
instr_is (i.Broadcast condition) h = rw (word_is condition h.0) refl
instr_is (i.Empty condition) h = rw (word_is condition h.0) refl
instr_is (i.In device) h = rw (word_is device h.0) refl
instr_is (i.Out device) h = rw (word_is device h.0) refl
instr_is (i.Raise raised) h = rw (word_is raised h.0) refl
instr_is j h = refl

pub code_is : (earlier code : List Instr) → All HasWords code → each_is (λ before. g.instr_format) earlier (length code) code ≡ true
code_is earlier [] h = refl
code_is earlier (j ∷ js) h =
    together (g.instr_format.is j) (each_is (λ before. g.instr_format) (earlier ++ j ∷ []) (length js) js) (instr_is j (All-head HasWords j js h)) (code_is (earlier ++ j ∷ []) js (All-tail HasWords j js h))
