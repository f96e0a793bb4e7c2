-- Reading an instruction's bytes gives it back.
use Rattle.std.proofs.Common.{◌≡◌, ℕ, ℤ, pos, suc, zero, List, [], ◌∷◌, ◌≤◌, Some, None, flat_map, FitsSigned, refl, sym, ◌∙◌, ap, subst, arith}
use Rattle.std.specs.Int.{w32, cast_signed, cast_unsigned, from_be_bytes, to_be_bytes}
use Rattle.std.proofs.lemmas.Nat.{from_be_bytes-to_be_bytes_4}
use Rattle.std.proofs.lemmas.Int.{to_z-of_z}
use Rattle.std.proofs.lemmas.Option.{slice_get_past, same_Some}
use Rattle.std.proofs.Math.Facts.{Fits-of_z, Fits-lt-pow}
use Rattle.machine_isa.specs.declared.instr.Instr.{Instr}
use Rattle.machine_isa.specs.declared.instr.Instr.TheVariants as i
use Rattle.machine_isa.specs.Bytes.{number, operands, word_bytes, instr_bytes, AreWords, HasWords, AreDistinct}
use Rattle.machine_isa.specs.Numbered.{in_order, numbered, named_by}

-- a number above 48 is none's
pub numbered_past : (n : ℕ) (a b c : ℤ) → 49 ≤ n → numbered n a b c ≡ None
numbered_past zero a b c h = refl
numbered_past (suc n) a b c h = slice_get_past (in_order a b c) n (omega arith)

-- its operands one by one, with which its number gives it
pub record Spelled (instr : Instr) : Type 0 where
  pub a : ℤ
  pub b : ℤ
  pub c : ℤ
  pub operands_are : operands instr ≡ a ∷ b ∷ c ∷ []
  pub numbered_is : numbered (number instr) a b c ≡ Some instr

pub spelled : (instr : Instr) → Spelled instr
spelled (i.Push value) = record { a = value; b = pos 0; c = pos 0; operands_are = refl; numbered_is = refl }
spelled (i.LoadLocal word) = record { a = word; b = pos 0; c = pos 0; operands_are = refl; numbered_is = refl }
spelled (i.StoreLocal word) = record { a = word; b = pos 0; c = pos 0; operands_are = refl; numbered_is = refl }
spelled (i.LoadOwn word) = record { a = word; b = pos 0; c = pos 0; operands_are = refl; numbered_is = refl }
spelled (i.StoreOwn word) = record { a = word; b = pos 0; c = pos 0; operands_are = refl; numbered_is = refl }
spelled (i.LoadMon word) = record { a = word; b = pos 0; c = pos 0; operands_are = refl; numbered_is = refl }
spelled (i.StoreMon word) = record { a = word; b = pos 0; c = pos 0; operands_are = refl; numbered_is = refl }
spelled (i.LoadLocalAt word low len) = record { a = word; b = low; c = len; operands_are = refl; numbered_is = refl }
spelled (i.StoreLocalAt word low len) = record { a = word; b = low; c = len; operands_are = refl; numbered_is = refl }
spelled (i.LoadOwnAt word low len) = record { a = word; b = low; c = len; operands_are = refl; numbered_is = refl }
spelled (i.StoreOwnAt word low len) = record { a = word; b = low; c = len; operands_are = refl; numbered_is = refl }
spelled (i.LoadMonAt word low len) = record { a = word; b = low; c = len; operands_are = refl; numbered_is = refl }
spelled (i.StoreMonAt word low len) = record { a = word; b = low; c = len; operands_are = refl; numbered_is = refl }
spelled i.Neg = record { a = pos 0; b = pos 0; c = pos 0; operands_are = refl; numbered_is = refl }
spelled i.Not = record { a = pos 0; b = pos 0; c = pos 0; operands_are = refl; numbered_is = refl }
spelled i.And = record { a = pos 0; b = pos 0; c = pos 0; operands_are = refl; numbered_is = refl }
spelled i.Or = record { a = pos 0; b = pos 0; c = pos 0; operands_are = refl; numbered_is = refl }
spelled i.Add = record { a = pos 0; b = pos 0; c = pos 0; operands_are = refl; numbered_is = refl }
spelled i.Sub = record { a = pos 0; b = pos 0; c = pos 0; operands_are = refl; numbered_is = refl }
spelled i.Eq = record { a = pos 0; b = pos 0; c = pos 0; operands_are = refl; numbered_is = refl }
spelled i.Ne = record { a = pos 0; b = pos 0; c = pos 0; operands_are = refl; numbered_is = refl }
spelled i.Lt = record { a = pos 0; b = pos 0; c = pos 0; operands_are = refl; numbered_is = refl }
spelled i.Le = record { a = pos 0; b = pos 0; c = pos 0; operands_are = refl; numbered_is = refl }
spelled i.Gt = record { a = pos 0; b = pos 0; c = pos 0; operands_are = refl; numbered_is = refl }
spelled i.Ge = record { a = pos 0; b = pos 0; c = pos 0; operands_are = refl; numbered_is = refl }
spelled i.Mul = record { a = pos 0; b = pos 0; c = pos 0; operands_are = refl; numbered_is = refl }
spelled i.Div = record { a = pos 0; b = pos 0; c = pos 0; operands_are = refl; numbered_is = refl }
spelled i.Mod = record { a = pos 0; b = pos 0; c = pos 0; operands_are = refl; numbered_is = refl }
spelled (i.Range low high) = record { a = low; b = high; c = pos 0; operands_are = refl; numbered_is = refl }
spelled (i.JumpZero to) = record { a = to; b = pos 0; c = pos 0; operands_are = refl; numbered_is = refl }
spelled (i.Jump to) = record { a = to; b = pos 0; c = pos 0; operands_are = refl; numbered_is = refl }
spelled (i.Repeats turns) = record { a = turns; b = pos 0; c = pos 0; operands_are = refl; numbered_is = refl }
spelled (i.Repeat to) = record { a = to; b = pos 0; c = pos 0; operands_are = refl; numbered_is = refl }
spelled (i.Exit to) = record { a = to; b = pos 0; c = pos 0; operands_are = refl; numbered_is = refl }
spelled (i.Call routine) = record { a = routine; b = pos 0; c = pos 0; operands_are = refl; numbered_is = refl }
spelled i.Return = record { a = pos 0; b = pos 0; c = pos 0; operands_are = refl; numbered_is = refl }
spelled i.ReturnValue = record { a = pos 0; b = pos 0; c = pos 0; operands_are = refl; numbered_is = refl }
spelled (i.Enter monitor) = record { a = monitor; b = pos 0; c = pos 0; operands_are = refl; numbered_is = refl }
spelled (i.Leave monitor) = record { a = monitor; b = pos 0; c = pos 0; operands_are = refl; numbered_is = refl }
spelled (i.Wait condition limit raised) = record { a = condition; b = limit; c = raised; operands_are = refl; numbered_is = refl }
spelled (i.Reenter monitor) = record { a = monitor; b = pos 0; c = pos 0; operands_are = refl; numbered_is = refl }
spelled (i.Signal condition) = record { a = condition; b = pos 0; c = pos 0; operands_are = refl; numbered_is = refl }
spelled (i.Broadcast condition) = record { a = condition; b = pos 0; c = pos 0; operands_are = refl; numbered_is = refl }
spelled (i.Empty condition) = record { a = condition; b = pos 0; c = pos 0; operands_are = refl; numbered_is = refl }
spelled (i.In device) = record { a = device; b = pos 0; c = pos 0; operands_are = refl; numbered_is = refl }
spelled (i.Out device) = record { a = device; b = pos 0; c = pos 0; operands_are = refl; numbered_is = refl }
spelled (i.Raise raised) = record { a = raised; b = pos 0; c = pos 0; operands_are = refl; numbered_is = refl }
spelled i.End = record { a = pos 0; b = pos 0; c = pos 0; operands_are = refl; numbered_is = refl }

-- the four bytes of a signed number of 32 bits are that number
word_back : (z : ℤ) → FitsSigned w32 z → cast_signed w32 (from_be_bytes w32 (to_be_bytes w32 (cast_unsigned w32 z))) ≡ z
word_back z fits = ap (cast_signed w32) (from_be_bytes-to_be_bytes_4 (cast_unsigned w32 z) (Fits-lt-pow (Fits-of_z fits))) ∙ to_z-of_z w32 z fits

-- the bytes of a number and three operands
bytes_with : ℕ → List ℤ → List ℕ
bytes_with n zs = n ∷ flat_map word_bytes zs

named_by-bytes_with : (n : ℕ) (a b c : ℤ) → AreWords (a ∷ b ∷ c ∷ []) → named_by (bytes_with n (a ∷ b ∷ c ∷ [])) ≡ numbered n a b c
unfolding bytes_with
named_by-bytes_with n a b c fit = rw (word_back a fit.0, word_back b fit.1.0, word_back c fit.1.1.0) refl

-- the bytes of an instruction give it
pub named_by-instr_bytes : (instr : Instr) → HasWords instr → named_by (instr_bytes instr) ≡ Some instr
unfolding bytes_with
named_by-instr_bytes instr fit =
    let s = spelled instr in
    let three : List ℤ = s.a ∷ s.b ∷ s.c ∷ [] in
    let words : AreWords three = subst AreWords s.operands_are fit in
    ap (λ (zs : List ℤ). named_by (bytes_with (number instr) zs)) s.operands_are ∙ named_by-bytes_with (number instr) s.a s.b s.c words ∙ s.numbered_is

pub are_distinct : AreDistinct
are_distinct a b fit_a fit_b same = same_Some a b (sym (named_by-instr_bytes a fit_a) ∙ ap named_by same ∙ named_by-instr_bytes b fit_b)
