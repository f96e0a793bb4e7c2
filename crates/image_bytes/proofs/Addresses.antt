-- Instructions at their addresses.
use Rattle.std.proofs.Common.{◌≡◌, ◌≤◌, ◌<◌, ◌+◌, ◌*◌, ◌-◌, ℕ, zero, suc, List, [], ◌∷◌, length, take, drop, Some, min, refl, sym, ap, ◌∙◌, subst, arith}
use Rattle.std.specs.Prelude.{slice_get}
use Rattle.std.proofs.lemmas.List.{length-drop, length-take}
use Rattle.machine_isa.specs.declared.instr.Instr.{Instr}
use Rattle.machine_isa.specs.Bytes.{HasWords, instr_bytes}
use Rattle.image_bytes.specs.Places.{AreInstrs}
use Rattle.image_bytes.proofs.InstrsLemmas.{instr_length}

-- the instruction of an address stands there
pub record Standing (bytes : List ℕ) (at : ℕ) (code : List Instr) (address : ℕ) : Type 0 where
  pub instr : Instr
  pub there : slice_get code address ≡ Some instr
  pub bytes_are : take 13 (drop (at + 13 * address) bytes) ≡ instr_bytes instr
  pub words : HasWords instr

pub standing : (bytes : List ℕ) (at : ℕ) (code : List Instr) (address : ℕ) → AreInstrs bytes at code → address < length code → Standing bytes at code address
standing bytes at [] address are lt = absurd (omega (arith, lt))
standing bytes at (i ∷ is) zero are lt = record { instr = i; there = refl; bytes_are = ap (λ k. take 13 (drop k bytes)) (omega arith) ∙ are.0; words = are.1 }
standing bytes at (i ∷ is) (suc address) are lt =
    let next = standing bytes (at + 13) is address are.2 (omega (arith, lt)) in
    let same : at + 13 * suc address ≡ at + 13 + 13 * address = omega arith in
    record { instr = next.instr; there = next.there; bytes_are = ap (λ k. take 13 (drop k bytes)) same ∙ next.bytes_are; words = next.words }

-- its bytes end within the bytes
pub ends_within : (bytes : List ℕ) (at : ℕ) (instr : Instr) → take 13 (drop at bytes) ≡ instr_bytes instr → at + 13 ≤ length bytes
ends_within bytes at instr are =
    let long : min 13 (length bytes - at) ≡ 13 = ap (λ k. min 13 k) (sym (length-drop at bytes)) ∙ sym (length-take 13 (drop at bytes)) ∙ ap (λ (xs : List ℕ). length xs) are ∙ instr_length instr in
    omega (arith, long)

-- the same bytes and instructions
pub same_standing : (at : ℕ) {bytes more : List ℕ} {code other : List Instr} → bytes ≡ more → code ≡ other → AreInstrs bytes at code → AreInstrs more at other
same_standing at {bytes = bytes} {more = more} {code = code} {other = other} same_bytes same are =
    subst (λ is. AreInstrs more at is) same (subst (λ (bs : List ℕ). AreInstrs bs at code) same_bytes are)
