-- Instructions that stand one after the other.
use Rattle.std.proofs.Common.{◌≡◌, ◌+◌, ◌++◌, ℕ, suc, List, [], ◌∷◌, All, length, drop, take, refl, sym, ap, ◌∙◌, append_assoc, arith}
use Rattle.std.specs.List.{flat_map}
use Rattle.std.proofs.Math.Seq.{take-append_seam}
use Rattle.machine_isa.specs.declared.instr.Instr.{Instr}
use Rattle.machine_isa.specs.declared.instr.Instr.TheVariants as i
use Rattle.machine_isa.specs.Bytes.{HasWords, instr_bytes}
use Rattle.image_bytes.specs.Places.{AreInstrs}
use Rattle.image_bytes.proofs.ImagePlacesPlaced.{past}

-- an instruction has 13 bytes
pub instr_length : (instr : Instr) → length (instr_bytes instr) ≡ 13
instr_length (i.Push value) = refl
instr_length (i.LoadLocal word) = refl
instr_length (i.StoreLocal word) = refl
instr_length (i.LoadOwn word) = refl
instr_length (i.StoreOwn word) = refl
instr_length (i.LoadMon word) = refl
instr_length (i.StoreMon word) = refl
instr_length (i.LoadLocalAt word low len) = refl
instr_length (i.StoreLocalAt word low len) = refl
instr_length (i.LoadOwnAt word low len) = refl
instr_length (i.StoreOwnAt word low len) = refl
instr_length (i.LoadMonAt word low len) = refl
instr_length (i.StoreMonAt word low len) = refl
instr_length (i.Range low high) = refl
instr_length (i.JumpZero to) = refl
instr_length (i.Jump to) = refl
instr_length (i.Repeats turns) = refl
instr_length (i.Repeat to) = refl
instr_length (i.Exit to) = refl
instr_length (i.Call routine) = refl
instr_length (i.Enter monitor) = refl
instr_length (i.Leave monitor) = refl
instr_length (i.Wait condition limit raised) = refl
instr_length (i.Reenter monitor) = refl
instr_length (i.Signal condition) = refl
instr_length (i.Broadcast condition) = refl
instr_length (i.Empty condition) = refl
instr_length (i.In device) = refl
instr_length (i.Out device) = refl
instr_length (i.Raise raised) = refl
instr_length i.Neg = refl
instr_length i.Not = refl
instr_length i.And = refl
instr_length i.Or = refl
instr_length i.Add = refl
instr_length i.Sub = refl
instr_length i.Eq = refl
instr_length i.Ne = refl
instr_length i.Lt = refl
instr_length i.Le = refl
instr_length i.Gt = refl
instr_length i.Ge = refl
instr_length i.Mul = refl
instr_length i.Div = refl
instr_length i.Mod = refl
instr_length i.Return = refl
instr_length i.ReturnValue = refl
instr_length i.End = refl

pub instrs_stand : (bytes : List ℕ) (at : ℕ) (code : List Instr) (rest : List ℕ) → drop at bytes ≡ flat_map instr_bytes code ++ rest → All HasWords code → AreInstrs bytes at code
instrs_stand bytes at [] rest h words = tt
instrs_stand bytes at (instr ∷ code) rest h words =
    let after : List ℕ = flat_map instr_bytes code ++ rest in
    let here : drop at bytes ≡ instr_bytes instr ++ after = h ∙ append_assoc (instr_bytes instr) (flat_map instr_bytes code) rest in
    let long = instr_length instr in
    let first : take 13 (drop at bytes) ≡ instr_bytes instr = ap (take 13) here ∙ ap (λ n. take n (instr_bytes instr ++ after)) (sym long) ∙ take-append_seam (instr_bytes instr) after in
    let next : drop (at + 13) bytes ≡ after = ap (λ n. drop (at + n) bytes) (sym long) ∙ past at bytes (instr_bytes instr) after here in
    (first, words 0 instr (omega arith), instrs_stand bytes (at + 13) code rest next (λ k d within. words (suc k) d (omega (arith, within))))
