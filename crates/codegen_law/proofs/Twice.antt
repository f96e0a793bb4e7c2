-- Aiming an exit twice is aiming it once.
use Rattle.std.proofs.Common.{◌≡◌, ℕ, ℤ, pos, negsuc, List, [], ◌∷◌, map, false, cond, int_lt, refl, ap, sym, rules, ◌∙◌}
use Rattle.machine_isa.specs.declared.instr.Instr.{Instr}
use Rattle.machine_isa.specs.declared.instr.Instr.TheVariants as i
use Rattle.codegen_spec.specs.Made.{aimed}

not_below : (k : ℕ) → int_lt (pos k) (pos 0) ≡ false
not_below k = search rules

twice_exit : (t : ℤ) (n : ℕ) (k : ℤ) → aimed t (aimed (pos n) (i.Exit k)) ≡ aimed (pos n) (i.Exit k)
twice_exit t n (pos k) =
    let e : cond (int_lt (pos k) (pos 0)) (pos n) (pos k) ≡ pos k = ap (λ b. cond b (pos n) (pos k)) (not_below k) in
    ap (λ z. i.Exit (cond (int_lt z (pos 0)) t z)) e ∙ ap (λ b. i.Exit (cond b t (pos k))) (not_below k) ∙ ap i.Exit (sym e)
twice_exit t n (negsuc k) = ap (λ b. i.Exit (cond b t (pos n))) (not_below n)

pub twice : (t : ℤ) (n : ℕ) (j : Instr) → aimed t (aimed (pos n) j) ≡ aimed (pos n) j
twice t n (i.Push value) = refl
twice t n (i.LoadLocal word) = refl
twice t n (i.StoreLocal word) = refl
twice t n (i.LoadOwn word) = refl
twice t n (i.StoreOwn word) = refl
twice t n (i.LoadMon word) = refl
twice t n (i.StoreMon word) = refl
twice t n (i.LoadLocalAt word low len) = refl
twice t n (i.StoreLocalAt word low len) = refl
twice t n (i.LoadOwnAt word low len) = refl
twice t n (i.StoreOwnAt word low len) = refl
twice t n (i.LoadMonAt word low len) = refl
twice t n (i.StoreMonAt word low len) = refl
twice t n i.Neg = refl
twice t n i.Not = refl
twice t n i.And = refl
twice t n i.Or = refl
twice t n i.Add = refl
twice t n i.Sub = refl
twice t n i.Eq = refl
twice t n i.Ne = refl
twice t n i.Lt = refl
twice t n i.Le = refl
twice t n i.Gt = refl
twice t n i.Ge = refl
twice t n i.Mul = refl
twice t n i.Div = refl
twice t n i.Mod = refl
twice t n (i.Range low high) = refl
twice t n (i.JumpZero to) = refl
twice t n (i.Jump to) = refl
twice t n (i.Repeats turns) = refl
twice t n (i.Repeat to) = refl
twice t n (i.Exit to) = twice_exit t n to
twice t n (i.Call routine) = refl
twice t n i.Return = refl
twice t n i.ReturnValue = refl
twice t n (i.Enter monitor) = refl
twice t n (i.Leave monitor) = refl
twice t n (i.Wait condition limit raised) = refl
twice t n (i.Reenter monitor) = refl
twice t n (i.Signal condition) = refl
twice t n (i.Broadcast condition) = refl
twice t n (i.Empty condition) = refl
twice t n (i.In device) = refl
twice t n (i.Out device) = refl
twice t n (i.Raise raised) = refl
twice t n i.End = refl

pub all_twice : (t : ℤ) (n : ℕ) (js : List Instr) → map (aimed t) (map (aimed (pos n)) js) ≡ map (aimed (pos n)) js
all_twice t n [] = refl
all_twice t n (j ∷ js) = ap (λ k. k ∷ map (aimed t) (map (aimed (pos n)) js)) (twice t n j) ∙ ap (λ ks. aimed (pos n) j ∷ ks) (all_twice t n js)
