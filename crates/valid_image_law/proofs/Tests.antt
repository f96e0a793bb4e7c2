-- What each test tells where it passes.
use Rattle.std.proofs.Common.{◌≡◌, ◌≤◌, ◌+◌, ◌-◌, ◌⊎◌, inl, inr, ℕ, suc, Option, Some, None, arith, refl, ap, sym, true, false, Bool}
use Rattle.std.specs.Prelude.{ℤ, pos, negsuc, nat_eq, nat_lt, nat_le, ◌&&◌, max}
use Rattle.std.proofs.lemmas.Bool.{cases_Bool, and_parts, eqb-true, leb-true}
use Rattle.std.proofs.lemmas.Bool.Decides.{nat_tests}
use Rattle.machine_isa.specs.declared.instr.Instr.{Instr}
use Rattle.machine_isa.specs.declared.instr.Instr.TheVariants as i
use Rattle.machine_isa.specs.Ticks.{ticks}
use Rattle.machine_isa.specs.Operands.{takes, gives}
use Rattle.valid_image.specs.Found.{Known, Found, plus, greater, longer, turns, amount, is_pos, in_line, is_jump_zero, is_jump, is_repeats, is_repeat, is_call, is_enter, is_leave, is_exit, is_reenter, natural, limit_at, guard, joined, chain, plain_step, arms, loop, call, wait}

pub below : (m n : ℕ) → nat_lt m n ≡ true → m + 1 ≤ n
below m n is = grind (arith, nat_tests)

-- the same place, or a later one
pub meet : (a b : ℕ) → a ≤ b → (a ≡ b) ⊎ (a + 1 ≤ b)
meet a b le = elim (cases_Bool (nat_eq a b)) [ inl is ↦ inl (grind (arith, nat_tests, is)) | inr is ↦ inr (grind (arith, nat_tests, is, le)) ]

pub passed : (b : Bool) (x : Option Found) (f : Found) → guard b x ≡ Some f → (b ≡ true) × (x ≡ Some f)
passed true x f is = (refl, is)
passed false x f is = absurd cc

-- ---- one instruction

pos_is : (n : ℕ) (z : ℤ) → is_pos n z ≡ true → z ≡ pos n
pos_is n (pos m) is = ap pos (eqb-true m n is)
pos_is n (negsuc m) is = absurd cc

pub jump_zero_is : (n : ℕ) (x : Option Instr) → is_jump_zero n x ≡ true → x ≡ Some (i.JumpZero (pos n))
jump_zero_is n (Some (i.JumpZero t)) is = ap (λ z. Some (i.JumpZero z)) (pos_is n t is)
jump_zero_is n _ is = absurd cc

pub jump_is : (n : ℕ) (x : Option Instr) → is_jump n x ≡ true → x ≡ Some (i.Jump (pos n))
jump_is n (Some (i.Jump t)) is = ap (λ z. Some (i.Jump z)) (pos_is n t is)
jump_is n _ is = absurd cc

pub repeats_is : (n : ℕ) (x : Option Instr) → is_repeats n x ≡ true → x ≡ Some (i.Repeats (pos n))
repeats_is n (Some (i.Repeats t)) is = ap (λ z. Some (i.Repeats z)) (pos_is n t is)
repeats_is n _ is = absurd cc

pub repeat_is : (n : ℕ) (x : Option Instr) → is_repeat n x ≡ true → x ≡ Some (i.Repeat (pos n))
repeat_is n (Some (i.Repeat t)) is = ap (λ z. Some (i.Repeat z)) (pos_is n t is)
repeat_is n _ is = absurd cc

pub call_is : (n : ℕ) (x : Option Instr) → is_call n x ≡ true → x ≡ Some (i.Call (pos n))
call_is n (Some (i.Call t)) is = ap (λ z. Some (i.Call z)) (pos_is n t is)
call_is n _ is = absurd cc

pub enter_is : (n : ℕ) (x : Option Instr) → is_enter n x ≡ true → x ≡ Some (i.Enter (pos n))
enter_is n (Some (i.Enter t)) is = ap (λ z. Some (i.Enter z)) (pos_is n t is)
enter_is n _ is = absurd cc

pub leave_is : (n : ℕ) (x : Option Instr) → is_leave n x ≡ true → x ≡ Some (i.Leave (pos n))
leave_is n (Some (i.Leave t)) is = ap (λ z. Some (i.Leave z)) (pos_is n t is)
leave_is n _ is = absurd cc

pub record Exits (out : Option ℕ) (x : Option Instr) : Type 0 where
  pub to : ℕ
  pub in_loop : out ≡ Some to
  pub exits : x ≡ Some (i.Exit (pos to))

pub exit_is : (out : Option ℕ) (x : Option Instr) → is_exit out x ≡ true → Exits out x
exit_is (Some n) (Some (i.Exit t)) is = record { to = n; in_loop = refl; exits = ap (λ z. Some (i.Exit z)) (pos_is n t is) }
exit_is _ _ is = absurd cc

pub record Enters (held : Option ℕ) (x : Option Instr) : Type 0 where
  pub monitor : ℕ
  pub inside : held ≡ Some monitor
  pub enters : x ≡ Some (i.Reenter (pos monitor))

pub reenter_is : (held : Option ℕ) (x : Option Instr) → is_reenter held x ≡ true → Enters held x
reenter_is (Some n) (Some (i.Reenter t)) is = record { monitor = n; inside = refl; enters = ap (λ z. Some (i.Reenter z)) (pos_is n t is) }
reenter_is _ _ is = absurd cc

-- ---- steps of the computation

pub record Chained (x : Option Found) (next : ℕ → Option Found) (f : Found) : Type 0 where
  pub first : Found
  pub later : Found
  pub is : x ≡ Some first
  pub more : next first.height ≡ Some later
  pub whole : f ≡ record { height = later.height; cost = plus first.cost later.cost; depth = max first.depth later.depth }

joined_is : (first f : Found) (y : Option Found) → joined first y ≡ Some f → (later : Found) × (y ≡ Some later) × (f ≡ record { height = later.height; cost = plus first.cost later.cost; depth = max first.depth later.depth })
joined_is first f None is = absurd cc
joined_is first f (Some later) is = (later, refl, cc)

pub chained : (x : Option Found) (next : ℕ → Option Found) (f : Found) → chain x next ≡ Some f → Chained x next f
chained None next f is = absurd cc
chained (Some first) next f is = let j = joined_is first f (next first.height) is in record { first = first; later = j.0; is = refl; more = j.1; whole = j.2 }

pub record Stepped (x : Option Instr) (h : ℕ) (next : ℕ → Option Found) (f : Found) : Type 0 where
  pub instr : Instr
  pub later : Found
  pub is : x ≡ Some instr
  pub plain : in_line instr ≡ true
  pub enough : takes instr ≤ h
  pub more : next (gives instr + (h - takes instr)) ≡ Some later
  pub whole : f ≡ record { height = later.height; cost = plus (amount (ticks instr) 0 0) later.cost; depth = max (gives instr + (h - takes instr)) later.depth }

pub stepped : (x : Option Instr) (h : ℕ) (next : ℕ → Option Found) (f : Found) → plain_step x h next ≡ Some f → Stepped x h next f
stepped None h next f is = absurd cc
stepped (Some instr) h next f is =
    let p = passed (in_line instr && nat_le (takes instr) h) _ f is in
    let t = and_parts (in_line instr) (nat_le (takes instr) h) p.0 in
    let j = joined_is (record { height = gives instr + (h - takes instr); cost = amount (ticks instr) 0 0; depth = gives instr + (h - takes instr) }) f (next (gives instr + (h - takes instr))) p.1 in
    record { instr = instr; later = j.0; is = refl; plain = t.0; enough = leb-true (takes instr) h t.1; more = j.1; whole = j.2 }

pub record Forked (x y : Option Found) (f : Found) : Type 0 where
  pub first : Found
  pub second : Found
  pub is : x ≡ Some first
  pub other : y ≡ Some second
  pub same : second.height ≡ first.height
  pub whole : f ≡ record { height = first.height; cost = greater (longer 3 first.cost) (longer 2 second.cost); depth = max first.depth second.depth }

pub forked : (x y : Option Found) (f : Found) → arms x y ≡ Some f → Forked x y f
forked None y f is = absurd cc
forked (Some a) None f is = absurd cc
forked (Some a) (Some b) f is =
    let p = passed (nat_eq a.height b.height) _ f is in
    record { first = a; second = b; is = refl; other = refl; same = sym (eqb-true a.height b.height p.0); whole = cc }

pub record Looped (n h : ℕ) (x : Option Found) (f : Found) : Type 0 where
  pub turn : Found
  pub is : x ≡ Some turn
  pub back : turn.height ≡ 0
  pub whole : f ≡ record { height = h; cost = turns n turn.cost; depth = suc h + turn.depth }

pub looped : (n h : ℕ) (x : Option Found) (f : Found) → loop n h x ≡ Some f → Looped n h x f
looped n h None f is = absurd cc
looped n h (Some a) f is = let p = passed (nat_eq a.height 0) _ f is in record { turn = a; is = refl; back = eqb-true a.height 0 p.0; whole = cc }

pub record Called (h : ℕ) (x : Option Known) (f : Found) : Type 0 where
  pub known : Known
  pub is : x ≡ Some known
  pub enough : known.params ≤ h
  pub whole : f ≡ record { height = known.results + (h - known.params); cost = longer 6 known.cost; depth = max (known.results + (h - known.params)) (h - known.params + 2 + known.locals + known.depth) }

pub called : (h : ℕ) (x : Option Known) (f : Found) → call h x ≡ Some f → Called h x f
called h None f is = absurd cc
called h (Some k) f is = let p = passed (nat_le k.params h) _ f is in record { known = k; is = refl; enough = leb-true k.params h p.0; whole = cc }

pub record Waited (h : ℕ) (x : Option Instr) (f : Found) : Type 0 where
  pub condition : ℤ
  pub limit : ℤ
  pub number : ℤ
  pub is : x ≡ Some (i.Wait condition limit number)
  pub whole : f ≡ record { height = h; cost = amount 10 (natural limit) 1; depth = 0 }

pub waited : (h : ℕ) (x : Option Instr) (f : Found) → wait h (limit_at x) ≡ Some f → Waited h x f
waited h (Some (i.Wait c l n)) f is = record { condition = c; limit = l; number = n; is = refl; whole = cc }
waited h _ f is = absurd cc

pub record Stayed (x : Option Found) (f : Found) : Type 0 where
  pub inner : Found
  pub is : x ≡ Some inner
  pub whole : f ≡ record { height = inner.height; cost = plus inner.cost (amount 8 0 0); depth = max inner.depth 0 }

pub stayed : (x : Option Found) (f : Found) → chain x (λ h. Some (record { height = h; cost = amount 8 0 0; depth = 0 })) ≡ Some f → Stayed x f
stayed None f is = absurd cc
stayed (Some a) f is = record { inner = a; is = refl; whole = cc }
