-- What reading took of a text, where all that it took is in its range.
use Rattle.std.proofs.Common.{◌≡◌, ◌<◌, ◌^◌, ◌+◌, ◌++◌, ◌==◌, ℕ, Bool, true, false, List, [], ◌∷◌, length, Result, Ok, Err, refl, sym, ap, ◌∙◌, subst, arith, append_assoc, length-append}
use Rattle.std.specs.Prelude.{codes, if◌then◌else◌}
use Rattle.std.specs.List.{count_by}
use Rattle.std.proofs.lemmas.Bool.{and_parts}
use Rattle.text_fields.specs.declared.fault.FieldFault.{FieldFault}
use Rattle.text_fields.specs.Front.{Front, ◌>>=◌, begins, noted}
use Rattle.asm_lines.specs.TreeForm.{cuts}

-- ---- how many lines of processes are ahead

-- a place in a text: where a line begins, or within one
pub data Place : Type 0 where
  Start : Place
  Within : Place

abbrev pub after_line : List ℕ → List ℕ
after_line [] = []
after_line (b ∷ bs) = if b == 10 then bs else after_line bs

abbrev pub owners_here : List ℕ → ℕ
owners_here bytes = count_by (begins (codes "process ")) (cuts 10 bytes)

abbrev pub ahead : Place → List ℕ → ℕ
ahead Start bytes = owners_here bytes
ahead Within bytes = owners_here (after_line bytes)

-- ---- what reading took

-- it took these bytes from the one front to the other, so many lines of processes begin in them,
-- and this holds of what they tell in a text that is no longer than a tree may be
pub record Took (p q : Place) (k : ℕ) (s t : Front) (written : List ℕ) (Held : Type 0) : Type 0 where
  pub fine : s.fine ≡ true
  pub are : s.rest ≡ written ++ t.rest
  pub count : ahead p s.rest ≡ k + ahead q t.rest
  pub holds : length s.rest < 2 ^ 32 → Held

-- if all is in its range
abbrev pub Takes : (p q : Place) → (k : ℕ) → (s t : Front) → (written : List ℕ) → (Held : Type 0) → Type 0
Takes p q k s t written Held = t.fine ≡ true → Took p q k s t written Held

shorter : (v : List ℕ) (xs ys : List ℕ) → xs ≡ v ++ ys → length xs < 2 ^ 32 → length ys < 2 ^ 32
shorter v xs ys are short = omega (arith, short, ap (λ (zs : List ℕ). length zs) are, length-append v ys)

-- the same, counted otherwise
pub recount : {P : Type 0} {p q : Place} {j k : ℕ} {s t : Front} {v : List ℕ} → j ≡ k → Takes p q j s t v P → Takes p q k s t v P
recount {q = q} {t = t} same took fine =
    let a = took fine in
    record { fine = a.fine; are = a.are; count = a.count ∙ ap (λ n. n + ahead q t.rest) same; holds = a.holds }

-- one after the other
pub along : {P Q : Type 0} {p q r : Place} {j k : ℕ} {s t u : Front} {v w : List ℕ} → Takes p q j s t v P → Takes q r k t u w Q → Takes p r (j + k) s u (v ++ w) (P × Q)
along {p = p} {q = q} {r = r} {j = j} {k = k} {s = s} {t = t} {u = u} {v = v} {w = w} first second fine =
    let b = second fine in
    let a = first b.fine in
    record {
      fine = a.fine;
      are = a.are ∙ ap (λ (ys : List ℕ). v ++ ys) b.are ∙ sym (append_assoc v w u.rest);
      count = omega (arith, a.count, b.count);
      holds = λ short. (a.holds short, b.holds (shorter v s.rest t.rest a.are short));
    }

-- one after the other, within a line: no process begins in the second
pub on : {P Q : Type 0} {p q r : Place} {k : ℕ} {s t u : Front} {v w : List ℕ} → Takes p q k s t v P → Takes q r 0 t u w Q → Takes p r k s u (v ++ w) (P × Q)
on {k = k} first second = recount (let e : k + 0 ≡ k = omega arith in e) (along first second)

-- the same, written and told otherwise
pub shown : {P Q : Type 0} {p q : Place} {k : ℕ} {s t : Front} {v w : List ℕ} → Takes p q k s t v P → v ≡ w → (P → Q) → Takes p q k s t w Q
shown {t = t} took same f fine =
    let a = took fine in
    record { fine = a.fine; are = a.are ∙ ap (λ (ys : List ℕ). ys ++ t.rest) same; count = a.count; holds = λ short. f (a.holds short) }

-- it was noted that something holds
pub note : {P : Type 0} {p q : Place} {k : ℕ} {s t : Front} {v : List ℕ} (b : Bool) → Takes p q k s t v P → Takes p q k s (noted t b) v (P × (b ≡ true))
note {t = t} b took fine =
    let both = and_parts t.fine b fine in
    let a = took both.0 in
    record { fine = a.fine; are = a.are; count = a.count; holds = λ short. (a.holds short, both.1) }

-- it was noted that something does not hold
pub refuted : {P : Type 0} {p q : Place} {k : ℕ} {s : Front} {v : List ℕ} (t : Front) → Takes p q k s (noted t false) v P
refuted t fine = absurd (let both = and_parts t.fine false fine in let e : false ≡ true = both.1 in cc)

-- it took nothing
pub nothing : {p : Place} (s : Front) → Takes p p 0 s s [] (Unit {0})
nothing {p = p} s fine = record { fine = fine; are = refl; count = (let e : ahead p s.rest ≡ 0 + ahead p s.rest = omega arith in e); holds = λ short. tt }

-- ---- readings that went well

abbrev okay : {A : Type 0} → A → Result A FieldFault
okay x = Ok x

pub same_ok : {A : Type 0} (x y : A) → okay x ≡ okay y → x ≡ y
same_ok {A = A} x y h = ap value h where
  value : Result A FieldFault → A
  value (Ok z) = z
  value (Err e) = x

-- where reading goes well, this holds of what it gives
pub record Holds {A : Type 0} (P : A → Type 0) (r : Result A FieldFault) : Type 0 where
  pub from : (x : A) → r ≡ Ok x → P x

pub went : {A : Type 0} {P : A → Type 0} {x : A} → P x → Holds P (Ok x)
went {P = P} {x = x} p = record { from = λ y e. subst P (same_ok x y e) p }

pub failed : {A : Type 0} {P : A → Type 0} {e : FieldFault} → Holds P (Err e)
failed = record { from = λ y e. cc }

pub next : {A B : Type 0} {P : A → Type 0} {Q : B → Type 0} {r : Result A FieldFault} {g : A → Result B FieldFault} → Holds P r → ((x : A) → P x → Holds Q (g x)) → Holds Q (r >>= g)
next {A = A} {B = B} {P = P} {Q = Q} {r = r} {g = g} h k = record { from = by r h.from } where
  by : (o : Result A FieldFault) → ((x : A) → o ≡ Ok x → P x) → (y : B) → (o >>= g) ≡ Ok y → Q y
  by (Ok x) f y e = (k x (f x refl)).from y e
  by (Err x) f y e = cc

pub choice : {A : Type 0} {P : A → Type 0} {x y : Result A FieldFault} (b : Bool) → (b ≡ true → Holds P x) → (b ≡ false → Holds P y) → Holds P (if b then x else y)
choice {A = A} {P = P} {x = x} {y = y} b f g = by b f g where
  by : (c : Bool) → (c ≡ true → Holds P x) → (c ≡ false → Holds P y) → Holds P (if c then x else y)
  by true f g = f refl
  by false f g = g refl

-- what holds of each thing that is given
pub mapped : {A : Type 0} {P Q : A → Type 0} {r : Result A FieldFault} → ((x : A) → P x → Q x) → Holds P r → Holds Q r
mapped f h = record { from = λ x e. f x (h.from x e) }

pub both_hold : {A : Type 0} {P Q : A → Type 0} {r : Result A FieldFault} → Holds P r → Holds Q r → Holds (λ x. P x × Q x) r
both_hold f h = record { from = λ x e. (f.from x e, h.from x e) }
