-- What is below a buffer, by what the buffer has taken.
use Rattle.std.proofs.Common.{◌≡◌, ◌≤◌, ◌⊎◌, ◌∙◌, ◌++◌, ◌+◌, ◌-◌, ◌^◌, ◌∷◌, ℕ, List, [], Option, Some, None, Result, Ok, Err, OnErr, inl, inr, refl, sym, ap, subst, arith, append_assoc, append-nil}
use Rattle.std.specs.Prelude.{min}
use Rattle.std.proofs.Math.Nat.{le-min, min-le_right}
use Rattle.outside.specs.Outside.{SinkState, Rose, Appends, AppendsFront, HasTakenSome}
use Rattle.command_answers.specs.Went.{HasText}
use Rattle.command.specs.Settled.{HasTakenNothing}

-- ---- the states of sinks

-- two states are the same by their parts
pub same_state : (x y : SinkState) → x.taken ≡ y.taken → x.faults ≡ y.faults → x ≡ y
same_state x y taken faults =
    subst (λ t. x ≡ record { taken = t; faults = y.faults }) taken (ap (λ f. record { taken = x.taken; faults = f }) faults)

same_bytes : (x y : List ℕ) → Some x ≡ Some y → x ≡ y
same_bytes x y h = cc

nothing_of : (u rest : List ℕ) → [] ≡ u ++ rest → u ≡ []
nothing_of [] rest h = refl
nothing_of (x ∷ u) rest h = cc

-- nothing was put, so nothing is below
pub none_below : (b m w : Option (List ℕ)) (rest : List ℕ) → HasTakenNothing b → m ≡ b → Appends w m rest → w ≡ m
none_below (Some t) m (Some u) rest none same below =
    let e : t ≡ u ++ rest = same_bytes t (u ++ rest) (sym same ∙ below) in
    let nil : u ≡ [] = nothing_of u rest (sym none ∙ e) in
    ap Some (nil ∙ sym none) ∙ sym same
none_below (Some t) m None rest none same below = absurd (let e = sym same ∙ below in cc)
none_below None m (Some u) rest none same below = absurd (let e = sym same ∙ below in cc)
none_below None m None rest none same below = sym below

from_nothing : (t front u rest more x : List ℕ) → t ≡ [] → x ≡ front ++ more → t ++ front ≡ u ++ rest → AppendsFront (Some t) (Some u) x
from_nothing t front u rest more x none cut same =
    let e : front ≡ u ++ rest = ap (λ n. n ++ front) (sym none) ∙ same in
    (u, rest ++ more, cut ∙ ap (λ f. f ++ more) e ∙ append_assoc u rest more, ap (λ n. Some (n ++ u)) (sym none))

-- a front of what was put is below
pub front_below : (b m w : Option (List ℕ)) (x rest : List ℕ) → HasTakenNothing b → AppendsFront b m x → Appends w m rest → AppendsFront b w x
front_below (Some t) m (Some u) x rest none (front, more, cut, is) below =
    from_nothing t front u rest more x none cut (same_bytes (t ++ front) (u ++ rest) (sym is ∙ below))
front_below (Some t) m None x rest none (front, more, cut, is) below = absurd (let e = sym is ∙ below in cc)
front_below None m (Some u) x rest none (front, more, cut, is) below = absurd (let e = sym is ∙ below in cc)
front_below None m None x rest none (front, more, cut, is) below = (front, more, cut, refl)

-- all that was put is a front of itself
pub whole_front : (b m : Option (List ℕ)) (x : List ℕ) → Appends b m x → AppendsFront b m x
whole_front b m x is = (x, [], sym (append-nil x), is)

-- where something was taken, the text was something
pub text_taken : (b m : Option (List ℕ)) (text : List ℕ) → HasTakenNothing b → HasTakenSome m → Appends b m text → HasText b text
text_taken (Some t) (Some u) text none some is =
    λ empty. some (same_bytes u (t ++ text) is ∙ ap (λ l. l ++ text) none ∙ empty)
text_taken (Some t) None text none some is = absurd cc
text_taken None m text none some is = tt

-- a count that rose below rose since the start
pub rose_below : (b m w : ℕ) → (m ≡ b) ⊎ Rose b m → Rose m w → Rose b w
rose_below b m w (inl same) rose = subst (λ k. Rose k w) same rose
rose_below b m w (inr before) rose =
    let low : min (b + 1) (2 ^ 64 - 1) ≤ min (m + 1) (2 ^ 64 - 1) = le-min (omega (arith, before)) (min-le_right (b + 1) (2 ^ 64 - 1)) in
    omega (arith, low, rose)

-- what is told of an error
pub err_told : {A E P : Type 0} (r : Result A E) (e : E) → r ≡ Err e → OnErr r P → P
err_told (Ok x) e is h = absurd cc
err_told (Err x) e is h = h
