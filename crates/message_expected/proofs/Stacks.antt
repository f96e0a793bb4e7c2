-- What is found on a stack, its symbols looked at one by one, and where words lead one by one.
use Rattle.std.proofs.Common.{◌≡◌, ℕ, suc, ◌+◌, ◌-◌, ◌<◌, ◌≤◌, List, [], ◌∷◌, length, take, drop, reverse, get_or, Bool, true, false, cond, None, Some, ◌&&◌, refl, ap, sym, ◌∙◌, subst, arith}
use Rattle.std.proofs.lemmas.List.{drop_all, drop_more, reverse-append}
use Rattle.std.proofs.lemmas.List.Folds.{list_all-append}
use Rattle.std.proofs.Math.Bool.{and_comm}
use Rattle.std.proofs.Math.Seq.{take-suc}
use Rattle.std.specs.List.{list_all}
use Rattle.syntax.specs.declared.token.Token.{Token}
use Rattle.message_expected.specs.Automaton as a
use Rattle.message_expected.specs.Automaton.{Found, Reached, Turn, feed, find, is_optional, is_refused, kind_in, kinds_in, levels_behind, on, reach, stopped, turn}
use Rattle.message_expected.specs.declared.kinds.Kind.{Kind}
use Rattle.message_expected.specs.declared.symbols.Symbol.{Symbol}

pub top : (stack : List Symbol) (below : ℕ) (d : Symbol) → 0 < below → below ≤ length stack → reverse (take below stack) ≡ get_or stack (below - 1) d ∷ reverse (take (below - 1) stack)
top stack below d some within =
    let on : below ≡ suc (below - 1) = omega (arith, some) in
    ap (λ n. reverse (take n stack)) on ∙ ap reverse (take-suc stack (below - 1) d (omega (arith, some, within))) ∙ reverse-append (take (below - 1) stack) (get_or stack (below - 1) d ∷ [])

where_true : {R : Type 0} (b : Bool) (x y : R) → b ≡ true → cond b x y ≡ x
where_true true x y is = refl
where_true false x y is = cc

where_false : {R : Type 0} (b : Bool) (x y : R) → b ≡ false → cond b x y ≡ y
where_false true x y is = cc
where_false false x y is = refl

module _ (levels : ℕ) (symbol : Symbol) (stack : List Symbol) (kind : Kind) (done : Turn) (same : done ≡ turn symbol kind) where
  refused_so : (b : Bool) → is_refused done.head ≡ b → is_refused (turn symbol kind).head ≡ b
  refused_so b is = subst (λ (u : Turn). is_refused u.head ≡ b) same is

  pub here : is_refused done.head ≡ false → find levels (symbol ∷ stack) kind ≡ Some (record { levels = levels; turn = done; below = stack })
  unfolding find
  here is = where_false (is_refused (turn symbol kind).head) _ _ (refused_so false is) ∙ ap (λ (u : Turn). Some (record { levels = levels; turn = u; below = stack })) (sym same)

  pub past : is_refused done.head ≡ true → is_optional symbol ≡ true → find levels (symbol ∷ stack) kind ≡ find (levels_behind symbol levels) stack kind
  unfolding find
  past is may = where_true (is_refused (turn symbol kind).head) _ _ (refused_so true is) ∙ where_true (is_optional symbol) _ _ may

  pub nowhere : is_refused done.head ≡ true → is_optional symbol ≡ false → find levels (symbol ∷ stack) kind ≡ None
  unfolding find
  nowhere is must = where_true (is_refused (turn symbol kind).head) _ _ (refused_so true is) ∙ where_false (is_optional symbol) _ _ must

pub empty : (levels : ℕ) (kind : Kind) → find levels [] kind ≡ None
unfolding find
empty levels kind = refl

-- ---- one word after another

pub step_to : (text : List ℕ) (all : List Token) (index : ℕ) (d : Token) (levels : ℕ) (stack : List Symbol) (r : Reached) → index < length all → r ≡ feed levels stack (kind_in text (get_or all index d))
    → reach (on levels stack) (kinds_in text (drop index all)) ≡ reach r (kinds_in text (drop (index + 1) all))
unfolding reach
step_to text all index d levels stack r more is =
    ap (λ l. reach (on levels stack) (kinds_in text l)) (drop_more all index d more) ∙ ap (λ r. reach r (kinds_in text (drop (index + 1) all))) (sym is)

pub stays_stopped : (kinds : List Kind) → reach stopped kinds ≡ stopped
unfolding reach
stays_stopped kinds = refl

pub stays_deep : (kinds : List Kind) → reach a.too_deep kinds ≡ a.too_deep
unfolding reach
stays_deep kinds = refl

pub stays_on : (text : List ℕ) (all : List Token) (index levels : ℕ) (stack : List Symbol) → length all ≤ index → reach (on levels stack) (kinds_in text (drop index all)) ≡ on levels stack
unfolding reach
stays_on text all index levels stack end = ap (λ l. reach (on levels stack) (kinds_in text l)) (drop_all index all end)

and_true : (b : Bool) → b && true ≡ b
and_true true = refl
and_true false = refl

pub all_reversed : {X : Type 0} (p : X → Bool) (xs : List X) → list_all p (reverse xs) ≡ list_all p xs
all_reversed p [] = refl
all_reversed p (x ∷ xs) =
    ap (list_all p) (reverse-append (x ∷ []) xs) ∙ list_all-append p (reverse xs) (x ∷ []) ∙ ap (λ b. list_all p (reverse xs) && b) (and_true (p x)) ∙ and_comm (list_all p (reverse xs)) (p x)
    ∙ ap (λ b. p x && b) (all_reversed p xs)
