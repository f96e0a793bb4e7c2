-- Items that follow a run, one after the other.
use Rattle.std.specs.Prelude.{◌≡◌, ◌≢◌, ℕ, zero, suc, ◌-◌, List, [], ◌∷◌, ◌++◌, ℤ, pos, ◌+ℤ◌, map, reverse}
use Rattle.std.proofs.Common.{refl, sym, ◌∙◌, ap, arith}
use Rattle.std.proofs.lemmas.List.{append-nil, reverse-append, reverse-reverse}
use Rattle.syntax_tree.specs.Plain.{Name, Stmts}
use Rattle.source_semantics.specs.Run as run
use Rattle.replay_state.specs.View.{item_of}
use Rattle.replay_state.specs.declared.call.Item.{Item}
use Rattle.replay_next.specs.Driving.{rest_of, then_items}

joined_again : {A : Type 0} (xs ys zs : List A) → (xs ++ ys) ++ zs ≡ xs ++ (ys ++ zs)
joined_again [] ys zs = refl
joined_again (x ∷ xs) ys zs = ap (λ l. x ∷ l) (joined_again xs ys zs)

pub then_none : (c : run.Site) (r : run.Run) → then_items c [] r ≡ r
then_none c (run.goes m) = refl
then_none c (run.exits m) = refl
then_none c (run.fails k m) = refl
then_none c (run.answers v m) = refl
then_none c (run.stops a inside rest m) = ap (λ l. run.stops a inside l m) (append-nil rest)

-- statements after the first are an item that remains
pub then_others : (c : run.Site) (is : List run.Item) (ss : Stmts) (r : run.Run)
    → then_items c (run.do_all ss ∷ is) r ≡ then_items c is (run.followed r (λ k. run.run_all c k ss) (λ k. run.exits k) (run.do_all ss ∷ []))
then_others c is ss (run.goes m) = refl
then_others c is ss (run.exits m) = refl
then_others c is ss (run.fails k m) = refl
then_others c is ss (run.answers v m) = refl
then_others c is ss (run.stops a inside rest m) = ap (λ l. run.stops a inside l m) (sym (joined_again rest (run.do_all ss ∷ []) is))

-- and so are turns after the first
pub then_turns : (c : run.Site) (is : List run.Item) (x : Name) (v : ℤ) (n : ℕ) (ss : Stmts) (r : run.Run)
    → then_items c (run.turns_left x v n ss ∷ is) r
    ≡ then_items c is (run.followed r (λ k. run.turns (λ j. run.run_all c j ss) x ss n v (run.without_turn k)) (λ k. run.goes (run.without_turn k)) (run.turns_left x v n ss ∷ []))
then_turns c is x v n ss (run.goes m) = refl
then_turns c is x v n ss (run.exits m) = refl
then_turns c is x v n ss (run.fails k m) = refl
then_turns c is x v n ss (run.answers w m) = refl
then_turns c is x v n ss (run.stops a inside rest m) = ap (λ l. run.stops a inside l m) (sym (joined_again rest (run.turns_left x v n ss ∷ []) is))

-- the innermost item stands last
pub rest_pushed : (is : List Item) (i : Item) → rest_of (is ++ i ∷ []) ≡ item_of i ∷ rest_of is
rest_pushed is i = ap (map item_of) (reverse-append is (i ∷ []))

pub rest_turned : (is : List Item) → rest_of (reverse is) ≡ map item_of is
rest_turned is = ap (map item_of) (reverse-reverse is)

-- a turn, and the others after it
pub turn_goes : (c : run.Site) (is : List run.Item) (x : Name) (v u : ℤ) (n : ℕ) (ss : Stmts) (m0 m1 : run.Memory) → n ≢ 0 → run.with_turn x v m0 ≡ m1 → u ≡ v +ℤ pos 1
    → then_items c (run.turns_left x u (n - 1) ss ∷ is) (run.run_all c m1 ss) ≡ then_items c is (run.turns (λ j. run.run_all c j ss) x ss n v m0)
turn_goes c is x v u zero ss m0 m1 some into next = absurd (some refl)
turn_goes c is x v u (suc n) ss m0 m1 some into next =
    let less : suc n - 1 ≡ n = omega arith in
    ap (λ k. then_items c (run.turns_left x u k ss ∷ is) (run.run_all c m1 ss)) less
    ∙ (ap (λ k. then_items c (run.turns_left x k n ss ∷ is) (run.run_all c m1 ss)) next
    ∙ (ap (λ k. then_items c (run.turns_left x (v +ℤ pos 1) n ss ∷ is) (run.run_all c k ss)) (sym into)
    ∙ then_turns c is x (v +ℤ pos 1) n ss (run.run_all c (run.with_turn x v m0) ss)))
