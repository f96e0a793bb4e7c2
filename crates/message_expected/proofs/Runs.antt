-- The automaton goes on where reading does, and stops where reading stops: steps, single words and lists.
use Rattle.std.proofs.Common.{◌≡◌, ℕ, zero, suc, ◌≤◌, ◌&&◌, not, List, [], ◌∷◌, ◌++◌, append-nil, length, Bool, true, false, cond, Option, None, Some, Result, Ok, Err, refl, ap, sym, ◌∙◌, subst, append_assoc, arith}
use Rattle.std.specs.List.{list_all}
use Rattle.syntax_tree.specs.Plain.{Name}
use Rattle.syntax.specs.Words.{Word, named, number, keyword, sign, Tok}
use Rattle.syntax_reading.specs.ExprReading.{Fault, syntax, nesting, ◌>>=◌, Parse, refuse, too_deep, same_word, is_named, is_numeral, expect, name_by, name, numeral_by, numeral, each, many}
use Rattle.message_expected.specs.Automaton as a
use Rattle.message_expected.specs.Automaton.{Found, Head, Reached, Turn, along, find, found_then, inside, is_key, is_name, is_number, is_optional, is_refused, is_sign, kind_of_word, levels_behind, on, refused, stopped, taken, turn, where_so}
use Rattle.message_expected.specs.Kinds.{same}
use Rattle.message_expected.specs.declared.symbols.Symbol.{Symbol}
use Rattle.message_expected.specs.declared.symbols.Symbol.TheVariants as s
pub use Rattle.message_expected.proofs.KindsOf.{deadline_same, key_same, name_same, number_same, sign_same}

-- what comes of words, no tree made
abbrev pub Answer : Type 0
Answer = Result (Unit {0}) Fault

abbrev pub at_end : List Symbol → Answer
at_end stack = cond (list_all is_optional stack) (Ok tt) (Err (syntax 0))

abbrev pub after : Reached → (ℕ → List Symbol → Answer) → ℕ → Answer
after stopped go n = Err (syntax n)
after a.too_deep go n = Err (nesting n)
after (on levels stack) go n = go levels stack

missing-by : (b : Bool) (stack : List Symbol) → b ≡ false → ◌≡◌ {A = Answer} (cond (b && list_all is_optional stack) (Ok tt) (Err (syntax 0))) (Err (syntax 0))
missing-by true stack is = cc
missing-by false stack is = refl

none-by : (b : Bool) (stack : List Symbol) → b ≡ true → ◌≡◌ {A = Answer} (cond (b && list_all is_optional stack) (Ok tt) (Err (syntax 0))) (at_end stack)
none-by true stack is = refl
none-by false stack is = cc

module _ {P : Type 0} where
  -- what comes of words, from a stack
  unfoldable pub run : ℕ → List Symbol → List (Tok P) → Answer
  run d stack [] = at_end stack
  run d stack (t ∷ ts) = after (a.feed d stack (kind_of_word t.word)) (λ e rest. run e rest ts) (length (t ∷ ts))

  -- what comes of them behind a symbol that begins so with the first
  abbrev pub go : ℕ → List Symbol → Head → Tok P → List (Tok P) → Answer
  go d stack head t ts = after (taken d head stack) (λ e rest. run e rest ts) (length (t ∷ ts))

  abbrev pub turn_at : Symbol → Tok P → Turn
  turn_at f t = turn f (kind_of_word t.word)

module _ (P : Type 0) where
  pub ended : (d : ℕ) (stack : List Symbol) → run {P = P} d stack [] ≡ at_end stack
  unfolding run
  ended d stack = refl

  -- nothing may stand for it at the end
  pub none : (d e : ℕ) (f : Symbol) (stack : List Symbol) → is_optional f ≡ true → run {P = P} d (f ∷ stack) [] ≡ run {P = P} e stack []
  unfolding run
  none d e f stack may = none-by (is_optional f) stack may

  -- something must stand for it
  pub missing : (d : ℕ) (f : Symbol) (stack : List Symbol) → is_optional f ≡ false → run {P = P} d (f ∷ stack) [] ≡ Err (syntax 0)
  unfolding run
  missing d f stack must = missing-by (is_optional f) stack must

pub where-refused : (b : Bool) (symbols : List Symbol) → is_refused (where_so b symbols) ≡ not b
where-refused true symbols = refl
where-refused false symbols = refl

not-both : (b r : Bool) → r ≡ not b → b ≡ true → (o : Bool) → o && r ≡ false
not-both true r is so true = is
not-both true r is so false = refl
not-both false r is so o = cc

module _ {P : Type 0} where
  begun-by : (d : ℕ) (stack : List Symbol) (h : Head) (behind : List Symbol) (o : Bool) (z : Option Found) (t : Tok P) (ts : List (Tok P)) → o && is_refused h ≡ false
      → after (found_then (cond (is_refused h) (cond o z None) (Some (record { levels = d; turn = record { head = h; behind = behind }; below = stack })))) (λ e rest. run e rest ts) (length (t ∷ ts)) ≡ go d (behind ++ stack) h t ts
  begun-by d stack refused behind false z t ts is = refl
  begun-by d stack refused behind true z t ts is = cc
  begun-by d stack (along symbols) behind o z t ts is = refl
  begun-by d stack (inside symbols) behind o z t ts is = refl

  -- a symbol that begins with the word, or for which something must stand
  pub begun : (d : ℕ) (f : Symbol) (stack : List Symbol) (t : Tok P) (ts : List (Tok P)) → is_optional f && is_refused (turn_at f t).head ≡ false
      → run d (f ∷ stack) (t ∷ ts) ≡ go d ((turn_at f t).behind ++ stack) (turn_at f t).head t ts
  unfolding run find
  begun d f stack t ts is =
      begun-by d stack (turn_at f t).head (turn_at f t).behind (is_optional f) (find (levels_behind f d) stack (kind_of_word t.word)) t ts is

  passed-by : (d : ℕ) (r b : Bool) (z x : Option Found) (ts : List (Tok P)) (n : ℕ) → r ≡ true → b ≡ true
      → after (found_then (cond r (cond b z None) x)) (λ e rest. run e rest ts) n ≡ after (found_then z) (λ e rest. run e rest ts) n
  passed-by d true true z x ts n is may = refl
  passed-by d true false z x ts n is may = cc
  passed-by d false b z x ts n is may = cc

  -- a symbol that does not begin with it, and for which nothing may stand
  pub passed : (d : ℕ) (f : Symbol) (stack : List Symbol) (t : Tok P) (ts : List (Tok P)) → is_refused (turn_at f t).head ≡ true → is_optional f ≡ true
      → run d (f ∷ stack) (t ∷ ts) ≡ run (levels_behind f d) stack (t ∷ ts)
  unfolding run find
  passed d f stack t ts is may = passed-by d (is_refused (turn_at f t).head) (is_optional f) _ _ ts (length (t ∷ ts)) is may

  pub leave : (d e : ℕ) (stack : List Symbol) (ts : List (Tok P)) → run e (s.Leave d ∷ stack) ts ≡ run d stack ts
  unfolding turn
  leave d e stack [] = none P e d (s.Leave d) stack refl
  leave d e stack (t ∷ ts) = passed e (s.Leave d) stack t ts refl refl

  -- ---- what is read, as what comes of the stack

  -- what is left is no longer than this
  abbrev pub Short : {A : Type 0} → Result (A × List (Tok P)) Fault → ℕ → Type 0
  Short (Ok x) n = length x.1 ≤ n
  Short (Err f) n = Unit {0}

  pub short-more : {A : Type 0} (r : Result (A × List (Tok P)) Fault) (m n : ℕ) → m ≤ n → Short r m → Short r n
  short-more (Ok x) m n less h = omega (arith, less, h)
  short-more (Err f) m n less h = tt

  abbrev pub onto : {A : Type 0} → ℕ → List Symbol → A × List (Tok P) → Answer
  onto d stack x = run d stack x.1

  -- something comes of what is left behind what was read, and that is not longer than this
  pub record Same {A : Type 0} (d : ℕ) (comes : List Symbol → Answer) (r : Result (A × List (Tok P)) Fault) (n : ℕ) : Type 0 where
    pub runs : (stack : List Symbol) → comes stack ≡ (r >>= onto d stack)
    pub short : Short r n

  pub via : {A : Type 0} (d : ℕ) (f g : List Symbol → Answer) (r : Result (A × List (Tok P)) Fault) (m n : ℕ) → m ≤ n → ((stack : List Symbol) → f stack ≡ g stack) → Same d g r m → Same d f r n
  via d f g r m n less same h = record { runs = λ stack. same stack ∙ h.runs stack; short = short-more r m n less h.short }

  pub of-result : {A : Type 0} (d : ℕ) (f : List Symbol → Answer) (r q : Result (A × List (Tok P)) Fault) (n : ℕ) → r ≡ q → Same d f q n → Same d f r n
  of-result d f r q n is h = subst (λ r. Same d f r n) (sym is) h

  -- these symbols stand for what is read
  abbrev pub Reads : {A : Type 0} → ℕ → Parse P A → List Symbol → Type 0
  Reads d p symbols = (ts : List (Tok P)) → Same d (λ stack. run d (symbols ++ stack) ts) (p ts) (length ts)

  -- a symbol that begins so with the first word stands for it
  abbrev pub Does : {A : Type 0} → ℕ → Head → Parse P A → Tok P → List (Tok P) → Type 0
  Does d head p t ts = Same d (λ stack. go d stack head t ts) (p (t ∷ ts)) (length ts)

  then-same : {A B : Type 0} (d : ℕ) (behind : List Symbol) (r : Result (A × List (Tok P)) Fault) (k : A × List (Tok P) → Result (B × List (Tok P)) Fault) (n : ℕ) → Short r n
      → ((x : A) → Reads d (λ v. k (x, v)) behind) → Same d (λ stack. r >>= onto d (behind ++ stack)) (r >>= k) n
  then-same d behind (Ok x) k n short h = via d _ _ (k x) (length x.1) n short (λ stack. refl) (h x.0 x.1)
  then-same d behind (Err f) k n short h = record { runs = λ stack. refl; short = tt }

  pub bind : {A B : Type 0} (d : ℕ) (p : Parse P A) (k : A × List (Tok P) → Result (B × List (Tok P)) Fault) (symbols behind : List Symbol) → Reads d p symbols
      → ((x : A) → Reads d (λ v. k (x, v)) behind) → Reads d (λ ts. p ts >>= k) (symbols ++ behind)
  bind d p k symbols behind h g ts =
      via d _ (λ stack. p ts >>= onto d (behind ++ stack)) (p ts >>= k) (length ts) (length ts) (omega arith)
      (λ stack. ap (λ l. run d l ts) (append_assoc symbols behind stack) ∙ (h ts).runs (behind ++ stack)) (then-same d behind (p ts) k (length ts) (h ts).short g)

  pub done : {A : Type 0} (d : ℕ) (x : A) → Reads d (λ ts. Ok (x, ts)) []
  done d x ts = record { runs = λ stack. refl; short = omega arith }

  -- the last step
  pub last : {A B : Type 0} (d : ℕ) (p : Parse P A) (k : A × List (Tok P) → Result (B × List (Tok P)) Fault) (symbols : List Symbol) → Reads d p symbols
      → ((x : A) → Reads d (λ v. k (x, v)) []) → Reads d (λ ts. p ts >>= k) symbols
  last d p k symbols h g = subst (λ l. Reads d (λ ts. p ts >>= k) l) (append-nil symbols) (bind d p k symbols [] h g)

  -- what begins so with the first word, and then more
  pub done-then : {A B : Type 0} (d : ℕ) (head : Head) (behind : List Symbol) (p : Parse P A) (k : A × List (Tok P) → Result (B × List (Tok P)) Fault) (t : Tok P) (ts : List (Tok P))
      → Does d head p t ts → ((x : A) → Reads d (λ v. k (x, v)) behind) → Same d (λ stack. go d (behind ++ stack) head t ts) (p (t ∷ ts) >>= k) (length ts)
  done-then d head behind p k t ts h g =
      via d _ (λ stack. p (t ∷ ts) >>= onto d (behind ++ stack)) (p (t ∷ ts) >>= k) (length ts) (length ts) (omega arith) (λ stack. h.runs (behind ++ stack))
      (then-same d behind (p (t ∷ ts)) k (length ts) h.short g)

  pub done-last : {A B : Type 0} (d : ℕ) (head : Head) (p : Parse P A) (k : A × List (Tok P) → Result (B × List (Tok P)) Fault) (t : Tok P) (ts : List (Tok P))
      → Does d head p t ts → ((x : A) → Reads d (λ v. k (x, v)) []) → Does d head (λ ts. p ts >>= k) t ts
  done-last d head p k t ts h g = done-then d head [] p k t ts h g

  -- a symbol for which something must stand
  pub must : {A : Type 0} (d : ℕ) (f : Symbol) (p : Parse P A) → is_optional f ≡ false → p [] ≡ Err (syntax 0)
      → ((t : Tok P) (ts : List (Tok P)) → Same d (λ stack. go d ((turn_at f t).behind ++ stack) (turn_at f t).head t ts) (p (t ∷ ts)) (length ts)) → Reads d p (f ∷ [])
  must d f p needs empty h [] =
      of-result d _ (p []) (Err (syntax 0)) 0 empty (record { runs = λ stack. missing P d f stack needs; short = tt })
  must d f p needs empty h (t ∷ ts) =
      via d _ _ (p (t ∷ ts)) (length ts) (length (t ∷ ts)) (omega arith) (λ stack. begun d f stack t ts (ap (λ b. b && is_refused (turn_at f t).head) needs)) (h t ts)

  -- by what is read behind it, which may be nothing
  pub must-all : {A : Type 0} (d : ℕ) (f : Symbol) (p : Parse P A) → is_optional f ≡ false → p [] ≡ Err (syntax 0)
      → ((t : Tok P) (ts : List (Tok P)) → Same d (λ stack. go d ((turn_at f t).behind ++ stack) (turn_at f t).head t ts) (p (t ∷ ts)) (length (t ∷ ts))) → Reads d p (f ∷ [])
  must-all d f p needs empty h [] =
      of-result d _ (p []) (Err (syntax 0)) 0 empty (record { runs = λ stack. missing P d f stack needs; short = tt })
  must-all d f p needs empty h (t ∷ ts) =
      via d _ _ (p (t ∷ ts)) (length (t ∷ ts)) (length (t ∷ ts)) (omega arith) (λ stack. begun d f stack t ts (ap (λ b. b && is_refused (turn_at f t).head) needs)) (h t ts)

  empty-by : {A : Type 0} (d : ℕ) (r : Result (A × List (Tok P)) Fault) → ◌≡◌ {A = Answer} (Err (syntax 0)) (r >>= onto d []) → Short r 0 → r ≡ Err (syntax 0)
  empty-by d (Ok (x, [])) same short = let whole = ended P d [] in cc
  empty-by d (Ok (x, t ∷ ts)) same short = absurd (omega (arith, short))
  empty-by d (Err f) same short = let one : syntax 0 ≡ f = cc in ap Err (sym one)

  -- nothing is read where there is nothing
  pub empty : {A : Type 0} (d : ℕ) (f : Symbol) (symbols : List Symbol) (p : Parse P A) → is_optional f ≡ false → Reads d p (f ∷ symbols) → p [] ≡ Err (syntax 0)
  empty d f symbols p needs h = empty-by d (p []) (sym (missing P d f (symbols ++ []) needs) ∙ (h []).runs []) (h []).short

  -- ---- tests

  pub of-head : {A : Type 0} (d : ℕ) (go : Head → List Symbol → Answer) (x y : Head) (r : Result (A × List (Tok P)) Fault) (n : ℕ) → x ≡ y → Same d (go y) r n → Same d (go x) r n
  of-head d go x y r n is h = subst (λ x. Same d (go x) r n) (sym is) h

  pub branch : {A : Type 0} (d : ℕ) (go : Head → List Symbol → Answer) (b c : Bool) (x y : Head) (r q : Result (A × List (Tok P)) Fault) (n : ℕ) → b ≡ c
      → (c ≡ true → Same d (go x) r n) → (c ≡ false → Same d (go y) q n) → Same d (go (cond b x y)) (cond c r q) n
  branch d go true true x y r q n is h g = h refl
  branch d go false false x y r q n is h g = g refl
  branch d go true false x y r q n is h g = cc
  branch d go false true x y r q n is h g = cc

  pub none-begun : {A : Type 0} (d : ℕ) (t : Tok P) (ts : List (Tok P)) (n : ℕ) → Same {A = A} d (λ stack. go d stack refused t ts) (refuse (t ∷ ts)) n
  none-begun d t ts n = record { runs = λ stack. refl; short = tt }

  -- ---- levels of nesting

  leave-all : {A : Type 0} (e : ℕ) (r : Result (A × List (Tok P)) Fault) (stack : List Symbol) → (r >>= onto e (s.Leave (suc e) ∷ stack)) ≡ (r >>= onto (suc e) stack)
  leave-all e (Ok x) stack = leave (suc e) e stack x.1
  leave-all e (Err f) stack = refl

  pub inner-same : {A : Type 0} (e : ℕ) (symbols : List Symbol) (t : Tok P) (ts : List (Tok P)) (r : Result (A × List (Tok P)) Fault) (n : ℕ) → Same e (λ stack. run e (symbols ++ stack) ts) r n
      → Same (suc e) (λ stack. go (suc e) stack (inside symbols) t ts) r n
  inner-same e symbols t ts r n h = record { runs = λ stack. h.runs (s.Leave (suc e) ∷ stack) ∙ leave-all e r stack; short = h.short }

  pub deep-same : {A : Type 0} (symbols : List Symbol) (t : Tok P) (ts : List (Tok P)) (n : ℕ) → Same {A = A} 0 (λ stack. go 0 stack (inside symbols) t ts) (too_deep (t ∷ ts)) n
  deep-same symbols t ts n = record { runs = λ stack. refl; short = tt }

  -- ---- single words

  pub past-word : {B : Type 0} (v : Word) (k : P × List (Tok P) → Result B Fault) (t : Tok P) (ts : List (Tok P)) → same_word t.word v ≡ true → (expect v (t ∷ ts) >>= k) ≡ k (t.place, ts)
  unfolding expect
  past-word v k t ts is = ap (λ b. cond b (Ok (t.place, ts)) (refuse (t ∷ ts)) >>= k) is

  pub along-word : {B : Type 0} (d : ℕ) (v : Word) (k : P × List (Tok P) → Result (B × List (Tok P)) Fault) (symbols : List Symbol) (t : Tok P) (ts : List (Tok P)) → same_word t.word v ≡ true
      → ((q : P) → Reads d (λ w. k (q, w)) symbols) → Does d (along symbols) (λ ts. expect v ts >>= k) t ts
  along-word d v k symbols t ts is h = of-result d _ (expect v (t ∷ ts) >>= k) (k (t.place, ts)) (length ts) (past-word v k t ts is) (h t.place ts)

  pub key : (d n : ℕ) → Reads d (expect (keyword n)) (s.Keyword n ∷ [])
  unfolding expect turn
  key d n =
      must d (s.Keyword n) (expect (keyword n)) refl refl
      (λ t ts. branch d (λ h stack. go d stack h t ts) (is_key n (kind_of_word t.word)) (same_word t.word (keyword n)) (along []) refused (Ok (t.place, ts)) (refuse (t ∷ ts)) (length ts) (key_same n t.word)
      (λ is. record { runs = λ stack. refl; short = omega arith }) (λ is. none-begun d t ts (length ts)))

  pub mark : (d n : ℕ) → Reads d (expect (sign n)) (s.Sign n ∷ [])
  unfolding expect turn
  mark d n =
      must d (s.Sign n) (expect (sign n)) refl refl
      (λ t ts. branch d (λ h stack. go d stack h t ts) (is_sign n (kind_of_word t.word)) (same_word t.word (sign n)) (along []) refused (Ok (t.place, ts)) (refuse (t ∷ ts)) (length ts) (sign_same n t.word)
      (λ is. record { runs = λ stack. refl; short = omega arith }) (λ is. none-begun d t ts (length ts)))

  name-is : (v : Word) (t : Tok P) (ts : List (Tok P)) → is_named v ≡ true → (n : Name) × (name_by v t ts ≡ Ok ((n, t.place), ts))
  name-is (named n) t ts is = (n, refl)
  name-is (number n) t ts is = cc
  name-is (keyword n) t ts is = cc
  name-is (sign n) t ts is = cc

  name-none : (v : Word) (t : Tok P) (ts : List (Tok P)) → is_named v ≡ false → name_by v t ts ≡ refuse (t ∷ ts)
  name-none (named n) t ts is = cc
  name-none (number n) t ts is = refl
  name-none (keyword n) t ts is = refl
  name-none (sign n) t ts is = refl

  pub along-name : {B : Type 0} (d : ℕ) (k : (Name × P) × List (Tok P) → Result (B × List (Tok P)) Fault) (symbols : List Symbol) (t : Tok P) (ts : List (Tok P)) → is_named t.word ≡ true
      → ((n : Name × P) → Reads d (λ w. k (n, w)) symbols) → Does d (along symbols) (λ ts. name ts >>= k) t ts
  unfolding name
  along-name d k symbols t ts is h =
      let (n, same) = name-is t.word t ts is in of-result d _ (name_by t.word t ts >>= k) (k ((n, t.place), ts)) (length ts) (ap (λ r. r >>= k) same) (h (n, t.place) ts)

  pub no-name : {B : Type 0} (k : (Name × P) × List (Tok P) → Result (B × List (Tok P)) Fault) (t : Tok P) (ts : List (Tok P)) → is_named t.word ≡ false → (name (t ∷ ts) >>= k) ≡ refuse (t ∷ ts)
  unfolding name
  no-name k t ts is = ap (λ r. r >>= k) (name-none t.word t ts is)

  pub a-name : (d : ℕ) → Reads d (name {P = P}) (s.Name ∷ [])
  unfolding name turn
  a-name d = must d s.Name name refl refl (λ t ts. by t ts (is_named t.word) refl)
    where
      by : (t : Tok P) (ts : List (Tok P)) (b : Bool) → is_named t.word ≡ b → Same d (λ stack. go d stack (where_so (is_name (kind_of_word t.word)) []) t ts) (name (t ∷ ts)) (length ts)
      by t ts true is =
          let (n, same) = name-is t.word t ts is in
          record {
            runs = λ stack. ap (λ b. go d stack (where_so b []) t ts) (name_same t.word ∙ is) ∙ sym (ap (λ r. r >>= onto d stack) same);
            short = subst (λ r. Short r (length ts)) (sym same) (omega arith);
          }
      by t ts false is =
          record {
            runs = λ stack. ap (λ b. go d stack (where_so b []) t ts) (name_same t.word ∙ is) ∙ sym (ap (λ r. r >>= onto d stack) (name-none t.word t ts is));
            short = subst (λ r. Short r (length ts)) (sym (name-none t.word t ts is)) tt;
          }

  number-is : (v : Word) (t : Tok P) (ts : List (Tok P)) → is_numeral v ≡ true → (n : ℕ) × (numeral_by v t ts ≡ Ok ((n, t.place), ts))
  number-is (number n) t ts is = (n, refl)
  number-is (named n) t ts is = cc
  number-is (keyword n) t ts is = cc
  number-is (sign n) t ts is = cc

  pub along-number : {B : Type 0} (d : ℕ) (k : (ℕ × P) × List (Tok P) → Result (B × List (Tok P)) Fault) (symbols : List Symbol) (t : Tok P) (ts : List (Tok P)) → is_numeral t.word ≡ true
      → ((n : ℕ × P) → Reads d (λ w. k (n, w)) symbols) → Does d (along symbols) (λ ts. numeral ts >>= k) t ts
  unfolding numeral
  along-number d k symbols t ts is h =
      let (n, same) = number-is t.word t ts is in of-result d _ (numeral_by t.word t ts >>= k) (k ((n, t.place), ts)) (length ts) (ap (λ r. r >>= k) same) (h (n, t.place) ts)

  -- ---- lists

  -- a symbol for any number of these, while the next begins one
  pub record Many {A : Type 0} (d : ℕ) (f : Symbol) (c : List (Tok P) → Bool) (p : Parse P A) : Type 0 where
    pub may : is_optional f ≡ true
    pub keeps : levels_behind f d ≡ d
    pub ends : c [] ≡ false
    pub refuses : (t : Tok P) (ts : List (Tok P)) → is_refused (turn_at f t).head ≡ not (c (t ∷ ts))
    pub runs : (t : Tok P) (ts : List (Tok P)) → c (t ∷ ts) ≡ true → (stack : List Symbol)
        → go d ((turn_at f t).behind ++ stack) (turn_at f t).head t ts ≡ (p (t ∷ ts) >>= onto d (f ∷ stack))
    pub short : (t : Tok P) (ts : List (Tok P)) → c (t ∷ ts) ≡ true → Short (p (t ∷ ts)) (length ts)

  -- one of them or none
  pub record Maybe {A : Type 0} (d : ℕ) (f : Symbol) (c : List (Tok P) → Bool) (p : Parse P A) : Type 0 where
    pub may : is_optional f ≡ true
    pub keeps : levels_behind f d ≡ d
    pub ends : c [] ≡ false
    pub refuses : (t : Tok P) (ts : List (Tok P)) → is_refused (turn_at f t).head ≡ not (c (t ∷ ts))
    pub does : (t : Tok P) (ts : List (Tok P)) → c (t ∷ ts) ≡ true → Same d (λ stack. go d ((turn_at f t).behind ++ stack) (turn_at f t).head t ts) (p (t ∷ ts)) (length ts)

  pub begins-where : (d : ℕ) (f : Symbol) (c : List (Tok P) → Bool) (t : Tok P) (ts : List (Tok P)) → is_refused (turn_at f t).head ≡ not (c (t ∷ ts)) → c (t ∷ ts) ≡ true → (stack : List Symbol)
      → run d (f ∷ stack) (t ∷ ts) ≡ go d ((turn_at f t).behind ++ stack) (turn_at f t).head t ts
  begins-where d f c t ts is so stack = begun d f stack t ts (not-both (c (t ∷ ts)) (is_refused (turn_at f t).head) is so (is_optional f))

  pub passes-where : (d : ℕ) (f : Symbol) (c : List (Tok P) → Bool) (ts : List (Tok P)) → is_optional f ≡ true → levels_behind f d ≡ d → ((t : Tok P) (ts : List (Tok P)) → is_refused (turn_at f t).head ≡ not (c (t ∷ ts)))
      → c ts ≡ false → (stack : List Symbol) → run d (f ∷ stack) ts ≡ run d stack ts
  passes-where d f c [] may keeps is not-so stack = none P d d f stack may
  passes-where d f c (t ∷ ts) may keeps is not-so stack = passed d f stack t ts (is t ts ∙ ap not not-so) may ∙ ap (λ e. run e stack (t ∷ ts)) keeps

  more-read : {A : Type 0} (d : ℕ) (x : A) (r : Result (List A × List (Tok P)) Fault) (stack : List Symbol)
      → (r >>= onto d stack) ≡ ((r >>= λ xs. Ok (x ∷ xs.0, xs.1)) >>= onto d stack)
  more-read d x (Ok xs) stack = refl
  more-read d x (Err f) stack = refl

  more-short : {A : Type 0} (x : A) (r : Result (List A × List (Tok P)) Fault) (n : ℕ) → Short r n → Short (r >>= λ xs. Ok (x ∷ xs.0, xs.1)) n
  more-short x (Ok xs) n h = h
  more-short x (Err f) n h = tt

  module _ {A : Type 0} (d : ℕ) (f : Symbol) (c : List (Tok P) → Bool) (p : Parse P A) (m : Many d f c p) where
    -- by what comes of shorter lists
    behind : (n k : ℕ) (r : Result (A × List (Tok P)) Fault) → k ≤ n → Short r k
        → ((us : List (Tok P)) → length us ≤ n → Same d (λ stack. run d (f ∷ stack) us) (each c p n us) (length us))
        → Same d (λ stack. r >>= onto d (f ∷ stack)) (r >>= λ x. each c p n x.1 >>= λ xs. Ok (x.0 ∷ xs.0, xs.1)) k
    behind n k (Ok x) few short again =
        let next = again x.1 (omega (arith, short, few)) in
        record {
          runs = λ stack. next.runs stack ∙ more-read d x.0 (each c p n x.1) stack;
          short = more-short x.0 (each c p n x.1) k (short-more (each c p n x.1) (length x.1) k short next.short);
        }
    behind n k (Err f) few short again = record { runs = λ stack. refl; short = tt }

    by-test : (n : ℕ) (t : Tok P) (ts : List (Tok P)) (b : Bool) → length ts ≤ n → c (t ∷ ts) ≡ b
        → ((us : List (Tok P)) → length us ≤ n → Same d (λ stack. run d (f ∷ stack) us) (each c p n us) (length us))
        → Same d (λ stack. run d (f ∷ stack) (t ∷ ts)) (cond (c (t ∷ ts)) (p (t ∷ ts) >>= λ x. each c p n x.1 >>= λ xs. Ok (x.0 ∷ xs.0, xs.1)) (Ok ([], t ∷ ts))) (length (t ∷ ts))
    by-test n t ts true few is again =
        of-result d _ _ (p (t ∷ ts) >>= λ x. each c p n x.1 >>= λ xs. Ok (x.0 ∷ xs.0, xs.1)) (length (t ∷ ts)) (ap (λ b. cond b (p (t ∷ ts) >>= λ x. each c p n x.1 >>= λ xs. Ok (x.0 ∷ xs.0, xs.1)) (Ok ([], t ∷ ts))) is)
        (via d _ (λ stack. p (t ∷ ts) >>= onto d (f ∷ stack)) _ (length ts) (length (t ∷ ts)) (omega arith) (λ stack. begins-where d f c t ts (m.refuses t ts) is stack ∙ m.runs t ts is stack)
        (behind n (length ts) (p (t ∷ ts)) few (m.short t ts is) again))
    by-test n t ts false few is again =
        of-result d _ _ (Ok ([], t ∷ ts)) (length (t ∷ ts)) (ap (λ b. cond b (p (t ∷ ts) >>= λ x. each c p n x.1 >>= λ xs. Ok (x.0 ∷ xs.0, xs.1)) (Ok ([], t ∷ ts))) is)
        (record { runs = λ stack. passes-where d f c (t ∷ ts) m.may m.keeps m.refuses is stack; short = omega arith })

    pub each-runs : (n : ℕ) (ts : List (Tok P)) → length ts ≤ n → Same d (λ stack. run d (f ∷ stack) ts) (each c p n ts) (length ts)
    unfolding each
    each-runs zero [] few = record { runs = λ stack. none P d d f stack m.may; short = omega arith }
    each-runs zero (t ∷ ts) few = absurd (omega (arith, few))
    each-runs (suc n) [] few =
        of-result d _ _ (Ok ([], [])) 0 (ap (λ b. cond b (p [] >>= λ x. each c p n x.1 >>= λ xs. Ok (x.0 ∷ xs.0, xs.1)) (Ok ([], []))) m.ends) (record { runs = λ stack. none P d d f stack m.may; short = omega arith })
    each-runs (suc n) (t ∷ ts) few = by-test n t ts (c (t ∷ ts)) (omega (arith, few)) refl (λ us less. each-runs n us less)

    pub many-reads : Reads d (many c p) (f ∷ [])
    unfolding many
    many-reads ts = each-runs (length ts) ts (omega arith)

  module _ {A : Type 0} (d : ℕ) (f : Symbol) (c : List (Tok P) → Bool) (p : Parse P A) (x : A) (m : Maybe d f c p) where
    pub maybe-reads : Reads d (λ ts. cond (c ts) (p ts) (Ok (x, ts))) (f ∷ [])
    maybe-reads [] = of-result d _ _ (Ok (x, [])) 0 (ap (λ b. cond b (p []) (Ok (x, []))) m.ends) (record { runs = λ stack. none P d d f stack m.may; short = omega arith })
    maybe-reads (t ∷ ts) = by (c (t ∷ ts)) refl
      where
        by : (b : Bool) → c (t ∷ ts) ≡ b → Same d (λ stack. run d (f ∷ stack) (t ∷ ts)) (cond (c (t ∷ ts)) (p (t ∷ ts)) (Ok (x, t ∷ ts))) (length (t ∷ ts))
        by true is =
            of-result d _ _ (p (t ∷ ts)) (length (t ∷ ts)) (ap (λ b. cond b (p (t ∷ ts)) (Ok (x, t ∷ ts))) is)
            (via d _ _ (p (t ∷ ts)) (length ts) (length (t ∷ ts)) (omega arith) (λ stack. begins-where d f c t ts (m.refuses t ts) is stack) (m.does t ts is))
        by false is =
            of-result d _ _ (Ok (x, t ∷ ts)) (length (t ∷ ts)) (ap (λ b. cond b (p (t ∷ ts)) (Ok (x, t ∷ ts))) is)
            (record { runs = λ stack. passes-where d f c (t ∷ ts) m.may m.keeps m.refuses is stack; short = omega arith })

  -- a list each of whose parts begins with a word of a test
  pub many-where : {A : Type 0} (d : ℕ) (f : Symbol) (c : List (Tok P) → Bool) (p : Parse P A) (symbols : List Symbol) (b : Tok P → Bool) → is_optional f ≡ true → levels_behind f d ≡ d → c [] ≡ false
      → ((t : Tok P) → turn_at f t ≡ a.alone (where_so (b t) (symbols ++ f ∷ []))) → ((t : Tok P) (ts : List (Tok P)) → b t ≡ c (t ∷ ts))
      → ((t : Tok P) (ts : List (Tok P)) → c (t ∷ ts) ≡ true → Same d (λ stack. run d (symbols ++ stack) ts) (p (t ∷ ts)) (length ts)) → Reads d (many c p) (f ∷ [])
  many-where d f c p symbols b may keeps ends turned tests does =
      many-reads d f c p (record {
        may = may;
        keeps = keeps;
        ends = ends;
        refuses = λ t ts. ap (λ (u : Turn). is_refused u.head) (turned t) ∙ where-refused (b t) (symbols ++ f ∷ []) ∙ ap not (tests t ts);
        runs = λ t ts is stack.
            ap (λ (u : Turn). go d (u.behind ++ stack) u.head t ts) (turned t) ∙ ap (λ b. go d stack (where_so b (symbols ++ f ∷ [])) t ts) (tests t ts ∙ is)
            ∙ ap (λ l. run d l ts) (append_assoc symbols (f ∷ []) stack) ∙ (does t ts is).runs (f ∷ stack);
        short = λ t ts is. (does t ts is).short;
      })

  pub maybe-where : {A : Type 0} (d : ℕ) (f : Symbol) (c : List (Tok P) → Bool) (p : Parse P A) (x : A) (symbols : List Symbol) (b : Tok P → Bool) → is_optional f ≡ true → levels_behind f d ≡ d → c [] ≡ false
      → ((t : Tok P) → turn_at f t ≡ a.alone (where_so (b t) symbols)) → ((t : Tok P) (ts : List (Tok P)) → b t ≡ c (t ∷ ts))
      → ((t : Tok P) (ts : List (Tok P)) → c (t ∷ ts) ≡ true → Does d (along symbols) p t ts) → Reads d (λ ts. cond (c ts) (p ts) (Ok (x, ts))) (f ∷ [])
  maybe-where d f c p x symbols b may keeps ends turned tests does =
      maybe-reads d f c p x (record {
        may = may;
        keeps = keeps;
        ends = ends;
        refuses = λ t ts. ap (λ (u : Turn). is_refused u.head) (turned t) ∙ where-refused (b t) symbols ∙ ap not (tests t ts);
        does = λ t ts is.
            via d _ _ (p (t ∷ ts)) (length ts) (length ts) (omega arith)
            (λ stack. ap (λ (u : Turn). go d (u.behind ++ stack) u.head t ts) (turned t) ∙ ap (λ b. go d stack (where_so b symbols) t ts) (tests t ts ∙ is)) (does t ts is);
      })

  -- a list whose symbol stands behind each of its parts
  pub many-heads : {A : Type 0} (d : ℕ) (f : Symbol) (c : List (Tok P) → Bool) (p : Parse P A) (head : Tok P → Head) → is_optional f ≡ true → levels_behind f d ≡ d → c [] ≡ false
      → ((t : Tok P) → turn_at f t ≡ record { head = head t; behind = f ∷ [] }) → ((t : Tok P) (ts : List (Tok P)) → is_refused (head t) ≡ not (c (t ∷ ts)))
      → ((t : Tok P) (ts : List (Tok P)) → c (t ∷ ts) ≡ true → Does d (head t) p t ts) → Reads d (many c p) (f ∷ [])
  many-heads d f c p head may keeps ends turned tests does =
      many-reads d f c p (record {
        may = may;
        keeps = keeps;
        ends = ends;
        refuses = λ t ts. ap (λ (u : Turn). is_refused u.head) (turned t) ∙ tests t ts;
        runs = λ t ts is stack. ap (λ (u : Turn). go d (u.behind ++ stack) u.head t ts) (turned t) ∙ (does t ts is).runs (f ∷ stack);
        short = λ t ts is. (does t ts is).short;
      })

  -- where a symbol begins with this word alone
  pub word_does : {B : Type 0} (d : ℕ) (v : Word) (b : Bool) (k : P × List (Tok P) → Result (B × List (Tok P)) Fault) (symbols : List Symbol) (t : Tok P) (ts : List (Tok P)) → b ≡ same_word t.word v
      → ((q : P) → Reads d (λ w. k (q, w)) symbols) → Does d (where_so b symbols) (λ ts. expect v ts >>= k) t ts
  unfolding expect
  word_does d v b k symbols t ts same h = by (same_word t.word v) refl
    where
      by : (c : Bool) → same_word t.word v ≡ c → Same d (λ stack. go d stack (where_so b symbols) t ts) (cond (same_word t.word v) (Ok (t.place, ts)) (refuse (t ∷ ts)) >>= k) (length ts)
      by true is = of-head d (λ x stack. go d stack x t ts) (where_so b symbols) (along symbols) (cond (same_word t.word v) (Ok (t.place, ts)) (refuse (t ∷ ts)) >>= k) (length ts) (ap (λ b. where_so b symbols) (same ∙ is)) (along-word d v k symbols t ts is h)
      by false is =
          of-head d (λ x stack. go d stack x t ts) (where_so b symbols) refused (cond (same_word t.word v) (Ok (t.place, ts)) (refuse (t ∷ ts)) >>= k) (length ts) (ap (λ b. where_so b symbols) (same ∙ is))
          (of-result d (λ stack. go d stack refused t ts) (cond (same_word t.word v) (Ok (t.place, ts)) (refuse (t ∷ ts)) >>= k) (refuse (t ∷ ts)) (length ts) (ap (λ c. cond c (Ok (t.place, ts)) (refuse (t ∷ ts)) >>= k) is) (none-begun d t ts (length ts)))

  -- where it begins with a name alone
  pub name_does : {B : Type 0} (d : ℕ) (k : (Name × P) × List (Tok P) → Result (B × List (Tok P)) Fault) (symbols : List Symbol) (t : Tok P) (ts : List (Tok P))
      → ((n : Name × P) → Reads d (λ w. k (n, w)) symbols) → Does d (where_so (is_name (kind_of_word t.word)) symbols) (λ ts. name ts >>= k) t ts
  name_does d k symbols t ts h = by (is_named t.word) refl
    where
      by : (c : Bool) → is_named t.word ≡ c → Same d (λ stack. go d stack (where_so (is_name (kind_of_word t.word)) symbols) t ts) (name (t ∷ ts) >>= k) (length ts)
      by true is = of-head d (λ x stack. go d stack x t ts) (where_so (is_name (kind_of_word t.word)) symbols) (along symbols) (name (t ∷ ts) >>= k) (length ts) (ap (λ b. where_so b symbols) (name_same t.word ∙ is)) (along-name d k symbols t ts is h)
      by false is =
          of-head d (λ x stack. go d stack x t ts) (where_so (is_name (kind_of_word t.word)) symbols) refused (name (t ∷ ts) >>= k) (length ts) (ap (λ b. where_so b symbols) (name_same t.word ∙ is))
          (of-result d (λ stack. go d stack refused t ts) (name (t ∷ ts) >>= k) (refuse (t ∷ ts)) (length ts) (no-name k t ts is) (none-begun d t ts (length ts)))
