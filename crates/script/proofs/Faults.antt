-- No script is faulty, and a text has one fault.
use Rattle.std.proofs.Common.{◌≡◌, ℕ, ◌+◌, ◌<◌, ◌≤◌, List, [], ◌∷◌, ◌++◌, length, map, Option, Some, None, refl, ap, sym, subst, ◌∙◌, ◌⊎◌, inl, inr, arith, All, append_assoc, length-append}
use Rattle.std.proofs.lemmas.List.{append-nil}
use Rattle.std.proofs.lemmas.List.Elements.{All-push, All-head, All-tail}
use Rattle.image.specs.declared.names.ImageNames.{ImageNames}
use Rattle.script.specs.declared.script.ScriptLine.{ScriptLine}
use Rattle.script.specs.declared.fault.Flaw.{Flaw}
use Rattle.script.specs.declared.fault.ScriptFault.{ScriptFault}
use Rattle.script.specs.Saying.{Said, end, IsInForm, spelled, text_of, Begins}
use Rattle.script.specs.Scripts.{meaning, Respects, IsBegun, IsScript, most_lines}
use Rattle.script.specs.Faults.{flaw, flaw_fault, IsRight, IsLineFault, IsFaultOfRest, IsFaultHere, IsFaultBeforeEnd, IsFaultAfterEnd, IsFault}
use Rattle.script.proofs.Steps.{text_push}
use Rattle.script.proofs.Fronts.{begins_once, begins_some, Longer, longer_of, no_end, means_once, follows}
use Rattle.script.proofs.Right.{right_there, end_right}

-- ---- the fault of one line

-- a line that is right has no fault
no_line_fault : (names : ImageNames) (lines : List ScriptLine) (bytes : List ℕ) (line : ℕ) (said : Said) (rest : List ℕ) (fault : ScriptFault) → IsRight names lines bytes said rest → IsLineFault names lines bytes line fault → ⊥
no_line_fault names lines bytes line said rest fault right (inl (unread, is)) = unread.none said rest right.begins
no_line_fault names lines bytes line said rest fault right (inr wrong) =
    let same = begins_once bytes said wrong.said rest wrong.rest right.begins wrong.begins in
    let none : flaw names lines wrong.said ≡ None = subst (λ s. flaw names lines s ≡ None) same.0 right.right in
    clash (flaw names lines wrong.said) wrong.kind none wrong.wrong
  where
    clash : (f : Option Flaw) (k : Flaw) → f ≡ None → f ≡ Some k → ⊥
    clash f k e g = cc

one_line_fault : (names : ImageNames) (lines : List ScriptLine) (bytes : List ℕ) (line : ℕ) (f g : ScriptFault) → IsLineFault names lines bytes line f → IsLineFault names lines bytes line g → f ≡ g
one_line_fault names lines bytes line f g (inl (u, is)) (inl (v, same)) = is ∙ sym same
one_line_fault names lines bytes line f g (inl (u, is)) (inr w) = absurd (u.none w.said w.rest w.begins)
one_line_fault names lines bytes line f g (inr w) (inl (v, same)) = absurd (v.none w.said w.rest w.begins)
one_line_fault names lines bytes line f g (inr w) (inr x) =
    let same = begins_once bytes w.said x.said w.rest x.rest w.begins x.begins in
    let kinds : w.kind ≡ x.kind = somes w.kind x.kind (sym w.wrong ∙ ap (λ s. flaw names lines s) same.0 ∙ x.wrong) in
    w.is ∙ ap (λ k. flaw_fault line k) kinds ∙ sym x.is
  where
    somes : (a b : Flaw) → Some a ≡ Some b → a ≡ b
    somes a b e = cc

-- nothing is no line, so it has no fault
no_fault_of_nothing : (names : ImageNames) (lines : List ScriptLine) (bytes : List ℕ) (line : ℕ) (fault : ScriptFault) → bytes ≡ [] → IsLineFault names lines bytes line fault → ⊥
no_fault_of_nothing names lines bytes line fault e (inl (u, is)) = let l = ap length e in let some = u.some in omega (arith, l, some)
no_fault_of_nothing names lines bytes line fault e (inr w) = begins_some bytes w.said w.rest w.begins e

-- ---- the fault where the lines before are right

-- a line that is right, and not one too many, has no fault
none_here : (names : ImageNames) (lines : List ScriptLine) (bytes : List ℕ) (said : Said) (rest : List ℕ) (fault : ScriptFault) → length lines < most_lines → IsRight names lines bytes said rest → IsFaultHere names lines bytes fault → ⊥
none_here names lines bytes said rest fault few right (inl here) = no_line_fault names lines bytes (length lines + 1) said rest fault right here
none_here names lines bytes said rest fault few right (inr (inl (none, is))) = begins_some bytes said rest right.begins none
none_here names lines bytes said rest fault few right (inr (inr many)) = let most = many.0 in omega (arith, most, few)

one_here : (names : ImageNames) (lines : List ScriptLine) (bytes : List ℕ) (f g : ScriptFault) → IsFaultHere names lines bytes f → IsFaultHere names lines bytes g → f ≡ g
one_here names lines bytes f g (inl a) (inl b) = one_line_fault names lines bytes (length lines + 1) f g a b
one_here names lines bytes f g (inl a) (inr (inl (none, is))) = absurd (no_fault_of_nothing names lines bytes (length lines + 1) f none a)
one_here names lines bytes f g (inl a) (inr (inr many)) = absurd (no_line_fault names lines bytes (length lines + 1) many.1 many.2 f many.3 a)
one_here names lines bytes f g (inr (inl (none, is))) (inl b) = absurd (no_fault_of_nothing names lines bytes (length lines + 1) g none b)
one_here names lines bytes f g (inr (inl (none, is))) (inr (inl (also, same))) = is ∙ sym same
one_here names lines bytes f g (inr (inl (none, is))) (inr (inr many)) = let right = many.3 in absurd (begins_some bytes many.1 many.2 right.begins none)
one_here names lines bytes f g (inr (inr many)) (inl b) = absurd (no_line_fault names lines bytes (length lines + 1) many.1 many.2 g many.3 b)
one_here names lines bytes f g (inr (inr many)) (inr (inl (none, is))) = let right = many.3 in absurd (begins_some bytes many.1 many.2 right.begins none)
one_here names lines bytes f g (inr (inr many)) (inr (inr more)) = many.4 ∙ sym more.4

-- ---- the fault behind the end

no_rest : (names : ImageNames) (lines : List ScriptLine) (bytes : List ℕ) (line : ℕ) (fault : ScriptFault) → bytes ≡ [] → IsFaultOfRest names lines bytes line fault → ⊥
no_rest names lines bytes line fault e (inl here) = no_fault_of_nothing names lines bytes line fault e here
no_rest names lines bytes line fault e (inr more) = let right = more.2 in begins_some bytes more.0 more.1 right.begins e

one_rest : (names : ImageNames) (lines : List ScriptLine) (bytes : List ℕ) (line : ℕ) (f g : ScriptFault) → IsFaultOfRest names lines bytes line f → IsFaultOfRest names lines bytes line g → f ≡ g
one_rest names lines bytes line f g (inl a) (inl b) = one_line_fault names lines bytes line f g a b
one_rest names lines bytes line f g (inl a) (inr more) = absurd (no_line_fault names lines bytes line more.0 more.1 f more.2 a)
one_rest names lines bytes line f g (inr more) (inl b) = absurd (no_line_fault names lines bytes line more.0 more.1 g more.2 b)
one_rest names lines bytes line f g (inr more) (inr also) = more.3 ∙ sym also.3

-- ---- one row of lines is the front of another

-- the lines that a text begins with, and what comes then
record Row (names : ImageNames) (text : List ℕ) (said : List Said) (rest : List ℕ) : Type 0 where
  form : All IsInForm said
  whole : text ≡ text_of said ++ rest

row_of : (names : ImageNames) (text : List ℕ) (said : List Said) (lines : List ScriptLine) (rest : List ℕ) → IsBegun names text said lines rest → Row names text said rest
row_of names text said lines rest begun = record { form = begun.form; whole = begun.whole }

-- with the line that says the end
ended : (names : ImageNames) (text : List ℕ) (said : List Said) (lines : List ScriptLine) (bytes : List ℕ) (last : ℕ) (rest : List ℕ) → IsBegun names text said lines bytes → Begins bytes (end last) rest → Row names text (said ++ end last ∷ []) rest
ended names text said lines bytes last rest begun begins = record {
  form = All-push IsInForm said (end last) begun.form begins.form;
  whole = begun.whole ∙ ap (λ t. text_of said ++ t) begins.text ∙ text_push said (end last) rest;
}

longer_row : (names : ImageNames) (text : List ℕ) (a b : List Said) (r s : List ℕ) → Row names text a r → Row names text b s → Longer a b r s ⊎ Longer b a s r
longer_row names text a b r s x y = longer_of a b r s x.form y.form (sym x.whole ∙ y.whole)

-- a script's last line
script_begins : (last : ℕ) → IsInForm (end last) → Begins (text_of (end last ∷ [])) (end last) []
script_begins last form = record { form = form; text = refl }

-- lines that mean something have no end among them
front_has_no_end : (names : ImageNames) (text : List ℕ) (a c : List Said) (said : List Said) (lines : List ScriptLine) (rest : List ℕ) (last : ℕ) → IsBegun names text said lines rest → said ≡ a ++ end last ∷ c → ⊥
front_has_no_end names text a c said lines rest last begun is = no_end names a c last lines (subst (λ s. map (meaning names) s ≡ map (λ (l : ScriptLine). Some l) lines) is begun.means)

-- what stands behind the end of a row is behind its last line
behind_end : (a c more : List Said) (last : ℕ) → c ≡ (a ++ end last ∷ []) ++ more → c ≡ a ++ end last ∷ more
behind_end a c more last e = e ∙ append_assoc a (end last ∷ []) more

text_some : (x : Said) (more : List Said) (s r : List ℕ) → r ≡ text_of (x ∷ more) ++ s → IsInForm x → Begins r x (text_of more ++ s)
text_some x more s r e form = record { form = form; text = e ∙ append_assoc (spelled x) (10 ∷ text_of more) s }

-- the first line behind a front of a row that respects the frames is right there, and the front is shorter
record Next (names : ImageNames) (front : List ScriptLine) (bytes : List ℕ) (count : ℕ) : Type 0 where
  said : Said
  rest : List ℕ
  right : IsRight names front bytes said rest
  fewer : length front < count

next_line : (names : ImageNames) (text : List ℕ) (a b : List Said) (front lines : List ScriptLine) (r s tail : List ℕ) (x : Said) (more : List Said) → IsBegun names text a front r → IsBegun names text b lines s → b ≡ a ++ x ∷ more → r ≡ text_of (x ∷ more) ++ tail → Next names front r (length lines)
next_line names text a b front lines r s tail x more begun longer is bytes =
    let means : map (meaning names) (a ++ x ∷ more) ≡ map (λ (l : ScriptLine). Some l) lines = subst (λ t. map (meaning names) t ≡ map (λ (l : ScriptLine). Some l) lines) is longer.means in
    let f = follows names a more x front lines begun.means means in
    let respects = subst (λ ls. Respects names ls) f.is longer.respects in
    let l = ap length f.is ∙ length-append front (f.line ∷ f.rest) in
    record {
      said = x;
      rest = text_of more ++ tail;
      right = record { begins = text_some x more tail r bytes (in_form a more b x is longer.form); right = right_there names front f.rest x f.line f.means respects };
      fewer = omega (arith, l);
    }
  where
    in_form : (a more b : List Said) (x : Said) → b ≡ a ++ x ∷ more → All IsInForm b → IsInForm x
    in_form a more b x is all = head a (subst (λ t. All IsInForm t) is all)
      where
        head : (a : List Said) → All IsInForm (a ++ x ∷ more) → IsInForm x
        head [] all = All-head IsInForm x more all
        head (y ∷ a) all = head a (All-tail IsInForm y (a ++ x ∷ more) all)

-- the line x is the last one of the row, behind all before it
record IsLast (a b : List Said) (x : Said) (c : List Said) (last : ℕ) : Type 0 where
  front : b ≡ a
  is : x ≡ end last
  none : c ≡ []

-- or it stands before it
record IsBefore (a b : List Said) (x : Said) (c : List Said) (last : ℕ) : Type 0 where
  rest : List Said
  front : a ≡ b ++ x ∷ rest
  is : c ≡ rest ++ end last ∷ []

-- a row with a last line that is longer than a front of it: the next line is that last one, or stands before it
last_of_row : (a b : List Said) (x : Said) (c : List Said) (last : ℕ) → a ++ end last ∷ [] ≡ b ++ x ∷ c → IsLast a b x c last ⊎ IsBefore a b x c last
last_of_row [] [] x [] last e = inl (record { front = refl; is = cc; none = refl })
last_of_row [] [] x (y ∷ c) last e = cc
last_of_row [] (y ∷ b) x c last e = absurd (nothing b cc)
  where
    nothing : (b : List Said) → [] ≡ b ++ x ∷ c → ⊥
    nothing [] q = cc
    nothing (z ∷ b) q = cc
last_of_row (y ∷ a) [] x c last e = inr (record { rest = a; front = cc; is = cc })
last_of_row (y ∷ a) (z ∷ b) x c last e =
    let first : y ≡ z = cc in
    let rest : a ++ end last ∷ [] ≡ b ++ x ∷ c = cc in
    at first (last_of_row a b x c last rest)
  where
    at : y ≡ z → IsLast a b x c last ⊎ IsBefore a b x c last → IsLast (y ∷ a) (z ∷ b) x c last ⊎ IsBefore (y ∷ a) (z ∷ b) x c last
    at first (inl same) = inl (record { front = ap (λ w. w ∷ b) (sym first) ∙ ap (λ t. y ∷ t) same.front; is = same.is; none = same.none })
    at first (inr more) = inr (record { rest = more.rest; front = ap (λ w. w ∷ a) first ∙ ap (λ t. z ∷ t) more.front; is = more.is })

cons_same : (x : Said) (c : List Said) (y : Said) → x ≡ y → c ≡ [] → (x ∷ c) ≡ (y ∷ [])
cons_same x c y e f = ap (λ z. z ∷ c) e ∙ ap (λ t. y ∷ t) f

-- the text of a row and of what follows it
pub text_both : (a b : List Said) → text_of (a ++ b) ≡ text_of a ++ text_of b
text_both [] b = refl
text_both (x ∷ a) b = ap (λ t. spelled x ++ 10 ∷ t) (text_both a b) ∙ sym (append_assoc (spelled x) (10 ∷ text_of a) (text_of b))

moved_on : (x : Said) (d c : List Said) (last : ℕ) (rest : List ℕ) → c ≡ d ++ end last ∷ [] → text_of (x ∷ c) ++ rest ≡ text_of (x ∷ d) ++ (text_of (end last ∷ []) ++ rest)
moved_on x d c last rest e =
    ap (λ t. text_of (x ∷ t) ++ rest) e ∙ ap (λ t. t ++ rest) (text_both (x ∷ d) (end last ∷ [])) ∙ append_assoc (text_of (x ∷ d)) (text_of (end last ∷ [])) rest

-- the fronts of two rows with a last line each
fronts : (a b : List Said) (x y : Said) → a ++ x ∷ [] ≡ b ++ y ∷ [] → a ≡ b
fronts [] [] x y e = refl
fronts [] (z ∷ b) x y e = let l = ap length e in absurd (omega (arith, l, length-append b (y ∷ [])))
fronts (z ∷ a) [] x y e = let l = ap length e in absurd (omega (arith, l, length-append a (x ∷ [])))
fronts (z ∷ a) (w ∷ b) x y e =
    let first : z ≡ w = cc in
    let rest : a ≡ b = fronts a b x y cc in
    cc

-- a row with one end has no other before it
two_ends : (names : ImageNames) (text : List ℕ) (a b : List Said) (lines : List ScriptLine) (rest : List ℕ) (last other : ℕ) (x : Said) (c : List Said) → IsBegun names text b lines rest → b ++ end other ∷ [] ≡ (a ++ end last ∷ []) ++ x ∷ c → ⊥
two_ends names text a b lines rest last other x c begun is = by (last_of_row b (a ++ end last ∷ []) x c other is)
  where
    by : IsLast b (a ++ end last ∷ []) x c other ⊎ IsBefore b (a ++ end last ∷ []) x c other → ⊥
    by (inl same) = front_has_no_end names text a [] b lines rest last begun (sym same.front)
    by (inr more) = front_has_no_end names text a (x ∷ more.rest) b lines rest last begun (behind_end a b (x ∷ more.rest) last more.front)

-- ---- no script is faulty

-- a front of a script's lines has no fault behind it
no_front_fault : (names : ImageNames) (text : List ℕ) (lines : List ScriptLine) (last : ℕ) (fault : ScriptFault) → IsScript names text lines last → IsFaultBeforeEnd names text fault → ⊥
no_front_fault names text lines last fault s b = at (longer_row names text b.said (s.said ++ end last ∷ []) b.rest [] (row_of names text b.said b.lines b.rest b.begun) whole)
  where
    whole : Row names text (s.said ++ end last ∷ []) []
    whole = ended names text s.said lines (text_of (end last ∷ [])) last [] s.begun (script_begins last s.form)

    few : length lines + 1 ≤ most_lines
    few = s.few

    right_end : (rest : List ℕ) → b.said ≡ s.said → b.rest ≡ text_of (end last ∷ []) ++ [] → IsFaultHere names b.lines b.rest fault → ⊥
    right_end rest same bytes here =
        let alike : b.lines ≡ lines = means_once names b.said b.lines lines b.begun.means (subst (λ t. map (meaning names) t ≡ map (λ (l : ScriptLine). Some l) lines) (sym same) s.begun.means) in
        let l = ap length alike in
        let right : flaw names b.lines (end last) ≡ None = subst (λ ls. flaw names ls (end last) ≡ None) (sym alike) (end_right names lines last s.above) in
        none_here names b.lines b.rest (end last) [] fault (omega (arith, l, few)) (record { begins = text_some (end last) [] [] b.rest bytes s.form; right = right }) here

    behind : (c : List Said) → s.said ++ end last ∷ [] ≡ b.said ++ c → b.rest ≡ text_of c ++ [] → ⊥
    behind [] is bytes = front_has_no_end names text s.said [] b.said b.lines b.rest last b.begun (sym (append-nil b.said) ∙ sym is)
    behind (x ∷ c) is bytes = by (last_of_row s.said b.said x c last is)
      where
        by : IsLast s.said b.said x c last ⊎ IsBefore s.said b.said x c last → ⊥
        by (inl same) = right_end [] same.front (subst (λ t. b.rest ≡ text_of t ++ []) (cons_same x c (end last) same.is same.none) bytes) b.fault_is
        by (inr more) =
            let n = next_line names text b.said s.said b.lines lines b.rest (text_of (end last ∷ [])) (text_of (end last ∷ []) ++ []) x more.rest b.begun s.begun more.front (bytes ∙ moved_on x more.rest c last [] more.is) in
            let fewer = n.fewer in
            none_here names b.lines b.rest n.said n.rest fault (omega (arith, fewer, few)) n.right b.fault_is

    at : Longer b.said (s.said ++ end last ∷ []) b.rest [] ⊎ Longer (s.said ++ end last ∷ []) b.said [] b.rest → ⊥
    at (inl l) = behind l.more l.said l.bytes
    at (inr l) = front_has_no_end names text s.said l.more b.said b.lines b.rest last b.begun (behind_end s.said b.said l.more last l.said)

-- no line stands behind a script's end
no_fault_behind : (names : ImageNames) (text : List ℕ) (lines : List ScriptLine) (last : ℕ) (fault : ScriptFault) → IsScript names text lines last → IsFaultAfterEnd names text fault → ⊥
no_fault_behind names text lines last fault s e = at (longer_row names text (e.said ++ end e.last ∷ []) (s.said ++ end last ∷ []) e.rest [] other whole)
  where
    whole : Row names text (s.said ++ end last ∷ []) []
    whole = ended names text s.said lines (text_of (end last ∷ [])) last [] s.begun (script_begins last s.form)

    other : Row names text (e.said ++ end e.last ∷ []) e.rest
    other = let ends = e.ends in ended names text e.said e.lines e.bytes e.last e.rest e.begun ends.begins

    none : e.rest ≡ [] → ⊥
    none is = no_rest names e.lines e.rest (length e.lines + 2) fault is e.fault_is

    behind : (c : List Said) → s.said ++ end last ∷ [] ≡ (e.said ++ end e.last ∷ []) ++ c → e.rest ≡ text_of c ++ [] → ⊥
    behind [] is bytes = none bytes
    behind (x ∷ c) is bytes = by (last_of_row s.said (e.said ++ end e.last ∷ []) x c last is)
      where
        by : IsLast s.said (e.said ++ end e.last ∷ []) x c last ⊎ IsBefore s.said (e.said ++ end e.last ∷ []) x c last → ⊥
        by (inl same) = front_has_no_end names text e.said [] s.said lines (text_of (end last ∷ [])) e.last s.begun (sym same.front)
        by (inr more) = front_has_no_end names text e.said (x ∷ more.rest) s.said lines (text_of (end last ∷ [])) e.last s.begun (behind_end e.said s.said (x ∷ more.rest) e.last more.front)

    at : Longer (e.said ++ end e.last ∷ []) (s.said ++ end last ∷ []) e.rest [] ⊎ Longer (s.said ++ end last ∷ []) (e.said ++ end e.last ∷ []) [] e.rest → ⊥
    at (inl l) = behind l.more l.said l.bytes
    at (inr l) = none (ending (text_of l.more) e.rest l.bytes)
      where
        ending : (xs ys : List ℕ) → [] ≡ xs ++ ys → ys ≡ []
        ending [] ys q = sym q
        ending (x ∷ xs) ys q = cc

pub no_both : (names : ImageNames) (text : List ℕ) (lines : List ScriptLine) (last : ℕ) (fault : ScriptFault) → IsScript names text lines last → IsFault names text fault → ⊥
no_both names text lines last fault s (inl long) = let a = s.short in let b = long.long in omega (arith, a, b)
no_both names text lines last fault s (inr (inl b)) = no_front_fault names text lines last fault s b
no_both names text lines last fault s (inr (inr e)) = no_fault_behind names text lines last fault s e

-- ---- a text has one fault

before_before : (names : ImageNames) (text : List ℕ) (f g : ScriptFault) → IsFaultBeforeEnd names text f → IsFaultBeforeEnd names text g → f ≡ g
before_before names text f g a b = at (longer_row names text a.said b.said a.rest b.rest (row_of names text a.said a.lines a.rest a.begun) (row_of names text b.said b.lines b.rest b.begun))
  where
    few_a : length a.lines ≤ most_lines
    few_a = a.few

    few_b : length b.lines ≤ most_lines
    few_b = b.few

    same : a.said ≡ b.said → a.rest ≡ b.rest → f ≡ g
    same is bytes =
        let alike : a.lines ≡ b.lines = means_once names a.said a.lines b.lines a.begun.means (subst (λ t. map (meaning names) t ≡ map (λ (l : ScriptLine). Some l) b.lines) (sym is) b.begun.means) in
        one_here names b.lines b.rest f g (subst (λ r. IsFaultHere names b.lines r f) bytes (subst (λ ls. IsFaultHere names ls a.rest f) alike a.fault_is)) b.fault_is

    first : (c : List Said) → b.said ≡ a.said ++ c → a.rest ≡ text_of c ++ b.rest → f ≡ g
    first [] is bytes = same (sym (append-nil a.said) ∙ sym is) bytes
    first (x ∷ c) is bytes =
        let n = next_line names text a.said b.said a.lines b.lines a.rest b.rest b.rest x c a.begun b.begun is bytes in
        let fewer = n.fewer in
        absurd (none_here names a.lines a.rest n.said n.rest f (omega (arith, fewer, few_b)) n.right a.fault_is)

    second : (c : List Said) → a.said ≡ b.said ++ c → b.rest ≡ text_of c ++ a.rest → f ≡ g
    second [] is bytes = same (is ∙ append-nil b.said) (sym bytes)
    second (x ∷ c) is bytes =
        let n = next_line names text b.said a.said b.lines a.lines b.rest a.rest a.rest x c b.begun a.begun is bytes in
        let fewer = n.fewer in
        absurd (none_here names b.lines b.rest n.said n.rest g (omega (arith, fewer, few_a)) n.right b.fault_is)

    at : Longer a.said b.said a.rest b.rest ⊎ Longer b.said a.said b.rest a.rest → f ≡ g
    at (inl l) = first l.more l.said l.bytes
    at (inr l) = second l.more l.said l.bytes

no_before_after : (names : ImageNames) (text : List ℕ) (f g : ScriptFault) → IsFaultBeforeEnd names text f → IsFaultAfterEnd names text g → ⊥
no_before_after names text f g b e = at (longer_row names text b.said (e.said ++ end e.last ∷ []) b.rest e.rest (row_of names text b.said b.lines b.rest b.begun) other)
  where
    few : length e.lines + 1 ≤ most_lines
    few = e.few

    ends : IsRight names e.lines e.bytes (end e.last) e.rest
    ends = e.ends

    other : Row names text (e.said ++ end e.last ∷ []) e.rest
    other = ended names text e.said e.lines e.bytes e.last e.rest e.begun ends.begins

    right_end : b.said ≡ e.said → b.rest ≡ text_of (end e.last ∷ []) ++ e.rest → ⊥
    right_end same bytes =
        let alike : b.lines ≡ e.lines = means_once names b.said b.lines e.lines b.begun.means (subst (λ t. map (meaning names) t ≡ map (λ (l : ScriptLine). Some l) e.lines) (sym same) e.begun.means) in
        let l = ap length alike in
        let right : flaw names b.lines (end e.last) ≡ None = subst (λ ls. flaw names ls (end e.last) ≡ None) (sym alike) ends.right in
        let form = ends.begins in
        none_here names b.lines b.rest (end e.last) e.rest f (omega (arith, l, few)) (record { begins = text_some (end e.last) [] e.rest b.rest bytes form.form; right = right }) b.fault_is

    behind : (c : List Said) → e.said ++ end e.last ∷ [] ≡ b.said ++ c → b.rest ≡ text_of c ++ e.rest → ⊥
    behind [] is bytes = front_has_no_end names text e.said [] b.said b.lines b.rest e.last b.begun (sym (append-nil b.said) ∙ sym is)
    behind (x ∷ c) is bytes = by (last_of_row e.said b.said x c e.last is)
      where
        by : IsLast e.said b.said x c e.last ⊎ IsBefore e.said b.said x c e.last → ⊥
        by (inl same) = right_end same.front (subst (λ t. b.rest ≡ text_of t ++ e.rest) (cons_same x c (end e.last) same.is same.none) bytes)
        by (inr more) =
            let n = next_line names text b.said e.said b.lines e.lines b.rest e.bytes (text_of (end e.last ∷ []) ++ e.rest) x more.rest b.begun e.begun more.front (bytes ∙ moved_on x more.rest c e.last e.rest more.is) in
            let fewer = n.fewer in
            none_here names b.lines b.rest n.said n.rest f (omega (arith, fewer, few)) n.right b.fault_is

    at : Longer b.said (e.said ++ end e.last ∷ []) b.rest e.rest ⊎ Longer (e.said ++ end e.last ∷ []) b.said e.rest b.rest → ⊥
    at (inl l) = behind l.more l.said l.bytes
    at (inr l) = front_has_no_end names text e.said l.more b.said b.lines b.rest e.last b.begun (behind_end e.said b.said l.more e.last l.said)

after_after : (names : ImageNames) (text : List ℕ) (f g : ScriptFault) → IsFaultAfterEnd names text f → IsFaultAfterEnd names text g → f ≡ g
after_after names text f g a b = at (longer_row names text (a.said ++ end a.last ∷ []) (b.said ++ end b.last ∷ []) a.rest b.rest (row a) (row b))
  where
    row : {h : ScriptFault} (x : IsFaultAfterEnd names text h) → Row names text (x.said ++ end x.last ∷ []) x.rest
    row x = let ends = x.ends in ended names text x.said x.lines x.bytes x.last x.rest x.begun ends.begins

    same : a.said ++ end a.last ∷ [] ≡ b.said ++ end b.last ∷ [] → a.rest ≡ b.rest → f ≡ g
    same is bytes =
        let said : a.said ≡ b.said = fronts a.said b.said (end a.last) (end b.last) is in
        let alike : a.lines ≡ b.lines = means_once names a.said a.lines b.lines a.begun.means (subst (λ t. map (meaning names) t ≡ map (λ (l : ScriptLine). Some l) b.lines) (sym said) b.begun.means) in
        one_rest names b.lines b.rest (length b.lines + 2) f g (subst (λ r. IsFaultOfRest names b.lines r (length b.lines + 2) f) bytes (subst (λ ls. IsFaultOfRest names ls a.rest (length ls + 2) f) alike a.fault_is)) b.fault_is

    first : (c : List Said) → b.said ++ end b.last ∷ [] ≡ (a.said ++ end a.last ∷ []) ++ c → a.rest ≡ text_of c ++ b.rest → f ≡ g
    first [] is bytes = same (sym (append-nil (a.said ++ end a.last ∷ [])) ∙ sym is) bytes
    first (x ∷ c) is bytes = absurd (two_ends names text a.said b.said b.lines b.bytes a.last b.last x c b.begun is)

    second : (c : List Said) → a.said ++ end a.last ∷ [] ≡ (b.said ++ end b.last ∷ []) ++ c → b.rest ≡ text_of c ++ a.rest → f ≡ g
    second [] is bytes = same (is ∙ append-nil (b.said ++ end b.last ∷ [])) (sym bytes)
    second (x ∷ c) is bytes = absurd (two_ends names text b.said a.said a.lines a.bytes b.last a.last x c a.begun is)

    at : Longer (a.said ++ end a.last ∷ []) (b.said ++ end b.last ∷ []) a.rest b.rest ⊎ Longer (b.said ++ end b.last ∷ []) (a.said ++ end a.last ∷ []) b.rest a.rest → f ≡ g
    at (inl l) = first l.more l.said l.bytes
    at (inr l) = second l.more l.said l.bytes

pub one_fault : (names : ImageNames) (text : List ℕ) (fault other : ScriptFault) → IsFault names text fault → IsFault names text other → fault ≡ other
one_fault names text f g (inl a) (inl b) = a.is ∙ sym b.is
one_fault names text f g (inl a) (inr (inl b)) = let x = a.long in let y = b.short in absurd (omega (arith, x, y))
one_fault names text f g (inl a) (inr (inr b)) = let x = a.long in let y = b.short in absurd (omega (arith, x, y))
one_fault names text f g (inr (inl a)) (inl b) = let x = b.long in let y = a.short in absurd (omega (arith, x, y))
one_fault names text f g (inr (inl a)) (inr (inl b)) = before_before names text f g a b
one_fault names text f g (inr (inl a)) (inr (inr b)) = absurd (no_before_after names text f g a b)
one_fault names text f g (inr (inr a)) (inl b) = let x = b.long in let y = a.short in absurd (omega (arith, x, y))
one_fault names text f g (inr (inr a)) (inr (inl b)) = absurd (no_before_after names text g f b a)
one_fault names text f g (inr (inr a)) (inr (inr b)) = after_after names text f g a b
