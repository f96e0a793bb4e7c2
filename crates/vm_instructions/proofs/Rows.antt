-- Rows of operands and of locals, of which each frame has a part.
use Rattle.std.proofs.Common.{Option, Some, None, inl, inr, append_assoc, ◌≡◌, ◌≤◌, ◌<◌, ◌+◌, ◌-◌, ◌*◌, ◌++◌, ℕ, zero, suc, List, [], ◌∷◌, length, reverse, map, take, drop, set, get_or, arith, refl, ap, sym, subst, ◌∙◌}
use Rattle.std.specs.Prelude.{ℤ, pos, IsSome, IfSome}
use Rattle.std.proofs.Math.Seq.{take-set-lt}
use Rattle.std.proofs.Math.ListN.{drop_of_length-le}
use Rattle.std.proofs.lemmas.Bool.{cases_lt}
use Rattle.std.proofs.lemmas.List.{append-nil, length-append, take-append-drop, take-take, map-append, take_more, length-set, take_more_set, take-set-le, drop-set-add, length-take, length-drop, reverse-append, drop-append-le, length-reverse, length-map}
use Rattle.machine_semantics.specs.State.{Operand, Caller, stack_below, zeros}
use Rattle.machine_semantics.specs.Effect.{arguments}
use Rattle.vm_instructions.specs.declared.operand.Operand.{Operand as Kept}
use Rattle.vm_instructions.specs.declared.operand.Operand.TheVariants as kept
use Rattle.vm_instructions.specs.declared.frames.Mark.{Mark}
use Rattle.vm_instructions.specs.declared.frames.Frames.TheInside.{Inside}
use Rattle.vm_instructions.specs.Frames.{Frames, called, operand_of, used, value}
use Rattle.vm_instructions.specs.Inside.{part, operands_of, callers_of, laid_out, standing, Ascend, AreLaid}

pub length-part : {X : Type 0} (a b : ℕ) (row : List X) → b ≤ length row → length (part a b row) ≡ b - a
length-part a b row within = omega (arith, length-drop a (take b row), length-take b row)

-- a write past a part
pub part-set_past : {X : Type 0} (a b i : ℕ) (row : List X) (x : X) → b ≤ i → part a b (set row i x) ≡ part a b row
part-set_past a b i row x past = ap (λ (r : List _). drop a r) (take-set-le b row i x past)

pub callers_past_operands : (ms : List Mark) (operands : List Kept) (locals : List ℤ) (base floor i : ℕ) (x : Kept) → Ascend ms base floor → floor ≤ i → callers_of ms (set operands i x) locals base floor ≡ callers_of ms operands locals base floor
callers_past_operands [] operands locals base floor i x up past = refl
callers_past_operands (m ∷ ms) operands locals base floor i x up past =
    ap (λ (os : List Kept). record { back = m.back; locals = part m.base base locals; operands = map operand_of (reverse os) } ∷ callers_of ms (set operands i x) locals m.base m.floor) (part-set_past m.floor floor i operands x past)
    ∙ ap (λ (cs : List Caller). record { back = m.back; locals = part m.base base locals; operands = operands_of m.floor floor operands } ∷ cs) (callers_past_operands ms operands locals m.base m.floor i x up.2 (omega (arith, up.1)))

pub callers_past_locals : (ms : List Mark) (operands : List Kept) (locals : List ℤ) (base floor i : ℕ) (x : ℤ) → Ascend ms base floor → base ≤ i → callers_of ms operands (set locals i x) base floor ≡ callers_of ms operands locals base floor
callers_past_locals [] operands locals base floor i x up past = refl
callers_past_locals (m ∷ ms) operands locals base floor i x up past =
    ap (λ (ls : List ℤ). record { back = m.back; locals = ls; operands = operands_of m.floor floor operands } ∷ callers_of ms operands (set locals i x) m.base m.floor) (part-set_past m.base base i locals x past)
    ∙ ap (λ (cs : List Caller). record { back = m.back; locals = part m.base base locals; operands = operands_of m.floor floor operands } ∷ cs) (callers_past_locals ms operands locals m.base m.floor i x up.2 (omega (arith, up.0)))

-- the words of the stack of the callers
pub below_is : (ms : List Mark) (operands : List Kept) (locals : List ℤ) (base floor : ℕ) → Ascend ms base floor → base ≤ length locals → floor ≤ length operands → stack_below (callers_of ms operands locals base floor) ≡ base + floor + 2 * length ms
below_is [] operands locals base floor up within within' = omega (arith, up.0, up.1)
below_is (m ∷ ms) operands locals base floor up within within' =
    omega (
      arith,
      up.0,
      up.1,
      length-part m.base base locals within,
      length-part m.floor floor operands within',
      length-map (reverse (part m.floor floor operands)) operand_of,
      length-reverse (part m.floor floor operands),
      below_is ms operands locals m.base m.floor up.2 (omega (arith, up.0)) (omega (arith, up.1)),
    )

pub used_laid : (operands : List Kept) (locals : List ℤ) (ms : List Mark) (floor top base size : ℕ) → base ≤ size → floor ≤ top → size ≤ length locals → top ≤ length operands → Ascend (reverse ms) base floor
    → used (laid_out operands locals ms floor top base size) ≡ size + top + 2 * length ms
used_laid operands locals ms floor top base size b f l o up =
    omega (
      arith,
      length-part base size locals l,
      length-part floor top operands o,
      length-map (reverse (part floor top operands)) operand_of,
      length-reverse (part floor top operands),
      length-reverse ms,
      below_is (reverse ms) operands locals base floor up (omega arith) (omega arith),
    )

pub used_is : (s : Inside) → AreLaid s → used (standing s) ≡ s.size + s.top + 2 * length s.marks.items
used_is s laid = used_laid s.operands.items s.locals.items s.marks.items s.floor s.top s.base s.size laid.locals_begin laid.operands_begin laid.locals_room laid.operands_room laid.ascend

-- one more operand
pub pushed : (floor top : ℕ) (row : List Kept) (x : Kept) → floor ≤ top → top < length row → operands_of floor (top + 1) (set row top x) ≡ operand_of x ∷ operands_of floor top row
pushed floor top row x begins within =
    let e : take (top + 1) (set row top x) ≡ take top row ++ x ∷ [] = take_more_set row top x within in
    let d : drop floor (take top row ++ x ∷ []) ≡ drop floor (take top row) ++ x ∷ [] = drop-append-le floor (take top row) (x ∷ []) (omega (arith, length-take top row)) in
    ap (λ (r : List Kept). map operand_of (reverse (drop floor r))) e
    ∙ ap (λ (r : List Kept). map operand_of (reverse r)) d
    ∙ ap (λ (r : List Kept). map operand_of r) (reverse-append (drop floor (take top row)) (x ∷ []))

-- a local is written
pub local_set : (base size i : ℕ) (row : List ℤ) (x : ℤ) → base ≤ size → base + i < size → size ≤ length row → part base size (set row (base + i) x) ≡ set (part base size row) i x
local_set base size i row x begins below within =
    ap (λ (r : List ℤ). drop base r) (take-set-lt size row (base + i) x below) ∙ drop-set-add base (take size row) i x

pub has_room : (s : Inside) (f : Frames) → AreLaid s → standing s ≡ f → used f < f.room → s.top < length s.operands.items
has_room s f laid is room =
    let h : used (standing s) < (standing s).room = subst (λ (g : Frames). used g < g.room) (sym is) room in
    omega (arith, h, used_is s laid)

-- what a push leaves
pub push_leaves : (s : Inside) (x : Kept) → AreLaid s → s.top < length s.operands.items
    → laid_out (set s.operands.items s.top x) s.locals.items s.marks.items s.floor (s.top + 1) s.base s.size ≡ record (standing s) { operands = operand_of x ∷ (standing s).operands }
push_leaves s x laid within =
    rw (
      length-set s.operands.items s.top x,
      pushed s.floor s.top s.operands.items x laid.operands_begin within,
      callers_past_operands (reverse s.marks.items) s.operands.items s.locals.items s.base s.floor s.top x laid.ascend laid.operands_begin,
    ) refl

-- what a local written leaves
pub write_leaves : (s : Inside) (i : ℕ) (x y : ℤ) → AreLaid s → i < length (standing s).locals → y ≡ x
    → laid_out s.operands.items (set s.locals.items (s.base + i) y) s.marks.items s.floor s.top s.base s.size ≡ record (standing s) { locals = set (standing s).locals i x }
write_leaves s i x y laid below same =
    rw (
      same,
      local_set s.base s.size i s.locals.items x laid.locals_begin (omega (arith, length-part s.base s.size s.locals.items laid.locals_room)) laid.locals_room,
      callers_past_locals (reverse s.marks.items) s.operands.items s.locals.items s.base s.floor (s.base + i) x laid.ascend (omega arith),
    ) refl

pub is_full : (s : Inside) (f : Frames) → AreLaid s → standing s ≡ f → used f < f.room → s.size + s.top + 2 * length s.marks.items < length s.operands.items
is_full s f laid is room =
    let h : used (standing s) < (standing s).room = subst (λ (g : Frames). used g < g.room) (sym is) room in
    omega (arith, h, used_is s laid)

-- the innermost frame has as many operands as its part of the row
pub some_operand : (s : Inside) (f : Frames) → AreLaid s → standing s ≡ f → 0 < length f.operands → s.floor < s.top
some_operand s f laid is some =
    let h : 0 < length (standing s).operands = subst (λ (g : Frames). 0 < length g.operands) (sym is) some in
    omega (arith, h, length-part s.floor s.top s.operands.items laid.operands_room, length-map (reverse (part s.floor s.top s.operands.items)) operand_of, length-reverse (part s.floor s.top s.operands.items))

pub popped_room : (s : Inside) (f : Frames) → AreLaid s → standing s ≡ f → 0 < length f.operands → used (laid_out s.operands.items s.locals.items s.marks.items s.floor (s.top - 1) s.base s.size) < length s.operands.items
popped_room s f laid is some =
    let less = some_operand s f laid is some in
    omega (arith, less, laid.fits, used_laid s.operands.items s.locals.items s.marks.items s.floor (s.top - 1) s.base s.size laid.locals_begin (omega arith) laid.locals_room (omega (arith, laid.operands_room)) laid.ascend)

-- one more word after a part
pub part_more : {X : Type 0} (a b : ℕ) (row : List X) (x : X) → a ≤ b → b < length row → part a (b + 1) (set row b x) ≡ part a b row ++ x ∷ []
part_more a b row x begins within =
    ap (λ (r : List _). drop a r) (take_more_set row b x within) ∙ drop-append-le a (take b row) (x ∷ []) (omega (arith, length-take b row))

pub zeros_more : (n : ℕ) → zeros (n + 1) ≡ zeros n ++ pos 0 ∷ []
zeros_more zero = refl
zeros_more (suc n) =
    let e : suc n + 1 ≡ suc (n + 1) = omega arith in
    ap (λ (k : ℕ). zeros k) e ∙ ap (λ (zs : List ℤ). pos 0 ∷ zs) (zeros_more n)

pub cleared_more : (a b : ℕ) (row : List ℤ) → a ≤ b → b < length row → part a b row ≡ zeros (b - a) → part a (b + 1) (set row b (pos 0)) ≡ zeros (b + 1 - a)
cleared_more a b row begins within so_far =
    let e : b - a + 1 ≡ b + 1 - a = omega arith in
    part_more a b row (pos 0) begins within ∙ ap (λ (ws : List ℤ). ws ++ pos 0 ∷ []) so_far ∙ sym (zeros_more (b - a)) ∙ ap (λ (k : ℕ). zeros k) e

-- ---- calls

-- the last of a part
part_last : {X : Type 0} (a b : ℕ) (row : List X) (d : X) → a ≤ b → b < length row → part a (b + 1) row ≡ part a b row ++ get_or row b d ∷ []
part_last a b row d begins within =
    ap (λ (r : List _). drop a r) (take_more row b d within) ∙ drop-append-le a (take b row) (get_or row b d ∷ []) (omega (arith, length-take b row))

operands_last : (a b : ℕ) (row : List Kept) (d : Kept) → a ≤ b → b < length row → operands_of a (b + 1) row ≡ operand_of (get_or row b d) ∷ operands_of a b row
operands_last a b row d begins within =
    ap (λ (r : List Kept). map operand_of (reverse r)) (part_last a b row d begins within)
    ∙ ap (λ (r : List Kept). map operand_of r) (reverse-append (part a b row) (get_or row b d ∷ []))

operands_none : (a b : ℕ) (row : List Kept) → b ≤ a → operands_of a b row ≡ []
operands_none a b row none =
    let e : part a b row ≡ [] = drop_of_length-le (take b row) (omega (arith, length-take b row)) in
    ap (λ (r : List Kept). map operand_of (reverse r)) e

-- the last of them, and those before
by_kind : (n a b : ℕ) (row : List Kept) (taken : List ℤ) (r : List ℤ × List Operand) (c : ℕ)
    → ((taken' : List ℤ) → a ≤ c → c ≤ length row → arguments n (operands_of a c row) taken' ≡ Some r → (n + a ≤ c) × (r ≡ (map value (part (c - n) c row) ++ taken', operands_of a (c - n) row)))
    → (x : Kept) → x ≡ get_or row c (kept.Counter 0) → b ≡ c + 1 → a ≤ c → b ≤ length row → arguments (suc n) (operand_of x ∷ operands_of a c row) taken ≡ Some r
    → (suc n + a ≤ b) × (r ≡ (map value (part (b - suc n) b row) ++ taken, operands_of a (b - suc n) row))
by_kind n a b row taken r c before (kept.Counter m) at ends low within is' = absurd cc
by_kind n a b row taken r c before (kept.Value z) at ends low within is' =
    let rest = before (z ∷ taken) low (omega (arith, ends)) is' in
    let count : c - n ≡ b - suc n = omega (arith, ends) in
    let more : part (c - n) b row ≡ part (c - n) c row ++ kept.Value z ∷ [] =
    ap (λ (x : ℕ). part (c - n) x row) ends ∙ part_last (c - n) c row (kept.Counter 0) (omega arith) (omega (arith, ends)) ∙ ap (λ (x : Kept). part (c - n) c row ++ x ∷ []) (sym at) in
    let values : map value (part (c - n) b row) ≡ map value (part (c - n) c row) ++ z ∷ [] = ap (λ (xs : List Kept). map value xs) more ∙ map-append value (part (c - n) c row) (kept.Value z ∷ []) in (
      omega (arith, rest.0, ends),
      rest.1
          ∙ ap (λ (xs : List ℤ). (xs, operands_of a (c - n) row)) (sym (append_assoc (map value (part (c - n) c row)) (z ∷ []) taken) ∙ ap (λ (xs : List ℤ). xs ++ taken) (sym values))
          ∙ ap (λ (k : ℕ). (map value (part k b row) ++ taken, operands_of a k row)) count,
    )

-- n values that stand at the end of a part of the row are taken, and are before those taken so far
pub arguments_are : (n a b : ℕ) (row : List Kept) (taken : List ℤ) (r : List ℤ × List Operand) → a ≤ b → b ≤ length row → arguments n (operands_of a b row) taken ≡ Some r
    → (n + a ≤ b) × (r ≡ (map value (part (b - n) b row) ++ taken, operands_of a (b - n) row))
arguments_are zero a b row taken r begins within is =
    let e : b - 0 ≡ b = omega arith in
    let none : part b b row ≡ [] = drop_of_length-le (take b row) (omega (arith, length-take b row)) in
    let same : (taken, operands_of a b row) ≡ r = cc in
    (omega arith, sym same ∙ ap (λ (xs : List Kept). (map value xs ++ taken, operands_of a b row)) (sym none) ∙ ap (λ (c : ℕ). (map value (part c b row) ++ taken, operands_of a c row)) (sym e))
arguments_are (suc n) a b row taken r begins within is =
    elim (cases_lt a b) [
      | inr none ↦ absurd (let e : operands_of a b row ≡ [] = operands_none a b row none in let f : arguments (suc n) [] taken ≡ Some r = subst (λ (os : List Operand). arguments (suc n) os taken ≡ Some r) e is in cc)
      | inl some ↦
          let c : ℕ = b - 1 in
          let d : Kept = kept.Counter 0 in
          let e : b ≡ c + 1 = omega arith in
          let last : operands_of a b row ≡ operand_of (get_or row c d) ∷ operands_of a c row = ap (λ (x : ℕ). operands_of a x row) e ∙ operands_last a c row d (omega arith) (omega arith) in
          let is' : arguments (suc n) (operand_of (get_or row c d) ∷ operands_of a c row) taken ≡ Some r = subst (λ (os : List Operand). arguments (suc n) os taken ≡ Some r) last is in
          by_kind n a b row taken r c (λ taken' low less is''. arguments_are n a c row taken' r low less is'') (get_or row c d) refl e (omega arith) within is'
    ]

take_take : {X : Type 0} (a b : ℕ) (row : List X) → a ≤ b → take a (take b row) ≡ take a row
take_take a b row within = take-take a b row within

-- two parts in a row
parts_join : {X : Type 0} (a b c : ℕ) (row : List X) → a ≤ b → b ≤ c → c ≤ length row → part a c row ≡ part a b row ++ part b c row
parts_join a b c row low high within =
    let front : take b (take c row) ≡ take b row = take_take b c row high in
    let whole : take c row ≡ take b row ++ drop b (take c row) = sym (take-append-drop b (take c row)) ∙ ap (λ (r : List _). r ++ drop b (take c row)) front in
    ap (λ (r : List _). drop a r) whole ∙ drop-append-le a (take b row) (drop b (take c row)) (omega (arith, length-take b row))

-- rows that begin alike have the same parts there
part_same : {X : Type 0} (a b c : ℕ) (row row' : List X) → b ≤ c → take c row ≡ take c row' → part a b row ≡ part a b row'
part_same a b c row row' within same =
    ap (λ (r : List _). drop a r) (sym (take_take b c row within) ∙ ap (λ (r : List _). take b r) same ∙ take_take b c row' within)

pub locals_made : (to params count : ℕ) (row copied cleared : List ℤ) (values : List ℤ) → params ≤ count → to + count ≤ length cleared → take (to + params) cleared ≡ take (to + params) copied
    → part to (to + params) copied ≡ values → part (to + params) (to + count) cleared ≡ zeros (to + count - (to + params)) → part to (to + count) cleared ≡ values ++ zeros (count - params)
locals_made to params count row copied cleared values order within same at zeroed =
    let e : to + count - (to + params) ≡ count - params = omega arith in
    parts_join to (to + params) (to + count) cleared (omega arith) (omega arith) within
    ∙ ap (λ (r : List ℤ). r ++ part (to + params) (to + count) cleared) (part_same to (to + params) (to + params) cleared copied (omega arith) same ∙ at)
    ∙ ap (λ (r : List ℤ). values ++ r) (zeroed ∙ ap (λ (n : ℕ). zeros n) e)

pub front_kept : (to more : ℕ) (row copied cleared : List ℤ) → take (to + more) cleared ≡ take (to + more) copied → take to copied ≡ take to row → take to cleared ≡ take to row
front_kept to more row copied cleared same before =
    sym (take_take to (to + more) cleared (omega arith)) ∙ ap (λ (r : List ℤ). take to r) same ∙ take_take to (to + more) copied (omega arith) ∙ before

callers_same : (ms : List Mark) (operands : List Kept) (locals locals' : List ℤ) (base floor size : ℕ) → Ascend ms base floor → base ≤ size → take size locals ≡ take size locals' → callers_of ms operands locals base floor ≡ callers_of ms operands locals' base floor
callers_same [] operands locals locals' base floor size up within same = refl
callers_same (m ∷ ms) operands locals locals' base floor size up within same =
    ap (λ (ls : List ℤ). record { back = m.back; locals = ls; operands = operands_of m.floor floor operands } ∷ callers_of ms operands locals m.base m.floor) (part_same m.base base size locals locals' within same)
    ∙ ap (λ (cs : List Caller). record { back = m.back; locals = part m.base base locals'; operands = operands_of m.floor floor operands } ∷ cs) (callers_same ms operands locals locals' m.base m.floor size up.2 (omega (arith, up.0)) same)

-- what a call leaves
pub call_leaves : (s : Inside) (f : Frames) (locals' : List ℤ) (marks : List Mark) (back params count : ℕ) (r : List ℤ × List Operand) → AreLaid s → standing s ≡ f → arguments params f.operands [] ≡ Some r
    → part s.size (s.size + count) locals' ≡ map value (part (s.top - params) (s.top - params + params) s.operands.items) ++ zeros (count - params) → take s.size locals' ≡ take s.size s.locals.items
    → marks ≡ s.marks.items ++ record { back = back; base = s.base; floor = s.floor } ∷ []
    → laid_out s.operands.items locals' marks (s.top - params) (s.top - params) s.size (s.size + count) ≡ called back (count - params) r f
call_leaves s f locals' marks back params count r laid is taken made before marked =
    let args : arguments params (operands_of s.floor s.top s.operands.items) [] ≡ Some r = subst (λ (g : Frames). arguments params g.operands [] ≡ Some r) (sym is) taken in
    let are = arguments_are params s.floor s.top s.operands.items [] r laid.operands_begin laid.operands_room args in
    let m : Mark = record { back = back; base = s.base; floor = s.floor } in
    let rest : ℕ = s.top - params in
    let whole : rest + params ≡ s.top = omega (arith, are.0) in
    let order : reverse marks ≡ m ∷ reverse s.marks.items = ap (λ (ms : List Mark). reverse ms) marked ∙ reverse-append s.marks.items (m ∷ []) in
    let no_operands : operands_of rest rest s.operands.items ≡ [] = operands_none rest rest s.operands.items (omega arith) in
    let mine : part s.base s.size locals' ≡ part s.base s.size s.locals.items = part_same s.base s.size s.size locals' s.locals.items (omega arith) before in
    let others : callers_of (reverse s.marks.items) s.operands.items locals' s.base s.floor ≡ callers_of (reverse s.marks.items) s.operands.items s.locals.items s.base s.floor =
    callers_same (reverse s.marks.items) s.operands.items locals' s.locals.items s.base s.floor s.size laid.ascend laid.locals_begin before in
    let values : part s.size (s.size + count) locals' ≡ (map value (part rest s.top s.operands.items) ++ []) ++ zeros (count - params) =
    made ∙ ap (λ (x : ℕ). map value (part rest x s.operands.items) ++ zeros (count - params)) whole ∙ ap (λ (xs : List ℤ). xs ++ zeros (count - params)) (sym (append-nil (map value (part rest s.top s.operands.items)))) in
    ap (λ (cs : List Mark). record { room = length s.operands.items; locals = part s.size (s.size + count) locals'; operands = operands_of rest rest s.operands.items; callers = callers_of cs s.operands.items locals' s.size rest }) order
    ∙ ap (λ (xs : List ℤ). record { room = length s.operands.items; locals = xs; operands = operands_of rest rest s.operands.items; callers = record { back = back; locals = part s.base s.size locals'; operands = operands_of s.floor rest s.operands.items } ∷ callers_of (reverse s.marks.items) s.operands.items locals' s.base s.floor }) values
    ∙ ap (λ (os : List Operand). record { room = length s.operands.items; locals = (map value (part rest s.top s.operands.items) ++ []) ++ zeros (count - params); operands = os; callers = record { back = back; locals = part s.base s.size locals'; operands = operands_of s.floor rest s.operands.items } ∷ callers_of (reverse s.marks.items) s.operands.items locals' s.base s.floor }) no_operands
    ∙ ap (λ (xs : List ℤ). record { room = length s.operands.items; locals = (map value (part rest s.top s.operands.items) ++ []) ++ zeros (count - params); operands = []; callers = record { back = back; locals = xs; operands = operands_of s.floor rest s.operands.items } ∷ callers_of (reverse s.marks.items) s.operands.items locals' s.base s.floor }) mine
    ∙ ap (λ (cs : List Caller). record { room = length s.operands.items; locals = (map value (part rest s.top s.operands.items) ++ []) ++ zeros (count - params); operands = []; callers = record { back = back; locals = part s.base s.size s.locals.items; operands = operands_of s.floor rest s.operands.items } ∷ cs }) others
    ∙ ap (λ (x : List ℤ × List Operand). called back (count - params) x (standing s)) (sym are.1)
    ∙ ap (λ (g : Frames). called back (count - params) r g) is

-- the arguments are in the row, and there is room for the new frame
pub call_room : (s : Inside) (f : Frames) (params count : ℕ) (r : List ℤ × List Operand) → AreLaid s → standing s ≡ f → arguments params f.operands [] ≡ Some r → params ≤ count → used f + 2 + count ≤ f.room + params
    → (params + s.floor ≤ s.top) × (s.size + s.top + 2 * length s.marks.items + 2 + count ≤ length s.operands.items + params)
call_room s f params count r laid is taken order room =
    let args : arguments params (operands_of s.floor s.top s.operands.items) [] ≡ Some r = subst (λ (g : Frames). arguments params g.operands [] ≡ Some r) (sym is) taken in
    let are = arguments_are params s.floor s.top s.operands.items [] r laid.operands_begin laid.operands_room args in
    let h : used (standing s) + 2 + count ≤ (standing s).room + params = subst (λ (g : Frames). used g + 2 + count ≤ g.room + params) (sym is) room in
    (are.0, omega (arith, h, used_is s laid))

pub back_room : (s : Inside) (ms : List Mark) (m : Mark) → AreLaid s → s.marks.items ≡ ms ++ m ∷ [] → used (laid_out s.operands.items s.locals.items ms m.floor s.floor m.base s.base) + 2 ≤ length s.operands.items
back_room s ms m laid is =
    let order : reverse s.marks.items ≡ m ∷ reverse ms = ap (λ (xs : List Mark). reverse xs) is ∙ reverse-append ms (m ∷ []) in
    let up : Ascend (m ∷ reverse ms) s.base s.floor = subst (λ (xs : List Mark). Ascend xs s.base s.floor) order laid.ascend in
    let count : length s.marks.items ≡ length ms + 1 = ap (λ (xs : List Mark). length xs) is ∙ length-append ms (m ∷ []) in
    omega (
      arith,
      laid.fits,
      laid.locals_begin,
      laid.operands_begin,
      laid.locals_room,
      laid.operands_room,
      count,
      used_laid s.operands.items s.locals.items ms m.floor s.floor m.base s.base up.0 up.1 (omega (arith, laid.locals_begin, laid.locals_room)) (omega (arith, laid.operands_begin, laid.operands_room)) up.2,
    )

pub some_of : {X : Type 0} (o : Option X) → IsSome o → (x : X) × (o ≡ Some x)
some_of (Some x) h = (x, refl)
some_of None h = absurd cc

pub if_some : {X : Type 0} (o : Option X) (x : X) (P : X → Type 0) → o ≡ Some x → P x → IfSome o P
if_some o x P is h = subst (λ (y : Option _). IfSome y P) (sym is) h

pub count_callers : (ms : List Mark) (operands : List Kept) (locals : List ℤ) (base floor : ℕ) → length (callers_of ms operands locals base floor) ≡ length ms
count_callers [] operands locals base floor = refl
count_callers (m ∷ ms) operands locals base floor = ap suc (count_callers ms operands locals m.base m.floor)

pub calls_are : (s : Inside) → length (standing s).callers ≡ length s.marks.items
calls_are s = count_callers (reverse s.marks.items) s.operands.items s.locals.items s.base s.floor ∙ length-reverse s.marks.items
