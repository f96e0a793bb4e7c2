-- What names mean in expressions and statements: as the scopes of the rules say.
use Rattle.std.proofs.Common.{◌≡◌, Bool, true, false, List, [], ◌∷◌, ◌++◌, Option, Some, None, is_some, inl, inr, refl, ap, sym, ◌∙◌, subst, append-nil, true≢false}
use Rattle.syntax_tree.specs.Plain.{Name}
use Rattle.syntax_tree.specs.Placed.{Constant, literal_constant, named_constant, Scalar, int, boolean, subrange, Kind, scalar, array, Expr, literal, truth, variable, element, call, minus, negation, paren, row, Exprs, no_exprs, exprs, Operands, no_operands, operand, Ref, whole, part, Stmt, assign, assign_entry, assign_empty, perform, perform_entry, when, when_else, loop, exit_when, get, put, wait, signal, broadcast, except, assert, Stmts, no_stmts, stmts}
use Rattle.syntax_tree.specs.declared.place.Place.{Place}
use Rattle.static_names.specs.declared.kind.Declared.{Declared}
use Rattle.static_names.specs.declared.kind.NameUse.TheVariants as want_is
use Rattle.static_names.specs.Reach as site
use Rattle.static_names.specs.Reach.{Site, inside}
use Rattle.static_names.specs.Occurrences as rule
use Rattle.static_names.specs.Occurrences.{Occurrence}
use Rattle.message_names.specs.declared.role.Reach.{Reach}
use Rattle.message_names.specs.declared.role.Role.TheVariants as role_is
use Rattle.message_names.specs.declared.role.Wanted.{Wanted}
use Rattle.message_names.specs.declared.role.Wanted.TheVariants as wanted_is
use Rattle.message_names.specs.declared.role.What.TheVariants as what_is
use Rattle.message_names.specs.declared.sight.Sight.TheVariants as sight_is
use Rattle.message_names.specs.Laws.{stands_alone}
use Rattle.message_names.specs.Mentions as told
use Rattle.message_names.specs.Mentions.{Mention, last_place, value_place}
use Rattle.message_names.specs.Reach.{before, innermost, monitor_before}
use Rattle.message_names.proofs.Closing.{Each, Within}
use Rattle.message_names.proofs.Order.{Ahead, Mem, Rising, not-ahead, not-itself}
use Rattle.message_names.proofs.Parts.{mem-left, mem-right, mem-place, part-mem, part-stmt}
use Rattle.message_names.proofs.Spots.{places, map-append, stmt_spots, stmts_spots}
use Rattle.message_names.proofs.Views.{view, view-append, Bare, bare-append, bare-view, Enclosed, enclosed-append, enclosed-more, bare-enclosed, pick, innermost-picked, placed, stood, Sees}

-- among the names that are told stands the use, and of these is meant what the rules say
pub record IsMeant (ms : List Mention) (name : Name) (place : Place) (means : Option Declared) : Type 0 where
  pub wanted : Wanted
  pub listed : Mem (told.uses wanted name place) ms
  pub alone : monitor_before (role_is.Uses wanted) ≡ None
  pub meant : placed (innermost sight_is.Around name place ms) ≡ stood means

-- among the names that are told stands the declaration, and another of the name is found in reach exactly where it is taken
pub record IsTaken (ms : List Mention) (name : Name) (place : Place) (taken : Bool) : Type 0 where
  pub reach : Reach
  pub listed : Mem (told.mention name place (role_is.Declares reach)) ms
  pub other : is_some (innermost (sight_is.Others reach.scope.begin) name place ms) ≡ taken

abbrev pub Meant : List Mention → Occurrence → Type 0
Meant ms (rule.declares name place taken) = IsTaken ms name place taken
Meant ms (rule.closes name place opening) = Unit {0}
Meant ms (rule.used name place want means) = stands_alone want ≡ true → IsMeant ms name place means

abbrev pub Keeps : List Mention → (List Occurrence → List Occurrence) → Type 0
Keeps ms names = (more : List Occurrence) → Each (Meant ms) more → Each (Meant ms) (names more)

-- the names of the part are told, and where they stand all this reaches
abbrev pub Sited : (ms reach some : List Mention) → Type 0
Sited ms reach some = (m : Mention) → Mem m some → Mem m ms × (view m.place ms ≡ reach)

pub sited-left : (ms reach some more : List Mention) → Sited ms reach (some ++ more) → Sited ms reach some
sited-left ms reach some more h m is = h m (mem-left m some more is)

pub sited-right : (ms reach some more : List Mention) → Sited ms reach (some ++ more) → Sited ms reach more
sited-right ms reach some more h m is = h m (mem-right m some more is)

sited-next : (ms reach : List Mention) (one : Mention) (more : List Mention) → Sited ms reach (one ∷ more) → Sited ms reach more
sited-next ms reach one more h m is = h m (inr is)

-- ---- expressions

pub of-use : (ms reach : List Mention) (means : site.Reach) → Sees reach means → (wanted : Wanted) → monitor_before (role_is.Uses wanted) ≡ None → (name : Name) (place : Place)
    → Mem (told.uses wanted name place) ms × (view place ms ≡ reach) → IsMeant ms name place (means name)
of-use ms reach means seen wanted alone name place at = record {
  wanted = wanted;
  listed = at.0;
  alone = alone;
  meant = ap placed (innermost-picked name place ms) ∙ ap (λ l. placed (pick name None l)) at.1 ∙ seen name;
}

module _ (ms reach : List Mention) (here : Site) (seen : Sees reach here.means) where
  pub of-constant : (c : Constant Place) → Sited ms reach (told.constant_mentions c) → Keeps ms (rule.constant_names here c)
  of-constant (literal_constant p is_minus n q) at more rest = rest
  of-constant (named_constant p is_minus name q) at more rest = (λ h. of-use ms reach here.means seen wanted_is.Constant refl name q (at _ (inl refl)), rest)

  pub of-bounds : (low high : Constant Place) → Sited ms reach (told.bounds_mentions low high) → Keeps ms (λ more. rule.constant_names here low (rule.constant_names here high more))
  of-bounds low high at more rest =
      of-constant low (sited-left ms reach (told.constant_mentions low) (told.constant_mentions high) at) _
      (of-constant high (sited-right ms reach (told.constant_mentions low) (told.constant_mentions high) at) more rest)

  pub of-scalar : (s : Scalar Place) → Sited ms reach (told.scalar_mentions s) → Keeps ms (rule.scalar_names here s)
  of-scalar int at more rest = rest
  of-scalar boolean at more rest = rest
  of-scalar (subrange low high) at more rest = of-bounds low high at more rest

  pub of-kind : (k : Kind Place) → Sited ms reach (told.kind_mentions k) → Keeps ms (rule.kind_names here k)
  of-kind (scalar s) at more rest = of-scalar s at more rest
  of-kind (array low high s) at more rest =
      of-bounds low high (sited-left ms reach (told.bounds_mentions low high) (told.scalar_mentions s) at) _
      (of-scalar s (sited-right ms reach (told.bounds_mentions low high) (told.scalar_mentions s) at) more rest)

  mutual
    pub of-expr : (e : Expr Place) → Sited ms reach (told.expr_mentions e) → Keeps ms (rule.expr_names here e)
    of-expr (literal p n) at more rest = rest
    of-expr (truth p b) at more rest = rest
    of-expr (variable p name) at more rest = (λ h. of-use ms reach here.means seen wanted_is.Value refl name p (at _ (inl refl)), rest)
    of-expr (element p name i) at more rest = (λ h. of-use ms reach here.means seen wanted_is.Value refl name p (at _ (inl refl)), of-expr i (sited-next ms reach _ (told.expr_mentions i) at) more rest)
    of-expr (call p name es) at more rest = (λ h. of-use ms reach here.means seen wanted_is.Routine refl name p (at _ (inl refl)), of-exprs es (sited-next ms reach _ (told.exprs_mentions es) at) more rest)
    of-expr (minus p e) at more rest = of-expr e at more rest
    of-expr (negation p e) at more rest = of-expr e at more rest
    of-expr (paren p e) at more rest = of-expr e at more rest
    of-expr (row e rs) at more rest =
        of-expr e (sited-left ms reach (told.expr_mentions e) (told.operands_mentions rs) at) _ (of-operands rs (sited-right ms reach (told.expr_mentions e) (told.operands_mentions rs) at) more rest)

    pub of-exprs : (es : Exprs Place) → Sited ms reach (told.exprs_mentions es) → Keeps ms (rule.exprs_names here es)
    of-exprs no_exprs at more rest = rest
    of-exprs (exprs e es) at more rest =
        of-expr e (sited-left ms reach (told.expr_mentions e) (told.exprs_mentions es) at) _ (of-exprs es (sited-right ms reach (told.expr_mentions e) (told.exprs_mentions es) at) more rest)

    pub of-operands : (rs : Operands Place) → Sited ms reach (told.operands_mentions rs) → Keeps ms (rule.operands_names here rs)
    of-operands no_operands at more rest = rest
    of-operands (operand op e rs) at more rest =
        of-expr e (sited-left ms reach (told.expr_mentions e) (told.operands_mentions rs) at) _ (of-operands rs (sited-right ms reach (told.expr_mentions e) (told.operands_mentions rs) at) more rest)

  pub of-ref : (r : Ref Place) → Sited ms reach (told.ref_mentions r) → Keeps ms (rule.ref_names here r)
  of-ref (whole p name) at more rest = (λ h. of-use ms reach here.means seen wanted_is.Target refl name p (at _ (inl refl)), rest)
  of-ref (part p name i) at more rest = (λ h. of-use ms reach here.means seen wanted_is.Target refl name p (at _ (inl refl)), of-expr i (sited-next ms reach _ (told.expr_mentions i) at) more rest)

  of-entry : (mon : Name) (p : Place) (entry : Name) (q : Place) (es : Exprs Place) → Sited ms reach (told.entry_mentions mon p entry q es) → Keeps ms (λ more. rule.entry_names here mon p entry q (rule.exprs_names here es more))
  of-entry mon p entry q es at more rest =
      (λ h. of-use ms reach here.means seen wanted_is.Monitor refl mon p (at _ (inl refl)), (λ h. absurd (true≢false (sym h)), of-exprs es (λ m is. at m (inr (inr is))) more rest))

  -- a statement in which no others stand
  pub of-get : (dev : Name) (q : Place) (r : Ref Place) (p : Place) → Sited ms reach (told.stmt_mentions (get p dev q r)) → Keeps ms (rule.stmt_names here (get p dev q r))
  of-get dev q r p at more rest = (λ h. of-use ms reach here.means seen wanted_is.Device refl dev q (at _ (inl refl)), of-ref r (sited-next ms reach _ (told.ref_mentions r) at) more rest)

  pub of-put : (dev : Name) (q : Place) (e : Expr Place) (p : Place) → Sited ms reach (told.stmt_mentions (put p dev q e)) → Keeps ms (rule.stmt_names here (put p dev q e))
  of-put dev q e p at more rest = (λ h. of-use ms reach here.means seen wanted_is.Device refl dev q (at _ (inl refl)), of-expr e (sited-next ms reach _ (told.expr_mentions e) at) more rest)

  pub of-condition : (cond_name : Name) (q : Place) → Sited ms reach (told.uses wanted_is.Condition cond_name q ∷ []) → Keeps ms (λ more. rule.uses here cond_name q want_is.Condition ∷ more)
  of-condition cond_name q at more rest = (λ h. of-use ms reach here.means seen wanted_is.Condition refl cond_name q (at _ (inl refl)), rest)

  pub of-wait : (p : Place) (c : Name) (q : Place) (limit number : Constant Place) → Sited ms reach (told.stmt_mentions (wait p c q limit number)) → Keeps ms (rule.stmt_names here (wait p c q limit number))
  of-wait p c q limit number at more rest = (λ h. of-use ms reach here.means seen wanted_is.Condition refl c q (at _ (inl refl)), of-bounds limit number (sited-next ms reach _ (told.bounds_mentions limit number) at) more rest)

  pub of-assign : (r : Ref Place) (e : Expr Place) → Sited ms reach (told.stmt_mentions (assign r e)) → Keeps ms (rule.stmt_names here (assign r e))
  of-assign r e at more rest = of-ref r (sited-left ms reach (told.ref_mentions r) (told.expr_mentions e) at) _ (of-expr e (sited-right ms reach (told.ref_mentions r) (told.expr_mentions e) at) more rest)

  pub of-assign-entry : (r : Ref Place) (mon : Name) (p : Place) (entry : Name) (q : Place) (es : Exprs Place) → Sited ms reach (told.stmt_mentions (assign_entry r mon p entry q es)) → Keeps ms (rule.stmt_names here (assign_entry r mon p entry q es))
  of-assign-entry r mon p entry q es at more rest =
      of-ref r (sited-left ms reach (told.ref_mentions r) (told.entry_mentions mon p entry q es) at) _ (of-entry mon p entry q es (sited-right ms reach (told.ref_mentions r) (told.entry_mentions mon p entry q es) at) more rest)

  pub of-assign-empty : (r : Ref Place) (c : Name) (p : Place) → Sited ms reach (told.stmt_mentions (assign_empty r c p)) → Keeps ms (rule.stmt_names here (assign_empty r c p))
  of-assign-empty r c p at more rest =
      of-ref r (sited-left ms reach (told.ref_mentions r) (told.uses wanted_is.Condition c p ∷ []) at) _ (of-condition c p (sited-right ms reach (told.ref_mentions r) (told.uses wanted_is.Condition c p ∷ []) at) more rest)

  pub of-perform : (p : Place) (name : Name) (es : Exprs Place) → Sited ms reach (told.stmt_mentions (perform p name es)) → Keeps ms (rule.stmt_names here (perform p name es))
  of-perform p name es at more rest = (λ h. of-use ms reach here.means seen wanted_is.Routine refl name p (at _ (inl refl)), of-exprs es (sited-next ms reach _ (told.exprs_mentions es) at) more rest)

  pub of-perform-entry : (p : Place) (mon entry : Name) (q : Place) (es : Exprs Place) → Sited ms reach (told.stmt_mentions (perform_entry p mon entry q es)) → Keeps ms (rule.stmt_names here (perform_entry p mon entry q es))
  of-perform-entry p mon entry q es at more rest = of-entry mon p entry q es at more rest

-- ---- expressions declare nothing

pub bare-constant : (c : Constant Place) → Bare (told.constant_mentions c)
bare-constant (literal_constant p is_minus n q) = tt
bare-constant (named_constant p is_minus name q) = (refl, tt)

pub bare-bounds : (low high : Constant Place) → Bare (told.bounds_mentions low high)
bare-bounds low high = bare-append (told.constant_mentions low) (told.constant_mentions high) (bare-constant low) (bare-constant high)

pub bare-scalar : (s : Scalar Place) → Bare (told.scalar_mentions s)
bare-scalar int = tt
bare-scalar boolean = tt
bare-scalar (subrange low high) = bare-bounds low high

pub bare-kind : (k : Kind Place) → Bare (told.kind_mentions k)
bare-kind (scalar s) = bare-scalar s
bare-kind (array low high s) = bare-append (told.bounds_mentions low high) (told.scalar_mentions s) (bare-bounds low high) (bare-scalar s)

mutual
  pub bare-expr : (e : Expr Place) → Bare (told.expr_mentions e)
  bare-expr (literal p n) = tt
  bare-expr (truth p b) = tt
  bare-expr (variable p name) = (refl, tt)
  bare-expr (element p name i) = (refl, bare-expr i)
  bare-expr (call p name es) = (refl, bare-exprs es)
  bare-expr (minus p e) = bare-expr e
  bare-expr (negation p e) = bare-expr e
  bare-expr (paren p e) = bare-expr e
  bare-expr (row e rs) = bare-append (told.expr_mentions e) (told.operands_mentions rs) (bare-expr e) (bare-operands rs)

  pub bare-exprs : (es : Exprs Place) → Bare (told.exprs_mentions es)
  bare-exprs no_exprs = tt
  bare-exprs (exprs e es) = bare-append (told.expr_mentions e) (told.exprs_mentions es) (bare-expr e) (bare-exprs es)

  pub bare-operands : (rs : Operands Place) → Bare (told.operands_mentions rs)
  bare-operands no_operands = tt
  bare-operands (operand op e rs) = bare-append (told.expr_mentions e) (told.operands_mentions rs) (bare-expr e) (bare-operands rs)

pub bare-ref : (r : Ref Place) → Bare (told.ref_mentions r)
bare-ref (whole p name) = (refl, tt)
bare-ref (part p name i) = (refl, bare-expr i)

-- ---- what reaches the names of a part, beside what reaches from around it

abbrev pub Seen : (ms outer behind some : List Mention) → Type 0
Seen ms outer behind some = (q : Place) → Mem q (places some) → view q ms ≡ outer ++ (view q some ++ behind)

-- a part of which nothing reaches the other
pub seen-left : (ms outer behind some more : List Mention) → Seen ms outer behind (some ++ more) → ((q : Place) → Mem q (places some) → view q more ≡ []) → Seen ms outer behind some
seen-left ms outer behind some more seen silent q is =
    seen q (subst (Mem q) (map-append some more) (mem-left q (places some) (places more) is))
    ∙ ap (λ v. outer ++ (v ++ behind)) (view-append q some more ∙ ap (λ v. view q some ++ v) (silent q is) ∙ append-nil (view q some))

pub seen-right : (ms outer behind some more : List Mention) → Seen ms outer behind (some ++ more) → ((q : Place) → Mem q (places more) → view q some ≡ []) → Seen ms outer behind more
seen-right ms outer behind some more seen silent q is =
    seen q (subst (Mem q) (map-append some more) (mem-right q (places some) (places more) is))
    ∙ ap (λ v. outer ++ (v ++ behind)) (view-append q some more ∙ ap (λ v. v ++ view q more) (silent q is))

pub sited-bare : (ms outer behind some : List Mention) → Within some ms → Seen ms outer behind some → Bare some → Sited ms (outer ++ behind) some
sited-bare ms outer behind some within seen bare m is = (within m is, seen m.place (mem-place m some is) ∙ ap (λ v. outer ++ (v ++ behind)) (bare-view m.place some bare))

-- ---- what is declared in statements reaches within them

last-mem : (p : Place) (ms : List Mention) → Mem (last_place p ms) (p ∷ places ms)
last-mem p [] = inl refl
last-mem p (m ∷ ms) = inr (last-mem m.place ms)

-- no place of these is behind the last
pub last-not : (p : Place) (ms : List Mention) → Rising (p ∷ places ms) → (q : Place) → Mem q (p ∷ places ms) → before (last_place p ms) q ≡ false
last-not p [] rises q (inl e) = ap (before p) (sym e) ∙ not-itself p
last-not p [] rises q (inr is) = absurd is
last-not p (m ∷ ms) rises q (inl e) = not-ahead q (last_place m.place ms) (subst (λ x. Ahead x (last_place m.place ms)) e (rises.0 (last_place m.place ms) (last-mem m.place ms)))
last-not p (m ∷ ms) rises q (inr is) = last-not m.place ms rises.1 q is

abbrev pub inner : (low high : Constant Place) → Stmts Place → List Mention
inner low high a = told.bounds_mentions low high ++ told.stmts_mentions a

abbrev pub counter : Name → Place → (low high : Constant Place) → Stmts Place → Mention
counter name q low high a = told.declares what_is.LoopVariable (record { begin = value_place high; end = last_place q (inner low high a) }) name q

-- from where and up to where something reaches that is declared
abbrev pub from_of : Option Reach → Place
from_of None = told.before_all
from_of (Some r) = r.from

abbrev pub end_of : Option Reach → Place
end_of None = told.before_all
end_of (Some r) = r.scope.end

mutual
  pub enclosed-stmt : (s : Stmt Place) → Enclosed (stmt_spots s) (told.stmt_mentions s)
  enclosed-stmt (assign r e) = bare-enclosed (stmt_spots (assign r e)) (told.stmt_mentions (assign r e)) (bare-append (told.ref_mentions r) (told.expr_mentions e) (bare-ref r) (bare-expr e))
  enclosed-stmt (assign_entry r mon p entry q es) = bare-enclosed (stmt_spots (assign_entry r mon p entry q es)) (told.stmt_mentions (assign_entry r mon p entry q es))
      (bare-append (told.ref_mentions r) (told.entry_mentions mon p entry q es) (bare-ref r) (refl, (refl, bare-exprs es)))
  enclosed-stmt (assign_empty r c p) = bare-enclosed (stmt_spots (assign_empty r c p)) (told.stmt_mentions (assign_empty r c p)) (bare-append (told.ref_mentions r) (told.uses wanted_is.Condition c p ∷ []) (bare-ref r) (refl, tt))
  enclosed-stmt (perform p name es) = bare-enclosed (stmt_spots (perform p name es)) (told.stmt_mentions (perform p name es)) (refl, bare-exprs es)
  enclosed-stmt (perform_entry p mon entry q es) = bare-enclosed (stmt_spots (perform_entry p mon entry q es)) (told.stmt_mentions (perform_entry p mon entry q es)) (refl, (refl, bare-exprs es))
  enclosed-stmt (when p e a) = enclosed-append (stmt_spots (when p e a)) (told.expr_mentions e) (told.stmts_mentions a)
      (bare-enclosed (stmt_spots (when p e a)) (told.expr_mentions e) (bare-expr e))
      (enclosed-more (stmts_spots a) (stmt_spots (when p e a)) (told.stmts_mentions a) (λ x is. mem-right x (places (told.expr_mentions e)) (stmts_spots a) is) (enclosed-stmts a))
  enclosed-stmt (when_else p e a b) = enclosed-append (stmt_spots (when_else p e a b)) (told.expr_mentions e) (told.stmts_mentions a ++ told.stmts_mentions b)
      (bare-enclosed (stmt_spots (when_else p e a b)) (told.expr_mentions e) (bare-expr e))
      (enclosed-append (stmt_spots (when_else p e a b)) (told.stmts_mentions a) (told.stmts_mentions b)
      (enclosed-more (stmts_spots a) (stmt_spots (when_else p e a b)) (told.stmts_mentions a) (λ x is. mem-right x (places (told.expr_mentions e)) (stmts_spots a ++ stmts_spots b) (mem-left x (stmts_spots a) (stmts_spots b) is)) (enclosed-stmts a))
      (enclosed-more (stmts_spots b) (stmt_spots (when_else p e a b)) (told.stmts_mentions b) (λ x is. mem-right x (places (told.expr_mentions e)) (stmts_spots a ++ stmts_spots b) (mem-right x (stmts_spots a) (stmts_spots b) is)) (enclosed-stmts b)))
  enclosed-stmt (loop p name q low high a) =
      let all : List Place = stmt_spots (loop p name q low high a) in
      let at_value : Mem (value_place high) all = inr (mem-right (value_place high) (places (told.constant_mentions low)) (value_place high ∷ stmts_spots a) (inl refl)) in
      let at_end : Mem (last_place q (inner low high a)) all = part-mem (places (told.stmt_mentions (loop p name q low high a))) all (last_place q (inner low high a)) (part-stmt (loop p name q low high a)) (last-mem q (inner low high a)) in (
        λ r e. (subst (λ o. Mem (from_of o) all) e at_value, subst (λ o. Mem (end_of o) all) e at_end),
        enclosed-append all (told.bounds_mentions low high) (told.stmts_mentions a) (bare-enclosed all (told.bounds_mentions low high) (bare-bounds low high))
            (enclosed-more (stmts_spots a) all (told.stmts_mentions a) (λ x is. inr (mem-right x (places (told.constant_mentions low)) (value_place high ∷ stmts_spots a) (inr is))) (enclosed-stmts a)),
      )
  enclosed-stmt (exit_when p e) = bare-enclosed (stmt_spots (exit_when p e)) (told.stmt_mentions (exit_when p e)) (bare-expr e)
  enclosed-stmt (get p dev q r) = bare-enclosed (stmt_spots (get p dev q r)) (told.stmt_mentions (get p dev q r)) (refl, bare-ref r)
  enclosed-stmt (put p dev q e) = bare-enclosed (stmt_spots (put p dev q e)) (told.stmt_mentions (put p dev q e)) (refl, bare-expr e)
  enclosed-stmt (wait p c q limit number) = bare-enclosed (stmt_spots (wait p c q limit number)) (told.stmt_mentions (wait p c q limit number)) (refl, bare-bounds limit number)
  enclosed-stmt (signal p c q) = bare-enclosed (stmt_spots (signal p c q)) (told.stmt_mentions (signal p c q)) (refl, tt)
  enclosed-stmt (broadcast p c q) = bare-enclosed (stmt_spots (broadcast p c q)) (told.stmt_mentions (broadcast p c q)) (refl, tt)
  enclosed-stmt (except p number) = bare-enclosed (stmt_spots (except p number)) (told.stmt_mentions (except p number)) (bare-constant number)
  enclosed-stmt (assert p e) = bare-enclosed (stmt_spots (assert p e)) (told.stmt_mentions (assert p e)) (bare-expr e)

  pub enclosed-stmts : (ss : Stmts Place) → Enclosed (stmts_spots ss) (told.stmts_mentions ss)
  enclosed-stmts no_stmts = tt
  enclosed-stmts (stmts s ss) = enclosed-append (stmts_spots (stmts s ss)) (told.stmt_mentions s) (told.stmts_mentions ss)
      (enclosed-more (stmt_spots s) (stmts_spots (stmts s ss)) (told.stmt_mentions s) (λ x is. mem-left x (stmt_spots s) (stmts_spots ss) is) (enclosed-stmt s))
      (enclosed-more (stmts_spots ss) (stmts_spots (stmts s ss)) (told.stmts_mentions ss) (λ x is. mem-right x (stmt_spots s) (stmts_spots ss) is) (enclosed-stmts ss))
