-- What names mean in statements: a loop's variable reaches in its statements alone.
use Rattle.std.proofs.Common.{◌≡◌, false, not, List, [], ◌∷◌, ◌++◌, is_some, ◌⊎◌, inl, inr, refl, ap, sym, ◌∙◌, subst, append_assoc}
use Rattle.std.proofs.lemmas.Bool.{and_from, and_left, not_from_false}
use Rattle.syntax_tree.specs.Plain.{Name}
use Rattle.syntax_tree.specs.Placed.{Constant, Stmt, assign, assign_entry, assign_empty, perform, perform_entry, when, when_else, loop, exit_when, get, put, wait, signal, broadcast, except, assert, Stmts, no_stmts, stmts}
use Rattle.syntax_tree.specs.declared.place.Place.{Place}
use Rattle.static_names.specs.Reach.{Site, inside}
use Rattle.static_names.specs.Occurrences as rule
use Rattle.message_names.specs.declared.role.Wanted.TheVariants as wanted_is
use Rattle.message_names.specs.Mentions as told
use Rattle.message_names.specs.Mentions.{Mention, last_place, value_place}
use Rattle.message_names.specs.Reach.{before}
use Rattle.message_names.proofs.Closing.{Within}
use Rattle.message_names.proofs.Order.{Ahead, Mem, Rising, not-ahead, not-itself}
use Rattle.message_names.proofs.Others.{counted, some-seen, taken-as}
use Rattle.message_names.proofs.Parts.{mem-left, mem-right, mem-place, part-mem, part-rises, part-value, part-stmt, part-stmts}
use Rattle.message_names.proofs.Spots.{places, map-append, stmt_spots, stmts_spots}
use Rattle.message_names.proofs.Uses.{Keeps, of-constant, of-bounds, of-expr, of-get, of-put, of-condition, of-wait, of-assign, of-assign-entry, of-assign-empty, of-perform, of-perform-entry, bare-constant, bare-bounds, bare-expr, bare-exprs, bare-ref, Seen, seen-left, seen-right, sited-bare, last-not, inner, counter, enclosed-stmt, enclosed-stmts}
use Rattle.message_names.proofs.Views.{mem-split, rises-left, rises-right, rises-apart, view, view-append, not-seen, is-seen, bare-append, bare-view, silent-before, silent-behind, begins, Under, Sees, sees-within}

-- the scopes of these begin before each of the places
abbrev pub UnderAll : List Mention → List Place → Type 0
UnderAll ms ps = (q : Place) → Mem q ps → Under q ms

pub under-append : (q : Place) (ms ns : List Mention) → Under q ms → Under q ns → Under q (ms ++ ns)
under-append q ms ns g h m is = by (mem-split m ms ns is)
  where
    by : Mem m ms ⊎ Mem m ns → Ahead (begins m) q
    by (inl at) = g m at
    by (inr at) = h m at

pub under-left : (q : Place) (ms ns : List Mention) → Under q (ms ++ ns) → Under q ms
under-left q ms ns h m is = h m (mem-left m ms ns is)

pub under-right : (q : Place) (ms ns : List Mention) → Under q (ms ++ ns) → Under q ns
under-right q ms ns h m is = h m (mem-right m ms ns is)

-- the only one of its scope
pub only : (i : Mention) (b : Place) → begins i ≡ b → (m : Mention) → Mem m (i ∷ []) → begins m ≡ b
only i b e m (inl at) = sym (ap begins at) ∙ e
only i b e m (inr at) = absurd at

-- ---- a loop

module _ (name : Name) (q : Place) (low high : Constant Place) (a : Stmts Place) (p : Place) (rises : Rising (stmt_spots (loop p name q low high a))) where
  abbrev limit : Place
  limit = value_place high

  abbrev lows : List Place
  lows = places (told.constant_mentions low)

  -- a place of the bounds is not behind the last of them, and before the statements
  bounds-first : (x : Place) → Mem x (places (told.bounds_mentions low high)) → (before limit x ≡ false) × ((y : Place) → Mem y (stmts_spots a) → Ahead x y)
  bounds-first x is = by (mem-split x lows (places (told.constant_mentions high)) (subst (Mem x) (sym (map-append (told.constant_mentions low) (told.constant_mentions high))) is))
    where
      last : Mem x (limit ∷ []) → (before limit x ≡ false) × ((y : Place) → Mem y (stmts_spots a) → Ahead x y)
      last (inl e) = (ap (before limit) (sym e) ∙ not-itself limit, λ y at. subst (λ z. Ahead z y) e ((rises-right lows (limit ∷ stmts_spots a) rises.1).0 y at))
      last (inr h) = absurd h

      by : Mem x lows ⊎ Mem x (places (told.constant_mentions high)) → (before limit x ≡ false) × ((y : Place) → Mem y (stmts_spots a) → Ahead x y)
      by (inl at) = (not-ahead x limit (rises-apart lows (limit ∷ stmts_spots a) rises.1 x limit at (inl refl)), λ y h. rises-apart lows (limit ∷ stmts_spots a) rises.1 x y at (inr h))
      by (inr at) = last (part-mem (places (told.constant_mentions high)) (limit ∷ []) x (part-value high) at)

  -- nothing of the loop reaches its bounds
  pub bounds-view : (x : Place) → Mem x (places (told.bounds_mentions low high)) → view x (counter name q low high a ∷ inner low high a) ≡ []
  bounds-view x is =
      not-seen (counter name q low high a) x (inner low high a) (and_left (before limit x) (not (before (last_place q (inner low high a)) x)) (bounds-first x is).0)
      ∙ view-append x (told.bounds_mentions low high) (told.stmts_mentions a)
      ∙ ap (λ v. v ++ view x (told.stmts_mentions a)) (bare-view x (told.bounds_mentions low high) (bare-bounds low high))
      ∙ silent-before x (stmts_spots a) (told.stmts_mentions a) (enclosed-stmts a) (bounds-first x is).1

  -- nor its variable
  pub variable-view : view q (counter name q low high a ∷ inner low high a) ≡ []
  variable-view =
      not-seen (counter name q low high a) q (inner low high a) (and_left (before limit q) (not (before (last_place q (inner low high a)) q)) (not-ahead q limit (rises.0 limit (mem-right limit lows (limit ∷ stmts_spots a) (inl refl)))))
      ∙ view-append q (told.bounds_mentions low high) (told.stmts_mentions a)
      ∙ ap (λ v. v ++ view q (told.stmts_mentions a)) (bare-view q (told.bounds_mentions low high) (bare-bounds low high))
      ∙ silent-before q (stmts_spots a) (told.stmts_mentions a) (enclosed-stmts a) (λ y at. rises.0 y (mem-right y lows (limit ∷ stmts_spots a) (inr at)))

  pub limit-first : (y : Place) → Mem y (stmts_spots a) → Ahead limit y
  limit-first y at = (rises-right lows (limit ∷ stmts_spots a) rises.1).0 y at

  -- its variable reaches its statements
  pub body-view : (x : Place) → Mem x (places (told.stmts_mentions a)) → view x (counter name q low high a ∷ inner low high a) ≡ counter name q low high a ∷ view x (told.stmts_mentions a)
  body-view x is =
      is-seen (counter name q low high a) x (inner low high a) (and_from (before limit x) (not (before (last_place q (inner low high a)) x))
      (limit-first x (part-mem (places (told.stmts_mentions a)) (stmts_spots a) x (part-stmts a) is))
      (not_from_false (before (last_place q (inner low high a)) x) (last-not q (inner low high a)
      (part-rises (places (told.stmt_mentions (loop p name q low high a))) (stmt_spots (loop p name q low high a)) (part-stmt (loop p name q low high a)) rises) x
      (inr (subst (Mem x) (map-append (told.bounds_mentions low high) (told.stmts_mentions a)) (mem-right x (places (told.bounds_mentions low high)) (places (told.stmts_mentions a)) is))))))
      ∙ ap (λ l. counter name q low high a ∷ l) (view-append x (told.bounds_mentions low high) (told.stmts_mentions a) ∙ ap (λ v. v ++ view x (told.stmts_mentions a)) (bare-view x (told.bounds_mentions low high) (bare-bounds low high)))

-- ---- statements

mutual
  pub of-stmt : (ms outer behind : List Mention) (here : Site) → Sees (outer ++ behind) here.means → (s : Stmt Place) → Rising (stmt_spots s) → UnderAll (outer ++ behind) (stmt_spots s)
      → Within (told.stmt_mentions s) ms → Seen ms outer behind (told.stmt_mentions s) → Keeps ms (rule.stmt_names here s)
  of-stmt ms outer behind here means (assign r e) rises under within seen more rest =
      of-assign ms (outer ++ behind) here means r e (sited-bare ms outer behind (told.stmt_mentions (assign r e)) within seen (bare-append (told.ref_mentions r) (told.expr_mentions e) (bare-ref r) (bare-expr e))) more rest
  of-stmt ms outer behind here means (assign_entry r mon p entry q es) rises under within seen more rest =
      of-assign-entry ms (outer ++ behind) here means r mon p entry q es
      (sited-bare ms outer behind (told.stmt_mentions (assign_entry r mon p entry q es)) within seen (bare-append (told.ref_mentions r) (told.entry_mentions mon p entry q es) (bare-ref r) (refl, (refl, bare-exprs es)))) more rest
  of-stmt ms outer behind here means (assign_empty r c p) rises under within seen more rest =
      of-assign-empty ms (outer ++ behind) here means r c p
      (sited-bare ms outer behind (told.stmt_mentions (assign_empty r c p)) within seen (bare-append (told.ref_mentions r) (told.uses wanted_is.Condition c p ∷ []) (bare-ref r) (refl, tt))) more rest
  of-stmt ms outer behind here means (perform p name es) rises under within seen more rest =
      of-perform ms (outer ++ behind) here means p name es (sited-bare ms outer behind (told.stmt_mentions (perform p name es)) within seen (refl, bare-exprs es)) more rest
  of-stmt ms outer behind here means (perform_entry p mon entry q es) rises under within seen more rest =
      of-perform-entry ms (outer ++ behind) here means p mon entry q es (sited-bare ms outer behind (told.stmt_mentions (perform_entry p mon entry q es)) within seen (refl, (refl, bare-exprs es))) more rest
  of-stmt ms outer behind here means (when p e a) rises under within seen more rest =
      let first : List Mention = told.expr_mentions e in
      let then : List Mention = told.stmts_mentions a in
      of-expr ms (outer ++ behind) here means e
      (sited-bare ms outer behind first (λ m is. within m (mem-left m first then is))
      (seen-left ms outer behind first then seen (λ q is. silent-before q (stmts_spots a) then (enclosed-stmts a) (λ x at. rises-apart (places first) (stmts_spots a) rises q x is at))) (bare-expr e)) _
      (of-stmts ms outer behind here means a (rises-right (places first) (stmts_spots a) rises) (λ q is. under q (mem-right q (places first) (stmts_spots a) is)) (λ m is. within m (mem-right m first then is))
      (seen-right ms outer behind first then seen (λ q is. bare-view q first (bare-expr e))) more rest)
  of-stmt ms outer behind here means (when_else p e a b) rises under within seen more rest =
      let first : List Mention = told.expr_mentions e in
      let then : List Mention = told.stmts_mentions a in
      let other : List Mention = told.stmts_mentions b in
      let spots : List Place = stmts_spots a ++ stmts_spots b in
      let rising : Rising spots = rises-right (places first) spots rises in
      let later : Seen ms outer behind (then ++ other) = seen-right ms outer behind first (then ++ other) seen (λ q is. bare-view q first (bare-expr e)) in
      of-expr ms (outer ++ behind) here means e
      (sited-bare ms outer behind first (λ m is. within m (mem-left m first (then ++ other) is))
      (seen-left ms outer behind first (then ++ other) seen (λ q is.
      view-append q then other
      ∙ ap (λ v. v ++ view q other) (silent-before q (stmts_spots a) then (enclosed-stmts a) (λ x at. rises-apart (places first) spots rises q x is (mem-left x (stmts_spots a) (stmts_spots b) at)))
      ∙ silent-before q (stmts_spots b) other (enclosed-stmts b) (λ x at. rises-apart (places first) spots rises q x is (mem-right x (stmts_spots a) (stmts_spots b) at)))) (bare-expr e)) _
      (of-stmts ms outer behind here means a (rises-left (stmts_spots a) (stmts_spots b) rising) (λ q is. under q (mem-right q (places first) spots (mem-left q (stmts_spots a) (stmts_spots b) is)))
      (λ m is. within m (mem-right m first (then ++ other) (mem-left m then other is)))
      (seen-left ms outer behind then other later (λ q is. silent-before q (stmts_spots b) other (enclosed-stmts b) (λ x at. rises-apart (stmts_spots a) (stmts_spots b) rising q x (part-mem (places then) (stmts_spots a) q (part-stmts a) is) at))) _
      (of-stmts ms outer behind here means b (rises-right (stmts_spots a) (stmts_spots b) rising) (λ q is. under q (mem-right q (places first) spots (mem-right q (stmts_spots a) (stmts_spots b) is)))
      (λ m is. within m (mem-right m first (then ++ other) (mem-right m then other is)))
      (seen-right ms outer behind then other later (λ q is. silent-behind q (stmts_spots a) then (enclosed-stmts a) (λ x at. rises-apart (stmts_spots a) (stmts_spots b) rising x q at (part-mem (places other) (stmts_spots b) q (part-stmts b) is)))) more rest))
  of-stmt ms outer behind here means (loop p name q low high a) rises under within seen more rest =
      let i : Mention = counter name q low high a in
      let bounds : List Mention = told.bounds_mentions low high in
      let body : List Mention = told.stmts_mentions a in
      let limit : Place = value_place high in
      let lows : List Place = places (told.constant_mentions low) in
      let at_limit : Under limit (outer ++ behind) = under limit (inr (mem-right limit lows (limit ∷ stmts_spots a) (inl refl))) in
      let mean : Sees (outer ++ (i ∷ behind)) (inside (rule.loop_name name q ∷ []) here).means =
      sees-within limit outer (i ∷ []) behind (rule.loop_name name q ∷ []) here.means (under-left limit outer behind at_limit) (under-right limit outer behind at_limit) (only i limit refl) (refl, refl, tt) means in (
        taken-as ms i name q _ refl refl (within i (inl refl)) (_, refl)
            (ap is_some (counted ms outer [] [] behind limit q name (seen q (inl refl) ∙ ap (λ v. outer ++ (v ++ behind)) (variable-view name q low high a p rises))
            (under-left limit outer behind at_limit) (under-right limit outer behind at_limit) (λ m is. absurd is) (λ m is. absurd is) (λ m is. absurd is)) ∙ some-seen (outer ++ behind) here.means means name),
        of-bounds ms (outer ++ behind) here means low high (λ m is. (
          within m (inr (mem-left m bounds body is)),
          seen m.place (inr (subst (Mem m.place) (map-append bounds body) (mem-left m.place (places bounds) (places body) (mem-place m bounds is)))) ∙ ap (λ v. outer ++ (v ++ behind)) (bounds-view name q low high a p rises m.place (mem-place m bounds is)),
        )) _
            (of-stmts ms (outer ++ i ∷ []) behind (inside (rule.loop_name name q ∷ []) here) (subst (λ l. Sees l (inside (rule.loop_name name q ∷ []) here).means) (sym (append_assoc outer (i ∷ []) behind)) mean) a
            (rises-right lows (limit ∷ stmts_spots a) rises.1).1
            (λ x is. let all = under x (inr (mem-right x lows (limit ∷ stmts_spots a) (inr is))) in
            under-append x (outer ++ i ∷ []) behind (under-append x outer (i ∷ []) (under-left x outer behind all) (λ m at. subst (λ y. Ahead y x) (sym (only i limit refl m at)) (limit-first name q low high a p rises x is))) (under-right x outer behind all))
            (λ m is. within m (inr (mem-right m bounds body is)))
            (λ x is. seen x (inr (subst (Mem x) (map-append bounds body) (mem-right x (places bounds) (places body) is))) ∙ ap (λ v. outer ++ (v ++ behind)) (body-view name q low high a p rises x is) ∙ sym (append_assoc outer (i ∷ []) (view x body ++ behind)))
            more rest),
      )
  of-stmt ms outer behind here means (exit_when p e) rises under within seen more rest = of-expr ms (outer ++ behind) here means e (sited-bare ms outer behind (told.expr_mentions e) within seen (bare-expr e)) more rest
  of-stmt ms outer behind here means (get p dev q r) rises under within seen more rest =
      of-get ms (outer ++ behind) here means dev q r p (sited-bare ms outer behind (told.stmt_mentions (get p dev q r)) within seen (refl, bare-ref r)) more rest
  of-stmt ms outer behind here means (put p dev q e) rises under within seen more rest =
      of-put ms (outer ++ behind) here means dev q e p (sited-bare ms outer behind (told.stmt_mentions (put p dev q e)) within seen (refl, bare-expr e)) more rest
  of-stmt ms outer behind here means (wait p c q limit number) rises under within seen more rest =
      of-wait ms (outer ++ behind) here means p c q limit number (sited-bare ms outer behind (told.stmt_mentions (wait p c q limit number)) within seen (refl, bare-bounds limit number)) more rest
  of-stmt ms outer behind here means (signal p c q) rises under within seen more rest =
      of-condition ms (outer ++ behind) here means c q (sited-bare ms outer behind (told.stmt_mentions (signal p c q)) within seen (refl, tt)) more rest
  of-stmt ms outer behind here means (broadcast p c q) rises under within seen more rest =
      of-condition ms (outer ++ behind) here means c q (sited-bare ms outer behind (told.stmt_mentions (broadcast p c q)) within seen (refl, tt)) more rest
  of-stmt ms outer behind here means (except p number) rises under within seen more rest =
      of-constant ms (outer ++ behind) here means number (sited-bare ms outer behind (told.constant_mentions number) within seen (bare-constant number)) more rest
  of-stmt ms outer behind here means (assert p e) rises under within seen more rest = of-expr ms (outer ++ behind) here means e (sited-bare ms outer behind (told.expr_mentions e) within seen (bare-expr e)) more rest

  pub of-stmts : (ms outer behind : List Mention) (here : Site) → Sees (outer ++ behind) here.means → (ss : Stmts Place) → Rising (stmts_spots ss) → UnderAll (outer ++ behind) (stmts_spots ss)
      → Within (told.stmts_mentions ss) ms → Seen ms outer behind (told.stmts_mentions ss) → Keeps ms (rule.stmts_names here ss)
  of-stmts ms outer behind here means no_stmts rises under within seen more rest = rest
  of-stmts ms outer behind here means (stmts s ss) rises under within seen more rest =
      let one : List Mention = told.stmt_mentions s in
      let others : List Mention = told.stmts_mentions ss in
      of-stmt ms outer behind here means s (rises-left (stmt_spots s) (stmts_spots ss) rises) (λ q is. under q (mem-left q (stmt_spots s) (stmts_spots ss) is)) (λ m is. within m (mem-left m one others is))
      (seen-left ms outer behind one others seen (λ q is. silent-before q (stmts_spots ss) others (enclosed-stmts ss) (λ x at. rises-apart (stmt_spots s) (stmts_spots ss) rises q x (part-mem (places one) (stmt_spots s) q (part-stmt s) is) at))) _
      (of-stmts ms outer behind here means ss (rises-right (stmt_spots s) (stmts_spots ss) rises) (λ q is. under q (mem-right q (stmt_spots s) (stmts_spots ss) is)) (λ m is. within m (mem-right m one others is))
      (seen-right ms outer behind one others seen (λ q is. silent-behind q (stmt_spots s) one (enclosed-stmt s) (λ x at. rises-apart (stmt_spots s) (stmts_spots ss) rises x q at (part-mem (places others) (stmts_spots ss) q (part-stmts ss) is)))) more rest)
