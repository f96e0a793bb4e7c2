-- What names mean in routines: their parameters and variables reach in all of them.
use Rattle.std.proofs.Common.{◌≡◌, true, false, not, List, [], ◌∷◌, ◌++◌, map, Option, Some, None, ◌⊎◌, inl, inr, refl, ap, sym, ◌∙◌, subst, append_assoc, append-nil}
use Rattle.std.specs.Prelude.{flat_map}
use Rattle.std.specs.Option.{option_map_or}
use Rattle.std.proofs.lemmas.Bool.{and_from, not_from_false}
use Rattle.syntax_tree.specs.Plain.{Name}
use Rattle.syntax_tree.specs.Placed.{Scalar, Expr, Var, Param, Routine}
use Rattle.syntax_tree.specs.declared.place.Place.{Place}
use Rattle.static_names.specs.Reach.{Site, inside}
use Rattle.static_names.specs.Occurrences as rule
use Rattle.static_names.specs.Occurrences.{Occurrence}
use Rattle.message_names.specs.declared.role.Reach.{Reach}
use Rattle.message_names.specs.declared.role.Role.TheVariants as role_is
use Rattle.message_names.specs.declared.role.Scope.{Scope}
use Rattle.message_names.specs.declared.role.What.{What}
use Rattle.message_names.specs.declared.role.What.TheVariants as what_is
use Rattle.message_names.specs.declared.sight.Sight.TheVariants as sight_is
use Rattle.message_names.specs.Mentions as told
use Rattle.message_names.specs.Mentions.{Mention, last_place}
use Rattle.message_names.specs.Reach.{before, sees}
use Rattle.message_names.proofs.Bodies.{UnderAll, under-append, under-left, under-right, of-stmts}
use Rattle.message_names.proofs.Closing.{Within}
use Rattle.message_names.proofs.Order.{Ahead, Mem, Rising}
use Rattle.message_names.proofs.Others.{OwnAt, of-declarations}
use Rattle.message_names.proofs.Parts.{Part, part-behind, part-front, part-joined, mem-left, mem-right, mem-place, part-mem, part-rises, part-flat, part-var, part-param, part-routine}
use Rattle.message_names.proofs.Spots.{places, stmts_spots, var_spots, param_spots, optional_places, routine_spots}
use Rattle.message_names.proofs.Uses.{Keeps, Sited, of-scalar, of-kind, of-expr, bare-scalar, bare-kind, bare-expr, Seen, from_of, end_of, last-not, enclosed-stmts}
use Rattle.message_names.proofs.Views.{mem-split, rises-left, rises-right, rises-apart, view, view-append, is-seen, Bare, bare-append, bare-view, Enclosed, enclosed-append, enclosed-more, bare-enclosed, silent-before, silent-behind, begins, Under, Begin, Sees, Ties, ties-append, sees-within}

-- ---- scopes

-- what is declared in the scope reaches the place
abbrev pub Reached : Scope → Place → Type 0
Reached own q = Ahead own.begin q × (before own.end q ≡ false)

pub own-seen : (what : What) (own : Scope) (name : Name) (p q : Place) → Reached own q → sees sight_is.Around q (told.declares what own name p) ≡ true
own-seen what own name p q at = and_from (before own.begin q) (not (before own.end q)) at.0 (not_from_false (before own.end q) at.1)

abbrev pub var_declares : Scope → Var Place → Mention
var_declares own v = told.declares what_is.Variable own v.name v.place

abbrev pub param_declares : Scope → Param Place → Mention
param_declares own v = told.declares what_is.Parameter own v.name v.place

pub view-vars : (own : Scope) (q : Place) → Reached own q → (vs : List (Var Place)) → view q (flat_map (told.var_mentions own) vs) ≡ map (var_declares own) vs
view-vars own q at [] = refl
view-vars own q at (v ∷ vs) =
    is-seen (var_declares own v) q (told.kind_mentions v.kind ++ flat_map (told.var_mentions own) vs) (own-seen what_is.Variable own v.name v.place q at)
    ∙ ap (λ l. var_declares own v ∷ l) (view-append q (told.kind_mentions v.kind) (flat_map (told.var_mentions own) vs)
    ∙ ap (λ l. l ++ view q (flat_map (told.var_mentions own) vs)) (bare-view q (told.kind_mentions v.kind) (bare-kind v.kind)) ∙ view-vars own q at vs)

view-params : (own : Scope) (q : Place) → Reached own q → (vs : List (Param Place)) → view q (flat_map (told.param_mentions own) vs) ≡ map (param_declares own) vs
view-params own q at [] = refl
view-params own q at (v ∷ vs) =
    is-seen (param_declares own v) q (told.scalar_mentions v.kind ++ flat_map (told.param_mentions own) vs) (own-seen what_is.Parameter own v.name v.place q at)
    ∙ ap (λ l. param_declares own v ∷ l) (view-append q (told.scalar_mentions v.kind) (flat_map (told.param_mentions own) vs)
    ∙ ap (λ l. l ++ view q (flat_map (told.param_mentions own) vs)) (bare-view q (told.scalar_mentions v.kind) (bare-scalar v.kind)) ∙ view-params own q at vs)

pub ties-vars : (own : Scope) (vs : List (Var Place)) → Ties (map (var_declares own) vs) (map rule.var_name vs)
ties-vars own [] = tt
ties-vars own (v ∷ vs) = (refl, refl, ties-vars own vs)

ties-params : (own : Scope) (vs : List (Param Place)) → Ties (map (param_declares own) vs) (map rule.param_name vs)
ties-params own [] = tt
ties-params own (v ∷ vs) = (refl, refl, ties-params own vs)

pub begin-map : {X : Type 0} (b : Place) (f : X → Mention) → ((x : X) → begins (f x) ≡ b) → (xs : List X) → Begin b (map f xs)
begin-map b f each [] m is = absurd is
begin-map b f each (x ∷ xs) m (inl e) = sym (ap begins e) ∙ each x
begin-map b f each (x ∷ xs) m (inr is) = begin-map b f each xs m is

pub begin-append : (b : Place) (ms ns : List Mention) → Begin b ms → Begin b ns → Begin b (ms ++ ns)
begin-append b ms ns g h m is = by (mem-split m ms ns is)
  where
    by : Mem m ms ⊎ Mem m ns → begins m ≡ b
    by (inl at) = g m at
    by (inr at) = h m at

pub begin-under : (b q : Place) (ms : List Mention) → Begin b ms → Ahead b q → Under q ms
begin-under b q ms own at m is = subst (λ x. Ahead x q) (sym (own m is)) at

pub of-vars : (ms reach : List Mention) (own : Scope) (here : Site) → Sees reach here.means → (vs : List (Var Place)) → Sited ms reach (flat_map (told.var_mentions own) vs) → Keeps ms (rule.vars_names here vs)
of-vars ms reach own here means [] at more rest = rest
of-vars ms reach own here means (v ∷ vs) at more rest =
    let kinds : List Mention = told.kind_mentions v.kind in
    let others : List Mention = flat_map (told.var_mentions own) vs in
    of-kind ms reach here means v.kind (λ m is. at m (inr (mem-left m kinds others is))) _ (of-vars ms reach own here means vs (λ m is. at m (inr (mem-right m kinds others is))) more rest)

of-params : (ms reach : List Mention) (own : Scope) (here : Site) → Sees reach here.means → (vs : List (Param Place)) → Sited ms reach (flat_map (told.param_mentions own) vs) → Keeps ms (rule.params_names here vs)
of-params ms reach own here means [] at more rest = rest
of-params ms reach own here means (v ∷ vs) at more rest =
    let kinds : List Mention = told.scalar_mentions v.kind in
    let others : List Mention = flat_map (told.param_mentions own) vs in
    of-scalar ms reach here means v.kind (λ m is. at m (inr (mem-left m kinds others is))) _ (of-params ms reach own here means vs (λ m is. at m (inr (mem-right m kinds others is))) more rest)

pub of-optional : {X : Type 0} (ms reach : List Mention) (names : X → List Occurrence → List Occurrence) (mentions : X → List Mention) → ((x : X) → Sited ms reach (mentions x) → Keeps ms (names x))
    → (x : Option X) → Sited ms reach (option_map_or mentions x []) → Keeps ms (rule.optional_names names x)
of-optional ms reach names mentions each None at more rest = rest
of-optional ms reach names mentions each (Some x) at more rest = each x at more rest

-- ---- the declarations of a scope among its names

abbrev pub Declaring : Mention → Type 0
Declaring m = (r : Reach) × (m.role ≡ role_is.Declares r)

pub declaring-map : {X : Type 0} (f : X → Mention) → ((x : X) → Declaring (f x)) → (xs : List X) → (m : Mention) → Mem m (map f xs) → Declaring m
declaring-map f each [] m is = absurd is
declaring-map f each (x ∷ xs) m (inl e) = let d = each x in (d.0, sym (ap (λ y. y.role) e) ∙ d.1)
declaring-map f each (x ∷ xs) m (inr is) = declaring-map f each xs m is

pub mem-vars : (own : Scope) (m : Mention) (vs : List (Var Place)) → Mem m (map (var_declares own) vs) → Mem m (flat_map (told.var_mentions own) vs)
mem-vars own m [] is = absurd is
mem-vars own m (v ∷ vs) (inl e) = inl e
mem-vars own m (v ∷ vs) (inr is) = inr (mem-right m (told.kind_mentions v.kind) _ (mem-vars own m vs is))

mem-params : (own : Scope) (m : Mention) (vs : List (Param Place)) → Mem m (map (param_declares own) vs) → Mem m (flat_map (told.param_mentions own) vs)
mem-params own m [] is = absurd is
mem-params own m (v ∷ vs) (inl e) = inl e
mem-params own m (v ∷ vs) (inr is) = inr (mem-right m (told.scalar_mentions v.kind) _ (mem-params own m vs is))

pub part-own-vars : (own : Scope) (vs : List (Var Place)) → Part (places (map (var_declares own) vs)) (flat_map var_spots vs)
part-own-vars own [] = tt
part-own-vars own (v ∷ vs) = inl (refl, part-behind (places (told.kind_mentions v.kind)) (places (map (var_declares own) vs)) (flat_map var_spots vs) (part-own-vars own vs))

part-own-params : (own : Scope) (vs : List (Param Place)) → Part (places (map (param_declares own) vs)) (flat_map param_spots vs)
part-own-params own [] = tt
part-own-params own (v ∷ vs) = inl (refl, part-behind (places (told.scalar_mentions v.kind)) (places (map (param_declares own) vs)) (flat_map param_spots vs) (part-own-params own vs))

pub bare-result : (s : Option (Scalar Place)) → Bare (option_map_or told.scalar_mentions s [])
bare-result None = tt
bare-result (Some s) = bare-scalar s

pub bare-value : (e : Option (Expr Place)) → Bare (option_map_or told.expr_mentions e [])
bare-value None = tt
bare-value (Some e) = bare-expr e

-- what a scope of these places declares
pub enclosed-vars : (ps : List Place) (own : Scope) → Mem own.begin ps → Mem own.end ps → (vs : List (Var Place)) → Enclosed ps (flat_map (told.var_mentions own) vs)
enclosed-vars ps own begin end [] = tt
enclosed-vars ps own begin end (v ∷ vs) = (
  λ r e. (subst (λ o. Mem (from_of o) ps) e begin, subst (λ o. Mem (end_of o) ps) e end),
  enclosed-append ps (told.kind_mentions v.kind) _ (bare-enclosed ps (told.kind_mentions v.kind) (bare-kind v.kind)) (enclosed-vars ps own begin end vs),
)

enclosed-params : (ps : List Place) (own : Scope) → Mem own.begin ps → Mem own.end ps → (vs : List (Param Place)) → Enclosed ps (flat_map (told.param_mentions own) vs)
enclosed-params ps own begin end [] = tt
enclosed-params ps own begin end (v ∷ vs) = (
  λ r e. (subst (λ o. Mem (from_of o) ps) e begin, subst (λ o. Mem (end_of o) ps) e end),
  enclosed-append ps (told.scalar_mentions v.kind) _ (bare-enclosed ps (told.scalar_mentions v.kind) (bare-scalar v.kind)) (enclosed-params ps own begin end vs),
)

-- the last place of two lists is that of the other
pub last-over : (p : Place) (ms ns : List Mention) (c : Place) → ((q : Place) → last_place q ns ≡ c) → last_place p (ms ++ ns) ≡ c
last-over p [] ns c h = h p
last-over p (m ∷ ms) ns c h = last-over m.place ms ns c h

pub places-within : (some all : List Mention) → Within some all → (q : Place) → Mem q (places some) → Mem q (places all)
places-within [] all h q is = absurd is
places-within (m ∷ some) all h q (inl e) = subst (λ x. Mem x (places all)) e (mem-place m all (h m (inl refl)))
places-within (m ∷ some) all h q (inr is) = places-within some all (λ n at. h n (inr at)) q is

-- ---- a routine, part by part

module _ (r : Routine Place) where
  abbrev pub own_scope : Scope
  own_scope = told.scope_from r.place r.close_place

  abbrev the_params : List Mention
  the_params = flat_map (told.param_mentions own_scope) r.params

  abbrev the_result : List Mention
  the_result = option_map_or told.scalar_mentions r.result []

  abbrev the_vars : List Mention
  the_vars = flat_map (told.var_mentions own_scope) r.vars

  abbrev the_body : List Mention
  the_body = told.stmts_mentions r.body

  abbrev the_end : List Mention
  the_end = option_map_or told.expr_mentions r.value [] ++ told.closes r.close r.close_place r.place ∷ []

  abbrev own_params : List Mention
  own_params = map (param_declares own_scope) r.params

  abbrev own_vars : List Mention
  own_vars = map (var_declares own_scope) r.vars

  bare-end : Bare the_end
  bare-end = bare-append (option_map_or told.expr_mentions r.value []) (told.closes r.close r.close_place r.place ∷ []) (bare-value r.value) (refl, tt)

  abbrev own_names : List Mention
  own_names = own_params ++ own_vars

  abbrev spots_end : List Place
  spots_end = optional_places told.expr_mentions r.value ++ r.close_place ∷ []

  ends : (p : Place) → last_place p (told.routine_inner r) ≡ r.close_place
  ends p =
      last-over p the_params (the_result ++ (the_vars ++ (the_body ++ the_end))) r.close_place (λ a. last-over a the_result (the_vars ++ (the_body ++ the_end)) r.close_place (λ b. last-over b the_vars (the_body ++ the_end) r.close_place
      (λ c. last-over c the_body the_end r.close_place (λ d. last-over d (option_map_or told.expr_mentions r.value []) (told.closes r.close r.close_place r.place ∷ []) r.close_place (λ e. refl)))))

  -- all of it lies in its scope
  in-scope : Rising (routine_spots r) → (q : Place) → Mem q (places (told.routine_inner r)) → Reached own_scope q
  in-scope rises q is =
      let ordered : Rising (r.place ∷ places (told.routine_inner r)) = part-rises (r.place ∷ places (told.routine_inner r)) (routine_spots r) (part-routine false own_scope r) rises in
      (ordered.0 q is, subst (λ c. before c q ≡ false) (ends r.place) (last-not r.place (told.routine_inner r) ordered q (inr is)))

  view-inner : (q : Place) → Reached own_scope q → view q (told.routine_inner r) ≡ own_params ++ (own_vars ++ view q the_body)
  view-inner q at =
      view-append q the_params (the_result ++ (the_vars ++ (the_body ++ the_end))) ∙ ap (λ v. v ++ view q (the_result ++ (the_vars ++ (the_body ++ the_end)))) (view-params own_scope q at r.params)
      ∙ ap (λ v. own_params ++ v) (view-append q the_result (the_vars ++ (the_body ++ the_end)) ∙ ap (λ v. v ++ view q (the_vars ++ (the_body ++ the_end))) (bare-view q the_result (bare-result r.result))
      ∙ view-append q the_vars (the_body ++ the_end) ∙ ap (λ v. v ++ view q (the_body ++ the_end)) (view-vars own_scope q at r.vars)
      ∙ ap (λ v. own_vars ++ v) (view-append q the_body the_end ∙ ap (λ v. view q the_body ++ v) (bare-view q the_end bare-end) ∙ append-nil (view q the_body)))

  pub enclosed-routine : Enclosed (routine_spots r) (told.routine_inner r)
  enclosed-routine =
      let all : List Place = routine_spots r in
      let rest : List Place = flat_map var_spots r.vars ++ (stmts_spots r.body ++ spots_end) in
      let at_end : Mem r.close_place all = inr (mem-right r.close_place (flat_map param_spots r.params) _ (mem-right r.close_place (optional_places told.scalar_mentions r.result) rest
      (mem-right r.close_place (flat_map var_spots r.vars) _ (mem-right r.close_place (stmts_spots r.body) spots_end (mem-right r.close_place (optional_places told.expr_mentions r.value) _ (inl refl)))))) in
      enclosed-append all the_params _ (enclosed-params all own_scope (inl refl) at_end r.params)
      (enclosed-append all the_result _ (bare-enclosed all the_result (bare-result r.result))
      (enclosed-append all the_vars _ (enclosed-vars all own_scope (inl refl) at_end r.vars)
      (enclosed-append all the_body the_end
      (enclosed-more (stmts_spots r.body) all the_body (λ x is. inr (mem-right x (flat_map param_spots r.params) _ (mem-right x (optional_places told.scalar_mentions r.result) rest
      (mem-right x (flat_map var_spots r.vars) _ (mem-left x (stmts_spots r.body) spots_end is))))) (enclosed-stmts r.body))
      (bare-enclosed all the_end bare-end))))

-- of those that reach around a part, its own, and those that reach in it, one list
pub four-joined : (outer one two some behind : List Mention) → outer ++ ((one ++ (two ++ some)) ++ behind) ≡ (outer ++ (one ++ two)) ++ (some ++ behind)
four-joined outer one two some behind =
    ap (λ l. outer ++ (l ++ behind)) (sym (append_assoc one two some))
    ∙ ap (λ l. outer ++ l) (append_assoc (one ++ two) some behind)
    ∙ sym (append_assoc outer (one ++ two) (some ++ behind))

-- what reaches around a routine, and its own names, are what its names mean
module _ (r : Routine Place) (ms outer behind : List Mention) (here : Site) (means : Sees (outer ++ behind) here.means) (rises : Rising (routine_spots r)) (under : UnderAll (outer ++ behind) (routine_spots r))
    (within : Within (told.routine_inner r) ms) (seen : Seen ms outer behind (told.routine_inner r)) where
  abbrev reach : List Mention
  reach = (outer ++ own_names r) ++ behind

  abbrev site_in : Site
  site_in = inside (rule.routine_scope r) here

  abbrev ps : List Place
  ps = flat_map param_spots r.params

  abbrev rs : List Place
  rs = optional_places told.scalar_mentions r.result

  abbrev vs : List Place
  vs = flat_map var_spots r.vars

  abbrev bs : List Place
  bs = stmts_spots r.body

  own-begin : Begin r.place (own_names r)
  own-begin = begin-append r.place (own_params r) (own_vars r) (begin-map r.place (param_declares (own_scope r)) (λ v. refl) r.params) (begin-map r.place (var_declares (own_scope r)) (λ v. refl) r.vars)

  mean : Sees reach site_in.means
  mean = subst (λ l. Sees l site_in.means) (sym (append_assoc outer (own_names r) behind))
      (sees-within r.place outer (own_names r) behind (rule.routine_scope r) here.means (under-left r.place outer behind (under r.place (inl refl))) (under-right r.place outer behind (under r.place (inl refl)))
      own-begin (ties-append (own_params r) (own_vars r) (map rule.param_name r.params) (map rule.var_name r.vars) (ties-params (own_scope r) r.params) (ties-vars (own_scope r) r.vars)) means)

  -- where its statements declare nothing that reaches
  elsewhere : (some : List Mention) → Within some (told.routine_inner r) → ((q : Place) → Mem q (places some) → view q (the_body r) ≡ []) → Sited ms reach some
  elsewhere some part silent m is =
      let among : Mem m.place (places (told.routine_inner r)) = mem-place m (told.routine_inner r) (part m is) in (
        within m (part m is),
        seen m.place among
            ∙ ap (λ v. outer ++ (v ++ behind)) (view-inner r m.place (in-scope r rises m.place among) ∙ ap (λ v. own_params r ++ (own_vars r ++ v)) (silent m.place (mem-place m some is)) ∙ ap (λ v. own_params r ++ v) (append-nil (own_vars r)))
            ∙ sym (append_assoc outer (own_names r) behind),
      )

  in-params : Within (the_params r) (told.routine_inner r)
  in-params m is = mem-left m (the_params r) _ is

  in-result : Within (the_result r) (told.routine_inner r)
  in-result m is = mem-right m (the_params r) _ (mem-left m (the_result r) _ is)

  in-vars : Within (the_vars r) (told.routine_inner r)
  in-vars m is = mem-right m (the_params r) _ (mem-right m (the_result r) _ (mem-left m (the_vars r) _ is))

  in-body : Within (the_body r) (told.routine_inner r)
  in-body m is = mem-right m (the_params r) _ (mem-right m (the_result r) _ (mem-right m (the_vars r) _ (mem-left m (the_body r) _ is)))

  in-value : Within (option_map_or told.expr_mentions r.value []) (told.routine_inner r)
  in-value m is = mem-right m (the_params r) _ (mem-right m (the_result r) _ (mem-right m (the_vars r) _ (mem-right m (the_body r) _ (mem-left m (option_map_or told.expr_mentions r.value []) _ is))))

  two : Rising (rs ++ (vs ++ (bs ++ spots_end r)))
  two = rises-right ps (rs ++ (vs ++ (bs ++ spots_end r))) rises.1

  three : Rising (vs ++ (bs ++ spots_end r))
  three = rises-right rs (vs ++ (bs ++ spots_end r)) two

  four : Rising (bs ++ spots_end r)
  four = rises-right vs (bs ++ spots_end r) three

  -- before its statements
  front : (q : Place) → ((y : Place) → Mem y bs → Ahead q y) → view q (the_body r) ≡ []
  front q h = silent-before q bs (the_body r) (enclosed-stmts r.body) h

  at-params : Sited ms reach (the_params r)
  at-params = elsewhere (the_params r) in-params (λ q is. front q (λ y at. rises-apart ps (rs ++ (vs ++ (bs ++ spots_end r))) rises.1 q y
      (part-mem (places (the_params r)) ps q (part-flat (told.param_mentions (own_scope r)) param_spots (part-param (own_scope r)) r.params) is) (mem-right y rs _ (mem-right y vs _ (mem-left y bs (spots_end r) at)))))

  at-result : Sited ms reach (the_result r)
  at-result = elsewhere (the_result r) in-result (λ q is. front q (λ y at. rises-apart rs (vs ++ (bs ++ spots_end r)) two q y is (mem-right y vs _ (mem-left y bs (spots_end r) at))))

  at-vars : Sited ms reach (the_vars r)
  at-vars = elsewhere (the_vars r) in-vars (λ q is. front q (λ y at. rises-apart vs (bs ++ spots_end r) three q y
      (part-mem (places (the_vars r)) vs q (part-flat (told.var_mentions (own_scope r)) var_spots (part-var (own_scope r)) r.vars) is) (mem-left y bs (spots_end r) at)))

  at-value : Sited ms reach (option_map_or told.expr_mentions r.value [])
  at-value = elsewhere (option_map_or told.expr_mentions r.value []) in-value (λ q is. silent-behind q bs (the_body r) (enclosed-stmts r.body) (λ y at. rises-apart bs (spots_end r) four y q at (mem-left q (optional_places told.expr_mentions r.value) (r.close_place ∷ []) is)))

  body-rest : (q : Place) → Mem q bs → Mem q (ps ++ (rs ++ (vs ++ (bs ++ spots_end r))))
  body-rest q is = mem-right q ps _ (mem-right q rs _ (mem-right q vs _ (mem-left q bs (spots_end r) is)))

  body-under : UnderAll ((outer ++ own_names r) ++ behind) bs
  body-under q is =
      let all : Under q (outer ++ behind) = under q (inr (body-rest q is)) in
      under-append q (outer ++ own_names r) behind (under-append q outer (own_names r) (under-left q outer behind all) (begin-under r.place q (own_names r) own-begin (rises.0 q (body-rest q is)))) (under-right q outer behind all)

  body-seen : Seen ms (outer ++ own_names r) behind (the_body r)
  body-seen q is =
      let among : Mem q (places (told.routine_inner r)) = places-within (the_body r) (told.routine_inner r) in-body q is in
      seen q among ∙ ap (λ v. outer ++ (v ++ behind)) (view-inner r q (in-scope r rises q among)) ∙ four-joined outer (own_params r) (own_vars r) (view q (the_body r)) behind

  own-rises : Rising (places (own_names r))
  own-rises = part-rises (places (own_names r)) (ps ++ (rs ++ (vs ++ (bs ++ spots_end r)))) (part-joined (own_params r) (own_vars r) ps (rs ++ (vs ++ (bs ++ spots_end r))) (part-own-params (own_scope r) r.params)
      (part-behind rs (places (own_vars r)) (vs ++ (bs ++ spots_end r)) (part-front (places (own_vars r)) vs (bs ++ spots_end r) (part-own-vars (own_scope r) r.vars)))) rises.1

  own-at : (m : Mention) → Mem m (own_names r) → OwnAt ms (outer ++ (own_names r ++ behind)) m
  own-at m is = by (mem-split m (own_params r) (own_vars r) is)
    where
      by : Mem m (own_params r) ⊎ Mem m (own_vars r) → OwnAt ms (outer ++ (own_names r ++ behind)) m
      by (inl on) = let x = at-params m (mem-params (own_scope r) m r.params on) in
          (x.0, declaring-map (param_declares (own_scope r)) (λ v. (_, refl)) r.params m on, x.1 ∙ append_assoc outer (own_names r) behind)
      by (inr on) = let x = at-vars m (mem-vars (own_scope r) m r.vars on) in
          (x.0, declaring-map (var_declares (own_scope r)) (λ v. (_, refl)) r.vars m on, x.1 ∙ append_assoc outer (own_names r) behind)

  pub of-routine : Keeps ms (rule.routine_names here r)
  of-routine more rest =
      of-declarations ms outer (own_names r) behind r.place here.means means (under-left r.place outer behind (under r.place (inl refl))) (under-right r.place outer behind (under r.place (inl refl))) own-begin own-rises own-at
      [] (own_names r) [] (rule.routine_scope r) refl tt (ties-append (own_params r) (own_vars r) (map rule.param_name r.params) (map rule.var_name r.vars) (ties-params (own_scope r) r.params) (ties-vars (own_scope r) r.vars)) _
      (of-params ms reach (own_scope r) site_in mean r.params at-params _
      (of-optional ms reach (rule.scalar_names site_in) told.scalar_mentions (of-scalar ms reach site_in mean) r.result at-result _
      (of-vars ms reach (own_scope r) site_in mean r.vars at-vars _
      (of-stmts ms (outer ++ own_names r) behind site_in mean r.body (rises-left bs (spots_end r) four) body-under (λ m is. within m (in-body m is)) body-seen _
      (of-optional ms reach (rule.expr_names site_in) told.expr_mentions (of-expr ms reach site_in mean) r.value at-value _ (tt, rest))))))
