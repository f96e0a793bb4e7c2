-- What names mean in processes: their variables and routines reach in all of them.
use Rattle.std.proofs.Common.{◌≡◌, false, List, [], ◌∷◌, ◌++◌, map, Option, Some, None, ◌⊎◌, inl, inr, refl, ap, sym, ◌∙◌, subst, append_assoc, append-nil}
use Rattle.std.specs.Prelude.{flat_map}
use Rattle.std.specs.Option.{option_map_or}
use Rattle.syntax_tree.specs.Placed.{Constant, Activation, periodic, at_event, Handler, Process}
use Rattle.syntax_tree.specs.declared.place.Place.{Place}
use Rattle.static_names.specs.Reach.{Site, inside}
use Rattle.static_names.specs.Occurrences as rule
use Rattle.message_names.specs.declared.role.Scope.{Scope}
use Rattle.message_names.specs.declared.role.Wanted.TheVariants as wanted_is
use Rattle.message_names.specs.Mentions as told
use Rattle.message_names.specs.Mentions.{Mention, last_place}
use Rattle.message_names.specs.Reach.{before}
use Rattle.message_names.proofs.Bodies.{UnderAll, under-append, under-left, under-right, of-stmts}
use Rattle.message_names.proofs.Closing.{Within}
use Rattle.message_names.proofs.Order.{Ahead, Mem, Rising}
use Rattle.message_names.proofs.Others.{OwnAt, of-declarations}
use Rattle.message_names.proofs.Parts.{part-behind, part-front, part-joined, mem-left, mem-right, mem-place, part-mem, part-rises, part-flat, part-var, part-stmts, part-routine, part-handler, part-process}
use Rattle.message_names.proofs.Routines.{Reached, var_declares, view-vars, ties-vars, begin-map, begin-append, begin-under, of-vars, of-optional, mem-vars, part-own-vars, declaring-map, enclosed-vars, last-over, places-within, four-joined}
use Rattle.message_names.proofs.Sections.{routine_declares, part-heads, mem-heads, view-heads, view-before, view-behind, ties-routines, enclosed-routines, of-routines}
use Rattle.message_names.proofs.Spots.{places, stmts_spots, var_spots, routine_spots, handler_spots, process_spots}
use Rattle.message_names.proofs.Uses.{Keeps, Sited, sited-left, sited-right, of-use, of-constant, bare-constant, Seen, last-not, enclosed-stmts}
use Rattle.message_names.proofs.Views.{mem-split, rises-left, rises-right, rises-apart, view, view-append, Bare, bare-append, bare-view, Enclosed, enclosed-append, enclosed-more, bare-enclosed, silent-before, silent-behind, Under, Begin, Sees, ties-append, sees-within}

-- ---- when it is released, and what it handles

bare-optional : (c : Option (Constant Place)) → Bare (option_map_or told.constant_mentions c [])
bare-optional None = tt
bare-optional (Some c) = bare-constant c

bare-activation : (x : Activation Place) → Bare (told.activation_mentions x)
bare-activation (periodic frame deadline first) =
    bare-append (told.constant_mentions frame) _ (bare-constant frame) (bare-append (option_map_or told.constant_mentions deadline []) _ (bare-optional deadline) (bare-optional first))
bare-activation (at_event name place frame deadline) = (refl, bare-append (told.constant_mentions frame) _ (bare-constant frame) (bare-optional deadline))

of-activation : (ms reach : List Mention) (here : Site) → Sees reach here.means → (x : Activation Place) → Sited ms reach (told.activation_mentions x) → Keeps ms (rule.activation_names here x)
of-activation ms reach here means (periodic frame deadline first) at more rest =
    let due : List Mention = option_map_or told.constant_mentions deadline [] in
    let start : List Mention = option_map_or told.constant_mentions first [] in
    let later : Sited ms reach (due ++ start) = sited-right ms reach (told.constant_mentions frame) (due ++ start) at in
    of-constant ms reach here means frame (sited-left ms reach (told.constant_mentions frame) (due ++ start) at) _
    (of-optional ms reach (rule.constant_names here) told.constant_mentions (of-constant ms reach here means) deadline (sited-left ms reach due start later) _
    (of-optional ms reach (rule.constant_names here) told.constant_mentions (of-constant ms reach here means) first (sited-right ms reach due start later) more rest))
of-activation ms reach here means (at_event name place frame deadline) at more rest =
    let due : List Mention = option_map_or told.constant_mentions deadline [] in
    let later : Sited ms reach (told.constant_mentions frame ++ due) = λ m is. at m (inr is) in (
      λ h. of-use ms reach here.means means wanted_is.Event refl name place (at _ (inl refl)),
      of-constant ms reach here means frame (sited-left ms reach (told.constant_mentions frame) due later) _
          (of-optional ms reach (rule.constant_names here) told.constant_mentions (of-constant ms reach here means) deadline (sited-right ms reach (told.constant_mentions frame) due later) more rest),
    )

of-constants : (ms reach : List Mention) (here : Site) → Sees reach here.means → (cs : List (Constant Place)) → Sited ms reach (flat_map told.constant_mentions cs) → Keeps ms (rule.constants_names here cs)
of-constants ms reach here means [] at more rest = rest
of-constants ms reach here means (c ∷ cs) at more rest =
    of-constant ms reach here means c (sited-left ms reach (told.constant_mentions c) (flat_map told.constant_mentions cs) at) _
    (of-constants ms reach here means cs (sited-right ms reach (told.constant_mentions c) (flat_map told.constant_mentions cs) at) more rest)

bare-constants : (cs : List (Constant Place)) → Bare (flat_map told.constant_mentions cs)
bare-constants [] = tt
bare-constants (c ∷ cs) = bare-append (told.constant_mentions c) (flat_map told.constant_mentions cs) (bare-constant c) (bare-constants cs)

enclosed-handler : (h : Option (Handler Place)) → Enclosed (handler_spots h) (option_map_or told.handler_mentions h [])
enclosed-handler None = tt
enclosed-handler (Some h) =
    let numbers : List Mention = flat_map told.constant_mentions h.numbers in
    enclosed-append (handler_spots (Some h)) numbers (told.stmts_mentions h.body) (bare-enclosed (handler_spots (Some h)) numbers (bare-constants h.numbers))
    (enclosed-more (stmts_spots h.body) (handler_spots (Some h)) (told.stmts_mentions h.body) (λ x is. mem-right x (places numbers) (stmts_spots h.body) is) (enclosed-stmts h.body))

of-handler : (ms outer behind : List Mention) (here : Site) → Sees (outer ++ behind) here.means → (h : Option (Handler Place)) → Rising (handler_spots h) → UnderAll (outer ++ behind) (handler_spots h)
    → Within (option_map_or told.handler_mentions h []) ms → Seen ms outer behind (option_map_or told.handler_mentions h []) → Keeps ms (rule.optional_names (rule.handler_names here) h)
of-handler ms outer behind here means None rises under within seen more rest = rest
of-handler ms outer behind here means (Some h) rises under within seen more rest =
    let numbers : List Mention = flat_map told.constant_mentions h.numbers in
    let body : List Mention = told.stmts_mentions h.body in
    of-constants ms (outer ++ behind) here means h.numbers (λ m is. (
      within m (mem-left m numbers body is),
      seen m.place (mem-place m (numbers ++ body) (mem-left m numbers body is))
          ∙ ap (λ v. outer ++ (v ++ behind)) (view-append m.place numbers body ∙ ap (λ v. v ++ view m.place body) (bare-view m.place numbers (bare-constants h.numbers))
          ∙ silent-before m.place (stmts_spots h.body) body (enclosed-stmts h.body) (λ y at. rises-apart (places numbers) (stmts_spots h.body) rises m.place y (mem-place m numbers is) at)),
    )) _
    (of-stmts ms outer behind here means h.body (rises-right (places numbers) (stmts_spots h.body) rises) (λ q is. under q (mem-right q (places numbers) (stmts_spots h.body) is)) (λ m is. within m (mem-right m numbers body is))
    (λ q is. seen q (places-within body (numbers ++ body) (λ m at. mem-right m numbers body at) q is)
    ∙ ap (λ v. outer ++ (v ++ behind)) (view-append q numbers body ∙ ap (λ v. v ++ view q body) (bare-view q numbers (bare-constants h.numbers)))) more rest)

-- ---- a process, part by part

module _ (p : Process Place) where
  abbrev own_process : Scope
  own_process = told.scope_from p.place p.close_place

  abbrev the_begin : List Mention
  the_begin = told.activation_mentions p.activation

  abbrev the_vars : List Mention
  the_vars = flat_map (told.var_mentions own_process) p.vars

  abbrev the_routines : List Mention
  the_routines = flat_map (told.routine_mentions false own_process) p.routines

  abbrev the_body : List Mention
  the_body = told.stmts_mentions p.body

  abbrev the_handler : List Mention
  the_handler = option_map_or told.handler_mentions p.handler []

  abbrev the_close : List Mention
  the_close = told.closes p.close p.close_place p.place ∷ []

  abbrev pub process_inner : List Mention
  process_inner = the_begin ++ (the_vars ++ (the_routines ++ (the_body ++ (the_handler ++ the_close))))

  abbrev own_vars : List Mention
  own_vars = map (var_declares own_process) p.vars

  abbrev own_routines : List Mention
  own_routines = map (routine_declares false own_process) p.routines

  in-process : Rising (process_spots p) → (q : Place) → Mem q (places process_inner) → Reached own_process q
  in-process rises q is =
      let ordered : Rising (p.place ∷ places process_inner) = part-rises (p.place ∷ places process_inner) (process_spots p) (part-process own_process p) rises in
      let ends : last_place p.place process_inner ≡ p.close_place =
      last-over p.place the_begin _ p.close_place (λ a. last-over a the_vars _ p.close_place (λ b. last-over b the_routines _ p.close_place (λ c. last-over c the_body _ p.close_place (λ d. last-over d the_handler the_close p.close_place (λ e. refl))))) in
      (ordered.0 q is, subst (λ c. before c q ≡ false) ends (last-not p.place process_inner ordered q (inr is)))

  abbrev behind_vars : Place → List Mention
  behind_vars q = view q the_routines ++ (view q the_body ++ view q the_handler)

  view-process : (q : Place) → Reached own_process q → view q process_inner ≡ own_vars ++ behind_vars q
  view-process q at =
      view-append q the_begin (the_vars ++ (the_routines ++ (the_body ++ (the_handler ++ the_close)))) ∙ ap (λ v. v ++ view q (the_vars ++ (the_routines ++ (the_body ++ (the_handler ++ the_close))))) (bare-view q the_begin (bare-activation p.activation))
      ∙ view-append q the_vars (the_routines ++ (the_body ++ (the_handler ++ the_close))) ∙ ap (λ v. v ++ view q (the_routines ++ (the_body ++ (the_handler ++ the_close)))) (view-vars own_process q at p.vars)
      ∙ ap (λ v. own_vars ++ v) (view-append q the_routines (the_body ++ (the_handler ++ the_close))
      ∙ ap (λ v. view q the_routines ++ v) (view-append q the_body (the_handler ++ the_close)
      ∙ ap (λ v. view q the_body ++ v) (view-append q the_handler the_close ∙ ap (λ v. view q the_handler ++ v) (bare-view q the_close (refl, tt)) ∙ append-nil (view q the_handler))))

  abbrev ends_with : List Place
  ends_with = handler_spots p.handler ++ p.close_place ∷ []

  pub enclosed-process : Enclosed (process_spots p) process_inner
  enclosed-process =
      let all : List Place = process_spots p in
      let at_end : Mem p.close_place all = inr (mem-right p.close_place (places the_begin) _ (mem-right p.close_place (flat_map var_spots p.vars) _ (mem-right p.close_place (flat_map routine_spots p.routines) _
      (mem-right p.close_place (stmts_spots p.body) _ (mem-right p.close_place (handler_spots p.handler) _ (inl refl)))))) in
      enclosed-append all the_begin _ (bare-enclosed all the_begin (bare-activation p.activation))
      (enclosed-append all the_vars _ (enclosed-vars all own_process (inl refl) at_end p.vars)
      (enclosed-append all the_routines _ (enclosed-routines all false own_process (inl refl) at_end p.routines (λ y on. inr (mem-right y (places the_begin) _ (mem-right y (flat_map var_spots p.vars) _ (mem-left y (flat_map routine_spots p.routines) _ on)))))
      (enclosed-append all the_body _ (enclosed-more (stmts_spots p.body) all the_body (λ y on. inr (mem-right y (places the_begin) _ (mem-right y (flat_map var_spots p.vars) _ (mem-right y (flat_map routine_spots p.routines) _ (mem-left y (stmts_spots p.body) _ on))))) (enclosed-stmts p.body))
      (enclosed-append all the_handler the_close (enclosed-more (handler_spots p.handler) all the_handler (λ y on. inr (mem-right y (places the_begin) _ (mem-right y (flat_map var_spots p.vars) _ (mem-right y (flat_map routine_spots p.routines) _
      (mem-right y (stmts_spots p.body) _ (mem-left y (handler_spots p.handler) _ on)))))) (enclosed-handler p.handler))
      (bare-enclosed all the_close (refl, tt))))))

module _ (p : Process Place) (ms outer behind : List Mention) (here : Site) (means : Sees (outer ++ behind) here.means) (rises : Rising (process_spots p)) (under : UnderAll (outer ++ behind) (process_spots p))
    (within : Within (process_inner p) ms) (seen : Seen ms outer behind (process_inner p)) where
  abbrev site_in : Site
  site_in = inside (rule.process_scope p) here

  abbrev own_names : List Mention
  own_names = own_vars p ++ own_routines p

  abbrev gs : List Place
  gs = places (the_begin p)

  abbrev vs : List Place
  vs = flat_map var_spots p.vars

  abbrev rs : List Place
  rs = flat_map routine_spots p.routines

  abbrev bs : List Place
  bs = stmts_spots p.body

  abbrev hs : List Place
  hs = handler_spots p.handler

  two : Rising (vs ++ (rs ++ (bs ++ ends_with p)))
  two = rises-right gs (vs ++ (rs ++ (bs ++ ends_with p))) rises.1

  three : Rising (rs ++ (bs ++ ends_with p))
  three = rises-right vs (rs ++ (bs ++ ends_with p)) two

  four : Rising (bs ++ ends_with p)
  four = rises-right rs (bs ++ ends_with p) three

  five : Rising (ends_with p)
  five = rises-right bs (ends_with p) four

  own-begin : Begin p.place own_names
  own-begin = begin-append p.place (own_vars p) (own_routines p) (begin-map p.place (var_declares (own_process p)) (λ v. refl) p.vars) (begin-map p.place (routine_declares false (own_process p)) (λ r. refl) p.routines)

  mean : Sees (outer ++ (own_names ++ behind)) site_in.means
  mean = sees-within p.place outer own_names behind (rule.process_scope p) here.means (under-left p.place outer behind (under p.place (inl refl))) (under-right p.place outer behind (under p.place (inl refl)))
      own-begin (ties-append (own_vars p) (own_routines p) (map rule.var_name p.vars) (map rule.routine_name p.routines) (ties-vars (own_process p) p.vars) (ties-routines (own_process p) p.routines)) means

  mean-inner : Sees ((outer ++ own_names) ++ behind) site_in.means
  mean-inner = subst (λ l. Sees l site_in.means) (sym (append_assoc outer own_names behind)) mean

  two-joined : outer ++ (own_names ++ behind) ≡ (outer ++ own_vars p) ++ (own_routines p ++ behind)
  two-joined = ap (λ l. outer ++ l) (append_assoc (own_vars p) (own_routines p) behind) ∙ sym (append_assoc outer (own_vars p) (own_routines p ++ behind))

  in-begin : Within (the_begin p) (process_inner p)
  in-begin x is = mem-left x (the_begin p) _ is

  in-vars : Within (the_vars p) (process_inner p)
  in-vars x is = mem-right x (the_begin p) _ (mem-left x (the_vars p) _ is)

  in-routines : Within (the_routines p) (process_inner p)
  in-routines x is = mem-right x (the_begin p) _ (mem-right x (the_vars p) _ (mem-left x (the_routines p) _ is))

  in-body : Within (the_body p) (process_inner p)
  in-body x is = mem-right x (the_begin p) _ (mem-right x (the_vars p) _ (mem-right x (the_routines p) _ (mem-left x (the_body p) _ is)))

  in-handler : Within (the_handler p) (process_inner p)
  in-handler x is = mem-right x (the_begin p) _ (mem-right x (the_vars p) _ (mem-right x (the_routines p) _ (mem-right x (the_body p) _ (mem-left x (the_handler p) _ is))))

  -- what reaches a place of its names
  reaching : (q : Place) → Mem q (places (process_inner p)) → view q ms ≡ outer ++ ((own_vars p ++ behind_vars p q) ++ behind)
  reaching q among = seen q among ∙ ap (λ v. outer ++ (v ++ behind)) (view-process p q (in-process p rises q among))

  -- before its routines
  front : (some : List Mention) → Within some (process_inner p) → ((q y : Place) → Mem q (places some) → Mem y (rs ++ (bs ++ hs)) → Ahead q y) → Sited ms (outer ++ (own_names ++ behind)) some
  front some part ahead m is =
      let at : Mem m.place (places some) = mem-place m some is in
      let among : Mem m.place (places (process_inner p)) = mem-place m (process_inner p) (part m is) in (
        within m (part m is),
        reaching m.place among ∙ ap (λ v. outer ++ ((own_vars p ++ v) ++ behind))
            (ap (λ v. v ++ (view m.place (the_body p) ++ view m.place (the_handler p))) (view-before false (own_process p) m.place (in-process p rises m.place among) p.routines (λ y on. ahead m.place y at (mem-left y rs _ on)))
            ∙ ap (λ v. own_routines p ++ (v ++ view m.place (the_handler p))) (silent-before m.place bs (the_body p) (enclosed-stmts p.body) (λ y on. ahead m.place y at (mem-right y rs _ (mem-left y bs hs on))))
            ∙ ap (λ v. own_routines p ++ v) (silent-before m.place hs (the_handler p) (enclosed-handler p.handler) (λ y on. ahead m.place y at (mem-right y rs _ (mem-right y bs hs on))))
            ∙ append-nil (own_routines p)),
      )

  longer : (y : Place) → Mem y (rs ++ (bs ++ hs)) → Mem y (rs ++ (bs ++ ends_with p))
  longer y is = subst (Mem y) (ap (λ l. rs ++ l) (append_assoc bs hs (p.close_place ∷ []))) (subst (Mem y) (append_assoc rs (bs ++ hs) (p.close_place ∷ [])) (mem-left y (rs ++ (bs ++ hs)) (p.close_place ∷ []) is))

  at-begin : Sited ms (outer ++ (own_names ++ behind)) (the_begin p)
  at-begin = front (the_begin p) in-begin (λ q y is on. rises-apart gs (vs ++ (rs ++ (bs ++ ends_with p))) rises.1 q y is (mem-right y vs _ (longer y on)))

  at-vars : Sited ms (outer ++ (own_names ++ behind)) (the_vars p)
  at-vars = front (the_vars p) in-vars (λ q y is on. rises-apart vs (rs ++ (bs ++ ends_with p)) two q y (part-mem (places (the_vars p)) vs q (part-flat (told.var_mentions (own_process p)) var_spots (part-var (own_process p)) p.vars) is) (longer y on))

  routines-seen : Seen ms (outer ++ own_vars p) behind (the_routines p)
  routines-seen q is =
      let among : Mem q (places (process_inner p)) = places-within (the_routines p) (process_inner p) in-routines q is in
      let on : Mem q rs = part-mem (places (the_routines p)) rs q (part-flat (told.routine_mentions false (own_process p)) routine_spots (part-routine false (own_process p)) p.routines) is in
      reaching q among ∙ ap (λ v. outer ++ ((own_vars p ++ (view q (the_routines p) ++ v)) ++ behind))
      (ap (λ v. v ++ view q (the_handler p)) (silent-before q bs (the_body p) (enclosed-stmts p.body) (λ y at. rises-apart rs (bs ++ ends_with p) three q y on (mem-left y bs _ at)))
      ∙ silent-before q hs (the_handler p) (enclosed-handler p.handler) (λ y at. rises-apart rs (bs ++ ends_with p) three q y on (mem-right y bs _ (mem-left y hs _ at))))
      ∙ ap (λ v. outer ++ ((own_vars p ++ v) ++ behind)) (append-nil (view q (the_routines p)))
      ∙ ap (λ l. outer ++ l) (append_assoc (own_vars p) (view q (the_routines p)) behind) ∙ sym (append_assoc outer (own_vars p) (view q (the_routines p) ++ behind))

  body-seen : Seen ms (outer ++ own_names) behind (the_body p)
  body-seen q is =
      let among : Mem q (places (process_inner p)) = places-within (the_body p) (process_inner p) in-body q is in
      let on : Mem q bs = part-mem (places (the_body p)) bs q (part-stmts p.body) is in
      reaching q among ∙ ap (λ v. outer ++ ((own_vars p ++ v) ++ behind))
      (ap (λ v. v ++ (view q (the_body p) ++ view q (the_handler p))) (view-behind false (own_process p) q (in-process p rises q among) p.routines (λ y at. rises-apart rs (bs ++ ends_with p) three y q at (mem-left q bs _ on)))
      ∙ ap (λ v. own_routines p ++ (view q (the_body p) ++ v)) (silent-before q hs (the_handler p) (enclosed-handler p.handler) (λ y at. rises-apart bs (ends_with p) four q y on (mem-left y hs _ at)))
      ∙ ap (λ v. own_routines p ++ v) (append-nil (view q (the_body p))))
      ∙ four-joined outer (own_vars p) (own_routines p) (view q (the_body p)) behind

  handler-seen : Seen ms (outer ++ own_names) behind (the_handler p)
  handler-seen q is =
      let among : Mem q (places (process_inner p)) = places-within (the_handler p) (process_inner p) in-handler q is in
      let on : Mem q hs = part-mem (places (the_handler p)) hs q (part-handler p.handler) is in
      reaching q among ∙ ap (λ v. outer ++ ((own_vars p ++ v) ++ behind))
      (ap (λ v. v ++ (view q (the_body p) ++ view q (the_handler p))) (view-behind false (own_process p) q (in-process p rises q among) p.routines (λ y at. rises-apart rs (bs ++ ends_with p) three y q at (mem-right q bs _ (mem-left q hs _ on))))
      ∙ ap (λ v. own_routines p ++ (v ++ view q (the_handler p))) (silent-behind q bs (the_body p) (enclosed-stmts p.body) (λ y at. rises-apart bs (ends_with p) four y q at (mem-left q hs _ on))))
      ∙ four-joined outer (own_vars p) (own_routines p) (view q (the_handler p)) behind

  own-under : (q : Place) → Mem q (gs ++ (vs ++ (rs ++ (bs ++ ends_with p)))) → Under q ((outer ++ own_names) ++ behind)
  own-under q is =
      let all : Under q (outer ++ behind) = under q (inr is) in
      under-append q (outer ++ own_names) behind (under-append q outer own_names (under-left q outer behind all) (begin-under p.place q own_names own-begin (rises.0 q is))) (under-right q outer behind all)

  own-rises : Rising (places own_names)
  own-rises = part-rises (places own_names) (gs ++ (vs ++ (rs ++ (bs ++ ends_with p)))) (part-behind gs (places own_names) (vs ++ (rs ++ (bs ++ ends_with p))) (part-joined (own_vars p) (own_routines p) vs (rs ++ (bs ++ ends_with p)) (part-own-vars (own_process p) p.vars)
      (part-front (places (own_routines p)) rs (bs ++ ends_with p) (part-heads false (own_process p) p.routines)))) rises.1

  own-at : (x : Mention) → Mem x own_names → OwnAt ms (outer ++ (own_names ++ behind)) x
  own-at x is = by (mem-split x (own_vars p) (own_routines p) is)
    where
      by : Mem x (own_vars p) ⊎ Mem x (own_routines p) → OwnAt ms (outer ++ (own_names ++ behind)) x
      by (inl on) = let y = at-vars x (mem-vars (own_process p) x p.vars on) in (y.0, declaring-map (var_declares (own_process p)) (λ v. (_, refl)) p.vars x on, y.1)
      by (inr on) =
          let among : Mem x (the_routines p) = mem-heads false (own_process p) x p.routines on in
          let at : Mem x.place (places (the_routines p)) = mem-place x (the_routines p) among in (
            within x (in-routines x among),
            declaring-map (routine_declares false (own_process p)) (λ r. (_, refl)) p.routines x on,
            routines-seen x.place at ∙ ap (λ v. (outer ++ own_vars p) ++ (v ++ behind))
                (view-heads false (own_process p) p.routines (rises-left rs (bs ++ ends_with p) three) x on (in-process p rises x.place (places-within (the_routines p) (process_inner p) in-routines x.place at)))
                ∙ sym two-joined,
          )

  pub of-process : Keeps ms (rule.process_names here p)
  of-process more rest =
      of-declarations ms outer own_names behind p.place here.means means (under-left p.place outer behind (under p.place (inl refl))) (under-right p.place outer behind (under p.place (inl refl))) own-begin own-rises own-at
      [] own_names [] (rule.process_scope p) refl tt
      (ties-append (own_vars p) (own_routines p) (map rule.var_name p.vars) (map rule.routine_name p.routines) (ties-vars (own_process p) p.vars) (ties-routines (own_process p) p.routines)) _
      (of-activation ms (outer ++ (own_names ++ behind)) site_in mean p.activation at-begin _
      (of-vars ms (outer ++ (own_names ++ behind)) (own_process p) site_in mean p.vars at-vars _
      (of-routines false (own_process p) ms (outer ++ own_vars p) behind site_in p.routines (subst (λ l. Sees l site_in.means) two-joined mean) (rises-left rs (bs ++ ends_with p) three)
      (λ q is. subst (Under q) (append_assoc outer own_names behind ∙ two-joined) (own-under q (mem-right q gs _ (mem-right q vs _ (mem-left q rs _ is)))))
      (λ q is. in-process p rises q (places-within (the_routines p) (process_inner p) in-routines q is)) (λ x is. within x (in-routines x is)) routines-seen _
      (of-stmts ms (outer ++ own_names) behind site_in mean-inner p.body (rises-left bs (ends_with p) four) (λ q is. own-under q (mem-right q gs _ (mem-right q vs _ (mem-right q rs _ (mem-left q bs _ is)))))
      (λ x is. within x (in-body x is)) body-seen _
      (of-handler ms (outer ++ own_names) behind site_in mean-inner p.handler (rises-left hs (p.close_place ∷ []) five) (λ q is. own-under q (mem-right q gs _ (mem-right q vs _ (mem-right q rs _ (mem-right q bs _ (mem-left q hs _ is))))))
      (λ x is. within x (in-handler x is)) handler-seen _ (tt, rest))))))
