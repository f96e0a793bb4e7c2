-- Where there is a sentence.
use Rattle.std.proofs.Common.{◌≡◌, ◌⊎◌, inl, inr, ◌&&◌, ◌∷◌, List, [], ℕ, Bool, true, false, cond, Option, Some, None, option_map, find, refl, sym, ap, ◌∙◌, subst, arith, true≢false}
use Rattle.std.specs.Prelude.{◌↔◌, Contains}
use Rattle.std.specs.Option.{is_some}
use Rattle.std.proofs.lemmas.Bool.Decides.{nat_tests}
use Rattle.std.proofs.lemmas.List.Elements.{Contains-append_right}
use Rattle.base.proofs.Members.{at_front, none_in, front_or_behind}
use Rattle.syntax_tree.specs.Placed.{Handler, Process, Prog}
use Rattle.syntax_tree.specs.Parts.{same_place, routines, processes}
use Rattle.syntax_tree.specs.declared.place.Place.{Place}
use Rattle.static_calls.specs.Reaching.{Calls, Reaches, by_call, by_calls, ReachesItself, HandlerWaits, ComesTo, ComesBackBy, IsWayBack}
use Rattle.message_conduct.specs.Told.{IsRoundTold, IsCallTold, of_round, of_handler, of_other, is_handled_at, handler_told, round_sentence, routine_name, handler_sentence}

-- ---- routines that reach themselves

-- who comes back by a call reaches itself
comes-back : (g : Prog Place) (place callee : Place) → ComesBackBy g place callee → ReachesItself g place
comes-back g place callee c = record { one = c.caller; listed = c.listed; is = c.is; round = by c.first.comes }
  where
    call : Calls g place callee
    call = record {
      caller = c.caller;
      listed = c.listed;
      is = c.is;
      call = subst (λ l. Contains l callee) (sym c.first.order) (Contains-append_right c.first.before (callee ∷ c.first.behind) callee (at_front callee c.first.behind));
    }

    by : ComesTo g place callee → Reaches g place place
    by (inl same) = by_call (subst (Calls g place) same call)
    by (inr reaches) = by_calls call reaches

told-way : (g : Prog Place) (place : Place) (way : Option Place) → IsWayBack g place way → ReachesItself g place ↔ (is_some way ≡ true)
told-way g place None none = (λ r. absurd (none r), λ e. absurd (true≢false (sym e)))
told-way g place (Some callee) c = (λ r. refl, λ e. comes-back g place callee c)

some-map : {X Y : Type 0} (f : X → Y) (o : Option X) → is_some (option_map f o) ≡ is_some o
some-map f None = refl
some-map f (Some x) = refl

round-told : (g : Prog Place) (place : Place) (said : Option (List ℕ)) → IsRoundTold g place said → ReachesItself g place ↔ (is_some said ≡ true)
round-told g place said t =
    let same : is_some said ≡ is_some t.callee = ap is_some t.is ∙ some-map (λ (p : Place). round_sentence (routine_name g place) (routine_name g p)) t.callee in
    let way = told-way g place t.callee t.way in
    (λ r. same ∙ way.0 r, λ e. way.1 (sym same ∙ e))

pub tells-rounds : (g : Prog Place) (place : Place) (said : Option (List ℕ)) → IsCallTold g 31 place said → ReachesItself g place ↔ (is_some said ≡ true)
tells-rounds g place said (of_round e t) = round-told g place said t
tells-rounds g place said (of_handler e t) = absurd (omega (arith, e))
tells-rounds g place said (of_other e f t) = absurd (e refl)

-- ---- handlers that reach a wait

same-refl : (p : Place) → same_place p p ≡ true
same-refl p = grind (arith, nat_tests)

found : (place : Place) (ps : List (Process Place)) (p : Process Place) → Contains ps p → is_handled_at place p ≡ true → is_some (find (is_handled_at place) ps) ≡ true
found place [] p listed is = absurd (none_in p listed)
found place (q ∷ ps) p listed is = by (is_handled_at place q) refl (front_or_behind q ps p listed) (λ h. found place ps p h is)
  where
    by : (b : Bool) → is_handled_at place q ≡ b → (q ≡ p) ⊎ Contains ps p → (Contains ps p → is_some (find (is_handled_at place) ps) ≡ true) → is_some (cond b (Some q) (find (is_handled_at place) ps)) ≡ true
    by true at either rest = refl
    by false at (inl same) rest = absurd (true≢false (sym (sym at ∙ ap (is_handled_at place) same ∙ is)))
    by false at (inr there) rest = rest there

handled : (g : Prog Place) (place : Place) → HandlerWaits g place → is_some (handler_told g place) ≡ true
handled g place w =
    some-map (λ (p : Process Place). handler_sentence p.name) (find (is_handled_at place) (processes g.decls))
    ∙ found place (processes g.decls) w.one w.listed
    (ap (λ (h : Option (Handler Place)). is_some h && same_place w.one.place place) w.has ∙ ap (λ (q : Place). same_place q place) w.is ∙ same-refl place)

pub tells-handlers : (g : Prog Place) (place : Place) (said : Option (List ℕ)) → IsCallTold g 35 place said → HandlerWaits g place → is_some said ≡ true
tells-handlers g place said (of_round e t) w = absurd (omega (arith, e))
tells-handlers g place said (of_handler e t) w = ap is_some t ∙ handled g place w
tells-handlers g place said (of_other e f t) w = absurd (f refl)
