-- The activations and handlers of processes fit.
use Rattle.std.proofs.Common.{◌≡◌, ℕ, Bool, true, false, ◌||◌, List, [], ◌∷◌, ◌++◌, map, append_assoc, Option, Some, None, ◌⊎◌, inl, inr, refl, ap, sym, ◌∙◌, subst, arith, true≢false}
use Rattle.std.specs.Prelude.{Contains, All, AllPairs, ℤ, pos, negsuc, ◌&&◌, int_le}
use Rattle.std.proofs.lemmas.Bool.Decides.{nat_tests}
use Rattle.std.proofs.lemmas.List.{map-append, append-nil}
use Rattle.std.proofs.lemmas.List.Elements.{All-contains}
use Rattle.std.proofs.lemmas.List.Quantifiers.{all_pairs_push}
use Rattle.std.proofs.lemmas.Bool.{and_parts}
use Rattle.base.proofs.Members.{at_front, behind, none_in, front_or_behind, in_map}
use Rattle.base.specs.Words.{same}
use Rattle.syntax_tree.specs.Plain.{Name}
use Rattle.syntax_tree.specs.Placed.{Constant, Activation, periodic, at_event, Handler, Process, process, Decl, event, Prog, plain, plain_constant, plain_activation, plain_handler, plain_process, plain_decl, optional}
use Rattle.syntax_tree.specs.declared.place.Place.{Place}
use Rattle.static_names.specs.declared.kind.Kind.{Kind as NameKind}
use Rattle.static_names.specs.declared.kind.Kind.TheVariants as kind_is
use Rattle.static_names.specs.declared.kind.NameUse.TheVariants as want_is
use Rattle.static_names.specs.Reach.{Site, suits}
use Rattle.static_names.specs.Occurrences.{Occurrence, used, names, declared_at, constant_names, constants_names, stmts_names, optional_names, activation_names, handler_names, process_scope, var_name, routine_name}
use Rattle.static_declarations.specs.Values.{Worth, value, constant_place, is_within, out_of}
use Rattle.static_declarations.specs.Parts.{handler_parts, outside_loops, parts}
use Rattle.static_declarations.specs.declared.home.StmtContext.TheVariants as home_is
use Rattle.syntax_tree.specs.Parts.{processes}
use Rattle.static_numbers.specs.Processes.{frame_of, deadline_of, bad_limit, bad_start, Handled, handled, handler_numbers, all_handled, has_value}
use Rattle.source_semantics.specs.Names.{constants}
use Rattle.static_semantics.specs.Here.{in_process}
use Rattle.static_semantics.specs.Statements.{IsConstant, IsWithin}
use Rattle.static_semantics.specs.WellFormed.{DeadlineFits, ActivationFits, IsHandled, Differ, OptionalFits}
use Rattle.static_semantics.specs.Places.{IsFound}
use Rattle.static_semantics.specs.Written.{ConstantWritten, OptionalWritten, ActivationWritten, HandlerWritten}
use Rattle.static_semantics.specs.Mirrors.{Mirrors, program_site, process_site}
use Rattle.wellformed_law.proofs.Lists.{each_map, Pictured, Adds, nothing_more, one_more, Within, front, rest}
use Rattle.wellformed_law.proofs.Adding.{constant_adds, constants_add, optional_adds}
use Rattle.wellformed_law.proofs.Declared.{Lacks, lacks_both, lacks_map, outside_scope, event_declared}
use Rattle.wellformed_law.proofs.Constants.{Reaches}
use Rattle.wellformed_law.proofs.WellformedLaw.{Laws, kept, constant_fits}
use Rattle.wellformed_law.proofs.Basics.{not_held, held}

-- ---- the events of activations

wants_event : (k : NameKind) → suits want_is.Event k ≡ true → k ≡ kind_is.Event
wants_event kind_is.Program e = absurd (true≢false (sym e))
wants_event kind_is.Constant e = absurd (true≢false (sym e))
wants_event kind_is.Device e = absurd (true≢false (sym e))
wants_event kind_is.Event e = refl
wants_event kind_is.Routine e = absurd (true≢false (sym e))
wants_event kind_is.Entry e = absurd (true≢false (sym e))
wants_event kind_is.Monitor e = absurd (true≢false (sym e))
wants_event kind_is.Process e = absurd (true≢false (sym e))
wants_event kind_is.Variable e = absurd (true≢false (sym e))
wants_event kind_is.LoopVariable e = absurd (true≢false (sym e))
wants_event kind_is.Condition e = absurd (true≢false (sym e))

no_event_in_process : (p : Process Place) → Lacks kind_is.Event (process_scope p)
no_event_in_process p = lacks_both kind_is.Event (map var_name p.vars) (map routine_name p.routines) (lacks_map kind_is.Event var_name p.vars (λ v e. cc)) (lacks_map kind_is.Event routine_name p.routines (λ v e. cc))

-- the event that is named at the place
pub record EventAt (g : Prog Place) (n : Name) (q : Place) : Type 0 where
  pub place : Place
  pub listed : Contains g.decls (event n place)
  pub found : declared_at (names g) q ≡ Some place

pub event_at : (g : Prog Place) → Laws g → (before : List (Decl Place)) (p : Process Place) (after : List (Decl Place)) → g.decls ≡ before ++ process p ∷ after
    → (n : Name) (q : Place) → Contains (names g) (used n q want_is.Event ((process_site g before p after).means n)) → EventAt g n q
event_at g l before p after is n q h = record {
  place = f.declared.place;
  listed = subst (λ ds. Contains ds (event n f.declared.place)) (sym is) (event_declared g before (process p ∷ after) n f.declared
      (outside_scope kind_is.Event (process_scope p) n f.declared ((program_site g before (process p ∷ after)).means n) (no_event_in_process p) f.meant kind) kind);
  found = f.found;
}
  where
    f : IsFound g q want_is.Event ((process_site g before p after).means n)
    f = l.found.uses n q want_is.Event ((process_site g before p after).means n) h

    kind : f.declared.kind ≡ kind_is.Event
    kind = wants_event f.declared.kind f.suited

-- ---- the numbers of handlers

handled_adds : (before cs : List (Constant Place)) → Adds (handled before cs)
handled_adds before [] = nothing_more
handled_adds before (c ∷ cs) = one_more _ (handled_adds (before ++ c ∷ []) cs)

pub handler_numbers_add : (h : Option (Handler Place)) → Adds (handler_numbers h)
handler_numbers_add None = nothing_more
handler_numbers_add (Some h) = handled_adds [] h.numbers

-- each number is that of one of the handled
number_in : (before cs : List (Constant Place)) (ys : List Handled) → Within (handled before cs []) ys → (c : Constant Place) → Contains cs c → Pictured (λ h. h.number) ys c
number_in before [] ys w c h = absurd (none_in c h)
number_in before (d ∷ cs) ys w c h = by (number_in (before ++ d ∷ []) cs ys (λ x m. w x (behind _ (handled (before ++ d ∷ []) cs []) x m)) c) (front_or_behind d cs c h)
  where
    by : (Contains cs c → Pictured (λ h. h.number) ys c) → (d ≡ c) ⊎ Contains cs c → Pictured (λ h. h.number) ys c
    by again (inl e) = record { one = record { before = before; number = d }; listed = w _ (at_front _ (handled (before ++ d ∷ []) cs [])); is = e }
    by again (inr m) = again m

same_itself : (v : ℤ) → same v v ≡ true
same_itself (pos n) = grind (arith, nat_tests)
same_itself (negsuc n) = grind (arith, nat_tests)

or_true : (b : Bool) → (b || true) ≡ true
or_true true = refl
or_true false = refl

has_one : (worth : Worth) (v : ℤ) (cs : List (Constant Place)) (c : Constant Place) → Contains cs c → worth c ≡ v → has_value worth v cs ≡ true
has_one worth v [] c h e = absurd (none_in c h)
has_one worth v (d ∷ cs) c h e = by (λ m. has_one worth v cs c m e) (front_or_behind d cs c h)
  where
    by : (Contains cs c → has_value worth v cs ≡ true) → (d ≡ c) ⊎ Contains cs c → has_value worth v (d ∷ cs) ≡ true
    by again (inl w) = ap (λ b. b || has_value worth v cs) (ap (λ z. same z v) (ap worth w ∙ e) ∙ same_itself v)
    by again (inr m) = ap (λ b. same (worth d) v || b) (again m) ∙ or_true (same (worth d) v)

constant_names_of : (s : Site) (cs : List (Constant Place)) (ys : List Occurrence) → Within (constants_names s cs []) ys → (c : Constant Place) → Contains cs c → Within (constant_names s c []) ys
constant_names_of s [] ys w c h = absurd (none_in c h)
constant_names_of s (d ∷ cs) ys w c h = by (constant_names_of s cs ys (rest ys (constant_adds s d) (constants_names s cs []) w) c) (front_or_behind d cs c h)
  where
    by : (Contains cs c → Within (constant_names s c []) ys) → (d ≡ c) ⊎ Contains cs c → Within (constant_names s c []) ys
    by again (inl e) = subst (λ z. Within (constant_names s z []) ys) e (front ys (constant_adds s d) (constants_names s cs []) w)
    by again (inr m) = again m

module _ (g : Prog Place) (l : Laws g) where
  within_fits : (low high : ℕ) (k : Constant Place) → IsConstant (constants (plain g)) (plain_constant k) → out_of (value g) low high k ≡ None → IsWithin (plain g) low high (plain_constant k)
  within_fits low high k c e = record { constant = c; limits = held (is_within low high (value g k)) (constant_place k) e }

  deadline_fits : (site : Site) → Reaches (constants (plain g)) site → (frame : Constant Place) (d : Option (Constant Place)) → OptionalWritten d
      → Within (optional_names (constant_names site) d []) (names g) → bad_limit (value g) frame d ≡ None → DeadlineFits (plain g) (plain_constant frame) (optional plain_constant d)
  deadline_fits site reaches frame None w n near = tt
  deadline_fits site reaches frame (Some d) w n near =
      let tests = and_parts (int_le (pos 10) (value g d)) (int_le (value g d) (value g frame))
      (held (int_le (pos 10) (value g d) && int_le (value g d) (value g frame)) (constant_place d) near) in
      (constant_fits g l site reaches d w n, tests.0, tests.1)

  pub activation_fits : (before : List (Decl Place)) (p : Process Place) (after : List (Decl Place)) → g.decls ≡ before ++ process p ∷ after → Reaches (constants (plain g)) (process_site g before p after)
      → (a : Activation Place) → ActivationWritten a → Within (activation_names (process_site g before p after) a []) (names g)
      → out_of (value g) 10 1000000000 (frame_of a) ≡ None → bad_limit (value g) (frame_of a) (deadline_of a) ≡ None → bad_start (value g) a ≡ None → ActivationFits (plain g) (plain_activation a)
  activation_fits before p after is reaches (periodic frame deadline None) w n good near start = (
    within_fits 10 1000000000 frame (constant_fits g l site reaches frame w.0 (front (names g) (constant_adds site frame) limit n)) good,
    deadline_fits site reaches frame deadline w.1 (rest (names g) (constant_adds site frame) limit n) near,
    tt,
  )
    where
      site : Site
      site = process_site g before p after

      limit : List Occurrence
      limit = optional_names (constant_names site) deadline []
  activation_fits before p after is reaches (periodic frame deadline (Some k)) w n good near start = (
    within_fits 10 1000000000 frame (constant_fits g l site reaches frame w.0 (front (names g) (constant_adds site frame) limits n)) good,
    deadline_fits site reaches frame deadline w.1 (front (names g) (optional_adds (constant_names site) (constant_adds site) deadline) (constant_names site k []) behind_frame) near,
    within_fits 0 1000000000 k (constant_fits g l site reaches k w.2 (rest (names g) (optional_adds (constant_names site) (constant_adds site) deadline) (constant_names site k []) behind_frame)) start,
  )
    where
      site : Site
      site = process_site g before p after

      limits : List Occurrence
      limits = optional_names (constant_names site) deadline (constant_names site k [])

      behind_frame : Within limits (names g)
      behind_frame = rest (names g) (constant_adds site frame) limits n
  activation_fits before p after is reaches (at_event e q frame deadline) w n good near start = (
    in_map plain_decl g.decls (event e found.place) found.listed,
    within_fits 10 1000000000 frame (constant_fits g l site reaches frame w.0 (front (names g) (constant_adds site frame) limit behind_event)) good,
    deadline_fits site reaches frame deadline w.1 (rest (names g) (constant_adds site frame) limit behind_event) near,
  )
    where
      site : Site
      site = process_site g before p after

      limit : List Occurrence
      limit = optional_names (constant_names site) deadline []

      behind_event : Within (constant_names site frame limit) (names g)
      behind_event = λ x h. n x (behind _ (constant_names site frame limit) x h)

      found : EventAt g e q
      found = event_at g l before p after is e q (n _ (at_front _ (constant_names site frame limit)))

  -- numbers that differ from all before
  numbers_differ : (before cs : List (Constant Place)) → Within (handled before cs []) (all_handled (processes g.decls)) → AllPairs (Differ (plain g)) (map plain_constant before)
      → AllPairs (Differ (plain g)) (map plain_constant (before ++ cs))
  numbers_differ before [] w pairs = subst (λ cs. AllPairs (Differ (plain g)) (map plain_constant cs)) (sym (append-nil before)) pairs
  numbers_differ before (c ∷ cs) w pairs = subst (λ ds. AllPairs (Differ (plain g)) (map plain_constant ds)) (append_assoc before (c ∷ []) cs)
      (numbers_differ (before ++ c ∷ []) cs (λ x m. w x (behind _ (handled (before ++ c ∷ []) cs []) x m))
      (subst (AllPairs (Differ (plain g))) (sym (map-append plain_constant before (c ∷ []))) (all_pairs_push (Differ (plain g)) (map plain_constant before) (plain_constant c) pairs apart)))
    where
      new : has_value (value g) (value g c) before ≡ false
      new = not_held (has_value (value g) (value g c) before) (constant_place c) (l.limits.once (record { before = before; number = c }) (w _ (at_front _ (handled (before ++ c ∷ []) cs []))))

      apart : All (λ a. Differ (plain g) a (plain_constant c)) (map plain_constant before)
      apart = each_map (λ a. Differ (plain g) a (plain_constant c)) plain_constant before (λ b h e. true≢false (sym (has_one (value g) (value g c) before b h e) ∙ new))

  pub handler_fits : (p : Process Place) (site : Site) → Mirrors g p None site (in_process (plain g) (plain_process p)) → Reaches (constants (plain g)) site
      → (o : Option (Handler Place)) → HandlerWritten o → Within (optional_names (handler_names site) o []) (names g) → Within (handler_parts o []) (parts g) → Within (handler_numbers o []) (all_handled (processes g.decls))
      → OptionalFits (plain g) (plain_process p) (optional plain_handler o)
  handler_fits p site mirrors reaches None w n ps hs = tt
  handler_fits p site mirrors reaches (Some h) w n ps hs = record {
    numbers = each_map (IsHandled (plain g)) plain_constant h.numbers handled_fits;
    once = numbers_differ [] h.numbers hs (λ i j d i_less j_less. absurd (omega arith));
    body = l.bodies p None site (in_process (plain g) (plain_process p)) (outside_loops home_is.Free) h.body (kept g l) mirrors (record { home = (refl, refl); loops = refl }) w.1
        (rest (names g) (constants_add site h.numbers) (stmts_names site h.body []) n) ps;
  }
    where
      handled_fits : (c : Constant Place) → Contains h.numbers c → IsHandled (plain g) (plain_constant c)
      handled_fits c m = record {
        constant = constant_fits g l site reaches c (All-contains ConstantWritten h.numbers c w.0 m)
            (constant_names_of site h.numbers (names g) (front (names g) (constants_add site h.numbers) (stmts_names site h.body []) n) c m);
        limits = subst (λ k. (is_within 1 4 (value g k) || is_within 10 999 (value g k)) ≡ true) one.is
            (held (is_within 1 4 (value g one.one.number) || is_within 10 999 (value g one.one.number)) (constant_place one.one.number) (l.limits.numbers one.one one.listed));
      }
        where
          one : Pictured (λ h. h.number) (all_handled (processes g.decls)) c
          one = number_in [] h.numbers (all_handled (processes g.decls)) hs c m
