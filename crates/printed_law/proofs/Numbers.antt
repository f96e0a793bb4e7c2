-- The rules for declarations in a tree and in the tree with other places.
use Rattle.std.proofs.Common.{◌≡◌, ℕ, zero, suc, ◌+◌, Bool, true, false, ◌&&◌, ◌||◌, List, [], ◌∷◌, ◌++◌, map, inl, inr, Option, Some, None, ℤ, refl, ap}
use Rattle.std.specs.Prelude.{pos, ◌+ℤ◌, ◌-ℤ◌, int_le, int_lt, nat_eq, nat_lt, slice_get, if◌then◌else◌}
use Rattle.base.specs.Words.{same}
use Rattle.syntax_tree.specs.Placed.{Constant, Scalar, int, boolean, subrange, Kind, scalar, array, Var, Param, Routine, Member, variable_member, condition_member, Monitor, Activation, periodic, at_event, Handler, Process, Decl, constant, device, event, routine, monitor, process, Prog, optional}
use Rattle.syntax_tree.specs.declared.place.Place.{Place}
use Rattle.syntax_tree.specs.Parts.{processes, monitors, routines, devices, events}
use Rattle.source_semantics.specs.Store.{up_to}
use Rattle.static_rule.specs.Parts.{FailsAmong}
use Rattle.static_names.specs.Occurrences.{names, declared_at}
use Rattle.static_declarations.specs.Values.{Worth, value, constant_place, is_within, out_of}
use Rattle.static_numbers.specs.Types as types
use Rattle.static_numbers.specs.Types.{Bounds, decls_bounds, crossed, too_long}
use Rattle.static_numbers.specs.Processes as of_process
use Rattle.static_numbers.specs.Processes.{frame_of, deadline_of, bad_frame, bad_deadline, bad_limit, bad_first, bad_start, is_activated_by, users, misused_event, Handled, handled, handler_numbers, all_handled, bad_handled, has_value, repeated}
use Rattle.static_numbers.specs.Counts as counts
use Rattle.static_numbers.specs.Counts.{process_places, monitor_places, conditions, routine_places, one_too_many, at_none, no_process, placed_kind_size, vars_words, members_words, words, too_many_words}
use Rattle.static_numbers.specs.Rules.{bounds_rules, process_rules, event_rules, handler_rules, count_rules, LimitFails}
use Rattle.printed_law.specs.Moved.{moved_constant, moved_scalar, moved_kind, moved_var, moved_param, moved_routine, moved_member, moved_monitor, moved_activation, moved_handler, moved_process, moved_decl, moved}
use Rattle.printed_law.specs.Alike.{AreAlike, Stays}
use Rattle.printed_law.proofs.Both.{Both, here, along, both-same, Likewise, Pairwise, appended}
use Rattle.printed_law.proofs.NameRules.{found-like}
use Rattle.printed_law.proofs.Rules.{placed-if, placed-unless, among-stays}
use Rattle.printed_law.proofs.Statements.{LikeWorth, worth-like, constant-place-like, out-like}

pub data LikeBounds {X : Type 0} (a b : X → Place) : Bounds → Bounds → Type 0 where
  bounds : (of_array : Bool) (low high : Constant X)
      → LikeBounds a b (record { of_array = of_array; low = moved_constant a low; high = moved_constant a high }) (record { of_array = of_array; low = moved_constant b low; high = moved_constant b high })

record Bs {X : Type 0} (a b : X → Place) (xs ys : List Bounds) : Type 0 where
  are : Pairwise (LikeBounds a b) xs ys

abbrev LikeConstant : {X : Type 0} → (a b : X → Place) → Constant Place → Constant Place → Type 0
LikeConstant a b c d = Both (moved_constant a) (moved_constant b) c d

pub record LikeHandled {X : Type 0} (a b : X → Place) (x y : Handled) : Type 0 where
  pub before : Pairwise (LikeConstant a b) x.before y.before
  pub number : LikeConstant a b x.number y.number

record Hs {X : Type 0} (a b : X → Place) (xs ys : List Handled) : Type 0 where
  are : Pairwise (LikeHandled a b) xs ys

module _ {X : Type 0} (a b : X → Place) where
  -- ---- bounds of types

  bounds-cons : (o : Bool) (low high : Constant X) {xs ys : List Bounds} → Bs a b xs ys
      → Bs a b (record { of_array = o; low = moved_constant a low; high = moved_constant a high } ∷ xs) (record { of_array = o; low = moved_constant b low; high = moved_constant b high } ∷ ys)
  bounds-cons o low high rest = record { are = (bounds o low high, rest.are) }

  scalar-like : (s : Scalar X) {xs ys : List Bounds} → Bs a b xs ys → Bs a b (types.scalar_bounds (moved_scalar a s) xs) (types.scalar_bounds (moved_scalar b s) ys)
  scalar-like int rest = rest
  scalar-like boolean rest = rest
  scalar-like (subrange low high) rest = bounds-cons false low high rest

  kind-like : (k : Kind X) {xs ys : List Bounds} → Bs a b xs ys → Bs a b (types.kind_bounds (moved_kind a k) xs) (types.kind_bounds (moved_kind b k) ys)
  kind-like (scalar s) rest = scalar-like s rest
  kind-like (array low high s) rest = bounds-cons true low high (scalar-like s rest)

  vars-like : (vs : List (Var X)) {xs ys : List Bounds} → Bs a b xs ys → Bs a b (types.vars_bounds (map (moved_var a) vs) xs) (types.vars_bounds (map (moved_var b) vs) ys)
  vars-like [] rest = rest
  vars-like (v ∷ vs) rest = kind-like v.kind (vars-like vs rest)

  params-like : (vs : List (Param X)) {xs ys : List Bounds} → Bs a b xs ys → Bs a b (types.params_bounds (map (moved_param a) vs) xs) (types.params_bounds (map (moved_param b) vs) ys)
  params-like [] rest = rest
  params-like (v ∷ vs) rest = scalar-like v.kind (params-like vs rest)

  result-like : (s : Option (Scalar X)) {xs ys : List Bounds} → Bs a b xs ys → Bs a b (types.result_bounds (optional (moved_scalar a) s) xs) (types.result_bounds (optional (moved_scalar b) s) ys)
  result-like None rest = rest
  result-like (Some s) rest = scalar-like s rest

  routines-like : (rs : List (Routine X)) {xs ys : List Bounds} → Bs a b xs ys → Bs a b (types.routines_bounds (map (moved_routine a) rs) xs) (types.routines_bounds (map (moved_routine b) rs) ys)
  routines-like [] rest = rest
  routines-like (r ∷ rs) rest = params-like r.params (result-like r.result (vars-like r.vars (routines-like rs rest)))

  members-like : (ms : List (Member X)) {xs ys : List Bounds} → Bs a b xs ys → Bs a b (types.members_bounds (map (moved_member a) ms) xs) (types.members_bounds (map (moved_member b) ms) ys)
  members-like [] rest = rest
  members-like (variable_member v ∷ ms) rest = kind-like v.kind (members-like ms rest)
  members-like (condition_member name p ∷ ms) rest = members-like ms rest

  bounds-like : (ds : List (Decl X)) {xs ys : List Bounds} → Bs a b xs ys → Bs a b (decls_bounds (map (moved_decl a) ds) xs) (decls_bounds (map (moved_decl b) ds) ys)
  bounds-like [] rest = rest
  bounds-like (constant name p c ∷ ds) rest = bounds-like ds rest
  bounds-like (device name p is_out ∷ ds) rest = bounds-like ds rest
  bounds-like (event name p ∷ ds) rest = bounds-like ds rest
  bounds-like (routine r ∷ ds) rest = params-like r.params (result-like r.result (vars-like r.vars (bounds-like ds rest)))
  bounds-like (monitor m ∷ ds) rest = members-like m.members (routines-like m.entries (bounds-like ds rest))
  bounds-like (process p ∷ ds) rest = vars-like p.vars (routines-like p.routines (bounds-like ds rest))

  -- ---- what a program has

  pub processes-like : (ds : List (Decl X)) → Pairwise (Both (moved_process a) (moved_process b)) (processes (map (moved_decl a) ds)) (processes (map (moved_decl b) ds))
  processes-like [] = tt
  processes-like (constant name p c ∷ ds) = processes-like ds
  processes-like (device name p is_out ∷ ds) = processes-like ds
  processes-like (event name p ∷ ds) = processes-like ds
  processes-like (routine r ∷ ds) = processes-like ds
  processes-like (monitor m ∷ ds) = processes-like ds
  processes-like (process p ∷ ds) = (here (moved_process a) (moved_process b) p, processes-like ds)

  monitors-like : (ds : List (Decl X)) → Pairwise (Both (moved_monitor a) (moved_monitor b)) (monitors (map (moved_decl a) ds)) (monitors (map (moved_decl b) ds))
  monitors-like [] = tt
  monitors-like (constant name p c ∷ ds) = monitors-like ds
  monitors-like (device name p is_out ∷ ds) = monitors-like ds
  monitors-like (event name p ∷ ds) = monitors-like ds
  monitors-like (routine r ∷ ds) = monitors-like ds
  monitors-like (monitor m ∷ ds) = (here (moved_monitor a) (moved_monitor b) m, monitors-like ds)
  monitors-like (process p ∷ ds) = monitors-like ds

  events-like : (ds : List (Decl X)) → Pairwise (Both a b) (events (map (moved_decl a) ds)) (events (map (moved_decl b) ds))
  events-like [] = tt
  events-like (constant name p c ∷ ds) = events-like ds
  events-like (device name p is_out ∷ ds) = events-like ds
  events-like (event name p ∷ ds) = (here a b p, events-like ds)
  events-like (routine r ∷ ds) = events-like ds
  events-like (monitor m ∷ ds) = events-like ds
  events-like (process p ∷ ds) = events-like ds

  devices-like : (ds : List (Decl X)) → Pairwise (Both a b) (devices (map (moved_decl a) ds)) (devices (map (moved_decl b) ds))
  devices-like [] = tt
  devices-like (constant name p c ∷ ds) = devices-like ds
  devices-like (device name p is_out ∷ ds) = (here a b p, devices-like ds)
  devices-like (event name p ∷ ds) = devices-like ds
  devices-like (routine r ∷ ds) = devices-like ds
  devices-like (monitor m ∷ ds) = devices-like ds
  devices-like (process p ∷ ds) = devices-like ds

  members-of-list : {S T : Type 0} (f g : S → T) → (xs : List S) → Pairwise (Both f g) (map f xs) (map g xs)
  members-of-list f g [] = tt
  members-of-list f g (x ∷ xs) = (here f g x, members-of-list f g xs)

  pub routines-of : (ds : List (Decl X)) → Pairwise (Both (moved_routine a) (moved_routine b)) (routines (map (moved_decl a) ds)) (routines (map (moved_decl b) ds))
  routines-of [] = tt
  routines-of (constant name p c ∷ ds) = routines-of ds
  routines-of (device name p is_out ∷ ds) = routines-of ds
  routines-of (event name p ∷ ds) = routines-of ds
  routines-of (routine r ∷ ds) = (here (moved_routine a) (moved_routine b) r, routines-of ds)
  routines-of (monitor m ∷ ds) = appended (Both (moved_routine a) (moved_routine b)) (map (moved_routine a) m.entries) (routines (map (moved_decl a) ds)) (map (moved_routine b) m.entries) (routines (map (moved_decl b) ds))
      (members-of-list (moved_routine a) (moved_routine b) m.entries) (routines-of ds)
  routines-of (process p ∷ ds) = appended (Both (moved_routine a) (moved_routine b)) (map (moved_routine a) p.routines) (routines (map (moved_decl a) ds)) (map (moved_routine b) p.routines) (routines (map (moved_decl b) ds))
      (members-of-list (moved_routine a) (moved_routine b) p.routines) (routines-of ds)

  -- the places of related things
  places-like : {U : Type 0} (R : U → U → Type 0) (at : U → Place) → ((x y : U) → R x y → Both a b (at x) (at y)) → (xs ys : List U) → Pairwise R xs ys → Pairwise (Both a b) (map at xs) (map at ys)
  places-like R at are [] [] like = tt
  places-like R at are [] (y ∷ ys) like = absurd like
  places-like R at are (x ∷ xs) [] like = absurd like
  places-like R at are (x ∷ xs) (y ∷ ys) like = (are x y like.0, places-like R at are xs ys like.1)

  pub process-place : (x y : Process Place) → Both (moved_process a) (moved_process b) x y → Both a b x.place y.place
  process-place = along (moved_process a) (moved_process b) (λ x y. Both a b x.place y.place) (λ p. here a b p.place)

  monitor-place : (x y : Monitor Place) → Both (moved_monitor a) (moved_monitor b) x y → Both a b x.place y.place
  monitor-place = along (moved_monitor a) (moved_monitor b) (λ x y. Both a b x.place y.place) (λ m. here a b m.place)

  pub routine-place : (x y : Routine Place) → Both (moved_routine a) (moved_routine b) x y → Both a b x.place y.place
  routine-place = along (moved_routine a) (moved_routine b) (λ x y. Both a b x.place y.place) (λ r. here a b r.place)

  member-conditions-like : (ms : List (Member X)) → Pairwise (Both a b) (counts.member_conditions (map (moved_member a) ms)) (counts.member_conditions (map (moved_member b) ms))
  member-conditions-like [] = tt
  member-conditions-like (variable_member v ∷ ms) = member-conditions-like ms
  member-conditions-like (condition_member name p ∷ ms) = (here a b p, member-conditions-like ms)

  conditions-like : (xs ys : List (Monitor Place)) → Pairwise (Both (moved_monitor a) (moved_monitor b)) xs ys → Pairwise (Both a b) (conditions xs) (conditions ys)
  conditions-like [] [] like = tt
  conditions-like [] (y ∷ ys) like = absurd like
  conditions-like (x ∷ xs) [] like = absurd like
  conditions-like (x ∷ xs) (y ∷ ys) like =
      appended (Both a b) (counts.member_conditions x.members) (conditions xs) (counts.member_conditions y.members) (conditions ys)
      (along (moved_monitor a) (moved_monitor b) (λ x y. Pairwise (Both a b) (counts.member_conditions x.members) (counts.member_conditions y.members)) (λ m. member-conditions-like m.members) x y like.0)
      (conditions-like xs ys like.1)

  one-like : (most : ℕ) (ps qs : List Place) → Pairwise (Both a b) ps qs → Likewise (Both a b) (slice_get ps most) (slice_get qs most)
  one-like most [] [] like = tt
  one-like most [] (q ∷ qs) like = absurd like
  one-like most (p ∷ ps) [] like = absurd like
  one-like zero (p ∷ ps) (q ∷ qs) like = like.0
  one-like (suc most) (p ∷ ps) (q ∷ qs) like = one-like most ps qs like.1

  none-like : {U V : Type 0} (R : U → V → Type 0) (p q : Place) → Both a b p q → (xs : List U) (ys : List V) → Pairwise R xs ys → Likewise (Both a b) (at_none p xs) (at_none q ys)
  none-like R p q both [] [] like = both
  none-like R p q both [] (y ∷ ys) like = absurd like
  none-like R p q both (x ∷ xs) [] like = absurd like
  none-like R p q both (x ∷ xs) (y ∷ ys) like = tt

  module _ (v w : Worth) (worth : LikeWorth a b v w) where
    crossed-like : {x y : Bounds} → LikeBounds a b x y → Likewise (Both a b) (crossed v x) (crossed w y)
    crossed-like (bounds o low high) =
        placed-if a b (int_lt (v (moved_constant a high)) (v (moved_constant a low))) (int_lt (w (moved_constant b high)) (w (moved_constant b low))) (λ i. int_lt (worth high i) (worth low i))
        (constant_place (moved_constant a low)) (constant_place (moved_constant b low)) (constant-place-like a b low)

    too-long-like : {x y : Bounds} → LikeBounds a b x y → Likewise (Both a b) (too_long v x) (too_long w y)
    too-long-like (bounds true low high) =
        placed-if a b (int_le (v (moved_constant a low) +ℤ pos 65536) (v (moved_constant a high))) (int_le (w (moved_constant b low) +ℤ pos 65536) (w (moved_constant b high)))
        (λ i. int_le (worth low i +ℤ pos 65536) (worth high i)) (constant_place (moved_constant a low)) (constant_place (moved_constant b low)) (constant-place-like a b low)
    too-long-like (bounds false low high) = tt

    -- ---- processes

    frame-like : (x : Process X) → Likewise (Both a b) (bad_frame v (moved_process a x)) (bad_frame w (moved_process b x))
    frame-like x = by x.activation
      where
        by : (y : Activation X) → Likewise (Both a b) (out_of v 10 1000000000 (frame_of (moved_activation a y))) (out_of w 10 1000000000 (frame_of (moved_activation b y)))
        by (periodic frame deadline start) = out-like a b v w worth 10 1000000000 frame
        by (at_event name p frame deadline) = out-like a b v w worth 10 1000000000 frame

    limit-like : (frame : Constant X) (c : Option (Constant X)) → Likewise (Both a b) (bad_limit v (moved_constant a frame) (optional (moved_constant a) c)) (bad_limit w (moved_constant b frame) (optional (moved_constant b) c))
    limit-like frame None = tt
    limit-like frame (Some c) =
        placed-unless a b (int_le (pos 10) (v (moved_constant a c)) && int_le (v (moved_constant a c)) (v (moved_constant a frame)))
        (int_le (pos 10) (w (moved_constant b c)) && int_le (w (moved_constant b c)) (w (moved_constant b frame))) (λ i. int_le (pos 10) (worth c i) && int_le (worth c i) (worth frame i))
        (constant_place (moved_constant a c)) (constant_place (moved_constant b c)) (constant-place-like a b c)

    deadline-like : (x : Process X) → Likewise (Both a b) (bad_deadline v (moved_process a x)) (bad_deadline w (moved_process b x))
    deadline-like x = by x.activation
      where
        by : (y : Activation X) → Likewise (Both a b) (bad_limit v (frame_of (moved_activation a y)) (deadline_of (moved_activation a y))) (bad_limit w (frame_of (moved_activation b y)) (deadline_of (moved_activation b y)))
        by (periodic frame deadline start) = limit-like frame deadline
        by (at_event name p frame deadline) = limit-like frame deadline

    start-like : (x : Process X) → Likewise (Both a b) (bad_first v (moved_process a x)) (bad_first w (moved_process b x))
    start-like x = by x.activation
      where
        by : (y : Activation X) → Likewise (Both a b) (bad_start v (moved_activation a y)) (bad_start w (moved_activation b y))
        by (periodic frame deadline None) = tt
        by (periodic frame deadline (Some start)) = out-like a b v w worth 0 1000000000 start
        by (at_event name p frame deadline) = tt

    -- ---- the numbers of handlers

    handled-like : (before after : List (Constant Place)) → Pairwise (LikeConstant a b) before after → (cs : List (Constant X)) {xs ys : List Handled} → Hs a b xs ys
        → Hs a b (handled before (map (moved_constant a) cs) xs) (handled after (map (moved_constant b) cs) ys)
    handled-like before after earlier [] rest = rest
    handled-like before after earlier (c ∷ cs) rest =
        let own = here (moved_constant a) (moved_constant b) c in
        record {
          are = (
            record { before = earlier; number = own },
            (handled-like (before ++ moved_constant a c ∷ []) (after ++ moved_constant b c ∷ [])
                (appended (LikeConstant a b) before (moved_constant a c ∷ []) after (moved_constant b c ∷ []) earlier (own, tt)) cs rest).are,
          );
        }

    handler-like : (h : Option (Handler X)) {xs ys : List Handled} → Hs a b xs ys → Hs a b (handler_numbers (optional (moved_handler a) h) xs) (handler_numbers (optional (moved_handler b) h) ys)
    handler-like None rest = rest
    handler-like (Some h) rest = handled-like [] [] tt h.numbers rest

    numbers-like : (ds : List (Decl X)) → Hs a b (all_handled (processes (map (moved_decl a) ds))) (all_handled (processes (map (moved_decl b) ds)))
    numbers-like [] = record { are = tt }
    numbers-like (constant name p c ∷ ds) = numbers-like ds
    numbers-like (device name p is_out ∷ ds) = numbers-like ds
    numbers-like (event name p ∷ ds) = numbers-like ds
    numbers-like (routine r ∷ ds) = numbers-like ds
    numbers-like (monitor m ∷ ds) = numbers-like ds
    numbers-like (process p ∷ ds) = handler-like p.handler (numbers-like ds)

    worth-both : (c d : Constant Place) → LikeConstant a b c d → v c ≡ w d
    worth-both = along (moved_constant a) (moved_constant b) (λ c d. v c ≡ w d) worth

    place-both : (c d : Constant Place) → LikeConstant a b c d → Both a b (constant_place c) (constant_place d)
    place-both = along (moved_constant a) (moved_constant b) (λ c d. Both a b (constant_place c) (constant_place d)) (constant-place-like a b)

    handled-bad-like : (x y : Handled) → LikeHandled a b x y → Likewise (Both a b) (bad_handled v x) (bad_handled w y)
    handled-bad-like x y like =
        let same = worth-both x.number y.number like.number in
        placed-unless a b (is_within 1 4 (v x.number) || is_within 10 999 (v x.number)) (is_within 1 4 (w y.number) || is_within 10 999 (w y.number)) (λ i. is_within 1 4 (same i) || is_within 10 999 (same i))
        (constant_place x.number) (constant_place y.number) (place-both x.number y.number like.number)

    value-like : (m n : ℤ) → m ≡ n → (xs ys : List (Constant Place)) → Pairwise (LikeConstant a b) xs ys → has_value v m xs ≡ has_value w n ys
    value-like m n is [] [] like = refl
    value-like m n is [] (y ∷ ys) like = absurd like
    value-like m n is (x ∷ xs) [] like = absurd like
    value-like m n is (x ∷ xs) (y ∷ ys) like = let one = worth-both x y like.0 in λ i. same (one i) (is i) || value-like m n is xs ys like.1 i

    repeated-like : (x y : Handled) → LikeHandled a b x y → Likewise (Both a b) (repeated v x) (repeated w y)
    repeated-like x y like =
        placed-if a b (has_value v (v x.number) x.before) (has_value w (w y.number) y.before)
        (value-like (v x.number) (w y.number) (worth-both x.number y.number like.number) x.before y.before like.before)
        (constant_place x.number) (constant_place y.number) (place-both x.number y.number like.number)

    -- ---- words

    kind-words-like : (k : Kind X) → placed_kind_size v (moved_kind a k) ≡ placed_kind_size w (moved_kind b k)
    kind-words-like (scalar s) = refl
    kind-words-like (array low high s) = λ i. up_to (worth high i -ℤ worth low i)

    vars-words-like : (vs : List (Var X)) → vars_words v (map (moved_var a) vs) ≡ vars_words w (map (moved_var b) vs)
    vars-words-like [] = refl
    vars-words-like (x ∷ vs) = λ i. kind-words-like x.kind i + vars-words-like vs i

    members-words-like : (ms : List (Member X)) → members_words v (map (moved_member a) ms) ≡ members_words w (map (moved_member b) ms)
    members-words-like [] = refl
    members-words-like (variable_member x ∷ ms) = λ i. kind-words-like x.kind i + members-words-like ms i
    members-words-like (condition_member name p ∷ ms) = members-words-like ms

    words-like : (ds : List (Decl X)) → words v (map (moved_decl a) ds) ≡ words w (map (moved_decl b) ds)
    words-like [] = refl
    words-like (constant name p c ∷ ds) = words-like ds
    words-like (device name p is_out ∷ ds) = words-like ds
    words-like (event name p ∷ ds) = words-like ds
    words-like (routine r ∷ ds) = words-like ds
    words-like (monitor m ∷ ds) = λ i. members-words-like m.members i + words-like ds i
    words-like (process p ∷ ds) = λ i. vars-words-like p.vars i + words-like ds i

  -- ---- events

  module _ (apart : AreAlike a b) (found other : Place → Option Place) (known : (p q : Place) → Both a b p q → Likewise (Both a b) (found p) (other q)) where
    event-like : (p q : Place) → Both a b p q → (x y : Option Place) → Likewise (Both a b) x y → of_process.is_at p x ≡ of_process.is_at q y
    event-like p q own None None like = refl
    event-like p q own (Some r) (Some s) like = both-same a b apart r s p q like own
    event-like p q own None (Some s) like = absurd like
    event-like p q own (Some r) None like = absurd like

    activated-like : (p q : Place) → Both a b p q → (x : Activation X) → is_activated_by found p (moved_activation a x) ≡ is_activated_by other q (moved_activation b x)
    activated-like p q own (periodic frame deadline start) = refl
    activated-like p q own (at_event name x frame deadline) = event-like p q own (found (a x)) (other (b x)) (known (a x) (b x) (here a b x))

    users-like : (p q : Place) → Both a b p q → (xs ys : List (Process Place)) → Pairwise (Both (moved_process a) (moved_process b)) xs ys → users found p xs ≡ users other q ys
    users-like p q own [] [] like = refl
    users-like p q own [] (y ∷ ys) like = absurd like
    users-like p q own (x ∷ xs) [] like = absurd like
    users-like p q own (x ∷ xs) (y ∷ ys) like =
        let one = along (moved_process a) (moved_process b) (λ x y. is_activated_by found p x.activation ≡ is_activated_by other q y.activation) (λ z. activated-like p q own z.activation) x y like.0 in
        λ i. if one i then suc (users-like p q own xs ys like.1 i) else users-like p q own xs ys like.1 i

    misused-like : (ps qs : List (Process Place)) → Pairwise (Both (moved_process a) (moved_process b)) ps qs → (p q : Place) → Both a b p q → Likewise (Both a b) (misused_event found ps p) (misused_event other qs q)
    misused-like ps qs like p q own =
        placed-unless a b (nat_eq (users found p ps) 1) (nat_eq (users other q qs) 1) (ap (λ n. nat_eq n 1) (users-like p q own ps qs like)) p q own

  -- ---- all rules

  module _ (apart : AreAlike a b) (t : Prog X) where
    worth : LikeWorth a b (value (moved a t)) (value (moved b t))
    worth = worth-like a b t

    bounds-stay : (number : ℕ) (p : Place) → FailsAmong (bounds_rules (moved a t)) (decls_bounds (map (moved_decl a) t.decls) []) number p
        → Stays a b p (FailsAmong (bounds_rules (moved b t)) (decls_bounds (map (moved_decl b) t.decls) []) number)
    bounds-stay number p = among-stays a b (LikeBounds a b) (bounds_rules (moved a t)) (bounds_rules (moved b t)) (
      record { number = refl; fails = λ x y like. crossed-like (value (moved a t)) (value (moved b t)) worth like },
      (record { number = refl; fails = λ x y like. too-long-like (value (moved a t)) (value (moved b t)) worth like }, tt),
    )
        (decls_bounds (map (moved_decl a) t.decls) []) (decls_bounds (map (moved_decl b) t.decls) []) (bounds-like t.decls (record { are = tt })).are number p

    of-process : (f g : Process Place → Option Place) → ((x : Process X) → Likewise (Both a b) (f (moved_process a x)) (g (moved_process b x)))
        → (x y : Process Place) → Both (moved_process a) (moved_process b) x y → Likewise (Both a b) (f x) (g y)
    of-process f g are = along (moved_process a) (moved_process b) (λ x y. Likewise (Both a b) (f x) (g y)) are

    of-program : (f g : Prog Place → Option Place) → ((x : Prog X) → Likewise (Both a b) (f (moved a x)) (g (moved b x)))
        → (x y : Prog Place) → Both (moved a) (moved b) x y → Likewise (Both a b) (f x) (g y)
    of-program f g are = along (moved a) (moved b) (λ x y. Likewise (Both a b) (f x) (g y)) are

    processes-stay : (number : ℕ) (p : Place) → FailsAmong (process_rules (moved a t)) (processes (map (moved_decl a) t.decls)) number p
        → Stays a b p (FailsAmong (process_rules (moved b t)) (processes (map (moved_decl b) t.decls)) number)
    processes-stay number p =
        let v = value (moved a t) in
        let w = value (moved b t) in
        among-stays a b (Both (moved_process a) (moved_process b)) (process_rules (moved a t)) (process_rules (moved b t)) (
          record { number = refl; fails = of-process (bad_frame v) (bad_frame w) (frame-like v w worth) },
          (
            record { number = refl; fails = of-process (bad_deadline v) (bad_deadline w) (deadline-like v w worth) },
            (record { number = refl; fails = of-process (bad_first v) (bad_first w) (start-like v w worth) }, tt),
          ),
        )
        (processes (map (moved_decl a) t.decls)) (processes (map (moved_decl b) t.decls)) (processes-like t.decls) number p

    events-stay : (number : ℕ) (p : Place) → FailsAmong (event_rules (moved a t)) (events (map (moved_decl a) t.decls)) number p
        → Stays a b p (FailsAmong (event_rules (moved b t)) (events (map (moved_decl b) t.decls)) number)
    events-stay number p =
        among-stays a b (Both a b) (event_rules (moved a t)) (event_rules (moved b t)) (
          record {
            number = refl;
            fails = misused-like apart (declared_at (names (moved a t))) (declared_at (names (moved b t))) (found-like a b apart t)
                (processes (map (moved_decl a) t.decls)) (processes (map (moved_decl b) t.decls)) (processes-like t.decls);
          },
          tt,
        )
        (events (map (moved_decl a) t.decls)) (events (map (moved_decl b) t.decls)) (events-like t.decls) number p

    handlers-stay : (number : ℕ) (p : Place) → FailsAmong (handler_rules (moved a t)) (all_handled (processes (map (moved_decl a) t.decls))) number p
        → Stays a b p (FailsAmong (handler_rules (moved b t)) (all_handled (processes (map (moved_decl b) t.decls))) number)
    handlers-stay number p =
        let v = value (moved a t) in
        let w = value (moved b t) in
        among-stays a b (LikeHandled a b) (handler_rules (moved a t)) (handler_rules (moved b t))
        (record { number = refl; fails = repeated-like v w worth }, (record { number = refl; fails = handled-bad-like v w worth }, tt))
        (all_handled (processes (map (moved_decl a) t.decls))) (all_handled (processes (map (moved_decl b) t.decls))) (numbers-like v w worth t.decls).are number p

    counts-stay : (number : ℕ) (p : Place) → FailsAmong (count_rules (moved a t)) (moved a t ∷ []) number p → Stays a b p (FailsAmong (count_rules (moved b t)) (moved b t ∷ []) number)
    counts-stay number p =
        let v = value (moved a t) in
        let w = value (moved b t) in
        among-stays a b (Both (moved a) (moved b)) (count_rules (moved a t)) (count_rules (moved b t)) (
          record {
            number = refl;
            fails = of-program no_process no_process (λ x. none-like (Both (moved_process a) (moved_process b)) (a x.place) (b x.place) (here a b x.place) (processes (map (moved_decl a) x.decls)) (processes (map (moved_decl b) x.decls)) (processes-like x.decls));
          },
          (
            record {
              number = refl;
              fails = of-program (λ h. one_too_many 64 (process_places h.decls)) (λ h. one_too_many 64 (process_places h.decls)) (λ x. one-like 64 (process_places (map (moved_decl a) x.decls)) (process_places (map (moved_decl b) x.decls))
                  (places-like (Both (moved_process a) (moved_process b)) (λ y. y.place) process-place (processes (map (moved_decl a) x.decls)) (processes (map (moved_decl b) x.decls)) (processes-like x.decls)));
            },
            (
              record {
                number = refl;
                fails = of-program (λ h. one_too_many 64 (monitor_places h.decls)) (λ h. one_too_many 64 (monitor_places h.decls)) (λ x. one-like 64 (monitor_places (map (moved_decl a) x.decls)) (monitor_places (map (moved_decl b) x.decls))
                    (places-like (Both (moved_monitor a) (moved_monitor b)) (λ y. y.place) monitor-place (monitors (map (moved_decl a) x.decls)) (monitors (map (moved_decl b) x.decls)) (monitors-like x.decls)));
              },
              (
                record {
                  number = refl;
                  fails = of-program (λ h. one_too_many 64 (devices h.decls)) (λ h. one_too_many 64 (devices h.decls)) (λ x. one-like 64 (devices (map (moved_decl a) x.decls)) (devices (map (moved_decl b) x.decls)) (devices-like x.decls));
                },
                (
                  record {
                    number = refl;
                    fails = of-program (λ h. one_too_many 64 (events h.decls)) (λ h. one_too_many 64 (events h.decls)) (λ x. one-like 64 (events (map (moved_decl a) x.decls)) (events (map (moved_decl b) x.decls)) (events-like x.decls));
                  },
                  (
                    record {
                      number = refl;
                      fails = of-program (λ h. one_too_many 256 (conditions (monitors h.decls))) (λ h. one_too_many 256 (conditions (monitors h.decls))) (λ x. one-like 256 (conditions (monitors (map (moved_decl a) x.decls))) (conditions (monitors (map (moved_decl b) x.decls)))
                          (conditions-like (monitors (map (moved_decl a) x.decls)) (monitors (map (moved_decl b) x.decls)) (monitors-like x.decls)));
                    },
                    (
                      record {
                        number = refl;
                        fails = of-program (λ h. one_too_many 512 (routine_places h.decls)) (λ h. one_too_many 512 (routine_places h.decls)) (λ x. one-like 512 (routine_places (map (moved_decl a) x.decls)) (routine_places (map (moved_decl b) x.decls))
                            (places-like (Both (moved_routine a) (moved_routine b)) (λ y. y.place) routine-place (routines (map (moved_decl a) x.decls)) (routines (map (moved_decl b) x.decls)) (routines-of x.decls)));
                      },
                      (
                        record {
                          number = refl;
                          fails = of-program (too_many_words v) (too_many_words w) (λ x. placed-if a b (nat_lt 1048576 (words v (map (moved_decl a) x.decls))) (nat_lt 1048576 (words w (map (moved_decl b) x.decls)))
                              (ap (nat_lt 1048576) (words-like v w worth x.decls)) (a x.place) (b x.place) (here a b x.place));
                        },
                        tt,
                      ),
                    ),
                  ),
                ),
              ),
            ),
          ),
        )
        (moved a t ∷ []) (moved b t ∷ []) (here (moved a) (moved b) t, tt) number p

    pub limits-stay : (number : ℕ) (p : Place) → LimitFails (moved a t) number p → Stays a b p (LimitFails (moved b t) number)
    limits-stay number p (inl fails) = let it = bounds-stay number p fails in record { at = it.at; is = it.is; holds = inl it.holds }
    limits-stay number p (inr (inl fails)) = let it = processes-stay number p fails in record { at = it.at; is = it.is; holds = inr (inl it.holds) }
    limits-stay number p (inr (inr (inl fails))) = let it = events-stay number p fails in record { at = it.at; is = it.is; holds = inr (inr (inl it.holds)) }
    limits-stay number p (inr (inr (inr (inl fails)))) = let it = handlers-stay number p fails in record { at = it.at; is = it.is; holds = inr (inr (inr (inl it.holds))) }
    limits-stay number p (inr (inr (inr (inr fails)))) = let it = counts-stay number p fails in record { at = it.at; is = it.is; holds = inr (inr (inr (inr it.holds))) }
