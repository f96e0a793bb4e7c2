-- A valid image fits its trees.
use Rattle.std.proofs.Common.{◌≡◌, ◌≤◌, ◌<◌, ◌+◌, ◌-◌, ◌⊎◌, inl, inr, ℕ, List, [], length, Option, Some, None, arith, refl, ap, sym, subst, ◌∙◌, true, false, Bool}
use Rattle.std.specs.Prelude.{pos, ◌&&◌, cond, take, nat_eq, nat_lt, slice_get}
use Rattle.std.proofs.lemmas.Bool.{cases_lt, cases_Bool, and_parts, eqb-true}
use Rattle.std.proofs.lemmas.Option.{slice_get_within}
use Rattle.base.proofs.Lists.{some_at, take_get, take_past}
use Rattle.machine_isa.specs.declared.instr.Instr.{Instr}
use Rattle.machine_isa.specs.declared.instr.Instr.TheVariants as i
use Rattle.base.specs.Capped.{cap}
use Rattle.machine_semantics.specs.Trees.{Segs, size}
use Rattle.machine_semantics.specs.Image.{Image, Routine, Process}
use Rattle.machine_semantics.specs.Tick.{ceiling}
use Rattle.machine_semantics.specs.Part.{Part}
use Rattle.machine_semantics.specs.Walk.{Where, WalkCost, Covers, Walks, Reaches}
use Rattle.machine_semantics.specs.Job.{RoutineFits}
use Rattle.valid_image_law.specs.Rules.{AllMayStand, IsKnown, AllKnown, with_leave}
use Rattle.valid_image_law.proofs.Tests.{passed, below}
use Rattle.valid_image_law.proofs.Walks.{segs_walk, entry_walks}
use Rattle.valid_image.specs.Found.{Known, Found, longer, entry, ended, tree_found, is_return}
use Rattle.valid_image.specs.Pieces.{piece_of_routine, belongs, called}
use Rattle.valid_image.specs.Operands.{Whose, no_words, whose_routine, words_of_process, own_words, is_open_some, may_be_inside, may_call, bad_operand, operand_fault}
use Rattle.valid_image.specs.Shape.{shape_fault}
use Rattle.valid_image.specs.Sizes.{needed_stay, cost_fault, size_fault}
use Rattle.valid_image.specs.Tables.{count, monitor_of, known, routine_found, found_or_nothing, reach, bound_at, stays_at}
use Rattle.valid_image.specs.Valid.{HasOwner}
use Rattle.valid_image_law.proofs.Firsts.{table_length}
use Rattle.valid_image_law.proofs.Owners.{owned}
use Rattle.valid_image_law.proofs.Shapes.{piece_routine, follow}
use Rattle.valid_image_law.proofs.Standing.{Suits, may_stand}
use Rattle.valid_image_law.proofs.Exact.{ended_is, entry_stay}
use Rattle.valid_image_law.proofs.Reaching.{IsIn, call_in, NoLonger, calls_stay, owns_stay, calls_bound, limit_reaches, stay_more, stay_covers}
use Rattle.valid_image_law.proofs.Rows.{exact_of, exact, routine_costs, ExactRoutine, exact_routine, alike_before}
use Rattle.valid_image_law.proofs.Parts.{end_instr, depth_of_row, cost_of_row, greatest, greatest_is, stay_by, limit_by, no_part, part_of_routine, part_of_some, part_at, where_in, Reaching, callable}
use Rattle.valid_image_law.proofs.Passing.{routine_operands, params_fit}

-- ---- words

-- the words of a process are counted from 0
pub own_base : (image : Image) (w : Whose) → (own_words image w).base ≡ 0
own_base image w = by (nat_eq w.kind 1) (slice_get image.processes w.owner) where
  by : (b : Bool) (o : Option Process) → (cond b (words_of_process o) no_words).base ≡ 0
  by true None = refl
  by true (Some p) = refl
  by false o = refl

-- ---- all instructions of a piece

pub called_below : (image : Image) (w : Whose) (q : ℕ) → may_call image w (pos q) ≡ true → q < w.number
called_below image w q may =
    let t = and_parts (nat_lt q w.number && is_open_some w (slice_get image.routines q)) (may_be_inside image w q) may in
    let u = and_parts (nat_lt q w.number) (is_open_some w (slice_get image.routines q)) t.0 in
    omega (arith, below q w.number u.0)

-- each may stand in the part whose code it is
pub all_may : (image : Image) (part : Part) (w : Whose) (place at n : ℕ) (f : ℕ → Option ℕ) → Suits (where_in image part) w → Reaching image part w f
    → ((a : ℕ) → at ≤ a → a < at + n → belongs image place a ≡ true)
    → ((a : ℕ) (instr : Instr) → belongs image place a ≡ true → slice_get image.code a ≡ Some instr → bad_operand image w instr ≡ None)
    → ((q m : ℕ) → q < w.number → IsIn q (called image place) → NoLonger (stays_at (reach image) m q) (f m))
    → ((q : ℕ) → q < w.number → IsIn q (called image place) → bound_at (reach image) q ≡ true → nat_eq w.kind 2 ≡ false → part.level ≡ 2)
    → ((m : ℕ) → part.monitor ≡ Some m → Reaches (where_in image part) m) → AllMayStand (where_in image part) at (at + n)
all_may image part w place at n f suits reaching own passes longer up reach a instr from to here =
    may_stand (where_in image part) w suits instr (passes a instr (own a from to) here)
    (λ q is may.
    (let inside : IsIn q (called image place) = call_in image place a q (own a from to) (here ∙ ap (λ x. Some x) is) in
    let low : q < w.number = called_below image w q may in
    callable image part w f q reaching may (λ m. longer q m low inside) (λ low bound outside. up q low inside bound outside))) reach

-- ---- the end of a routine

return_is : (b : Bool) (x : Option Instr) → is_return b x ≡ true → x ≡ Some (end_instr b)
return_is true (Some i.ReturnValue) is = refl
return_is false (Some i.Return) is = refl
return_is _ _ is = absurd cc

gives_is : (b : Bool) (p : Part) → p.results ≡ count b → p.last ≡ end_instr b → ((p.results ≡ 0) × (p.last ≡ i.Return)) ⊎ ((p.results ≡ 1) × (p.last ≡ i.ReturnValue))
gives_is true p results last = inr (results, last)
gives_is false p results last = inl (results, last)

-- a routine is an entry, or has no monitor
entry_is : (x : Routine) (level : ℕ) (p : Part) → p.monitor ≡ monitor_of x → p.level ≡ cond (nat_eq x.kind 2) 1 level → (p.monitor ≡ None) ⊎ (p.level ≡ 1)
entry_is x level p monitor is = elim (cases_Bool (nat_eq x.kind 2)) [
  | inl entry ↦ inr (is ∙ ap (λ b. cond b 1 level) entry)
  | inr plain ↦ inl (monitor ∙ ap (λ b. cond b (Some x.owner) None) plain)
]

-- the code of a routine is of its tree, whether it is an entry or not
routine_walks : (e : Where) (known : List Known) (x : Option ℕ) (tree : Segs) (at : ℕ) (f : Found)
    → AllKnown e known → e.part.monitor ≡ x → ((m : ℕ) → x ≡ Some m → e.part.level ≡ 1) → ((m : ℕ) → e.part.monitor ≡ Some m → Reaches e m) → AllMayStand e at (at + size tree)
    → tree_found e.image.code known x tree at ≡ Some f → f.depth ≤ e.part.depth → ((m : ℕ) → x ≡ Some m → f.cost.run - 5 ≤ e.part.stays m)
    → Walks e None None 0 tree at (at + size tree) 0 f.height (with_leave f.cost)
routine_walks e known None tree at f knows own level reach may found_is deep short =
    segs_walk e known None None 0 tree at 0 at (at + size tree) (at + size tree) f knows (sym own) may (omega arith) (omega arith) refl found_is (omega (arith, deep))
routine_walks e known (Some m) tree at f knows own level reach may found_is deep short =
    entry_walks e known m tree at at (at + size tree) f knows own (level m refl) (reach m own) may (omega arith) (omega arith) found_is deep (short m refl)

-- ---- routines

module _ (image : Image) (operands : operand_fault image ≡ None) (shaped : shape_fault image ≡ None) (costs : cost_fault image ≡ None) (sizes : size_fault image ≡ None)
    (owners : (r : ℕ) (x : Routine) → slice_get image.routines r ≡ Some x → HasOwner image x) where
  -- what is known of a routine
  pub known_is : (part : Part) (j : ℕ) (k : Known) → slice_get (exact image) j ≡ Some k → IsKnown (where_in image part) j k
  known_is part j k at =
      let x = some_at image.routines j (omega (arith, slice_get_within (exact image) j k at, table_length (exact_of image.code) [] image.routines)) in
      let e = exact_routine image shaped costs j x.0 x.1 in
      let row : Known = record { params = x.0.params; results = count x.0.gives; locals = x.0.locals; depth = e.s.g.depth; cost = longer 4 e.s.g.cost } in
      let same : row ≡ k = (let a : Some row ≡ Some k = sym e.row ∙ at in cc) in
      let part_is : part_at image j ≡ part_of_routine image j x.0 = ap (λ o. part_of_some image j o) x.1 in
      let depth_is : depth_of_row (slice_get (exact image) j) ≡ row.depth = ap (λ o. depth_of_row o) e.row in
      subst (λ (y : Known). IsKnown (where_in image part) j y) same (record {
        routine = x.0;
        there = x.1;
        params = refl;
        fits = params_fit image sizes j x.0 x.1;
        locals = refl;
        same_locals = ap (λ (p : Part). p.locals) part_is;
        results = ap (λ (p : Part). p.results) part_is;
        depth = omega (arith, ap (λ (p : Part). p.depth) part_is, depth_is);
        cost = ap (λ o. cost_of_row o) e.row;
      })

  pub all_known : (part : Part) → AllKnown (where_in image part) (exact image)
  all_known part j k at = known_is part j k at

  known_before : (part : Part) (r : ℕ) → AllKnown (where_in image part) (take r (exact image))
  known_before part r j k at = elim (cases_lt j r) [
    | inl low ↦ known_is part j k (sym (take_get r j (exact image) low) ∙ at)
    | inr high ↦ absurd (let e : None ≡ Some k = sym (take_past r j (exact image) high) ∙ at in cc)
  ]

  -- the addresses of a routine are its own
  owns : (r : ℕ) (x : Routine) → slice_get image.routines r ≡ Some x → (a : ℕ) → x.start ≤ a → a < x.start + size x.tree → belongs image r a ≡ true
  owns r x at a from to = owned image r a (piece_of_routine x) (follow image shaped) (piece_routine image r x at) from (omega (arith, to))

  -- the stay of an entry is told
  short : (r : ℕ) (x : Routine) → slice_get image.routines r ≡ Some x → (e : ExactRoutine image shaped costs r x) → nat_eq x.kind 2 ≡ true → e.s.g.cost.run - 5 ≤ stay_by image (stays_at (reach image) x.owner r)
  short r x at e kind =
      let more : ℕ = greatest (exact image) in
      let c = routine_costs image costs r x at in
      let monitor : monitor_of x ≡ Some x.owner = ap (λ b. cond b (Some x.owner) None) kind in
      let f_is = passed (is_return x.gives (slice_get image.code (x.start + size x.tree))) (ended (count x.gives) (tree_found image.code (take r (known image)) (monitor_of x) x.tree x.start)) e.f e.declared in
      let g_is = passed (is_return x.gives (slice_get image.code (x.start + size x.tree))) (ended (count x.gives) (tree_found image.code (take r (exact image)) (monitor_of x) x.tree x.start)) e.s.g e.s.is in
      let f_ends = ended_is (count x.gives) (tree_found image.code (take r (known image)) (monitor_of x) x.tree x.start) e.f f_is.1 in
      let g_ends = ended_is (count x.gives) (tree_found image.code (take r (exact image)) (monitor_of x) x.tree x.start) e.s.g g_is.1 in
      let less : cap (e.s.g.cost.run - 5) ≤ cap (e.f.cost.run - 5) =
      entry_stay image.code (take r (known image)) (take r (exact image)) (alike_before image shaped costs r) x.owner x.tree x.start e.f e.s.g
      (ap (λ o. tree_found image.code (take r (known image)) o x.tree x.start) (sym monitor) ∙ f_ends.0) (ap (λ o. tree_found image.code (take r (exact image)) o x.tree x.start) (sym monitor) ∙ g_ends.0) in
      let needed : needed_stay image r x ≡ e.f.cost.run - 5 = ap (λ b. cond b ((found_or_nothing (routine_found image.code (take r (known image)) x)).cost.run - 5) 0) kind ∙ ap (λ o. (found_or_nothing o).cost.run - 5) e.declared in
      let declared : cap (e.s.g.cost.run - 5) ≤ x.stay = omega (arith, less, c.stay, needed) in
      let within : e.s.g.cost.run - 5 ≤ more = (let g = greatest_is (exact image) r _ e.row in omega (arith, g)) in
      let why : (e.s.g.cost.run - 5 ≤ x.stay) ⊎ (1000000000 < x.stay) = elim (cases_lt 1000000000 x.stay) [ inl over ↦ inr over | inr low ↦ inl (omega (arith, declared, low)) ] in
      let one : e.s.g.cost.run - 5 ≤ stay_by image (Some x.stay) = stay_covers more (e.s.g.cost.run - 5) x.stay within why in
      let two : stay_by image (Some x.stay) ≤ stay_by image (stays_at (reach image) x.owner r) = stay_more more (Some x.stay) (stays_at (reach image) x.owner r) (owns_stay image r x at kind) in
      omega (arith, one, two)

  -- an entry reaches its own monitor
  reach_own : (r : ℕ) (x : Routine) → slice_get image.routines r ≡ Some x → (part : Part) → part.limit ≡ limit_by image (λ m. stays_at (reach image) m r) → (m : ℕ) → monitor_of x ≡ Some m → Reaches (where_in image part) m
  reach_own r x at part limit m is = elim (cases_Bool (nat_eq x.kind 2)) [
    | inl entry ↦
        let same : x.owner ≡ m = (let e : Some x.owner ≡ Some m = sym (ap (λ b. cond b (Some x.owner) None) entry) ∙ is in cc) in
        let there = owners r x at (eqb-true x.kind 2 entry) in
        let low : ceiling (slice_get image.monitors x.owner) ≡ there.0.ceiling = ap (λ o. ceiling o) there.1 in
        let up = limit_reaches image.monitors (λ m. stays_at (reach image) m r) (length image.monitors) x.owner x.stay (slice_get_within image.monitors x.owner there.0 there.1) (owns_stay image r x at entry) in
        subst (λ k. Reaches (where_in image part) k) same (record { monitor = there.0; there = there.1; low = omega (arith, limit, low, up) })
    | inr plain ↦ absurd (let e : None ≡ Some m = sym (ap (λ b. cond b (Some x.owner) None) plain) ∙ is in cc)
  ]

  pub routine_fits : (r : ℕ) (x : Routine) → slice_get image.routines r ≡ Some x → RoutineFits (where_in image no_part) r x
  routine_fits r x at =
      let part = part_at image r in
      let w = whose_routine r x in
      let f = λ (m : ℕ). stays_at (reach image) m r in
      let e = exact_routine image shaped costs r x at in
      let n = size x.tree in
      let part_is : part_at image r ≡ part_of_routine image r x = ap (λ o. part_of_some image r o) at in
      let returns = is_return x.gives (slice_get image.code (x.start + n)) in
      let p = passed returns (ended (count x.gives) (tree_found image.code (take r (exact image)) (monitor_of x) x.tree x.start)) e.s.g e.s.is in
      let d = ended_is (count x.gives) (tree_found image.code (take r (exact image)) (monitor_of x) x.tree x.start) e.s.g p.1 in
      let monitor : part.monitor ≡ monitor_of x = ap (λ (p : Part). p.monitor) part_is in
      let level : part.level ≡ cond (nat_eq x.kind 2) 1 (cond (bound_at (reach image) r) 2 0) = ap (λ (p : Part). p.level) part_is in
      let limit : part.limit ≡ limit_by image f = ap (λ (p : Part). p.limit) part_is in
      let stays : (m : ℕ) → part.stays m ≡ stay_by image (f m) = λ m. ap (λ (p : Part). p.stays m) part_is in
      let results : part.results ≡ count x.gives = ap (λ (p : Part). p.results) part_is in
      let last : part.last ≡ end_instr x.gives = ap (λ (p : Part). p.last) part_is in
      let depth : part.depth ≡ e.s.g.depth = ap (λ (p : Part). p.depth) part_is ∙ ap (λ o. depth_of_row o) e.row in
      let reach_it : (m : ℕ) → part.monitor ≡ Some m → Reaches (where_in image part) m = λ m is. reach_own r x at part limit m (sym monitor ∙ is) in
      let suits : Suits (where_in image part) w = record { locals = ap (λ (p : Part). p.locals) part_is; owned = ap (λ (p : Part). p.owned) part_is; base = own_base image w; monitor = monitor } in
      let reaching : Reaching image part w f = record { owned = ap (λ (p : Part). p.owned) part_is; limit = omega (arith, limit); stays = λ m. omega (arith, stays m) } in
      let up : (q : ℕ) → q < r → IsIn q (called image r) → bound_at (reach image) q ≡ true → nat_eq x.kind 2 ≡ false → part.level ≡ 2 =
      λ q low inside bound outside. level ∙ (ap (λ b. cond b 1 (cond (bound_at (reach image) r) 2 0)) outside ∙ ap (λ b. cond b 2 0) (calls_bound image r q x at low inside bound)) in
      let may : AllMayStand (where_in image part) x.start (x.start + n) =
      all_may image part w r x.start n f suits reaching (owns r x at) (routine_operands image operands r x at) (λ q m low inside. calls_stay image r q m x at low inside) up reach_it in
      record {
        locals = ap (λ (p : Part). p.locals) part_is;
        last = x.start + n;
        inner = with_leave e.s.g.cost;
        tree =
            subst (λ (k : ℕ). Walks (where_in image part) None None 0 x.tree x.start (x.start + n) 0 k (with_leave e.s.g.cost)) (d.1 ∙ sym results)
            (routine_walks (where_in image part) (take r (exact image)) (monitor_of x) x.tree x.start e.s.g (known_before part r) monitor (λ m is. is_level x level m is) reach_it may d.0 (omega (arith, depth)) (λ m is. told_short x e stays m is));
        ends = return_is x.gives (slice_get image.code (x.start + n)) p.0 ∙ ap (λ (y : Instr). Some y) (sym last);
        returns = gives_is x.gives part results last;
        entry = entry_is x (cond (bound_at (reach image) r) 2 0) part monitor level;
        covers = subst (λ (c : WalkCost). Covers c (e.s.g.cost.run + 4) e.s.g.cost.susp e.s.g.cost.waits (e.s.g.cost.run + 4)) (sym (ap (λ o. cost_of_row o) e.row)) (record { run = omega arith; susp = omega arith; waits = omega arith; leave = omega arith });
      }
    where
      kind_is : (x : Routine) (m : ℕ) → monitor_of x ≡ Some m → nat_eq x.kind 2 ≡ true
      kind_is x m is = elim (cases_Bool (nat_eq x.kind 2)) [ inl entry ↦ entry | inr plain ↦ absurd (let e : None ≡ Some m = sym (ap (λ b. cond b (Some x.owner) None) plain) ∙ is in cc) ]

      is_level : (x : Routine) → (part_at image r).level ≡ cond (nat_eq x.kind 2) 1 (cond (bound_at (reach image) r) 2 0) → (m : ℕ) → monitor_of x ≡ Some m → (part_at image r).level ≡ 1
      is_level x level m is = level ∙ ap (λ b. cond b 1 (cond (bound_at (reach image) r) 2 0)) (kind_is x m is)

      told_short : (y : Routine) (e : ExactRoutine image shaped costs r x) → ((m : ℕ) → (part_at image r).stays m ≡ stay_by image (stays_at (reach image) m r)) → (m : ℕ) → monitor_of x ≡ Some m → e.s.g.cost.run - 5 ≤ (part_at image r).stays m
      told_short y e stays m is =
          let same : x.owner ≡ m = (let a : Some x.owner ≡ Some m = sym (ap (λ b. cond b (Some x.owner) None) (kind_is x m is)) ∙ is in cc) in
          let one : e.s.g.cost.run - 5 ≤ stay_by image (stays_at (reach image) m r) = subst (λ k. e.s.g.cost.run - 5 ≤ stay_by image (stays_at (reach image) k r)) same (short r x at e (kind_is x m is)) in
          omega (arith, one, stays m)
