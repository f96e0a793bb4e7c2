-- What names mean in monitors, and in routines one after another.
use Rattle.std.proofs.Common.{◌≡◌, Bool, true, false, List, [], ◌∷◌, ◌++◌, map, ◌⊎◌, inl, inr, refl, ap, sym, ◌∙◌, subst, append_assoc, append-nil}
use Rattle.std.specs.Prelude.{flat_map}
use Rattle.syntax_tree.specs.Placed.{Routine, Member, variable_member, condition_member, Monitor}
use Rattle.syntax_tree.specs.declared.place.Place.{Place}
use Rattle.static_names.specs.Reach.{Site, inside_monitor}
use Rattle.static_names.specs.Occurrences as rule
use Rattle.static_names.specs.Occurrences.{Occurrence}
use Rattle.message_names.specs.declared.role.Scope.{Scope}
use Rattle.message_names.specs.declared.role.What.TheVariants as what_is
use Rattle.message_names.specs.Mentions as told
use Rattle.message_names.specs.Mentions.{Mention, last_place}
use Rattle.message_names.specs.Reach.{before}
use Rattle.message_names.proofs.Bodies.{UnderAll, under-append, under-left, under-right}
use Rattle.message_names.proofs.Closing.{Within}
use Rattle.message_names.proofs.Order.{Ahead, Mem, Rising}
use Rattle.message_names.proofs.Others.{OwnAt, first-not, of-declarations}
use Rattle.message_names.proofs.Parts.{Part, part-behind, part-front, part-joined, mem-left, mem-right, mem-place, part-mem, part-rises, part-flat, part-member, part-routine, part-monitor}
use Rattle.message_names.proofs.Routines.{Reached, own-seen, var_declares, begin-map, begin-append, begin-under, Declaring, declaring-map, last-over, places-within, enclosed-routine, of-routine}
use Rattle.message_names.proofs.Spots.{places, member_spots, routine_spots, monitor_spots}
use Rattle.message_names.proofs.Uses.{Keeps, Sited, of-kind, bare-kind, Seen, from_of, end_of, last-not}
use Rattle.message_names.proofs.Views.{mem-split, silent-at, rises-left, rises-right, rises-apart, view, view-append, is-seen, bare-view, Enclosed, enclosed-append, enclosed-more, bare-enclosed, silent-before, silent-behind, begins, Under, Begin, Sees, Ties, ties-append, sees-within}

-- ---- routines one after another

abbrev pub routine_declares : (is_entry : Bool) → Scope → Routine Place → Mention
routine_declares is_entry own r = told.declares (told.routine_what is_entry r.kind) own r.name r.place

pub mem-flat : {X : Type 0} (f : X → List Place) (xs : List X) (x : X) (y : Place) → Mem x xs → Mem y (f x) → Mem y (flat_map f xs)
mem-flat f [] x y is at = absurd is
mem-flat f (z ∷ xs) x y (inl e) at = mem-left y (f z) (flat_map f xs) (subst (λ w. Mem y (f w)) (sym e) at)
mem-flat f (z ∷ xs) x y (inr is) at = mem-right y (f z) (flat_map f xs) (mem-flat f xs x y is at)

-- where nothing in the routines reaches, they do
pub view-routines : (is_entry : Bool) (own : Scope) (q : Place) → Reached own q → (rs : List (Routine Place)) → ((r : Routine Place) → Mem r rs → view q (told.routine_inner r) ≡ [])
    → view q (flat_map (told.routine_mentions is_entry own) rs) ≡ map (routine_declares is_entry own) rs
view-routines is_entry own q at [] silent = refl
view-routines is_entry own q at (r ∷ rs) silent =
    let others : List Mention = flat_map (told.routine_mentions is_entry own) rs in
    is-seen (routine_declares is_entry own r) q (told.routine_inner r ++ others) (own-seen (told.routine_what is_entry r.kind) own r.name r.place q at)
    ∙ ap (λ l. routine_declares is_entry own r ∷ l) (view-append q (told.routine_inner r) others ∙ ap (λ v. v ++ view q others) (silent r (inl refl)) ∙ view-routines is_entry own q at rs (λ x is. silent x (inr is)))

pub view-before : (is_entry : Bool) (own : Scope) (q : Place) → Reached own q → (rs : List (Routine Place)) → ((y : Place) → Mem y (flat_map routine_spots rs) → Ahead q y)
    → view q (flat_map (told.routine_mentions is_entry own) rs) ≡ map (routine_declares is_entry own) rs
view-before is_entry own q at rs h = view-routines is_entry own q at rs (λ r is. silent-before q (routine_spots r) (told.routine_inner r) (enclosed-routine r) (λ y on. h y (mem-flat routine_spots rs r y is on)))

pub view-behind : (is_entry : Bool) (own : Scope) (q : Place) → Reached own q → (rs : List (Routine Place)) → ((y : Place) → Mem y (flat_map routine_spots rs) → Ahead y q)
    → view q (flat_map (told.routine_mentions is_entry own) rs) ≡ map (routine_declares is_entry own) rs
view-behind is_entry own q at rs h = view-routines is_entry own q at rs (λ r is. silent-behind q (routine_spots r) (told.routine_inner r) (enclosed-routine r) (λ y on. h y (mem-flat routine_spots rs r y is on)))

abbrev heads : (is_entry : Bool) → Scope → List (Routine Place) → List Mention
heads is_entry own rs = map (routine_declares is_entry own) rs

pub part-heads : (is_entry : Bool) (own : Scope) (rs : List (Routine Place)) → Part (places (heads is_entry own rs)) (flat_map routine_spots rs)
part-heads is_entry own [] = tt
part-heads is_entry own (r ∷ rs) = inl (refl, part-behind _ (places (heads is_entry own rs)) (flat_map routine_spots rs) (part-heads is_entry own rs))

pub mem-heads : (is_entry : Bool) (own : Scope) (m : Mention) (rs : List (Routine Place)) → Mem m (heads is_entry own rs) → Mem m (flat_map (told.routine_mentions is_entry own) rs)
mem-heads is_entry own m [] is = absurd is
mem-heads is_entry own m (r ∷ rs) (inl e) = inl e
mem-heads is_entry own m (r ∷ rs) (inr is) = inr (mem-right m (told.routine_inner r) _ (mem-heads is_entry own m rs is))

-- at the name of one of the routines all of these reach
pub view-heads : (is_entry : Bool) (own : Scope) (rs : List (Routine Place)) → Rising (flat_map routine_spots rs) → (m : Mention) → Mem m (heads is_entry own rs) → Reached own m.place
    → view m.place (flat_map (told.routine_mentions is_entry own) rs) ≡ heads is_entry own rs
view-heads is_entry own [] rises m is at = absurd is
view-heads is_entry own (r ∷ rs) rises m (inl e) at =
    let others : List Mention = flat_map (told.routine_mentions is_entry own) rs in
    let rsp : List Place = routine_spots r in
    let osp : List Place = flat_map routine_spots rs in
    let q : Place = m.place in
    let is_r : r.place ≡ q = ap (λ x. x.place) e in
    is-seen (routine_declares is_entry own r) q (told.routine_inner r ++ others) (own-seen (told.routine_what is_entry r.kind) own r.name r.place q at)
    ∙ ap (λ l. routine_declares is_entry own r ∷ l) (view-append q (told.routine_inner r) others
    ∙ ap (λ v. v ++ view q others) (silent-at q rsp (told.routine_inner r) (enclosed-routine r) (λ y on. subst (λ x. before y x ≡ false) is_r (first-not r.place _ (rises-left rsp osp rises) y on)))
    ∙ view-before is_entry own q at rs (λ y on. subst (λ x. Ahead x y) is_r (rises-apart rsp osp rises r.place y (inl refl) on)))
view-heads is_entry own (r ∷ rs) rises m (inr is) at =
    let others : List Mention = flat_map (told.routine_mentions is_entry own) rs in
    let rsp : List Place = routine_spots r in
    let osp : List Place = flat_map routine_spots rs in
    let q : Place = m.place in
    is-seen (routine_declares is_entry own r) q (told.routine_inner r ++ others) (own-seen (told.routine_what is_entry r.kind) own r.name r.place q at)
    ∙ ap (λ l. routine_declares is_entry own r ∷ l) (view-append q (told.routine_inner r) others
    ∙ ap (λ v. v ++ view q others) (silent-behind q rsp (told.routine_inner r) (enclosed-routine r) (λ y on. rises-apart rsp osp rises y q on (part-mem (places (heads is_entry own rs)) osp q (part-heads is_entry own rs) (mem-place m (heads is_entry own rs) is))))
    ∙ view-heads is_entry own rs (rises-right rsp osp rises) m is at)

pub ties-routines : (own : Scope) (rs : List (Routine Place)) → Ties (map (routine_declares false own) rs) (map rule.routine_name rs)
ties-routines own [] = tt
ties-routines own (r ∷ rs) = (refl, refl, ties-routines own rs)

pub ties-entries : (own : Scope) (rs : List (Routine Place)) → Ties (map (routine_declares true own) rs) (map rule.entry_name rs)
ties-entries own [] = tt
ties-entries own (r ∷ rs) = (refl, refl, ties-entries own rs)

pub enclosed-routines : (ps : List Place) (is_entry : Bool) (own : Scope) → Mem own.begin ps → Mem own.end ps → (rs : List (Routine Place)) → ((y : Place) → Mem y (flat_map routine_spots rs) → Mem y ps)
    → Enclosed ps (flat_map (told.routine_mentions is_entry own) rs)
enclosed-routines ps is_entry own begin end [] more = tt
enclosed-routines ps is_entry own begin end (r ∷ rs) more = (
  λ x e. (subst (λ o. Mem (from_of o) ps) e begin, subst (λ o. Mem (end_of o) ps) e end),
  enclosed-append ps (told.routine_inner r) _ (enclosed-more (routine_spots r) ps (told.routine_inner r) (λ y on. more y (mem-left y (routine_spots r) (flat_map routine_spots rs) on)) (enclosed-routine r))
      (enclosed-routines ps is_entry own begin end rs (λ y on. more y (mem-right y (routine_spots r) (flat_map routine_spots rs) on))),
)

pub of-routines : (is_entry : Bool) (own : Scope) (ms outer behind : List Mention) (here : Site) (rs : List (Routine Place)) → Sees (outer ++ (map (routine_declares is_entry own) rs ++ behind)) here.means
    → Rising (flat_map routine_spots rs) → UnderAll (outer ++ (map (routine_declares is_entry own) rs ++ behind)) (flat_map routine_spots rs)
    → ((q : Place) → Mem q (places (flat_map (told.routine_mentions is_entry own) rs)) → Reached own q)
    → Within (flat_map (told.routine_mentions is_entry own) rs) ms → Seen ms outer behind (flat_map (told.routine_mentions is_entry own) rs) → Keeps ms (rule.routines_names here rs)
of-routines is_entry own ms outer behind here [] means rises under reached within seen more rest = rest
of-routines is_entry own ms outer behind here (r ∷ rs) means rises under reached within seen more rest =
    let d : Mention = routine_declares is_entry own r in
    let inner : List Mention = told.routine_inner r in
    let others : List Mention = flat_map (told.routine_mentions is_entry own) rs in
    let later : List Mention = map (routine_declares is_entry own) rs in
    let rsp : List Place = routine_spots r in
    let osp : List Place = flat_map routine_spots rs in
    let mean : Sees ((outer ++ d ∷ []) ++ (later ++ behind)) here.means = subst (λ l. Sees l here.means) (sym (append_assoc outer (d ∷ []) (later ++ behind))) means in
    let in_inner : Within inner (d ∷ (inner ++ others)) = λ m is. inr (mem-left m inner others is) in
    let in_others : Within others (d ∷ (inner ++ others)) = λ m is. inr (mem-right m inner others is) in
    of-routine r ms (outer ++ d ∷ []) (later ++ behind) here mean (rises-left rsp osp rises)
    (λ q is. subst (Under q) (sym (append_assoc outer (d ∷ []) (later ++ behind))) (under q (mem-left q rsp osp is)))
    (λ m is. within m (in_inner m is))
    (λ q is. let among = places-within inner (d ∷ (inner ++ others)) in_inner q is in
    seen q among
    ∙ ap (λ v. outer ++ (v ++ behind)) (is-seen d q (inner ++ others) (own-seen (told.routine_what is_entry r.kind) own r.name r.place q (reached q among))
    ∙ ap (λ l. d ∷ l) (view-append q inner others ∙ ap (λ v. view q inner ++ v) (view-before is_entry own q (reached q among) rs (λ y at.
    rises-apart rsp osp rises q y (part-mem (d.place ∷ places inner) rsp q (part-routine is_entry own r) (inr is)) at))))
    ∙ ap (λ l. outer ++ d ∷ l) (append_assoc (view q inner) later behind)
    ∙ sym (append_assoc outer (d ∷ []) (view q inner ++ (later ++ behind)))) _
    (of-routines is_entry own ms (outer ++ d ∷ []) behind here rs mean (rises-right rsp osp rises)
    (λ q is. subst (Under q) (sym (append_assoc outer (d ∷ []) (later ++ behind))) (under q (mem-right q rsp osp is)))
    (λ q is. reached q (places-within others (d ∷ (inner ++ others)) in_others q is))
    (λ m is. within m (in_others m is))
    (λ q is. let among = places-within others (d ∷ (inner ++ others)) in_others q is in
    seen q among
    ∙ ap (λ v. outer ++ (v ++ behind)) (is-seen d q (inner ++ others) (own-seen (told.routine_what is_entry r.kind) own r.name r.place q (reached q among))
    ∙ ap (λ l. d ∷ l) (view-append q inner others ∙ ap (λ v. v ++ view q others) (silent-behind q rsp inner (enclosed-routine r) (λ y at.
    rises-apart rsp osp rises y q at (part-mem (places others) osp q (part-flat (told.routine_mentions is_entry own) routine_spots (part-routine is_entry own) rs) is)))))
    ∙ sym (append_assoc outer (d ∷ []) (view q others ++ behind))) more rest)

-- ---- monitors

abbrev pub member_declares : Scope → Member Place → Mention
member_declares own (variable_member v) = var_declares own v
member_declares own (condition_member name place) = told.declares what_is.Condition own name place

view-members : (own : Scope) (q : Place) → Reached own q → (xs : List (Member Place)) → view q (flat_map (told.member_mentions own) xs) ≡ map (member_declares own) xs
view-members own q at [] = refl
view-members own q at (variable_member v ∷ xs) =
    is-seen (var_declares own v) q (told.kind_mentions v.kind ++ flat_map (told.member_mentions own) xs) (own-seen what_is.Variable own v.name v.place q at)
    ∙ ap (λ l. var_declares own v ∷ l) (view-append q (told.kind_mentions v.kind) (flat_map (told.member_mentions own) xs)
    ∙ ap (λ l. l ++ view q (flat_map (told.member_mentions own) xs)) (bare-view q (told.kind_mentions v.kind) (bare-kind v.kind)) ∙ view-members own q at xs)
view-members own q at (condition_member name place ∷ xs) =
    is-seen (told.declares what_is.Condition own name place) q (flat_map (told.member_mentions own) xs) (own-seen what_is.Condition own name place q at)
    ∙ ap (λ l. told.declares what_is.Condition own name place ∷ l) (view-members own q at xs)

ties-members : (own : Scope) (xs : List (Member Place)) → Ties (map (member_declares own) xs) (map rule.member_name xs)
ties-members own [] = tt
ties-members own (variable_member v ∷ xs) = (refl, refl, ties-members own xs)
ties-members own (condition_member name place ∷ xs) = (refl, refl, ties-members own xs)

member-declaring : (own : Scope) (x : Member Place) → Declaring (member_declares own x)
member-declaring own (variable_member v) = (_, refl)
member-declaring own (condition_member name place) = (_, refl)

mem-members : (own : Scope) (m : Mention) (xs : List (Member Place)) → Mem m (map (member_declares own) xs) → Mem m (flat_map (told.member_mentions own) xs)
mem-members own m [] is = absurd is
mem-members own m (variable_member v ∷ xs) (inl e) = inl e
mem-members own m (variable_member v ∷ xs) (inr is) = inr (mem-right m (told.kind_mentions v.kind) _ (mem-members own m xs is))
mem-members own m (condition_member name place ∷ xs) (inl e) = inl e
mem-members own m (condition_member name place ∷ xs) (inr is) = inr (mem-members own m xs is)

part-own-members : (own : Scope) (xs : List (Member Place)) → Part (places (map (member_declares own) xs)) (flat_map member_spots xs)
part-own-members own [] = tt
part-own-members own (variable_member v ∷ xs) = inl (refl, part-behind (places (told.kind_mentions v.kind)) (places (map (member_declares own) xs)) (flat_map member_spots xs) (part-own-members own xs))
part-own-members own (condition_member name place ∷ xs) = inl (refl, part-own-members own xs)

begin-member : (own : Scope) (x : Member Place) → begins (member_declares own x) ≡ own.begin
begin-member own (variable_member v) = refl
begin-member own (condition_member name place) = refl

of-members : (ms reach : List Mention) (own : Scope) (here : Site) → Sees reach here.means → (xs : List (Member Place)) → Sited ms reach (flat_map (told.member_mentions own) xs) → Keeps ms (rule.members_names here xs)
of-members ms reach own here means [] at more rest = rest
of-members ms reach own here means (variable_member v ∷ xs) at more rest =
    let kinds : List Mention = told.kind_mentions v.kind in
    let others : List Mention = flat_map (told.member_mentions own) xs in
    of-kind ms reach here means v.kind (λ m is. at m (inr (mem-left m kinds others is))) _ (of-members ms reach own here means xs (λ m is. at m (inr (mem-right m kinds others is))) more rest)
of-members ms reach own here means (condition_member name place ∷ xs) at more rest = of-members ms reach own here means xs (λ m is. at m (inr is)) more rest

enclosed-members : (ps : List Place) (own : Scope) → Mem own.begin ps → Mem own.end ps → (xs : List (Member Place)) → Enclosed ps (flat_map (told.member_mentions own) xs)
enclosed-members ps own begin end [] = tt
enclosed-members ps own begin end (variable_member v ∷ xs) = (
  λ r e. (subst (λ o. Mem (from_of o) ps) e begin, subst (λ o. Mem (end_of o) ps) e end),
  enclosed-append ps (told.kind_mentions v.kind) _ (bare-enclosed ps (told.kind_mentions v.kind) (bare-kind v.kind)) (enclosed-members ps own begin end xs),
)
enclosed-members ps own begin end (condition_member name place ∷ xs) =
    (λ r e. (subst (λ o. Mem (from_of o) ps) e begin, subst (λ o. Mem (end_of o) ps) e end), enclosed-members ps own begin end xs)

module _ (m : Monitor Place) where
  abbrev own_monitor : Scope
  own_monitor = told.scope_from m.place m.close_place

  abbrev the_members : List Mention
  the_members = flat_map (told.member_mentions own_monitor) m.members

  abbrev the_entries : List Mention
  the_entries = flat_map (told.routine_mentions true own_monitor) m.entries

  abbrev monitor_close : List Mention
  monitor_close = told.closes m.close m.close_place m.place ∷ []

  abbrev pub monitor_inner : List Mention
  monitor_inner = the_members ++ (the_entries ++ monitor_close)

  abbrev own_members : List Mention
  own_members = map (member_declares own_monitor) m.members

  abbrev own_entries : List Mention
  own_entries = map (routine_declares true own_monitor) m.entries

  in-monitor : Rising (monitor_spots m) → (q : Place) → Mem q (places monitor_inner) → Reached own_monitor q
  in-monitor rises q is =
      let ordered : Rising (m.place ∷ places monitor_inner) = part-rises (m.place ∷ places monitor_inner) (monitor_spots m) (part-monitor own_monitor m) rises in
      let ends : last_place m.place monitor_inner ≡ m.close_place = last-over m.place the_members (the_entries ++ monitor_close) m.close_place (λ a. last-over a the_entries monitor_close m.close_place (λ b. refl)) in
      (ordered.0 q is, subst (λ c. before c q ≡ false) ends (last-not m.place monitor_inner ordered q (inr is)))

  view-monitor : (q : Place) → Reached own_monitor q → view q monitor_inner ≡ own_members ++ view q the_entries
  view-monitor q at =
      view-append q the_members (the_entries ++ monitor_close) ∙ ap (λ v. v ++ view q (the_entries ++ monitor_close)) (view-members own_monitor q at m.members)
      ∙ ap (λ v. own_members ++ v) (view-append q the_entries monitor_close ∙ ap (λ v. view q the_entries ++ v) (bare-view q monitor_close (refl, tt)) ∙ append-nil (view q the_entries))

  pub enclosed-monitor : Enclosed (monitor_spots m) monitor_inner
  enclosed-monitor =
      let at_end : Mem m.close_place (monitor_spots m) = inr (mem-right m.close_place (flat_map member_spots m.members) _ (mem-right m.close_place (flat_map routine_spots m.entries) _ (inl refl))) in
      enclosed-append (monitor_spots m) the_members _ (enclosed-members (monitor_spots m) own_monitor (inl refl) at_end m.members)
      (enclosed-append (monitor_spots m) the_entries monitor_close
      (enclosed-routines (monitor_spots m) true own_monitor (inl refl) at_end m.entries (λ y on. inr (mem-right y (flat_map member_spots m.members) _ (mem-left y (flat_map routine_spots m.entries) _ on))))
      (bare-enclosed (monitor_spots m) monitor_close (refl, tt)))

module _ (m : Monitor Place) (ms outer behind : List Mention) (here : Site) (means : Sees (outer ++ behind) here.means) (rises : Rising (monitor_spots m)) (under : UnderAll (outer ++ behind) (monitor_spots m))
    (within : Within (monitor_inner m) ms) (seen : Seen ms outer behind (monitor_inner m)) where
  abbrev site_monitor : Site
  site_monitor = inside_monitor m.place (rule.monitor_scope m) here

  abbrev mps : List Place
  mps = flat_map member_spots m.members

  abbrev eps : List Place
  eps = flat_map routine_spots m.entries

  monitor-begin : Begin m.place (own_members m ++ own_entries m)
  monitor-begin = begin-append m.place (own_members m) (own_entries m) (begin-map m.place (member_declares (own_monitor m)) (begin-member (own_monitor m)) m.members) (begin-map m.place (routine_declares true (own_monitor m)) (λ r. refl) m.entries)

  monitor-mean : Sees (outer ++ ((own_members m ++ own_entries m) ++ behind)) site_monitor.means
  monitor-mean = sees-within m.place outer (own_members m ++ own_entries m) behind (rule.monitor_scope m) here.means (under-left m.place outer behind (under m.place (inl refl))) (under-right m.place outer behind (under m.place (inl refl)))
      monitor-begin (ties-append (own_members m) (own_entries m) (map rule.member_name m.members) (map rule.entry_name m.entries) (ties-members (own_monitor m) m.members) (ties-entries (own_monitor m) m.entries)) means

  two-joined : outer ++ ((own_members m ++ own_entries m) ++ behind) ≡ (outer ++ own_members m) ++ (own_entries m ++ behind)
  two-joined = ap (λ l. outer ++ l) (append_assoc (own_members m) (own_entries m) behind) ∙ sym (append_assoc outer (own_members m) (own_entries m ++ behind))

  in-members : Within (the_members m) (monitor_inner m)
  in-members x is = mem-left x (the_members m) _ is

  in-entries : Within (the_entries m) (monitor_inner m)
  in-entries x is = mem-right x (the_members m) _ (mem-left x (the_entries m) (monitor_close m) is)

  at-members : Sited ms (outer ++ ((own_members m ++ own_entries m) ++ behind)) (the_members m)
  at-members x is =
      let among : Mem x.place (places (monitor_inner m)) = mem-place x (monitor_inner m) (in-members x is) in (
        within x (in-members x is),
        seen x.place among ∙ ap (λ v. outer ++ (v ++ behind)) (view-monitor m x.place (in-monitor m rises x.place among)
            ∙ ap (λ v. own_members m ++ v) (view-before true (own_monitor m) x.place (in-monitor m rises x.place among) m.entries (λ y at. rises-apart mps (eps ++ m.close_place ∷ []) rises.1 x.place y
            (part-mem (places (the_members m)) mps x.place (part-flat (told.member_mentions (own_monitor m)) member_spots (part-member (own_monitor m)) m.members) (mem-place x (the_members m) is)) (mem-left y eps _ at)))),
      )

  entries-seen : Seen ms (outer ++ own_members m) behind (the_entries m)
  entries-seen q is =
      let among = places-within (the_entries m) (monitor_inner m) in-entries q is in
      seen q among ∙ ap (λ v. outer ++ (v ++ behind)) (view-monitor m q (in-monitor m rises q among)) ∙ ap (λ l. outer ++ l) (append_assoc (own_members m) (view q (the_entries m)) behind) ∙ sym (append_assoc outer (own_members m) (view q (the_entries m) ++ behind))

  entries-rise : Rising eps
  entries-rise = rises-left eps (m.close_place ∷ []) (rises-right mps (eps ++ m.close_place ∷ []) rises.1)

  own-rises : Rising (places (own_members m ++ own_entries m))
  own-rises = part-rises (places (own_members m ++ own_entries m)) (mps ++ (eps ++ m.close_place ∷ [])) (part-joined (own_members m) (own_entries m) mps (eps ++ m.close_place ∷ []) (part-own-members (own_monitor m) m.members)
      (part-front (places (own_entries m)) eps (m.close_place ∷ []) (part-heads true (own_monitor m) m.entries))) rises.1

  own-at : (x : Mention) → Mem x (own_members m ++ own_entries m) → OwnAt ms (outer ++ ((own_members m ++ own_entries m) ++ behind)) x
  own-at x is = by (mem-split x (own_members m) (own_entries m) is)
    where
      by : Mem x (own_members m) ⊎ Mem x (own_entries m) → OwnAt ms (outer ++ ((own_members m ++ own_entries m) ++ behind)) x
      by (inl on) = let y = at-members x (mem-members (own_monitor m) x m.members on) in (y.0, declaring-map (member_declares (own_monitor m)) (member-declaring (own_monitor m)) m.members x on, y.1)
      by (inr on) =
          let among : Mem x (the_entries m) = mem-heads true (own_monitor m) x m.entries on in
          let at : Mem x.place (places (the_entries m)) = mem-place x (the_entries m) among in (
            within x (in-entries x among),
            declaring-map (routine_declares true (own_monitor m)) (λ r. (_, refl)) m.entries x on,
            entries-seen x.place at ∙ ap (λ v. (outer ++ own_members m) ++ (v ++ behind)) (view-heads true (own_monitor m) m.entries entries-rise x on (in-monitor m rises x.place (places-within (the_entries m) (monitor_inner m) in-entries x.place at)))
                ∙ sym two-joined,
          )

  pub of-monitor : Keeps ms (rule.monitor_names here m)
  of-monitor more rest =
      of-declarations ms outer (own_members m ++ own_entries m) behind m.place here.means means (under-left m.place outer behind (under m.place (inl refl))) (under-right m.place outer behind (under m.place (inl refl))) monitor-begin own-rises own-at
      [] (own_members m ++ own_entries m) [] (rule.monitor_scope m) refl tt
      (ties-append (own_members m) (own_entries m) (map rule.member_name m.members) (map rule.entry_name m.entries) (ties-members (own_monitor m) m.members) (ties-entries (own_monitor m) m.entries)) _
      (of-members ms (outer ++ ((own_members m ++ own_entries m) ++ behind)) (own_monitor m) site_monitor monitor-mean m.members at-members _
      (of-routines true (own_monitor m) ms (outer ++ own_members m) behind site_monitor m.entries (subst (λ l. Sees l site_monitor.means) two-joined monitor-mean)
      (rises-left eps (m.close_place ∷ []) (rises-right mps (eps ++ m.close_place ∷ []) rises.1))
      (λ q is. let on = mem-right q mps (eps ++ m.close_place ∷ []) (mem-left q eps (m.close_place ∷ []) is) in let all = under q (inr on) in
      subst (Under q) two-joined (under-append q outer ((own_members m ++ own_entries m) ++ behind) (under-left q outer behind all)
      (under-append q (own_members m ++ own_entries m) behind (begin-under m.place q (own_members m ++ own_entries m) monitor-begin (rises.0 q on)) (under-right q outer behind all))))
      (λ q is. in-monitor m rises q (places-within (the_entries m) (monitor_inner m) in-entries q is))
      (λ x is. within x (in-entries x is))
      (λ q is. let among = places-within (the_entries m) (monitor_inner m) in-entries q is in
      seen q among ∙ ap (λ v. outer ++ (v ++ behind)) (view-monitor m q (in-monitor m rises q among)) ∙ ap (λ l. outer ++ l) (append_assoc (own_members m) (view q (the_entries m)) behind) ∙ sym (append_assoc outer (own_members m) (view q (the_entries m) ++ behind))) _
      (tt, rest)))
