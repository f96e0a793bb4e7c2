-- What names mean in a program: its declarations reach everywhere, its constants behind their values.
use Rattle.std.proofs.Common.{◌≡◌, ℕ, zero, suc, Bool, false, cond, not, List, [], ◌∷◌, ◌++◌, Option, Some, None, is_some, ◌⊎◌, inl, inr, refl, ap, sym, ◌∙◌, subst, append_assoc, append-nil, arith}
use Rattle.std.specs.Prelude.{◌&&◌, ◌||◌, filter, flat_map}
use Rattle.std.specs.Option.{option_map_or}
use Rattle.std.proofs.lemmas.Bool.{and_from, and_left, and_right, or_from, not_from_true, not_from_false}
use Rattle.syntax_tree.specs.Plain.{Name}
use Rattle.syntax_tree.specs.Placed.{Constant, Decl, constant, device, event, routine, monitor, process, Prog}
use Rattle.syntax_tree.specs.Parts.{same_place}
use Rattle.syntax_tree.specs.declared.place.Place.{Place}
use Rattle.syntax.specs.Lex.{TokensStandInOrder}
use Rattle.static_names.specs.Reach as site
use Rattle.static_names.specs.Reach.{Names, Site, first, or_else}
use Rattle.static_names.specs.Occurrences as rule
use Rattle.message_names.specs.declared.role.Reach.{Reach}
use Rattle.message_names.specs.declared.role.Role.TheVariants as role_is
use Rattle.message_names.specs.declared.role.Scope.{Scope}
use Rattle.message_names.specs.declared.role.What.TheVariants as what_is
use Rattle.message_names.specs.declared.sight.Sight.TheVariants as sight_is
use Rattle.message_names.specs.Laws.{TellsOfDeclarations, TellsOfUses}
use Rattle.message_names.specs.Mentions as told
use Rattle.message_names.specs.Mentions.{Mention, before_all, value_place}
use Rattle.message_names.specs.Reach.{before, declared, innermost, reaches, sees, sight_behind}
use Rattle.message_names.proofs.Bodies.{UnderAll, only}
use Rattle.message_names.proofs.Closing.{Each, Within, each, rising}
use Rattle.syntax.proofs.Places.{Lower}
use Rattle.message_names.proofs.Order.{Ahead, Mem, Rising, ahead-from, ahead-to, not-ahead, not-itself}
use Rattle.message_names.proofs.Others.{counted, counts, first-not, kept-append, others-view, some-seen, taken-as}
use Rattle.message_names.proofs.Parts.{Part, part-behind, mem-left, mem-right, mem-place, part-mem, part-rises, part-flat, part-value, part-decl, part-program, found-there}
use Rattle.message_names.proofs.Processes.{process_inner, enclosed-process, of-process}
use Rattle.message_names.proofs.Standing.{itself}
use Rattle.message_names.proofs.Routines.{Declaring, Reached, own-seen, begin-append, begin-under, places-within, enclosed-routine, of-routine}
use Rattle.message_names.proofs.Sections.{routine_declares, monitor_inner, enclosed-monitor, of-monitor}
use Rattle.message_names.proofs.Spots.{places, decl_spots, spots}
use Rattle.message_names.proofs.Uses.{Meant, Keeps, of-constant, bare-constant, Seen, sited-bare}
use Rattle.message_names.proofs.Views.{mem-split, pick, picked, silent-at, rises-left, rises-right, rises-apart, view, view-append, is-seen, not-seen, bare-view, Enclosed, bare-enclosed, silent-before, silent-behind, begins, named, placed, enters, Under, Begin, Sees, Ties, ties-append, ties-first}

-- the program's scope, up to its closing name
abbrev whole : Place → Scope
whole close = told.scope_from before_all close

abbrev declares : Place → Decl Place → Mention
declares close (constant name place c) = told.constant_declares (whole close) name place (value_place c)
declares close (device name place is_out) = told.declares what_is.Device (whole close) name place
declares close (event name place) = told.declares what_is.Event (whole close) name place
declares close (routine r) = routine_declares false (whole close) r
declares close (monitor m) = told.declares what_is.Monitor (whole close) m.name m.place
declares close (process p) = told.declares what_is.Process (whole close) p.name p.place

abbrev inner : Decl Place → List Mention
inner (constant name place c) = told.constant_mentions c
inner (device name place is_out) = []
inner (event name place) = []
inner (routine r) = told.routine_inner r
inner (monitor m) = monitor_inner m
inner (process p) = process_inner p

split : (close : Place) (d : Decl Place) → told.decl_mentions (whole close) d ≡ declares close d ∷ inner d
split close (constant name place c) = refl
split close (device name place is_out) = refl
split close (event name place) = refl
split close (routine r) = refl
split close (monitor m) = refl
split close (process p) = refl

-- what of a declaration reaches in it, and before it
abbrev own : Place → Decl Place → List Mention
own close (constant name place c) = []
own close (device name place is_out) = declares close (device name place is_out) ∷ []
own close (event name place) = declares close (event name place) ∷ []
own close (routine r) = declares close (routine r) ∷ []
own close (monitor m) = declares close (monitor m) ∷ []
own close (process p) = declares close (process p) ∷ []

abbrev others : Place → List (Decl Place) → List Mention
others close ds = flat_map (own close) ds

ties-one : (close : Place) (d : Decl Place) → Ties (declares close d ∷ []) (rule.decl_name d ∷ [])
ties-one close (constant name place c) = (refl, refl, tt)
ties-one close (device name place is_out) = (refl, refl, tt)
ties-one close (event name place) = (refl, refl, tt)
ties-one close (routine r) = (refl, refl, tt)
ties-one close (monitor m) = (refl, refl, tt)
ties-one close (process p) = (refl, refl, tt)

ties-others : (close : Place) (ds : List (Decl Place)) → Ties (others close ds) (rule.others ds)
ties-others close [] = tt
ties-others close (constant name place c ∷ ds) = ties-others close ds
ties-others close (device name place is_out ∷ ds) = (refl, refl, ties-others close ds)
ties-others close (event name place ∷ ds) = (refl, refl, ties-others close ds)
ties-others close (routine r ∷ ds) = (refl, refl, ties-others close ds)
ties-others close (monitor m ∷ ds) = (refl, refl, ties-others close ds)
ties-others close (process p ∷ ds) = (refl, refl, ties-others close ds)

begin-declares : (close : Place) (d : Decl Place) → begins (declares close d) ≡ before_all
begin-declares close (constant name place c) = refl
begin-declares close (device name place is_out) = refl
begin-declares close (event name place) = refl
begin-declares close (routine r) = refl
begin-declares close (monitor m) = refl
begin-declares close (process p) = refl

begin-own : (close : Place) (d : Decl Place) → Begin before_all (own close d)
begin-own close (constant name place c) m is = absurd is
begin-own close (device name place is_out) m is = only (declares close (device name place is_out)) before_all refl m is
begin-own close (event name place) m is = only (declares close (event name place)) before_all refl m is
begin-own close (routine r) m is = only (declares close (routine r)) before_all refl m is
begin-own close (monitor x) m is = only (declares close (monitor x)) before_all refl m is
begin-own close (process p) m is = only (declares close (process p)) before_all refl m is

begin-others : (close : Place) (ds : List (Decl Place)) → Begin before_all (others close ds)
begin-others close [] m is = absurd is
begin-others close (d ∷ ds) m is = begin-append before_all (own close d) (others close ds) (begin-own close d) (begin-others close ds) m is

enclosed-decl : (d : Decl Place) → Enclosed (decl_spots d) (inner d)
enclosed-decl (constant name place c) = bare-enclosed (decl_spots (constant name place c)) (told.constant_mentions c) (bare-constant c)
enclosed-decl (device name place is_out) = tt
enclosed-decl (event name place) = tt
enclosed-decl (routine r) = enclosed-routine r
enclosed-decl (monitor m) = enclosed-monitor m
enclosed-decl (process p) = enclosed-process p

-- ---- what of a declaration reaches a place before it, in it, and behind it

constant-unseen : (close : Place) (name : Name) (place : Place) (c : Constant Place) (q : Place) → before (value_place c) q ≡ false → sees sight_is.Around q (declares close (constant name place c)) ≡ false
constant-unseen close name place c q h = and_left (before (value_place c) q) (not (before close q)) h

view-one : (close : Place) (d : Decl Place) (q : Place) (l : List Mention) → Reached (whole close) q → ((y : Place) → Mem y (decl_spots d) → Ahead q y) → view q (declares close d ∷ l) ≡ own close d ++ view q l
view-one close (constant name place c) q l at h = not-seen (declares close (constant name place c)) q l (constant-unseen close name place c q (not-ahead q (value_place c) (h (value_place c) (inr (inl refl)))))
view-one close (device name place is_out) q l at h = is-seen (declares close (device name place is_out)) q l (own-seen what_is.Device (whole close) name place q at)
view-one close (event name place) q l at h = is-seen (declares close (event name place)) q l (own-seen what_is.Event (whole close) name place q at)
view-one close (routine r) q l at h = is-seen (declares close (routine r)) q l (own-seen (told.routine_what false r.kind) (whole close) r.name r.place q at)
view-one close (monitor m) q l at h = is-seen (declares close (monitor m)) q l (own-seen what_is.Monitor (whole close) m.name m.place q at)
view-one close (process p) q l at h = is-seen (declares close (process p)) q l (own-seen what_is.Process (whole close) p.name p.place q at)

view-in : (close : Place) (d : Decl Place) (q : Place) (l : List Mention) → Reached (whole close) q → Mem q (places (inner d)) → view q (declares close d ∷ l) ≡ own close d ++ view q l
view-in close (constant name place c) q l at is = by (part-mem (places (told.constant_mentions c)) (value_place c ∷ []) q (part-value c) is)
  where
    by : Mem q (value_place c ∷ []) → view q (declares close (constant name place c) ∷ l) ≡ view q l
    by (inl e) = not-seen (declares close (constant name place c)) q l (constant-unseen close name place c q (ap (before (value_place c)) (sym e) ∙ not-itself (value_place c)))
    by (inr h) = absurd h
view-in close (device name place is_out) q l at is = absurd is
view-in close (event name place) q l at is = absurd is
view-in close (routine r) q l at is = is-seen (declares close (routine r)) q l (own-seen (told.routine_what false r.kind) (whole close) r.name r.place q at)
view-in close (monitor m) q l at is = is-seen (declares close (monitor m)) q l (own-seen what_is.Monitor (whole close) m.name m.place q at)
view-in close (process p) q l at is = is-seen (declares close (process p)) q l (own-seen what_is.Process (whole close) p.name p.place q at)

view-past : (close : Place) (d : Decl Place) (q : Place) (l : List Mention) → Reached (whole close) q → ((y : Place) → Mem y (decl_spots d) → Ahead y q) → view q (declares close d ∷ l) ≡ declares close d ∷ view q l
view-past close (constant name place c) q l at h = is-seen (declares close (constant name place c)) q l (and_from (before (value_place c) q) (not (before close q)) (h (value_place c) (inr (inl refl))) (not_from_false (before close q) at.1))
view-past close (device name place is_out) q l at h = is-seen (declares close (device name place is_out)) q l (own-seen what_is.Device (whole close) name place q at)
view-past close (event name place) q l at h = is-seen (declares close (event name place)) q l (own-seen what_is.Event (whole close) name place q at)
view-past close (routine r) q l at h = is-seen (declares close (routine r)) q l (own-seen (told.routine_what false r.kind) (whole close) r.name r.place q at)
view-past close (monitor m) q l at h = is-seen (declares close (monitor m)) q l (own-seen what_is.Monitor (whole close) m.name m.place q at)
view-past close (process p) q l at h = is-seen (declares close (process p)) q l (own-seen what_is.Process (whole close) p.name p.place q at)

view-others : (close : Place) (q : Place) → Reached (whole close) q → (ds : List (Decl Place)) → ((y : Place) → Mem y (flat_map decl_spots ds) → Ahead q y) → view q (flat_map (told.decl_mentions (whole close)) ds) ≡ others close ds
view-others close q at [] h = refl
view-others close q at (d ∷ ds) h =
    let rest : List Mention = flat_map (told.decl_mentions (whole close)) ds in
    ap (λ l. view q (l ++ rest)) (split close d)
    ∙ view-one close d q (inner d ++ rest) at (λ y on. h y (mem-left y (decl_spots d) (flat_map decl_spots ds) on))
    ∙ ap (λ v. own close d ++ v) (view-append q (inner d) rest
    ∙ ap (λ v. v ++ view q rest) (silent-before q (decl_spots d) (inner d) (enclosed-decl d) (λ y on. h y (mem-left y (decl_spots d) (flat_map decl_spots ds) on)))
    ∙ view-others close q at ds (λ y on. h y (mem-right y (decl_spots d) (flat_map decl_spots ds) on)))

-- ---- where a declaration stands

declaring : (close : Place) (d : Decl Place) → Declaring (declares close d)
declaring close (constant name place c) = (_, refl)
declaring close (device name place is_out) = (_, refl)
declaring close (event name place) = (_, refl)
declaring close (routine r) = (_, refl)
declaring close (monitor m) = (_, refl)
declaring close (process p) = (_, refl)

headed : (close : Place) (d : Decl Place) → (rest : List Place) × (decl_spots d ≡ (declares close d).place ∷ rest)
headed close (constant name place c) = (_, refl)
headed close (device name place is_out) = (_, refl)
headed close (event name place) = (_, refl)
headed close (routine r) = (_, refl)
headed close (monitor m) = (_, refl)
headed close (process p) = (_, refl)

view-at : (close : Place) (d : Decl Place) (l : List Mention) → Rising (decl_spots d) → Reached (whole close) (declares close d).place → view (declares close d).place (declares close d ∷ l) ≡ own close d ++ view (declares close d).place l
view-at close (constant name place c) l rises at = not-seen (declares close (constant name place c)) place l (constant-unseen close name place c place (not-ahead place (value_place c) (rises.0 (value_place c) (inl refl))))
view-at close (device name place is_out) l rises at = is-seen (declares close (device name place is_out)) place l (own-seen what_is.Device (whole close) name place place at)
view-at close (event name place) l rises at = is-seen (declares close (event name place)) place l (own-seen what_is.Event (whole close) name place place at)
view-at close (routine r) l rises at = is-seen (declares close (routine r)) r.place l (own-seen (told.routine_what false r.kind) (whole close) r.name r.place r.place at)
view-at close (monitor m) l rises at = is-seen (declares close (monitor m)) m.place l (own-seen what_is.Monitor (whole close) m.name m.place m.place at)
view-at close (process p) l rises at = is-seen (declares close (process p)) p.place l (own-seen what_is.Process (whole close) p.name p.place p.place at)

part-others : (close : Place) (ds : List (Decl Place)) → Part (places (others close ds)) (flat_map decl_spots ds)
part-others close [] = tt
part-others close (constant name place c ∷ ds) = part-behind (place ∷ value_place c ∷ []) (places (others close ds)) (flat_map decl_spots ds) (part-others close ds)
part-others close (device name place is_out ∷ ds) = inl (refl, part-others close ds)
part-others close (event name place ∷ ds) = inl (refl, part-others close ds)
part-others close (routine r ∷ ds) = inl (refl, part-behind _ (places (others close ds)) (flat_map decl_spots ds) (part-others close ds))
part-others close (monitor m ∷ ds) = inl (refl, part-behind _ (places (others close ds)) (flat_map decl_spots ds) (part-others close ds))
part-others close (process p ∷ ds) = inl (refl, part-behind _ (places (others close ds)) (flat_map decl_spots ds) (part-others close ds))

-- of what is declared in the program's scope, nothing counts at a place before which it does not stand
dropped : (m : Mention) (p : Place) → begins m ≡ before_all → before m.place p ≡ false → sees (sight_is.Others before_all) p m ≡ false
dropped m p begin later = by (declared m.role) refl
  where
    by : (o : Option Reach) → declared m.role ≡ o → option_map_or (λ r. reaches r p && (not (same_place r.scope.begin before_all) || before m.place p)) o false ≡ false
    by None e = refl
    by (Some r) e = and_right (reaches r p) (not (same_place r.scope.begin before_all) || before m.place p) (or_from (not (same_place r.scope.begin before_all)) (before m.place p)
        (not_from_true (same_place r.scope.begin before_all) (ap (λ q. same_place q before_all) (ap (λ o. option_map_or (λ x. x.scope.begin) o before_all) (sym e) ∙ begin) ∙ itself before_all)) later)

none-before : (close p : Place) (ds : List (Decl Place)) → ((y : Place) → Mem y (flat_map decl_spots ds) → Ahead p y) → filter (sees (sight_is.Others before_all) p) (flat_map (told.decl_mentions (whole close)) ds) ≡ []
none-before close p [] h = refl
none-before close p (d ∷ ds) h =
    let t : Mention → Bool = sees (sight_is.Others before_all) p in
    let rest : List Mention = flat_map (told.decl_mentions (whole close)) ds in
    let one : Mention = declares close d in
    let hd = headed close d in
    ap (λ l. filter t (l ++ rest)) (split close d)
    ∙ ap (λ c. cond c (one ∷ filter t (inner d ++ rest)) (filter t (inner d ++ rest))) (dropped one p (begin-declares close d) (not-ahead p one.place (h one.place (mem-left one.place (decl_spots d) (flat_map decl_spots ds) (subst (Mem one.place) (sym hd.1) (inl refl))))))
    ∙ kept-append t (inner d) rest
    ∙ ap (λ v. v ++ filter t rest) (others-view before_all p (inner d) ∙ ap (filter (counts before_all p)) (silent-before p (decl_spots d) (inner d) (enclosed-decl d) (λ y on. h y (mem-left y (decl_spots d) (flat_map decl_spots ds) on))))
    ∙ none-before close p ds (λ y on. h y (mem-right y (decl_spots d) (flat_map decl_spots ds) on))

-- ---- the declarations, one after another

-- in one scope the first of a name is meant
sees-first : (b : Place) (ms : List Mention) (ds : Names) → Ties ms ds → Begin b ms → Sees ms (first ds)
sees-first b ms ds ties begin n = ap placed (enters n b None ms tt begin) ∙ by (named n ms) ∙ ties-first n ms ds ties
  where
    by : (x : Option Mention) → placed (or_else x None) ≡ placed x
    by None = refl
    by (Some m) = refl

of-inner : (ms outer behind : List Mention) (here : Site) → Sees (outer ++ behind) here.means → (d : Decl Place) → Rising (decl_spots d) → UnderAll (outer ++ behind) (decl_spots d) → Within (inner d) ms → Seen ms outer behind (inner d)
    → Keeps ms (rule.inner_names here d)
of-inner ms outer behind here means (constant name place c) rises under within seen more rest = of-constant ms (outer ++ behind) here means c (sited-bare ms outer behind (told.constant_mentions c) within seen (bare-constant c)) more rest
of-inner ms outer behind here means (device name place is_out) rises under within seen more rest = rest
of-inner ms outer behind here means (event name place) rises under within seen more rest = rest
of-inner ms outer behind here means (routine r) rises under within seen more rest = of-routine r ms outer behind here means rises under within seen more rest
of-inner ms outer behind here means (monitor m) rises under within seen more rest = of-monitor m ms outer behind here means rises under within seen more rest
of-inner ms outer behind here means (process p) rises under within seen more rest = of-process p ms outer behind here means rises under within seen more rest

ahead-split : (outer : List Mention) (one : Mention) (ps : List Place) → ((m : Mention) → Mem m outer → (q : Place) → Mem q ps → Ahead m.place q) → ((q : Place) → Mem q ps → Ahead one.place q)
    → (m : Mention) → Mem m (outer ++ one ∷ []) → (q : Place) → Mem q ps → Ahead m.place q
ahead-split outer one ps first next m is q on = by (mem-split m outer (one ∷ []) is)
  where
    by : Mem m outer ⊎ Mem m (one ∷ []) → Ahead m.place q
    by (inl at) = first m at q on
    by (inr (inl e)) = subst (λ x. Ahead x.place q) e (next q on)
    by (inr (inr h)) = absurd h

of-decls : (close : Place) (ms outer : List Mention) (members : Place → site.Reach) (earlier : Names) (ds : List (Decl Place)) → Ties outer earlier → Begin before_all outer → Rising (flat_map decl_spots ds)
    → ((q : Place) → Mem q (flat_map decl_spots ds) → Reached (whole close) q) → ((m : Mention) → Mem m outer → (q : Place) → Mem q (flat_map decl_spots ds) → Ahead m.place q)
    → Within (flat_map (told.decl_mentions (whole close)) ds) ms → Seen ms outer [] (flat_map (told.decl_mentions (whole close)) ds) → Keeps ms (rule.decls_names members earlier ds)
of-decls close ms outer members earlier [] ties begin rises reached ahead within seen more rest = rest
of-decls close ms outer members earlier (d ∷ ds) ties begin rises reached ahead within seen more rest =
    let here : Site = record { means = first (earlier ++ rule.others (d ∷ ds)); members = members } in
    let one : Mention = declares close d in
    let its : List Mention = own close d in
    let later : List Mention = others close ds in
    let names : List Mention = flat_map (told.decl_mentions (whole close)) ds in
    let all : List Mention = one ∷ (inner d ++ names) in
    let dsp : List Place = decl_spots d in
    let osp : List Place = flat_map decl_spots ds in
    let listed : Within all ms = subst (λ l. Within (l ++ names) ms) (split close d) within in
    let looked : Seen ms outer [] all = subst (λ l. Seen ms outer [] (l ++ names)) (split close d) seen in
    let in_inner : Within (inner d) all = λ m is. inr (mem-left m (inner d) names is) in
    let in_names : Within names all = λ m is. inr (mem-right m (inner d) names is) in
    let inner_part : (q : Place) → Mem q (places (inner d)) → Mem q dsp = λ q is. part-mem (places (told.decl_mentions (whole close) d)) dsp q (part-decl (whole close) d) (subst (λ l. Mem q (places l)) (sym (split close d)) (inr is)) in
    let names_part : (q : Place) → Mem q (places names) → Mem q osp = λ q is. part-mem (places names) osp q (part-flat (told.decl_mentions (whole close)) decl_spots (part-decl (whole close)) ds) is in
    let p : Place = one.place in
    let hd = headed close d in
    let at_one : Mem p dsp = subst (Mem p) (sym hd.1) (inl refl) in
    let firsts : (y : Place) → Mem y (dsp ++ osp) → before y p ≡ false = λ y on. first-not p (hd.0 ++ osp) (subst (λ l. Rising (l ++ osp)) hd.1 rises) y (subst (λ l. Mem y (l ++ osp)) hd.1 on) in
    let seen_one : view p ms ≡ outer ++ ((its ++ later) ++ []) =
    looked p (inl refl) ∙ ap (λ v. outer ++ (v ++ [])) (view-at close d (inner d ++ names) (rises-left dsp osp rises) (reached p (mem-left p dsp osp at_one))
    ∙ ap (λ v. its ++ v) (view-append p (inner d) names ∙ ap (λ v. v ++ view p names) (silent-at p dsp (inner d) (enclosed-decl d) (λ y on. firsts y (mem-left y dsp osp on)))
    ∙ view-others close p (reached p (mem-left p dsp osp at_one)) ds (λ y on. rises-apart dsp osp rises p y at_one on))) in
    let begin_all : Begin before_all (outer ++ (its ++ later)) = begin-append before_all outer (its ++ later) begin (begin-others close (d ∷ ds)) in
    let mean : Sees (outer ++ (its ++ later)) here.means = sees-first before_all (outer ++ (its ++ later)) (earlier ++ rule.others (d ∷ ds)) (ties-append outer (its ++ later) earlier (rule.others (d ∷ ds)) ties (ties-others close (d ∷ ds))) begin_all in (
      taken-as ms one (rule.decl_name d).0 (rule.decl_name d).1.place _ (ties-one close d).0 (ties-one close d).1 (listed one (inl refl)) (declaring close d)
          (ap (λ q. is_some (innermost (sight_is.Others q) one.name p ms)) (begin-declares close d)
          ∙ ap is_some (counted ms [] outer (its ++ later) [] before_all p one.name (seen_one ∙ sym (append_assoc outer (its ++ later) [])) (λ m is. absurd is) (λ m is. absurd is) (begin-others close (d ∷ ds))
          (λ m is. ahead m is p (mem-left p dsp osp at_one)) (λ m is. firsts m.place (part-mem (places (its ++ later)) (dsp ++ osp) m.place (part-others close (d ∷ ds)) (mem-place m (its ++ later) is))))
          ∙ some-seen (outer ++ []) (first earlier) (subst (λ l. Sees l (first earlier)) (sym (append-nil outer)) (sees-first before_all outer earlier ties begin)) one.name
          ∙ ap (λ n. is_some (first earlier n)) (ties-one close d).0),
      of-inner ms (outer ++ its) later here (subst (λ l. Sees l here.means) (sym (append_assoc outer its later)) mean) d (rises-left dsp osp rises)
          (λ q is. subst (Under q) (sym (append_assoc outer its later)) (begin-under before_all q (outer ++ (its ++ later)) begin_all (reached q (mem-left q dsp osp is)).0))
          (λ m is. listed m (in_inner m is))
          (λ q is. let on = inner_part q is in
          looked q (places-within (inner d) all in_inner q is)
          ∙ ap (λ v. outer ++ (v ++ [])) (view-in close d q (inner d ++ names) (reached q (mem-left q dsp osp on)) is
          ∙ ap (λ v. its ++ v) (view-append q (inner d) names ∙ ap (λ v. view q (inner d) ++ v) (view-others close q (reached q (mem-left q dsp osp on)) ds (λ y at. rises-apart dsp osp rises q y on at))))
          ∙ ap (λ v. outer ++ v) (append-nil (its ++ (view q (inner d) ++ later)))
          ∙ sym (append_assoc outer its (view q (inner d) ++ later))) _
          (of-decls close ms (outer ++ one ∷ []) members (earlier ++ rule.decl_name d ∷ []) ds (ties-append outer (one ∷ []) earlier (rule.decl_name d ∷ []) ties (ties-one close d))
          (begin-append before_all outer (one ∷ []) begin (only one before_all (begin-declares close d))) (rises-right dsp osp rises) (λ q is. reached q (mem-right q dsp osp is))
          (λ m is q on. ahead-split outer one osp (λ x in_outer y at. ahead x in_outer y (mem-right y dsp osp at)) (λ y at. rises-apart dsp osp rises p y at_one at) m is q on) (λ m is. listed m (in_names m is))
          (λ q is. let on = names_part q is in
          looked q (places-within names all in_names q is)
          ∙ ap (λ v. outer ++ (v ++ [])) (view-past close d q (inner d ++ names) (reached q (mem-right q dsp osp on)) (λ y at. rises-apart dsp osp rises y q at on)
          ∙ ap (λ l. one ∷ l) (view-append q (inner d) names ∙ ap (λ v. v ++ view q names) (silent-behind q dsp (inner d) (enclosed-decl d) (λ y at. rises-apart dsp osp rises y q at on))))
          ∙ sym (append_assoc outer (one ∷ []) (view q names ++ []))) more rest),
    )

-- ---- the program

-- a place with another before it is behind the place before all
above-all : (p q : Place) → Ahead p q → Ahead before_all q
above-all p q h = ahead-from before_all q (by q.line q.col (ahead-to p q h))
  where
    by : (l c : ℕ) → Lower p.line l p.col c → Lower 0 l 0 c
    by zero c (inl g) = absurd (omega (arith, g))
    by zero c (inr g) = let x = g.1 in inr (refl, omega arith)
    by (suc l) c g = inl (omega arith)

only-place : (i m : Mention) → Mem m (i ∷ []) → i.place ≡ m.place
only-place i m (inl e) = ap (λ x. x.place) e
only-place i m (inr h) = absurd h

of-program : (g : Prog Place) → Rising (spots g) → Each (Meant (told.mentions g)) (rule.names g)
of-program g rises =
    let decls : List Mention = flat_map (told.decl_mentions (whole g.close_place)) g.decls in
    let end : List Mention = told.closes g.close g.close_place g.place ∷ [] in
    let name : Mention = told.declares what_is.Program (whole g.close_place) g.name g.place in
    let dsp : List Place = flat_map decl_spots g.decls in
    let reached : (q : Place) → Mem q dsp → Reached (whole g.close_place) q = λ q is.
    (above-all g.place q (rises.0 q (mem-left q dsp (g.close_place ∷ []) is)), not-ahead q g.close_place (rises-apart dsp (g.close_place ∷ []) rises.1 q g.close_place is (inl refl))) in
    let on : (q : Place) → Mem q (places decls) → Mem q dsp = λ q is. part-mem (places decls) dsp q (part-flat (told.decl_mentions (whole g.close_place)) decl_spots (part-decl (whole g.close_place)) g.decls) is in (
      taken-as (told.mentions g) name g.name g.place false refl refl (inl refl) (_, refl) (ap is_some (picked g.name (sees (sight_is.Others before_all) g.place) None (told.mentions g)
          ∙ ap (pick g.name None) (ap (λ c. cond c (name ∷ filter (sees (sight_is.Others before_all) g.place) (decls ++ end)) (filter (sees (sight_is.Others before_all) g.place) (decls ++ end))) (dropped name g.place refl (not-itself g.place))
          ∙ kept-append (sees (sight_is.Others before_all) g.place) decls end
          ∙ ap (λ v. v ++ filter (sees (sight_is.Others before_all) g.place) end) (none-before g.close_place g.place g.decls (λ y at. rises.0 y (mem-left y dsp (g.close_place ∷ []) at)))))),
      of-decls g.close_place (told.mentions g) (name ∷ []) (λ place. first (rule.entries_at g.decls place)) (rule.program_name g ∷ []) g.decls (refl, refl, tt) (only name before_all refl)
          (rises-left dsp (g.close_place ∷ []) rises.1) reached (λ m is q at. subst (λ x. Ahead x q) (only-place name m is) (rises.0 q (mem-left q dsp (g.close_place ∷ []) at))) (λ m is. inr (mem-left m decls end is))
          (λ q is. is-seen name q (decls ++ end) (own-seen what_is.Program (whole g.close_place) g.name g.place q (reached q (on q is)))
          ∙ ap (λ l. name ∷ l) (view-append q decls end ∙ ap (λ v. view q decls ++ v) (bare-view q end (refl, tt)))) _ (tt, tt),
    )

pub tells-of-uses : TokensStandInOrder → TellsOfUses
tells-of-uses order g read name place want means at alone =
    let ms : List Mention = told.mentions g in
    let rises : Rising (spots g) = rising order g read in
    let x = each (Meant ms) (rule.names g) (rule.used name place want means) (of-program g rises) at alone in
    record {
      wanted = x.wanted;
      stands = found-there (told.uses x.wanted name place) ms (part-rises (places ms) (spots g) (part-program g) rises) x.listed;
      meant = ap (λ o. placed (innermost (sight_behind ms None o) name place ms)) x.alone ∙ x.meant;
    }

pub tells-of-declarations : TokensStandInOrder → TellsOfDeclarations
tells-of-declarations order g read name place taken at =
    let ms : List Mention = told.mentions g in
    let rises : Rising (spots g) = rising order g read in
    let x = each (Meant ms) (rule.names g) (rule.declares name place taken) (of-program g rises) at in
    record {
      reach = x.reach;
      stands = found-there (told.mention name place (role_is.Declares x.reach)) ms (part-rises (places ms) (spots g) (part-program g) rises) x.listed;
      other = x.other;
    }
